use Rattle.bridge_run.proofs.Loads.{passed, any_more}
use Rattle.bridge_run.proofs.tally.count_in.Goals as goal

pub loop-row-preserved : goal.loop-row-preserved
loop-row-preserved c =
    let i = c.loop-row.invariant in
    let within = c.loop-row-test.true in
    record {
      rows = passed _ c.args.rows.now c.loop-row.rows c.loop-row.row-index _ _ within i.rows c.count_at-is_found.ensures.row;
      found = any_more _ _ c.args.rows.now c.loop-row.rows c.loop-row.row-index _ c.loop-row.is_found c.count_at-is_found.result within i.rows i.found c.count_at-is_found.ensures.same;
      room = i.room;
    }

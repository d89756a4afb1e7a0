use Rattle.indexmap.specs.IndexMap.{keys}
use Rattle.run_audit.proofs.Frames.{entry_on}
use Rattle.run_audit.proofs.named.eras_named.Goals as goal

pub loop-entry-preserved : goal.loop-entry-preserved
loop-entry-preserved c = record {
  named = entry_on (keys c.loop-entry.eras) (keys c.name_all.new.eras) c.args.entries.now c.loop-entry.entry-index c.entry-item.result _ c.loop-entry-test.true c.entry-item.is c.in_ok-name_all.ensures.named c.loop-entry.invariant.named;
  fresh = c.in_ok-name_all.ensures.fresh c.loop-entry.invariant.fresh;
}

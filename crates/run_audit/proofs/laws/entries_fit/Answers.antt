use Rattle.run_audit.proofs.Ranges.{entries_fit}
use Rattle.run_audit.proofs.laws.entries_fit.Goals as goal

pub returns : goal.returns
returns c =
    entries_fit (record {
      counted = c.items_are_counted.ensures;
      outgoing = c.items_go_out.ensures;
      made = c.lawful_calls_are_made.ensures;
      lives = c.lives_are_last.ensures;
      emitted = c.calls_are_emitted.ensures;
      near = c.acked_grows_near.ensures;
    })

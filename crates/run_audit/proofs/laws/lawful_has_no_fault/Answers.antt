use Rattle.run_audit.proofs.LawfulTraces.{no_fault}
use Rattle.run_audit.proofs.laws.lawful_has_no_fault.Goals as goal

pub returns : goal.returns
returns c =
    no_fault (record {
      counted = c.items_are_counted.ensures;
      certain = c.items_are_certain.ensures;
      emitted = c.lawful_is_emitted.ensures;
      faultless = c.emitted_has_no_fault.ensures;
      resets = c.resets_are_last.ensures;
    })

use Rattle.run_audit.proofs.LawfulTraces.{is_yes}
use Rattle.run_audit.proofs.laws.lawful_is_yes.Goals as goal

pub returns : goal.returns
returns c = is_yes c.lawful_has_no_fault.ensures

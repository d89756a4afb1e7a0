use Rattle.run_audit.proofs.Ledgers.{read_from_base}
use Rattle.run_audit.proofs.laws.eras_are_read_from_the_base.Goals as goal

pub returns : goal.returns
returns c = read_from_base

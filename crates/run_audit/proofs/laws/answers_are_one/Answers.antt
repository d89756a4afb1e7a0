use Rattle.run_audit.proofs.OneAnswer.{answers_are_one}
use Rattle.run_audit.proofs.laws.answers_are_one.Goals as goal

pub returns : goal.returns
returns c = answers_are_one

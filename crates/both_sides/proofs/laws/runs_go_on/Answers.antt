use Rattle.std.proofs.Common.{refl}
use Rattle.both_sides.proofs.Runs.{begun, goes_on}
use Rattle.both_sides.proofs.laws.runs_go_on.Goals as goal

pub returns-clause-begin : goal.returns-clause-begin
returns-clause-begin c = λ settings link. begun settings link settings.both refl

pub returns-clause-next : goal.returns-clause-next
returns-clause-next c = goes_on

use Rattle.emit_mtu.proofs.Segments.{are_few, none_is_long, nothing_long_goes_out}
use Rattle.emit_mtu.proofs.laws.segments_fit.Goals as goal

pub returns-clause-fit : goal.returns-clause-fit
returns-clause-fit c = none_is_long

pub returns-clause-few : goal.returns-clause-few
returns-clause-few c = are_few

pub returns-clause-all : goal.returns-clause-all
returns-clause-all c = nothing_long_goes_out

use Rattle.norm_engine.proofs.Traces.{trace_is_one}
use Rattle.norm_engine.proofs.laws.lawful_is_one.Goals as goal

pub returns : goal.returns
returns c = trace_is_one

use Rattle.norm_engine.proofs.Traces.{rows_are_of_eras, calls_are_made}
use Rattle.norm_engine.proofs.laws.lawful_calls_are_made.Goals as goal

pub returns : goal.returns
returns c = calls_are_made rows_are_of_eras c.datagrams_are_known.ensures c.packets_are_its_own.ensures

use Rattle.run_view.proofs.Records.{head_stops}
use Rattle.run_view.proofs.sources.open_input.Goals as goal

pub returns-in-Err-clause-stops : goal.returns-in-Err-clause-stops
returns-in-Err-clause-stops g c = rw c.input_stop.ensures (head_stops _ _ _ _ _ _ c.in-Err.ensures.octets c.in-Err.ensures.cause)

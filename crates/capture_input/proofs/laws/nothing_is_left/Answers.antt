use Rattle.capture_input.proofs.Stops.{head_stops_leave_none, input_has_all, stops_leave_none}
use Rattle.capture_input.proofs.laws.nothing_is_left.Goals as goal

pub returns-clause-input : goal.returns-clause-input
returns-clause-input c = input_has_all

pub returns-clause-head : goal.returns-clause-head
returns-clause-head c = head_stops_leave_none

pub returns-clause-stops : goal.returns-clause-stops
returns-clause-stops c = stops_leave_none

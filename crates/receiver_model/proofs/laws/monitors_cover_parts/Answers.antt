use Rattle.receiver_model.proofs.Monitors.{in_order_in_time}
use Rattle.receiver_model.proofs.Parts.{cover_parts}
use Rattle.receiver_model.proofs.laws.monitors_cover_parts.Goals as goal

pub returns-clause-in_time : goal.returns-clause-in_time
returns-clause-in_time c = cover_parts

pub returns-clause-in_order : goal.returns-clause-in_order
returns-clause-in_order c = in_order_in_time

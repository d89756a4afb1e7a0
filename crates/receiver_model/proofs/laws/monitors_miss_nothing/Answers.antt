use Rattle.receiver_model.proofs.Monitors.{miss_nothing_in_time, miss_nothing_in_order}
use Rattle.receiver_model.proofs.laws.monitors_miss_nothing.Goals as goal

pub returns : goal.returns
returns c = record { in_time = miss_nothing_in_time; in_order = miss_nothing_in_order }

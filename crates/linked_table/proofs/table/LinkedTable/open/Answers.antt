use Rattle.std.proofs.Common.{arith}
use Rattle.linked_table.proofs.Nodes.{open_sound}
use Rattle.linked_table.proofs.table.LinkedTable.open.Goals as goal

pub invariant_of-result : goal.invariant_of-result
invariant_of-result g c = open_sound _ _ (omega arith) _ c.in_ok-nodes.ensures _ c.in_ok-hubs.ensures

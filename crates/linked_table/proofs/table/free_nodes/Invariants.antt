use Rattle.linked_table.specs.NodeColumns.{columns}
use Rattle.linked_table.proofs.Nodes.{AreFreed}
use Rattle.linked_table.proofs.table.free_nodes.Given as goal

abbrev pub invariant-loop-node : goal.invariant-loop-node
invariant-loop-node g l = AreFreed (columns l.nodes.items) l.max l.node

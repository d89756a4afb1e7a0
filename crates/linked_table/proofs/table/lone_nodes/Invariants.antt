use Rattle.std.proofs.Common.{◌≡◌, ◌≤◌, map, vec_capacity}
use Rattle.std.specs.List.{range_with_len}
use Rattle.linked_table.specs.working.NodeLinks.{lone_node}
use Rattle.linked_table.proofs.table.lone_nodes.Given as goal

abbrev pub invariant-loop-node : goal.invariant-loop-node
invariant-loop-node g l = (l.nodes.items ≡ map lone_node (range_with_len 0 l.node)) × (l.count ≤ vec_capacity l.nodes)

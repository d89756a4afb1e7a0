use Rattle.std.proofs.Common.{arith}
use Rattle.linked_table.proofs.Nodes.{all_lone, nodes_number, last_inside, freed_on, freed_all}
use Rattle.linked_table.proofs.table.free_nodes.Goals as goal

pub loop-node-init : goal.loop-node-init
loop-node-init g c = all_lone _ _ c.in_ok-nodes.ensures

pub link_last-requires-clause-inside : goal.link_last-requires-clause-inside
link_last-requires-clause-inside g c = omega (arith, nodes_number _ _ _ c.loop-node.invariant)

pub link_last-requires-clause-hub_inside : goal.link_last-requires-clause-hub_inside
link_last-requires-clause-hub_inside g c = omega (arith, nodes_number _ _ _ c.loop-node.invariant)

pub link_last-requires-clause-last_inside : goal.link_last-requires-clause-last_inside
link_last-requires-clause-last_inside g c = last_inside _ _ _ c.loop-node.invariant c.loop-node-test.true

pub loop-node-preserved : goal.loop-node-preserved
loop-node-preserved g c = freed_on _ _ _ c.loop-node.invariant c.loop-node-test.true _ c.link_last.ensures

pub returns : goal.returns
returns g c = freed_all _ _ _ c.loop-node.invariant c.loop-node-test.false

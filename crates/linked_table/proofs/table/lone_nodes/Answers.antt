use Rattle.std.proofs.Common.{[], ◌∷◌, ◌++◌, length, ap, ◌∙◌, arith}
use Rattle.std.proofs.lemmas.List.FromFn.{length-map-range_with_len}
use Rattle.linked_table.specs.working.NodeLinks.{lone_node}
use Rattle.linked_table.proofs.Nodes.{lone_more}
use Rattle.linked_table.proofs.table.lone_nodes.Goals as goal

pub push_reserved-requires : goal.push_reserved-requires
push_reserved-requires g c =
    let number = ap length c.loop-node.invariant.0 ∙ length-map-range_with_len (lone_node {K = g.row.K.Denot} {V = g.row.V.Denot}) 0 c.loop-node.node in
    omega (arith, number, c.loop-node.invariant.1)

pub loop-node-preserved : goal.loop-node-preserved
loop-node-preserved g c =
    (c.push_reserved.ensures.items ∙ (ap (λ n. c.loop-node.nodes.items ++ n ∷ []) c.lone.ensures ∙ lone_more _ _ c.loop-node.invariant.0), omega (arith, c.push_reserved.ensures.capacity, c.loop-node.invariant.1))

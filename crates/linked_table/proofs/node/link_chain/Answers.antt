use Rattle.std.proofs.Common.{arith}
use Rattle.linked_table.proofs.Nodes.{chained}
use Rattle.linked_table.proofs.node.link_chain.Goals as goal

pub returns : goal.returns
returns g c =
    chained c.args.nodes.now.items c.args.hubs.now.items c.args.bucket _ c.args.node (omega arith) _ c.index.ensures c.requires.bucket_inside c.requires.inside _ _ c.set_after.ensures _ c.index_mut.ensures.value _ c.index_mut-2.ensures.value

use Rattle.std.proofs.Common.{refl}
use Rattle.linked_table.proofs.Nodes.{link_read}
use Rattle.linked_table.proofs.node.link_last.Goals as goal

pub returns : goal.returns
returns g c =
    link_read _ _ _ _ _ _ _ c.index.ensures c.requires.hub_inside c.requires.inside c.requires.last_inside c.index_mut.ensures.value _ _ refl c.index_mut-2.ensures.value refl c.index_mut-3.ensures.value

use Rattle.std.proofs.Common.{refl}
use Rattle.linked_table.proofs.Nodes.{unlink_read}
use Rattle.linked_table.proofs.node.unlink.Goals as goal

pub returns : goal.returns
returns g c =
    unlink_read _ _ _ _ _ c.index.ensures c.requires.inside c.requires.before_inside c.requires.after_inside c.index_mut.ensures.value _ refl c.index_mut-2.ensures.value

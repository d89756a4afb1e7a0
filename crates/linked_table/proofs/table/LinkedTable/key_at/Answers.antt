use Rattle.std.proofs.Common.{◌≡◌, refl, arith}
use Rattle.linked_table.proofs.Nodes.{below, pair_read}
use Rattle.linked_table.proofs.Entries.{slot_in_links, read_some, read_wherever}
use Rattle.linked_table.proofs.table.LinkedTable.key_at.Goals as goal

pub index-requires : goal.index-requires
index-requires g c = omega (arith, below c.self.inside.nodes.items _ (slot_in_links _ _ _ _ _ c.self.invariant _ c.self.view_is _ c.requires))

pub unreachable-requires : goal.unreachable-requires
unreachable-requires g c = read_some _ _ _ _ _ c.self.invariant _ c.self.view_is _ c.requires _ (pair_read c.self.inside.nodes.items c.args.slot.0 _ c.index.ensures) c.in-None.is

pub returns : goal.returns
returns g c = read_wherever _ _ _ _ _ c.self.invariant _ c.self.view_is _ (λ e. c.in-Some.key ≡ e.key) c.requires _ (pair_read c.self.inside.nodes.items c.args.slot.0 _ c.index.ensures) _ _ c.in-Some.is refl

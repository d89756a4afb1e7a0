use Rattle.std.proofs.Common.{◌≡◌, refl, sym, ap, ◌∙◌, arith}
use Rattle.linked_table.specs.RingWalks.{link_at}
use Rattle.linked_table.specs.working.Rings.{unlinked}
use Rattle.linked_table.proofs.Nodes.{below, pair_then, set_pair, same_length, moved_length, moved_chains, moved_below, chains_count}
use Rattle.linked_table.proofs.Recency.{placed, placed_inside, placed_before_inside, placed_after_inside, freed_last_inside, chain_before_inside, chain_after_inside, remove_sound_read, remove_seen_read}
use Rattle.linked_table.proofs.Entries.{slot_in_links, read_some, read_wherever}
use Rattle.linked_table.proofs.table.LinkedTable.remove.Goals as goal

pub move_last-requires-clause-inside : goal.move_last-requires-clause-inside
move_last-requires-clause-inside g c = below _ _ (placed_inside _ _ _ _ _ c.self.invariant _ (placed _ _ _ _ _ c.self.invariant _ c.self.view_is _ c.requires))

pub move_last-requires-clause-before_inside : goal.move_last-requires-clause-before_inside
move_last-requires-clause-before_inside g c = below _ _ (placed_before_inside _ _ _ _ _ c.self.invariant _ (placed _ _ _ _ _ c.self.invariant _ c.self.view_is _ c.requires))

pub move_last-requires-clause-after_inside : goal.move_last-requires-clause-after_inside
move_last-requires-clause-after_inside g c = below _ _ (placed_after_inside _ _ _ _ _ c.self.invariant _ (placed _ _ _ _ _ c.self.invariant _ c.self.view_is _ c.requires))

pub move_last-requires-clause-hub_inside : goal.move_last-requires-clause-hub_inside
move_last-requires-clause-hub_inside g c = below _ _ c.self.invariant.free_ring.hub_in

pub move_last-requires-clause-last_inside : goal.move_last-requires-clause-last_inside
move_last-requires-clause-last_inside g c = below _ _ (freed_last_inside _ _ _ _ _ c.self.invariant _ (placed _ _ _ _ _ c.self.invariant _ c.self.view_is _ c.requires))

pub unlink_chain-requires-clause-inside : goal.unlink_chain-requires-clause-inside
unlink_chain-requires-clause-inside g c = omega (arith, below c.self.inside.nodes.items _ (slot_in_links _ _ _ _ _ c.self.invariant _ c.self.view_is _ c.requires), moved_length c.self.inside.nodes.items _ c.self.inside.hubs.items _ c.move_last.ensures)

pub unlink_chain-requires-clause-before_inside : goal.unlink_chain-requires-clause-before_inside
unlink_chain-requires-clause-before_inside g c = moved_below _ _ _ _ c.move_last.ensures (λ l. (link_at l c.args.slot.0).before) (chain_before_inside _ _ _ _ _ c.self.invariant _ (placed _ _ _ _ _ c.self.invariant _ c.self.view_is _ c.requires))

pub unlink_chain-requires-clause-after_inside : goal.unlink_chain-requires-clause-after_inside
unlink_chain-requires-clause-after_inside g c = moved_below _ _ _ _ c.move_last.ensures (λ l. (link_at l c.args.slot.0).after) (chain_after_inside _ _ _ _ _ c.self.invariant _ (placed _ _ _ _ _ c.self.invariant _ c.self.view_is _ c.requires))

pub index_mut-requires : goal.index_mut-requires
index_mut-requires g c = omega (arith, below c.self.inside.nodes.items _ (slot_in_links _ _ _ _ _ c.self.invariant _ c.self.view_is _ c.requires), moved_length c.self.inside.nodes.items _ c.self.inside.hubs.items _ c.move_last.ensures, same_length _ _ _ c.unlink_chain.ensures.kept)

pub unreachable-requires : goal.unreachable-requires
unreachable-requires g c = read_some _ _ _ _ _ c.self.invariant _ c.self.view_is _ c.requires _ (pair_then c.self.inside.nodes.items _ c.self.inside.hubs.items _ c.move_last.ensures _ _ c.unlink_chain.ensures.kept _ _ c.index_mut.ensures.value) (sym c.take.ensures.value ∙ c.in-None.is)

pub invariant_of-self : goal.invariant_of-self
invariant_of-self g c =
    remove_sound_read _ _ _ _ _ c.self.invariant _ (placed _ _ _ _ _ c.self.invariant _ c.self.view_is _ c.requires) _ c.move_last.ensures _ c.unlink_chain.ensures.kept _ c.take.ensures.after _ (set_pair _ _ _ c.index_mut.ensures.value _) _ (c.unlink_chain.ensures.links_are ∙ ap (λ l. unlinked l c.args.slot.0) (moved_chains _ _ _ _ c.move_last.ensures)) (chains_count _ _ c.self.inside.hubs.items _ c.move_last.ensures _ _ c.unlink_chain.ensures.kept) c.unlink_chain.ensures.number

pub returns-clause-taken : goal.returns-clause-taken
returns-clause-taken g c =
    read_wherever _ _ _ _ _ c.self.invariant _ c.self.view_is _ (λ e. c.in-Some.pair ≡ (e.key, e.value)) c.requires _ (pair_then c.self.inside.nodes.items _ c.self.inside.hubs.items _ c.move_last.ensures _ _ c.unlink_chain.ensures.kept _ _ c.index_mut.ensures.value) _ _ (sym c.take.ensures.value ∙ c.in-Some.is) refl

pub returns-clause-left : goal.returns-clause-left
returns-clause-left g c =
    remove_seen_read _ _ _ _ _ c.self.invariant _ (placed _ _ _ _ _ c.self.invariant _ c.self.view_is _ c.requires) _ c.move_last.ensures _ c.unlink_chain.ensures.kept _ c.take.ensures.after _ (set_pair _ _ _ c.index_mut.ensures.value _) _ c.self.view_is

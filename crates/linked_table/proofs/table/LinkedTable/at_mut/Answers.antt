use Rattle.std.proofs.Common.{◌≡◌, sym, refl, arith}
use Rattle.linked_table.proofs.Nodes.{below, pair_read, set_pair}
use Rattle.linked_table.proofs.Entries.{slot_in_pairs, slot_in_links, read_pair, read_some, read_wherever}
use Rattle.linked_table.proofs.Slots.{put_sound_read, put_seen_read}
use Rattle.linked_table.proofs.table.LinkedTable.at_mut.Goals as goal

pub index_mut-requires : goal.index_mut-requires
index_mut-requires g c = omega (arith, below c.self.inside.nodes.items _ (slot_in_links _ _ _ _ _ c.self.invariant _ c.self.view_is _ c.requires))

pub unreachable-requires : goal.unreachable-requires
unreachable-requires g c = read_some _ _ _ _ _ c.self.invariant _ c.self.view_is _ c.requires _ (pair_read c.self.inside.nodes.items c.args.slot.0 _ c.index_mut.ensures.value) (sym c.in-None.ensures.value)

pub invariant_of-self-lent : goal.invariant_of-self-lent
invariant_of-self-lent g c w =
    let pair = c.in-Some.pair.now in
    put_sound_read _ _ _ _ _ c.self.invariant _ (slot_in_pairs _ _ _ _ _ c.self.invariant _ c.self.view_is _ c.requires) pair.0 pair.1 w
    (read_pair _ _ _ _ _ c.self.invariant _ c.self.view_is _ c.requires _ (pair_read c.self.inside.nodes.items c.args.slot.0 _ c.index_mut.ensures.value) pair c.in-Some.ensures.value) _ refl _ (set_pair c.self.inside.nodes.items c.args.slot.0 _ c.index_mut.ensures.value _)

pub returns : goal.returns
returns g c =
    let pair = c.in-Some.pair.now in
    let read = read_pair _ _ _ _ _ c.self.invariant _ c.self.view_is _ c.requires _ (pair_read c.self.inside.nodes.items c.args.slot.0 _ c.index_mut.ensures.value) pair c.in-Some.ensures.value in (
      (refl, λ w. put_seen_read _ _ _ _ _ c.self.invariant _ (slot_in_pairs _ _ _ _ _ c.self.invariant _ c.self.view_is _ c.requires) pair.0 pair.1 w read _ refl _ (set_pair c.self.inside.nodes.items c.args.slot.0 _ c.index_mut.ensures.value _) _ c.self.view_is),
      record {
        lends = tt;
        value = read_wherever _ _ _ _ _ c.self.invariant _ c.self.view_is _ (λ e. pair.1 ≡ e.value) c.requires _ (pair_read c.self.inside.nodes.items c.args.slot.0 _ c.index_mut.ensures.value) pair.0 pair.1 (sym c.in-Some.ensures.value) refl;
      },
    )

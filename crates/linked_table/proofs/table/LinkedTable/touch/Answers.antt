use Rattle.std.proofs.Common.{sym, ap, ◌∙◌}
use Rattle.linked_table.proofs.Nodes.{below, recent_read}
use Rattle.linked_table.proofs.Recency.{placed, placed_inside, placed_before_inside, placed_after_inside, touched_last_inside, last_seen, touch_sound_read, touch_seen_read}
use Rattle.linked_table.proofs.table.LinkedTable.touch.Goals as goal

pub returns-then-index-node : goal.returns-then-index-node
returns-then-index-node g c =
    let read = recent_read _ _ _ c.index.ensures c.self.invariant.used_ring.hub_in in
    last_seen _ _ _ _ _ c.self.invariant _ (placed _ _ _ _ _ c.self.invariant _ c.self.view_is _ c.requires) (sym c.if-index-node.true ∙ ap (λ (l : _). l.before) read) _ c.self.view_is

pub move_last-requires-clause-inside : goal.move_last-requires-clause-inside
move_last-requires-clause-inside g c = below _ _ (placed_inside _ _ _ _ _ c.self.invariant _ (placed _ _ _ _ _ c.self.invariant _ c.self.view_is _ c.requires))

pub move_last-requires-clause-before_inside : goal.move_last-requires-clause-before_inside
move_last-requires-clause-before_inside g c = below _ _ (placed_before_inside _ _ _ _ _ c.self.invariant _ (placed _ _ _ _ _ c.self.invariant _ c.self.view_is _ c.requires))

pub move_last-requires-clause-after_inside : goal.move_last-requires-clause-after_inside
move_last-requires-clause-after_inside g c = below _ _ (placed_after_inside _ _ _ _ _ c.self.invariant _ (placed _ _ _ _ _ c.self.invariant _ c.self.view_is _ c.requires))

pub move_last-requires-clause-hub_inside : goal.move_last-requires-clause-hub_inside
move_last-requires-clause-hub_inside g c = below _ _ c.self.invariant.used_ring.hub_in

pub move_last-requires-clause-last_inside : goal.move_last-requires-clause-last_inside
move_last-requires-clause-last_inside g c = below _ _ (touched_last_inside _ _ _ _ _ c.self.invariant _ (placed _ _ _ _ _ c.self.invariant _ c.self.view_is _ c.requires))

pub invariant_of-self : goal.invariant_of-self
invariant_of-self g c = touch_sound_read _ _ _ _ _ c.self.invariant _ (placed _ _ _ _ _ c.self.invariant _ c.self.view_is _ c.requires) _ c.move_last.ensures

pub returns : goal.returns
returns g c = touch_seen_read _ _ _ _ _ c.self.invariant _ (placed _ _ _ _ _ c.self.invariant _ c.self.view_is _ c.requires) _ c.move_last.ensures _ c.self.view_is

use Rattle.std.proofs.Common.{sym, ◌∙◌}
use Rattle.linked_table.proofs.Listings.{in_list, put_same, last_inside, put_sound, put_seen}
use Rattle.linked_table.proofs.list.SlotList.put_last.Goals as goal

pub unlink-requires-clause-before_inside : goal.unlink-requires-clause-before_inside
unlink-requires-clause-before_inside c = (in_list _ _ c.self.invariant _ c.self.view_is _ c.requires).before

pub unlink-requires-clause-after_inside : goal.unlink-requires-clause-after_inside
unlink-requires-clause-after_inside c = (in_list _ _ c.self.invariant _ c.self.view_is _ c.requires).after

pub link_last-requires-clause-last_inside : goal.link_last-requires-clause-last_inside
link_last-requires-clause-last_inside c = last_inside _ _ c.self.invariant _ c.self.view_is _ c.requires _ c.unlink.ensures

pub invariant_of-self : goal.invariant_of-self
invariant_of-self c = put_sound _ _ c.self.invariant _ c.self.view_is _ c.requires _ c.unlink.ensures _ c.link_last.ensures

pub returns : goal.returns
returns c = put_seen _ _ c.self.invariant _ c.self.view_is _ c.requires _ c.unlink.ensures _ c.link_last.ensures

pub returns-then-last-slot : goal.returns-then-last-slot
returns-then-last-slot c = put_same _ _ c.self.invariant _ c.self.view_is _ c.requires (sym c.if-last-slot.true ∙ c.before-last.ensures)

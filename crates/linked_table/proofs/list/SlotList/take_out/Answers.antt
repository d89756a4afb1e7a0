use Rattle.linked_table.proofs.Listings.{in_list, left_sound, left_seen}
use Rattle.linked_table.proofs.list.SlotList.take_out.Goals as goal

pub unlink-requires-clause-before_inside : goal.unlink-requires-clause-before_inside
unlink-requires-clause-before_inside c = (in_list _ _ c.self.invariant _ c.self.view_is _ c.requires).before

pub unlink-requires-clause-after_inside : goal.unlink-requires-clause-after_inside
unlink-requires-clause-after_inside c = (in_list _ _ c.self.invariant _ c.self.view_is _ c.requires).after

pub invariant_of-self : goal.invariant_of-self
invariant_of-self c = left_sound _ _ c.self.invariant _ c.self.view_is _ c.requires _ c.unlink.ensures _ c.isolate.ensures

pub returns : goal.returns
returns c = left_seen _ _ c.self.invariant _ c.self.view_is _ c.requires _ c.unlink.ensures _ c.isolate.ensures

use Rattle.linked_table.proofs.Listings.{open_threaded, open_seen}
use Rattle.linked_table.proofs.list.SlotList.open.Goals as goal

pub invariant_of-result : goal.invariant_of-result
invariant_of-result c = open_threaded _ _ c.in_ok-links.ensures

pub returns : goal.returns
returns c = open_seen _ _ c.in_ok-links.ensures

use Rattle.std.proofs.Common.{ap, arith, sym}
use Rattle.linked_table.specs.Listing.{Listing}
use Rattle.linked_table.proofs.Listings.{first_seen}
use Rattle.linked_table.proofs.list.SlotList.first.Goals as goal

pub returns-clause-first : goal.returns-clause-first
returns-clause-first c = sym ((first_seen _ _ c.self.invariant _ c.self.view_is _ c.after-node.ensures).some c.if-node-hub.false)

pub returns-clause-below : goal.returns-clause-below
returns-clause-below c =
    let small = (first_seen _ _ c.self.invariant _ c.self.view_is _ c.after-node.ensures).below c.if-node-hub.false in
    omega (arith, small, ap (λ (l : Listing). l.max) c.self.view_is)

use Rattle.std.proofs.Common.{refl}
use Rattle.retain_store.proofs.Cells.{stands}
use Rattle.retain_store.proofs.Blocks.{found_in, missing_at, place_near}
use Rattle.retain_store.proofs.seat.look.Goals as goal

pub returns-in-Cell-clause-octet : goal.returns-in-Cell-clause-octet
returns-in-Cell-clause-octet c =
    let found = found_in c.requires.rising c.in-Cell.ensures in
    let value = c.get.ensures.value _ _ _ _ (stands c.requires.chain_in_range c.in-Cell.ensures.at) in
    rw (found, ← c.place_of.ensures) value

pub returns-in-After-clause-octet : goal.returns-in-After-clause-octet
returns-in-After-clause-octet c =
    let missing = missing_at c.requires.rising c.in-After.ensures in
    rw missing refl

pub returns-in-After-clause-near : goal.returns-in-After-clause-near
returns-in-After-clause-near c = place_near c.in-After.ensures

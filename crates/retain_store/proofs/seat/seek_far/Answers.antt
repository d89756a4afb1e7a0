use Rattle.std.proofs.Common.{◌∙◌, sym}
use Rattle.retain_store.proofs.Fronts.{first_at}
use Rattle.retain_store.proofs.Cells.{is_held, up_to_held, up_to_cell, up_to_walk}
use Rattle.retain_store.proofs.seat.seek_far.Goals as goal

pub block-requires : goal.block-requires
block-requires c = is_held c.requires.chain_in_range (first_at _ (sym c.requires.first)).at

pub block-requires-2 : goal.block-requires-2
block-requires-2 c = up_to_held c.in-Some.ensures

pub next_of-requires : goal.next_of-requires
next_of-requires c = up_to_held c.in-Some.ensures

pub returns-then-block : goal.returns-then-block
returns-then-block c = up_to_cell c.in-Some.ensures (sym (c.block-2.ensures _ _ _ _ c.in-Some.ensures.stands) ∙ c.if-block.true)

pub walk-requires-2-clause-begun : goal.walk-requires-2-clause-begun
walk-requires-2-clause-begun c = up_to_walk c.in-Some.ensures
    (λ same. c.if-block.false (c.block-2.ensures _ _ _ _ c.in-Some.ensures.stands ∙ same))
    (c.next_of.ensures.value _ _ _ _ c.in-Some.ensures.stands)

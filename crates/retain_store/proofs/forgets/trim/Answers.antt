use Rattle.std.proofs.Common.{sym, ◌∙◌}
use Rattle.retain_store.proofs.Cells.{is_held}
use Rattle.retain_store.proofs.Segments.{inside_then}
use Rattle.retain_store.proofs.Fronts.{first_at, clears, forgets_nothing, forgets_part, forgets_all, mid_changed, mid_first}
use Rattle.retain_store.proofs.forgets.trim.Goals as goal

pub block-requires : goal.block-requires
block-requires c = is_held c.requires.chain_in_range (first_at _ (sym c.first.ensures.value ∙ c.in-Some.is)).at

pub returns-then-block-at : goal.returns-then-block-at
returns-then-block-at c = forgets_nothing c.requires.chain_in_range c.requires.kept c.requires.begins
    (sym c.first.ensures.value ∙ c.in-Some.is) c.block.ensures c.if-block-at.true

pub clear_below-requires : goal.clear_below-requires
clear_below-requires c = is_held c.requires.chain_in_range (first_at _ (sym c.first.ensures.value ∙ c.in-Some.is)).at

pub returns-then-not-clear_below : goal.returns-then-not-clear_below
returns-then-not-clear_below c = forgets_part c.requires.chain_in_range c.requires.kept c.requires.begins
    (clears c.requires.chain_in_range (sym c.first.ensures.value ∙ c.in-Some.is) c.block.ensures c.if-block-at.false
    (c.from.ensures ∙ c.place_of.ensures) c.clear_below.ensures.forgotten c.clear_below.ensures.none_left)
    c.if-not-clear_below.true

pub give_back_after-requires-clause-chain_in_range : goal.give_back_after-requires-clause-chain_in_range
give_back_after-requires-clause-chain_in_range c = inside_then c.requires.chain_in_range
    (mid_changed c.requires.chain_in_range c.requires.kept c.requires.begins
    (clears c.requires.chain_in_range (sym c.first.ensures.value ∙ c.in-Some.is) c.block.ensures c.if-block-at.false
    (c.from.ensures ∙ c.place_of.ensures) c.clear_below.ensures.forgotten c.clear_below.ensures.none_left))

pub give_back_after-requires-clause-place : goal.give_back_after-requires-clause-place
give_back_after-requires-clause-place c = mid_first c.requires.chain_in_range c.requires.kept c.requires.begins
    (clears c.requires.chain_in_range (sym c.first.ensures.value ∙ c.in-Some.is) c.block.ensures c.if-block-at.false
    (c.from.ensures ∙ c.place_of.ensures) c.clear_below.ensures.forgotten c.clear_below.ensures.none_left)

pub returns : goal.returns
returns c = forgets_all c.requires.chain_in_range c.requires.kept c.requires.begins
    (clears c.requires.chain_in_range (sym c.first.ensures.value ∙ c.in-Some.is) c.block.ensures c.if-block-at.false
    (c.from.ensures ∙ c.place_of.ensures) c.clear_below.ensures.forgotten c.clear_below.ensures.none_left)
    c.if-not-clear_below.false c.give_back_after.ensures

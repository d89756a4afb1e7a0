use Rattle.std.proofs.Common.{nat_lt, sym, ap, ◌∙◌}
use Rattle.retain_store.proofs.Cells.{stands, is_held}
use Rattle.retain_store.proofs.Fronts.{first_at, begins_is}
use Rattle.retain_store.proofs.forgets.begins_below.Goals as goal

pub block-requires : goal.block-requires
block-requires c = is_held c.requires (first_at _ (sym c.first.ensures.value ∙ c.in-Some.is)).at

pub returns-in-Some : goal.returns-in-Some
returns-in-Some c =
    let first = first_at _ (sym c.first.ensures.value ∙ c.in-Some.is) in
    let block = c.block.ensures _ _ _ _ (stands c.requires first.at) in
    begins_is _ first.cell first.rest c.args.block _ first.at.splits (ap (λ n. nat_lt n c.args.block) block)

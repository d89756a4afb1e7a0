use Rattle.std.proofs.Common.{◌<◌, length, sym, ap, ◌∙◌, arith}
use Rattle.cell_pool.specs.ChainLists.{chain_at}
use Rattle.retain_store.proofs.Segments.{inside_then, changed_then}
use Rattle.retain_store.proofs.Fronts.{first_at, has_first, rest_is, given_changed}
use Rattle.retain_store.proofs.forgets.forget_chain.Goals as goal

pub give_back_after-requires-clause-place : goal.give_back_after-requires-clause-place
give_back_after-requires-clause-place c =
    let first = first_at _ (sym c.first.ensures.value ∙ c.in-Some.is) in
    has_first first.cell first.rest first.at.splits

pub loop-pool-smaller : goal.loop-pool-smaller
loop-pool-smaller c =
    let first = first_at _ (sym c.first.ensures.value ∙ c.in-Some.is) in
    let inside = inside_then c.requires c.loop-pool.invariant in
    let rest = rest_is c.loop-pool.pool c.args.chain.0 first.cell first.rest inside first.at.splits c.give_back_after.ensures in
    let fewer : length (chain_at c.give_back_after.new.self c.args.chain.0) < length (chain_at c.loop-pool.pool c.args.chain.0) =
    omega (arith, ap length rest, ap length first.at.splits) in
    fewer

pub loop-pool-preserved : goal.loop-pool-preserved
loop-pool-preserved c =
    let first = first_at _ (sym c.first.ensures.value ∙ c.in-Some.is) in
    let inside = inside_then c.requires c.loop-pool.invariant in
    let changed = given_changed c.loop-pool.pool c.args.chain.0 first.cell first.rest inside first.at.splits c.give_back_after.ensures in
    changed_then _ _ c.requires c.loop-pool.invariant changed.others changed.cells

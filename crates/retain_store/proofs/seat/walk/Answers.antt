use Rattle.std.proofs.Common.{◌<◌, ◌∙◌, sym, arith}
use Rattle.retain_store.proofs.Cells.{stands, is_held, walk_ends, walk_all, walk_reaches, is_cell, stops_before, goes_on}
use Rattle.retain_store.proofs.seat.walk.Goals as goal

pub returns-in_default : goal.returns-in_default
returns-in_default c = walk_ends c.loop.invariant c.in_default.is

pub block-reached-requires : goal.block-reached-requires
block-reached-requires c = is_held c.requires.chain_in_range (walk_reaches c.loop.invariant c.in-Some.is).at

pub returns-then-reached-block : goal.returns-then-reached-block
returns-then-reached-block c =
    let reached = walk_reaches c.loop.invariant c.in-Some.is in
    let block = c.block-reached.ensures _ _ _ _ (stands c.requires.chain_in_range reached.at) in
    stops_before reached (omega (arith, block, c.if-reached-block.true, c.if-reached-block-2.false))

pub returns-then-reached-block-2 : goal.returns-then-reached-block-2
returns-then-reached-block-2 c =
    let reached = walk_reaches c.loop.invariant c.in-Some.is in
    let block = c.block-reached.ensures _ _ _ _ (stands c.requires.chain_in_range reached.at) in
    is_cell reached (sym block ∙ c.if-reached-block-2.true)

pub next_of-next-requires : goal.next_of-next-requires
next_of-next-requires c = is_held c.requires.chain_in_range (walk_reaches c.loop.invariant c.in-Some.is).at

pub loop-preserved : goal.loop-preserved
loop-preserved c =
    let reached = walk_reaches c.loop.invariant c.in-Some.is in
    let at = stands c.requires.chain_in_range reached.at in
    let block = c.block-reached.ensures _ _ _ _ at in
    let below : reached.cell.block < c.args.block = omega (arith, block) in
    goes_on reached below (c.next_of-next.ensures.value _ _ _ _ at)

pub returns : goal.returns
returns c = walk_all c.loop.invariant (omega arith)

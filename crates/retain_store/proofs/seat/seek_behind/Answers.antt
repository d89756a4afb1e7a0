use Rattle.std.proofs.Common.{refl, arith}
use Rattle.retain_store.proofs.Cells.{is_held, stands, stops_before, walk_reaches}
use Rattle.retain_store.proofs.seat.seek_behind.Goals as goal

pub block-requires : goal.block-requires
block-requires c = is_held c.requires.chain_in_range (walk_reaches c.requires.begun refl).at

pub returns-then-block : goal.returns-then-block
returns-then-block c =
    let reached = walk_reaches c.requires.begun refl in
    let block = c.block.ensures _ _ _ _ (stands c.requires.chain_in_range reached.at) in
    stops_before reached (omega (arith, block, c.if-block.true))

use Rattle.std.proofs.Common.{◌<◌, ◌-◌, ◌/◌, sym, subst, ◌∙◌, arith}
use Rattle.std.proofs.lemmas.Bool.Decides.{nat_tests}
use Rattle.cell_pool.specs.ChainLists.{chain_at, IsBlank}
use Rattle.retain_store.specs.working.BlockCells.{IsAmong}
use Rattle.retain_store.proofs.Cells.{stands, within_behind, within_last}
use Rattle.retain_store.proofs.seat.ends_before.Goals as goal

pub returns-then-reached-from : goal.returns-then-reached-from
returns-then-reached-from c so =
    let among : IsAmong (chain_at c.args.pool.now c.args.chain.0) c.in-Some.cell = rw c.in-Some.is at c.requires.near_in_chain in
    let at = stands c.requires.chain_in_range among.at in
    let block = c.block-reached.ensures _ _ _ _ at in
    let blank = (c.is_blank.ensures.value _ _ _ _ at).0 so in
    within_last c.requires.rising among (c.next_of.ensures.value _ _ _ _ at) c.in_default-next_of.is c.args.from c.place_of-at.result
    c.place_of-at.ensures (sym block ∙ c.if-reached-from.true)
    (subst (λ n. IsBlank c.place_of-at.result (256 - n) among.cell.octets) c.from.ensures blank)

pub returns : goal.returns
returns c so =
    let among : IsAmong (chain_at c.args.pool.now c.args.chain.0) c.in-Some.cell = rw c.in-Some.is at c.requires.near_in_chain in
    let at = stands c.requires.chain_in_range among.at in
    let block = c.block-reached.ensures _ _ _ _ at in
    let below : c.block-reached.result < c.args.from / 256 = grind (arith, nat_tests) in
    within_behind c.requires.rising among (c.next_of.ensures.value _ _ _ _ at) c.in_default-next_of.is c.args.from (omega (arith, block, below))

use Rattle.std.proofs.Common.{ℕ, List, Option, refl, sym, subst, arith}
use Rattle.cell_pool.specs.ChainLists.{Writes, with_run}
use Rattle.retain_store.specs.working.PoolChanges.{with_octets}
use Rattle.retain_store.proofs.Cells.{is_held, writes_nothing, writes_same}
use Rattle.retain_store.proofs.Blocks.{cell_near}
use Rattle.retain_store.proofs.Parts.{covered_told, fresh_all, fresh_none, piece_blank}
use Rattle.retain_store.proofs.Segments.{with_blank, with_covered}
use Rattle.retain_store.proofs.writes.fill.Goals as goal

pub is_blank-requires-clause-held : goal.is_blank-requires-clause-held
is_blank-requires-clause-held c = is_held c.requires.chain_in_range c.requires.cell.at

pub set_run-requires-clause-held : goal.set_run-requires-clause-held
set_run-requires-clause-held c = is_held c.requires.chain_in_range c.requires.cell.at

pub is_covered-requires-clause-held : goal.is_covered-requires-clause-held
is_covered-requires-clause-held c = is_held c.requires.chain_in_range c.requires.cell.at

pub count_each-fresh-requires-clause-near_in_chain : goal.count_each-fresh-requires-clause-near_in_chain
count_each-fresh-requires-clause-near_in_chain c = cell_near c.requires.cell

pub fill_each-requires-clause-held : goal.fill_each-requires-clause-held
fill_each-requires-clause-held c = is_held c.requires.chain_in_range c.requires.cell.at

pub returns-then-is_blank-clause-written : goal.returns-then-is_blank-clause-written
returns-then-is_blank-clause-written c = subst (λ n. Writes c.args.pool.now c.set_run.new.self c.args.cell (λ octets. with_octets octets n c.args.piece.now)) c.place_of-at.ensures
    (writes_same (with_run c.place_of-at.result c.args.piece.now) (λ octets. with_octets octets c.place_of-at.result c.args.piece.now) c.set_run.ensures
    (λ chain before x after stands.
    let size = c.is_blank.ensures.size chain before x after stands in
    with_blank x.octets c.place_of-at.result c.args.piece.now (omega (arith, c.place_of-at.ensures)) ((c.is_blank.ensures.value chain before x after stands).0 c.if-is_blank.true)))

pub returns-then-is_blank-clause-fresh : goal.returns-then-is_blank-clause-fresh
returns-then-is_blank-clause-fresh c = sym (fresh_all _ _ _ (piece_blank _ _ _ _ c.place_of-at.ensures c.requires.chain_in_range c.requires.cell c.requires.rising _ c.requires.fits _ c.is_blank.ensures.value c.if-is_blank.true))

pub returns-then-is_covered-clause-written : goal.returns-then-is_covered-clause-written
returns-then-is_covered-clause-written c = subst (λ n. Writes c.args.pool.now c.args.pool.now c.args.cell (λ octets. with_octets octets n c.args.piece.now)) c.place_of-at.ensures
    (writes_same (λ (octets : List (Option ℕ)). octets) (λ octets. with_octets octets c.place_of-at.result c.args.piece.now)
    (writes_nothing c.args.pool.now c.args.cell (λ (octets : List (Option ℕ)). octets) (λ octets. refl))
    (λ chain before x after stands.
    with_covered x.octets c.place_of-at.result c.args.piece.now ((c.is_covered.ensures chain before x after stands).0 c.if-is_covered.true)))

pub returns-then-is_covered-clause-fresh : goal.returns-then-is_covered-clause-fresh
returns-then-is_covered-clause-fresh c = sym (fresh_none _ _ _ ((covered_told _ _ _ _ c.place_of-at.ensures c.requires.chain_in_range c.requires.cell c.requires.rising _ c.requires.fits _ c.is_covered.ensures).0 c.if-is_covered.true))

pub returns-clause-written : goal.returns-clause-written
returns-clause-written c = subst (λ n. Writes c.args.pool.now c.fill_each.new.pool c.args.cell (λ octets. with_octets octets n c.args.piece.now)) c.place_of-at.ensures c.fill_each.ensures

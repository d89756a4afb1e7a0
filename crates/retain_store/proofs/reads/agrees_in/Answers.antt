use Rattle.std.proofs.Common.{refl, length}
use Rattle.retain_store.specs.working.BlockCells.{blocks_in}
use Rattle.retain_store.proofs.Cells.{is_held}
use Rattle.retain_store.proofs.Blocks.{cell_near}
use Rattle.retain_store.proofs.Parts.{none_agree, kept_agree, agree_kept, piece_blank, covered_told, held_covered, run_told}
use Rattle.retain_store.proofs.reads.agrees_in.Goals as goal

pub is_blank-requires-clause-held : goal.is_blank-requires-clause-held
is_blank-requires-clause-held c = is_held c.requires.chain_in_range c.requires.cell.at

pub is_covered-requires-clause-held : goal.is_covered-requires-clause-held
is_covered-requires-clause-held c = is_held c.requires.chain_in_range c.requires.cell.at

pub has_run-requires-clause-covered : goal.has_run-requires-clause-covered
has_run-requires-clause-covered c = held_covered _ _ _ _ c.place_of-at.ensures c.requires.chain_in_range c.requires.cell c.requires.rising _ c.requires.fits ((covered_told _ _ _ _ c.place_of-at.ensures c.requires.chain_in_range c.requires.cell c.requires.rising _ c.requires.fits _ c.is_covered.ensures).0 c.if-is_covered.true)

pub agrees_each-requires-clause-near_in_chain : goal.agrees_each-requires-clause-near_in_chain
agrees_each-requires-clause-near_in_chain c = cell_near c.requires.cell

pub returns-then-is_blank : goal.returns-then-is_blank
returns-then-is_blank c = (
  (λ so. none_agree _ _ _ (piece_blank _ _ _ _ c.place_of-at.ensures c.requires.chain_in_range c.requires.cell c.requires.rising _ c.requires.fits _ c.is_blank.ensures.value c.if-is_blank.true)),
  (λ agrees. refl),
)

pub returns-then-is_covered : goal.returns-then-is_covered
returns-then-is_covered c =
    let blocks = blocks_in c.args.pool.now c.args.chain.0 in
    let covers = (covered_told _ _ _ _ c.place_of-at.ensures c.requires.chain_in_range c.requires.cell c.requires.rising (length c.args.bytes.now) c.requires.fits _ c.is_covered.ensures).0 c.if-is_covered.true in
    let told = run_told _ _ _ _ c.place_of-at.ensures c.requires.chain_in_range c.requires.cell c.requires.rising c.args.bytes.now c.requires.fits _ c.has_run.ensures in (
      (λ so. kept_agree blocks c.args.from c.args.bytes.now (told.0 so)),
      (λ agrees. told.1 (agree_kept blocks c.args.from c.args.bytes.now covers agrees)),
    )

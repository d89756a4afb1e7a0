use Rattle.std.proofs.Common.{◌≡◌, true, false, refl, sym, ◌∙◌, subst, arith}
use Rattle.retain_store.specs.working.BlockCells.{blocks_in}
use Rattle.retain_store.proofs.Cells.{is_held}
use Rattle.retain_store.proofs.Blocks.{cell_near}
use Rattle.retain_store.proofs.Parts.{AreKept, none_settle, kept_settle, piece_blank, covered_told, held_covered, run_kept, run_told}
use Rattle.retain_store.proofs.reads.settle_in.Goals as goal

pub is_blank-requires-clause-held : goal.is_blank-requires-clause-held
is_blank-requires-clause-held c = is_held c.requires.chain_in_range c.requires.cell.at

pub is_covered-requires-clause-held : goal.is_covered-requires-clause-held
is_covered-requires-clause-held c = is_held c.requires.chain_in_range c.requires.cell.at

pub has_run-requires-clause-covered : goal.has_run-requires-clause-covered
has_run-requires-clause-covered c = held_covered _ _ _ _ c.place_of-at.ensures c.requires.chain_in_range c.requires.cell c.requires.rising _ c.requires.fits ((covered_told _ _ _ _ c.place_of-at.ensures c.requires.chain_in_range c.requires.cell c.requires.rising _ c.requires.fits _ c.is_covered.ensures).0 c.if-not-is_covered.false)

pub copy_run-requires-clause-covered : goal.copy_run-requires-clause-covered
copy_run-requires-clause-covered c = held_covered _ _ _ _ c.place_of-at.ensures c.requires.chain_in_range c.requires.cell c.requires.rising _ c.requires.fits ((covered_told _ _ _ _ c.place_of-at.ensures c.requires.chain_in_range c.requires.cell c.requires.rising _ c.requires.fits _ c.is_covered.ensures).0 c.if-not-is_covered.false)

pub settle_each-requires-clause-near_in_chain : goal.settle_each-requires-clause-near_in_chain
settle_each-requires-clause-near_in_chain c = cell_near c.requires.cell

pub returns-then-is_blank-clause-settled : goal.returns-then-is_blank-clause-settled
returns-then-is_blank-clause-settled c = none_settle _ _ _ (piece_blank _ _ _ _ c.place_of-at.ensures c.requires.chain_in_range c.requires.cell c.requires.rising _ c.requires.fits _ c.is_blank.ensures.value c.if-is_blank.true)

pub returns-then-has_run-clause-settled : goal.returns-then-has_run-clause-settled
returns-then-has_run-clause-settled c = kept_settle _ _ c.args.bytes.now c.args.bytes.now refl
    ((run_told _ _ _ _ c.place_of-at.ensures c.requires.chain_in_range c.requires.cell c.requires.rising c.args.bytes.now c.requires.fits _ c.has_run.ensures).0 c.if-has_run.true)

pub returns-clause-settled : goal.returns-clause-settled
returns-clause-settled c = kept_settle _ _ c.args.bytes.now c.copy_run.new.out (omega arith)
    (run_kept _ _ _ _ c.place_of-at.ensures c.requires.chain_in_range c.requires.cell c.requires.rising c.copy_run.new.out (omega arith) c.copy_run.ensures)

pub returns-clause-same : goal.returns-clause-same
returns-clause-same c = (
  (λ no. absurd (let f : true ≡ false = no in cc)),
  (λ same.
      let kept = run_kept _ _ _ _ c.place_of-at.ensures c.requires.chain_in_range c.requires.cell c.requires.rising c.copy_run.new.out (omega arith) c.copy_run.ensures in
      let told = run_told _ _ _ _ c.place_of-at.ensures c.requires.chain_in_range c.requires.cell c.requires.rising c.args.bytes.now c.requires.fits _ c.has_run.ensures in
      let stood = told.1 (subst (AreKept (blocks_in c.args.pool.now c.args.chain.0) c.args.from) same kept) in
      let f : true ≡ false = sym stood ∙ c.if-has_run.false in
      cc),
)

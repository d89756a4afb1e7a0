use Rattle.std.proofs.Common.{is_some, true, false, sym, ap, ◌∙◌, ◌≡◌, arith}
use Rattle.retain_store.proofs.Cells.{is_held}
use Rattle.retain_store.proofs.Blocks.{cell_near, place_near}
use Rattle.retain_store.proofs.Parts.{covered_told, piece_missing}
use Rattle.retain_store.proofs.reads.covers_piece.Goals as goal

pub is_covered-requires-clause-held : goal.is_covered-requires-clause-held
is_covered-requires-clause-held c = is_held c.requires.chain_in_range c.in-Cell.ensures.at

pub returns-in-Cell-clause-covers : goal.returns-in-Cell-clause-covers
returns-in-Cell-clause-covers c = covered_told _ _ _ _ c.place_of.ensures c.requires.chain_in_range c.in-Cell.ensures c.requires.rising _ c.requires.fits _ c.is_covered.ensures

pub returns-in-Cell-clause-near : goal.returns-in-Cell-clause-near
returns-in-Cell-clause-near c = cell_near c.in-Cell.ensures

pub returns-in-After-clause-covers : goal.returns-in-After-clause-covers
returns-in-After-clause-covers c = (
  (λ so. absurd (let f : false ≡ true = so in cc)),
  (λ covers.
      let none = piece_missing _ c.requires.rising c.in-After.ensures 0 (omega arith) in
      let f : false ≡ true = sym (ap is_some none) ∙ covers 0 c.requires.some in
      cc),
)

pub returns-in-After-clause-near : goal.returns-in-After-clause-near
returns-in-After-clause-near c = place_near c.in-After.ensures

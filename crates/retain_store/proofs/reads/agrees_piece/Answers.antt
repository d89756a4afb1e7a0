use Rattle.std.proofs.Common.{refl, arith}
use Rattle.retain_store.proofs.Blocks.{cell_near, place_near}
use Rattle.retain_store.proofs.Parts.{none_agree, piece_missing}
use Rattle.retain_store.proofs.reads.agrees_piece.Goals as goal

pub returns-in-Cell-clause-near : goal.returns-in-Cell-clause-near
returns-in-Cell-clause-near c = cell_near c.in-Cell.ensures

pub returns-in-After-clause-agrees : goal.returns-in-After-clause-agrees
returns-in-After-clause-agrees c = (
  (λ so. none_agree _ _ _ (λ i lt. piece_missing _ c.requires.rising c.in-After.ensures i (omega arith))),
  (λ agrees. refl),
)

pub returns-in-After-clause-near : goal.returns-in-After-clause-near
returns-in-After-clause-near c = place_near c.in-After.ensures

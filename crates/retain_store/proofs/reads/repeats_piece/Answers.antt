use Rattle.retain_store.proofs.Blocks.{cell_near, place_near}
use Rattle.retain_store.proofs.reads.repeats_piece.Goals as goal

pub returns-in-Cell-clause-near : goal.returns-in-Cell-clause-near
returns-in-Cell-clause-near c = cell_near c.in-Cell.ensures

pub returns-in-After-clause-near : goal.returns-in-After-clause-near
returns-in-After-clause-near c = place_near c.in-After.ensures

use Rattle.std.proofs.Common.{◌≡◌, true, false, is_some, sym, ap, ◌∙◌, arith}
use Rattle.retain_store.proofs.Blocks.{cell_near}
use Rattle.retain_store.proofs.Parts.{held_covered, run_kept, piece_missing}
use Rattle.retain_store.proofs.reads.copy_piece.Goals as goal

pub unreachable-requires : goal.unreachable-requires
unreachable-requires c =
    let none = piece_missing _ c.requires.rising c.in-After.ensures 0 (omega arith) in
    let f : false ≡ true = sym (ap is_some none) ∙ c.requires.covered 0 c.requires.some in
    cc

pub copy_run-requires-clause-covered : goal.copy_run-requires-clause-covered
copy_run-requires-clause-covered c = held_covered _ _ _ _ c.place_of.ensures c.requires.chain_in_range c.in-Cell.ensures c.requires.rising _ c.requires.fits c.requires.covered

pub returns-clause-octets : goal.returns-clause-octets
returns-clause-octets c = run_kept _ _ _ _ c.place_of.ensures c.requires.chain_in_range c.in-Cell.ensures c.requires.rising c.copy_run.new.out (omega arith) c.copy_run.ensures

pub returns-clause-near : goal.returns-clause-near
returns-clause-near c = cell_near c.in-Cell.ensures

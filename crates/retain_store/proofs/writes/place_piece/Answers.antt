use Rattle.std.proofs.Common.{◌≡◌, true, false, inl, inr, refl, sym, ◌∙◌, arith}
use Rattle.std.proofs.lemmas.Bool.{cases_lt}
use Rattle.retain_store.proofs.Blocks.{holds_missing}
use Rattle.retain_store.proofs.Parts.{fresh_all, piece_missing}
use Rattle.retain_store.proofs.Segments.{places_found}
use Rattle.retain_store.proofs.writes.place_piece.Goals as goal

pub open_piece-cell-requires-clause-room : goal.open_piece-cell-requires-clause-room
open_piece-cell-requires-clause-room c = elim (cases_lt 0 c.args.pool.now.free) [
  | inl some ↦ some
  | inr none ↦ absurd (
      let held = c.requires.room (omega arith) in
      let unheld = holds_missing c.requires.kept.rising c.in-After.ensures in
      let f : true ≡ false = sym held ∙ unheld in
      cc)
]

pub returns-in-Cell-clause-placed : goal.returns-in-Cell-clause-placed
returns-in-Cell-clause-placed c = places_found _ c.requires.chain_in_range refl c.requires.some c.requires.fits c.requires.kept c.in-Cell.ensures c.fill-fresh.ensures.written

pub returns-in-After-clause-fresh : goal.returns-in-After-clause-fresh
returns-in-After-clause-fresh c = sym (fresh_all _ _ _ (λ i lt. piece_missing _ c.requires.kept.rising c.in-After.ensures i (omega arith)))

use Rattle.std.proofs.Common.{refl, arith}
use Rattle.retain_store.proofs.Cells.{is_held}
use Rattle.retain_store.proofs.Blocks.{opens_taken}
use Rattle.retain_store.proofs.Segments.{inside_then, places_taken}
use Rattle.retain_store.proofs.writes.open_piece.Goals as goal

pub unreachable-requires : goal.unreachable-requires
unreachable-requires c = let none = c.in_default.ensures.full.0 refl in absurd (omega (arith, none, c.requires.room))

pub set_run-requires-clause-held : goal.set_run-requires-clause-held
set_run-requires-clause-held c =
    let opens = opens_taken c.requires.chain_in_range c.requires.kept c.requires.place (λ none. omega (arith, none, c.requires.room)) c.in-Some.ensures.taken in
    is_held (inside_then c.requires.chain_in_range opens.changed) opens.at

pub returns : goal.returns
returns c = places_taken _ c.requires.chain_in_range c.place_of.ensures c.requires.some c.requires.fits c.requires.kept c.requires.place
    (λ none. omega (arith, none, c.requires.room)) c.in-Some.ensures.taken c.set_run.ensures

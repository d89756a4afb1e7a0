use Rattle.std.proofs.Common.{◌≡◌, ℕ, ◌+◌, ◌-◌, ◌/◌, ◌%◌, ◌⊎◌, inl, inr, length, take, drop, cond, ap, ap₂, subst, ◌∙◌, sym, arith, length-take-le}
use Rattle.std.proofs.lemmas.Bool.{cases_lt}
use Rattle.std.specs.List.{between}
use Rattle.std.proofs.lemmas.List.Edits.{length-between}
use Rattle.cell_pool.specs.ChainLists.{chain_at}
use Rattle.retain_store.specs.Maps.{Places, fresh, holds, missing}
use Rattle.retain_store.specs.working.BlockCells.{blocks_in}
use Rattle.retain_store.proofs.Parts.{fresh_most, fresh_same, fresh_then}
use Rattle.retain_store.proofs.Room.{first_held, missing_step}
use Rattle.retain_store.proofs.Segments.{placed_behind, places_then, pieces_join, changed_then}
use Rattle.retain_store.proofs.writes.place_all.Goals as goal

pub place_piece-fresh-requires-clause-room : goal.place_piece-fresh-requires-clause-room
place_piece-fresh-requires-clause-room c none = first_held _ (c.args.from + c.loop-done.done) (length c.args.bytes.now - c.loop-done.done) (omega arith) (omega arith)

pub overflow_add-count : goal.overflow_add-count
overflow_add-count c =
    let done = c.loop-done.done in
    omega (
      arith,
      c.loop-done.invariant.counted,
      c.place_piece-fresh.ensures.fresh,
      fresh_most (blocks_in c.args.pool.now c.args.chain.0) c.args.from done,
      fresh_most (blocks_in c.loop-done.pool c.args.chain.0) (c.args.from + done) (c.min-end.result - done),
    )

pub loop-done-preserved : goal.loop-done-preserved
loop-done-preserved c =
    let done = c.loop-done.done in
    let end = c.min-end.result in
    let at = c.args.from + done in
    let left = length c.args.bytes.now - done in
    let piece = c.place_piece-fresh.ensures.placed in
    let old = blocks_in c.args.pool.now c.args.chain.0 in
    let mid = blocks_in c.loop-done.pool c.args.chain.0 in
    let new = blocks_in c.place_piece-fresh.new.pool c.args.chain.0 in
    let ends : (end - done ≡ left) ⊎ (at % 256 + (end - done) ≡ 256) = elim (cases_lt end (length c.args.bytes.now)) [
      | inl part ↦ inr (omega arith)
      | inr all ↦ inl (omega arith)
    ] in
    let first : ℕ = cond (holds mid (at / 256)) 0 1 in
    let step = missing_step mid new at left (end - done) (omega arith) (omega arith) (omega arith) ends piece.held in
    let on : at + (end - done) ≡ c.args.from + end = omega arith in
    let over : left - (end - done) ≡ length c.args.bytes.now - end = omega arith in
    let step_on = step ∙ ap₂ (λ a l. first + missing new a l) on over in
    let front = take done c.args.bytes.now in
    let front_size = length-take-le done c.args.bytes.now c.loop-done.invariant.within in
    let same : fresh mid at (end - done) ≡ fresh old at (end - done) =
    fresh_same old mid at (end - done) (λ offset low. placed_behind old mid c.args.from front c.loop-done.invariant.octets offset (omega (arith, front_size))) in
    let size : length (between done end c.args.bytes.now) ≡ end - done = length-between c.args.bytes.now done end (omega arith) in
    let here : c.place_piece-fresh.result.1 ≡ fresh mid at (end - done) = c.place_piece-fresh.ensures.fresh ∙ ap (fresh mid at) size in
    let whole : done + (end - done) ≡ end = omega arith in
    let joined = pieces_join done end c.args.bytes.now (omega arith) in
    record {
      within = omega arith;
      near = piece.near;
      kept = piece.kept;
      changed = changed_then (chain_at c.place_piece-fresh.new.pool c.args.chain.0) c.place_piece-fresh.new.pool.free c.requires.chain_in_range
          c.loop-done.invariant.changed piece.changed.others piece.changed.cells;
      spent = omega (arith, step_on, piece.spent, c.loop-done.invariant.spent);
      octets = subst (λ l. Places old new c.args.from l) (sym joined)
          (places_then old mid new c.args.from done front (take (end - done) (drop done c.args.bytes.now))
          front_size c.loop-done.invariant.octets piece.octets);
      counted = subst (λ l. c.loop-done.count + c.place_piece-fresh.result.1 ≡ fresh old c.args.from l) whole
          (omega (arith, c.loop-done.invariant.counted, here, same, fresh_then old c.args.from done (end - done)));
    }

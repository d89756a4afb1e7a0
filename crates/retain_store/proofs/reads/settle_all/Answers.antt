use Rattle.std.proofs.Common.{◌≡◌, ◌↔◌, ◌||◌, ℕ, ◌+◌, ◌-◌, ◌<◌, ◌≤◌, false, length, get_or, subst, ◌∙◌, arith, unwrap_or}
use Rattle.std.proofs.lemmas.List.Edits.{length-between}
use borrow.Rule.Slice.PartMut.{put_mid}
use Rattle.cell_pool.proofs.Runs.{length-put}
use Rattle.retain_store.specs.Maps.{octet_at}
use Rattle.retain_store.specs.working.BlockCells.{blocks_in}
use Rattle.retain_store.proofs.Parts.{settled_then, left_then, same_then}
use Rattle.retain_store.proofs.reads.settle_all.Goals as goal

pub loop-done-preserved : goal.loop-done-preserved
loop-done-preserved c =
    let blocks = blocks_in c.args.pool.now c.args.chain.0 in
    let from = c.args.from in
    let done = c.loop-done.done in
    let size = c.piece_len.result in
    let bytes = c.loop-done.bytes in
    let new = c.settle_piece-differs.new.bytes in
    let start = c.args.bytes.now in
    let within : done + size ≤ length bytes = omega (arith, c.piece_len.ensures.within, c.loop-done.invariant.size) in
    let long : length new ≡ size = omega (arith, c.settle_piece-differs.auto.bytes, length-between bytes done (done + size) within) in
    let k_is : size ≡ done + size - done = omega arith in
    let so_far = c.loop-done.invariant in
    let ensures_ = c.settle_piece-differs.ensures in
    let changed = c.loop-done.changed in
    let differs = c.settle_piece-differs.result.0 in
    record {
      within = omega (arith, c.piece_len.ensures.within);
      size = subst (λ k. length (put_mid done k bytes new) ≡ length start) k_is (length-put done size bytes new long within ∙ so_far.size);
      near = ensures_.near;
      settled = subst (λ k. (i : ℕ) → i < done + size → get_or (put_mid done k bytes new) i 0 ≡ unwrap_or (octet_at blocks (from + i)) (get_or start i 0)) k_is
          (settled_then blocks from bytes done size new long within start so_far.left so_far.settled ensures_.settled);
      left = subst (λ k. (i : ℕ) → done + size ≤ i → get_or (put_mid done k bytes new) i 0 ≡ get_or start i 0) k_is
          (left_then blocks from bytes done size new long within start so_far.left);
      same = subst (λ k. ((changed || differs) ≡ false) ↔ (put_mid done k bytes new ≡ start)) k_is
          (same_then blocks from bytes done size new long within start so_far.left changed differs so_far.size so_far.same ensures_.same);
    }

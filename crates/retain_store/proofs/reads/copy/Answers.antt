use Rattle.std.proofs.Common.{◌≡◌, ℕ, ◌+◌, ◌-◌, ◌<◌, ◌≤◌, Some, length, get_or, subst, ◌∙◌, arith}
use Rattle.std.specs.List.{between}
use Rattle.std.proofs.lemmas.List.Edits.{length-between}
use borrow.Rule.Slice.PartMut.{put_mid}
use Rattle.cell_pool.proofs.Runs.{length-put}
use Rattle.retain_store.specs.Maps.{octet_at, Covers}
use Rattle.retain_store.specs.working.BlockCells.{blocks_in}
use Rattle.retain_store.proofs.Parts.{covers_part, copied_then}
use Rattle.retain_store.proofs.reads.copy.Goals as goal

pub copy_piece-near-requires-clause-covered : goal.copy_piece-near-requires-clause-covered
copy_piece-near-requires-clause-covered c =
    let blocks = blocks_in c.args.pool.now c.args.chain.0 in
    let done = c.loop-done.done in
    let size = c.piece_len.result in
    let within : done + size ≤ length c.loop-done.out = omega (arith, c.piece_len.ensures.within, c.loop-done.invariant.size) in
    let long : size ≡ length (between done (done + size) c.loop-done.out) = omega (arith, length-between c.loop-done.out done (done + size) within) in
    subst (λ n. Covers blocks (c.args.from + done) n) long
    (covers_part blocks c.args.from (length c.args.out.now) done size (omega (arith, c.loop-done.invariant.size)) c.requires.covered)

pub loop-done-preserved : goal.loop-done-preserved
loop-done-preserved c =
    let blocks = blocks_in c.args.pool.now c.args.chain.0 in
    let from = c.args.from in
    let done = c.loop-done.done in
    let size = c.piece_len.result in
    let out = c.loop-done.out in
    let new = c.copy_piece-near.new.out in
    let start = c.args.out.now in
    let within : done + size ≤ length out = omega (arith, c.piece_len.ensures.within, c.loop-done.invariant.size) in
    let long : length new ≡ size = omega (arith, c.copy_piece-near.auto.out, length-between out done (done + size) within) in
    let k_is : size ≡ done + size - done = omega arith in
    record {
      within = omega (arith, c.piece_len.ensures.within);
      size = subst (λ k. length (put_mid done k out new) ≡ length start) k_is (length-put done size out new long within ∙ c.loop-done.invariant.size);
      near = c.copy_piece-near.ensures.near;
      copied = subst (λ k. (i : ℕ) → i < done + size → octet_at blocks (from + i) ≡ Some (get_or (put_mid done k out new) i 0)) k_is
          (copied_then blocks from out done size new long within c.loop-done.invariant.copied c.copy_piece-near.ensures.octets);
    }

use Rattle.std.proofs.Common.{◌+◌, ℕ, List, [], get_or, take, subst, take_all}
use Rattle.cell_pool.specs.ChainLists.{Writes}
use Rattle.retain_store.specs.working.PoolChanges.{with_octet, with_octets}
use Rattle.retain_store.proofs.Cells.{writes_nothing, writes_then, held_on}
use Rattle.retain_store.proofs.Segments.{with_octets_none, with_octets_more}
use Rattle.retain_store.proofs.writes.fill_each.Goals as goal

pub loop-index-init : goal.loop-index-init
loop-index-init c = record {
  held = c.requires.held;
  written = writes_nothing c.args.pool.now c.args.cell (λ octets. with_octets octets c.args.at [])
      (λ octets. with_octets_none octets c.args.at);
}

pub loop-index-preserved : goal.loop-index-preserved
loop-index-preserved c =
    let at = c.args.at in
    let k = c.loop-index.index in
    let y = get_or c.args.piece.now k 0 in
    let add : Writes c.loop-index.pool c.add.new.pool c.args.cell (λ octets. with_octet octets (at + k) y) = c.add.ensures in
    record {
      held = held_on (λ octets. with_octet octets (at + k) y) c.loop-index.invariant.held add;
      written = writes_then (λ octets. with_octets octets at (take k c.args.piece.now)) (λ octets. with_octet octets (at + k) y)
          (λ octets. with_octets octets at (take (k + 1) c.args.piece.now)) c.loop-index.invariant.written add
          (λ octets. with_octets_more octets at c.args.piece.now k c.loop-index-test.true);
    }

pub returns : goal.returns
returns c = subst (λ (p : List ℕ). Writes c.args.pool.now c.loop-index.pool c.args.cell (λ octets. with_octets octets c.args.at p))
    (take_all c.loop-index.index c.args.piece.now c.loop-index-test.false) c.loop-index.invariant.written

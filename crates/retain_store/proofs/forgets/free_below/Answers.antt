use Rattle.std.proofs.Common.{◌<◌, length, sym, ap, ◌∙◌, arith}
use Rattle.cell_pool.specs.ChainLists.{chain_at}
use Rattle.retain_store.proofs.Segments.{inside_then, changed_then}
use Rattle.retain_store.proofs.Fronts.{first_below, has_first, rest_is, given_changed, given_kept, given_blocks, given_near, forgets_blocks}
use Rattle.retain_store.proofs.forgets.free_below.Goals as goal

pub give_back_after-requires-clause-chain_in_range : goal.give_back_after-requires-clause-chain_in_range
give_back_after-requires-clause-chain_in_range c = inside_then c.requires.chain_in_range c.loop-chain.invariant.changed

pub give_back_after-requires-clause-place : goal.give_back_after-requires-clause-place
give_back_after-requires-clause-place c =
    let first = first_below _ _ (sym c.begins_below.ensures ∙ c.loop-chain-test.true) in
    has_first first.cell first.rest first.splits

pub loop-chain-smaller : goal.loop-chain-smaller
loop-chain-smaller c =
    let inside = inside_then c.requires.chain_in_range c.loop-chain.invariant.changed in
    let first = first_below _ _ (sym c.begins_below.ensures ∙ c.loop-chain-test.true) in
    let rest = rest_is c.loop-chain.pool c.args.chain.0 first.cell first.rest inside first.splits c.give_back_after.ensures in
    let fewer : length (chain_at c.give_back_after.new.self c.args.chain.0) < length (chain_at c.loop-chain.pool c.args.chain.0) = omega (arith, ap length rest, ap length first.splits) in
    fewer

pub loop-chain-preserved : goal.loop-chain-preserved
loop-chain-preserved c =
    let inside = inside_then c.requires.chain_in_range c.loop-chain.invariant.changed in
    let first = first_below _ _ (sym c.begins_below.ensures ∙ c.loop-chain-test.true) in
    let old = c.loop-chain.pool in
    let chain = c.args.chain.0 in
    let gives = c.give_back_after.ensures in
    let changed = given_changed old chain first.cell first.rest inside first.splits gives in
    record {
      kept = given_kept old chain first.cell first.rest inside first.splits gives c.loop-chain.invariant.kept;
      changed = changed_then _ _ c.requires.chain_in_range c.loop-chain.invariant.changed changed.others changed.cells;
      near = λ near above. given_near old chain first.cell first.rest inside first.splits gives c.args.block
          (omega (arith, first.below)) near (c.loop-chain.invariant.near near above);
      left = λ n le. given_blocks old chain first.cell first.rest inside first.splits gives n
          (λ e. absurd (omega (arith, first.below))) ∙ c.loop-chain.invariant.left n le;
    }

pub returns-clause-forgets : goal.returns-clause-forgets
returns-clause-forgets c = record {
  kept = c.loop-chain.invariant.kept;
  changed = c.loop-chain.invariant.changed;
  near = c.loop-chain.invariant.near;
  octets = forgets_blocks _ (chain_at c.loop-chain.pool c.args.chain.0) c.args.block
      c.loop-chain.invariant.kept.rising (sym c.begins_below.ensures ∙ c.loop-chain-test.false) c.loop-chain.invariant.left;
}

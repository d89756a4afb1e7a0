use Rattle.std.proofs.Common.{◌≤◌, ◌/◌, not, refl, ap, arith, count_by}
use Rattle.retain_store.specs.Maps.{chain_of, holds, missing}
use Rattle.retain_store.proofs.Counts.{count_most}
use Rattle.retain_store.proofs.store.Retain.has_room.Goals as goal

pub returns-then-blocks_touched-free : goal.returns-then-blocks_touched-free
returns-then-blocks_touched-free c =
    let blocks = chain_of c.args.self.now c.args.chain.0 in
    let touched_most : missing blocks c.args.from c.args.len ≤ c.blocks_touched.result = omega (
      arith,
      ap (count_by (λ n. not (holds blocks n))) c.blocks_touched.ensures,
      count_most (λ n. not (holds blocks n)) (c.args.from / 256) c.blocks_touched.result,
    ) in
    ((λ yes. omega (arith, touched_most, c.if-blocks_touched-free.true)), (λ fits. refl))

use Rattle.std.proofs.Common.{◌≡◌, ◌+◌, ◌-◌, ◌*◌, get_or, subst, sym, arith}
use Rattle.cell_pool.specs.working.PackedOctets.{HasOnesBetween}
use Rattle.cell_pool.proofs.Runs.{edges, edge_ones}
use Rattle.cell_pool.proofs.octets.ones_below.Goals as goal

pub returns : goal.returns
returns c =
    let n = c.args.end - 64 * c.args.word in
    let i = 192 + c.args.end - 64 * c.args.word in
    let same : c.as_flattened.result.now ≡ edges = c.as_flattened.ensures.value in
    subst (λ l. HasOnesBetween 0 n (get_or l i 0)) (sym same) (edge_ones i n (omega arith) (omega arith))

use Rattle.std.proofs.Common.{◌-◌, ◌*◌, ◌^◌, ◌<◌, ◌∷◌, [], ℕ, List, get_or}
use Rattle.cell_pool.specs.working.PackedOctets.{HasOnesBetween}
use Rattle.cell_pool.proofs.Runs.{four, mask_of}
use Rattle.cell_pool.proofs.octets.mask.Goals as goal

pub returns : goal.returns
returns c =
    let words : List ℕ = c.ones_between.result ∷ c.ones_between-2.result ∷ c.ones_between-3.result ∷ c.ones_between-4.result ∷ [] in
    mask_of c.args.at c.args.end words
    (four (λ j. get_or words j 0 < 2 ^ 64) c.ones_between.type_inv c.ones_between-2.type_inv c.ones_between-3.type_inv c.ones_between-4.type_inv)
    (four (λ j. HasOnesBetween (c.args.at - 64 * j) (c.args.end - 64 * j) (get_or words j 0)) c.ones_between.ensures c.ones_between-2.ensures
    c.ones_between-3.ensures c.ones_between-4.ensures)

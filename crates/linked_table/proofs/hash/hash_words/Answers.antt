use Rattle.std.proofs.Common.{◌≡◌, arith}
use Rattle.linked_table.specs.Hashes.{point_of}
use Rattle.linked_table.proofs.Hashes.{hash_low, hash_high}
use Rattle.linked_table.proofs.hash.hash_words.Goals as goal

pub returns-then-outer-lt-PRIME : goal.returns-then-outer-lt-PRIME
returns-then-outer-lt-PRIME c =
    let point : c.from-point.result ≡ point_of c.args.seed = omega arith in
    hash_low _ _ _ c.ranges.seed.fits c.ranges.first.fits c.ranges.second.fits _ (cc) (omega arith)

pub returns-else-outer-lt-PRIME : goal.returns-else-outer-lt-PRIME
returns-else-outer-lt-PRIME c =
    let point : c.from-point.result ≡ point_of c.args.seed = omega arith in
    hash_high _ _ _ c.ranges.seed.fits c.ranges.first.fits c.ranges.second.fits _ (cc) (omega arith)

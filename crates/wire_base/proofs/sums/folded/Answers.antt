use Rattle.std.proofs.Common.{◌≡◌, ◌+◌, ◌/◌, ◌%◌, arith}
use Rattle.std.specs.Int.Bits.{bit_and}
use Rattle.std.proofs.lemmas.Nat.{and_mask}
use Rattle.wire_base.proofs.Octets.{CountsAs-carries}
use Rattle.wire_base.proofs.sums.folded.Goals as goal

pub returns-clause-alike : goal.returns-clause-alike
returns-clause-alike c =
    let low : bit_and c.args.sum 18446744073709551615 ≡ c.args.sum % 18446744073709551616 = and_mask c.args.sum 64 in
    let carried = c.args.sum / 18446744073709551616 + bit_and c.args.sum 18446744073709551615 in
    let rest : bit_and carried 4294967295 ≡ carried % 4294967296 = and_mask carried 32 in
    CountsAs-carries (c.args.sum / 18446744073709551616) (bit_and c.args.sum 18446744073709551615) (carried / 4294967296) (bit_and carried 4294967295) c.args.sum (omega (arith, low)) (omega (arith, rest))

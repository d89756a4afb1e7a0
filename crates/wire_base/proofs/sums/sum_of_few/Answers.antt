use Rattle.std.proofs.Common.{◌≡◌, ◌+◌, ◌∙◌, arith}
use Rattle.wire_base.specs.working.SumCounting.{eight_at}
use Rattle.wire_base.proofs.Octets.{CountsAs-all, CountsAs-last, CountsAs-trans, few_octets}
use Rattle.wire_base.proofs.sums.sum_of_few.Goals as goal

pub returns-else-is_empty-clause-alike : goal.returns-else-is_empty-clause-alike
returns-else-is_empty-clause-alike c =
    let octets = c.args.bytes.now in
    let number : c.from.result ≡ eight_at octets 0 = c.from.ensures ∙ c.read_uint.ensures ∙ few_octets octets c.requires in
    let begun : c.from.result ≡ 0 + eight_at octets 0 = omega (arith, number) in
    CountsAs-trans _ _ _ c.folded.ensures.alike (rw begun (CountsAs-last octets 0 _ 0 (omega arith) (CountsAs-all octets)))

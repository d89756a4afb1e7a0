use Rattle.std.proofs.Common.{length, ap, arith}
use Rattle.std.proofs.lemmas.Fmt.{decimal_nonempty}
use Rattle.rule_book.proofs.Entries.{is_none}
use Rattle.rule_book.proofs.found.octets_of.Goals as goal

pub returns-then-is_empty-clause-value : goal.returns-then-is_empty-clause-value
returns-then-is_empty-clause-value c octets small is =
    absurd (omega (arith, decimal_nonempty octets small, ap length is, is_none (length c.args.word.now) c.is_empty.result c.is_empty.ensures c.if-is_empty.true))

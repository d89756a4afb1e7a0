use Rattle.std.proofs.Common.{sym, ◌∙◌, subst}
use Rattle.run_audit.specs.declared.ledger.Ledger.{Ledger}
use Rattle.run_audit.specs.working.EraLedgers.{StandsFor, counted}
use Rattle.run_audit.proofs.Ledgers.{unacknowledging, reached_on, reset, opened}
use Rattle.run_audit.proofs.ledger.Ledger.acknowledge.Goals as goal

pub returns-then-not-ack : goal.returns-then-not-ack
returns-then-not-ack c ws w st is = unacknowledging c.args.self.now c.args.flags.0 c.args.number ws w st is (sym c.ack.ensures ∙ c.if-not-ack.true)

pub returns-in-Some : goal.returns-in-Some
returns-in-Some c ws w st is =
    let P : Ledger → Type 0 = λ l. StandsFor l (counted ws w) in
    subst P (sym c.reach.ensures) (reached_on c.args.self.now c.in-Some.base c.args.flags.0 c.args.number ws w st is (sym c.ack.ensures ∙ c.if-not-ack.false) c.in-Some.is)

pub returns-then-rst : goal.returns-then-rst
returns-then-rst c ws w st is = reset c.args.self.now c.args.flags.0 c.args.number ws w st is (sym c.ack.ensures ∙ c.if-not-ack.false) (sym c.rst.ensures ∙ c.if-rst.true) c.in_default.is

pub returns : goal.returns
returns c ws w st is =
    let P : Ledger → Type 0 = λ l. StandsFor l (counted ws w) in
    subst P (sym c.reach-2.ensures) (opened c.args.self.now c.args.flags.0 c.args.number ws w st is (sym c.ack.ensures ∙ c.if-not-ack.false) (sym c.rst.ensures ∙ c.if-rst.false) c.in_default.is)

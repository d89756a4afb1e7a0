use Rattle.std.proofs.Common.{◌||◌, None, Bool, sym, ap, ◌∙◌, arith}
use Rattle.run_audit.specs.working.KeptOctets.{some_stray}
use Rattle.run_audit.proofs.KeptOctets.{last_decides}
use Rattle.run_audit.proofs.octets.reaches.Goals as goal

pub returns-in-Some : goal.returns-in-Some
returns-in-Some c kept =
    last_decides kept c.args.end c.args.place.raised c.after.result.raised c.args.octets.now (omega (arith, c.after.ensures)) (omega (arith, c.after.ensures, c.in-Some.ensures))
    ∙ ap (λ (b : Bool). b || some_stray kept None c.args.place.raised c.args.octets.now) (sym c.is_past.ensures)

use Rattle.std.proofs.Common.{◌≡◌, false, cond, Option, None, Some, ◌∙◌, ap, ap₂, sym}
use Rattle.rule_book.specs.declared.rule.Rule.{Rule}
use Rattle.rule_book.specs.declared.rule.Rule.TheVariants.{FEnd, FClash}
use Rattle.reassembly.specs.DatagramFragments.{fragment_of}
use Rattle.reassembly.specs.RuleRows.{ends_otherwise, f_end, f_clash}
use Rattle.reassembly.proofs.odds.odds.Goals as goal

pub returns-clause-row : goal.returns-clause-row
returns-clause-row c ps keeps h =
    let p = fragment_of c.args.piece.now in
    let no_end : f_end ps p ≡ false = ap₂ (λ t r. ends_otherwise t r p) (sym h.total_is) (sym h.reach_is) ∙ (sym c.ends_otherwise-ends.ensures ∙ c.if-ends.false) in
    let no_clash : f_clash ps p ≡ false = sym (c.clashes-clash.ensures ps keeps) ∙ c.if-clash.false in
    sym (ap (λ b. cond {A = Option Rule} b (Some FEnd) (cond (f_clash ps p) (Some FClash) None)) no_end ∙ ap (λ b. cond {A = Option Rule} b (Some FClash) None) no_clash)

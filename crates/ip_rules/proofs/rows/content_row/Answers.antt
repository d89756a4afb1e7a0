use Rattle.std.proofs.Common.{sym, ap, ◌∙◌, ◌==◌, ◌||◌, not, None, Some, if◌then◌else◌}
use Rattle.ipv4_codec.specs.declared.header.Ipv4.{Ipv4}
use Rattle.ipv4_codec.specs.OptionFacts.{facts_of}
use Rattle.rule_book.specs.declared.rule.Rule.TheVariants as rules
use Rattle.ip_rules.proofs.Rules.{bad_options, read_options}
use Rattle.ip_rules.proofs.rows.content_row.Goals as goal

pub returns-in_default : goal.returns-in_default
returns-in_default c = bad_options c.args.packet.now c.in_default.field-0 (sym (ap facts_of c.options_of.ensures) ∙ sym c.options.ensures ∙ c.in_default.is)

pub returns-then-facts : goal.returns-then-facts
returns-then-facts c =
    sym (read_options c.args.packet.now c.in-Ok.facts c.is_known-known.result (sym (ap facts_of c.options_of.ensures) ∙ sym c.options.ensures ∙ c.in-Ok.is) (c.is_known-known.ensures ∙ ap (λ (h : Ipv4). (h.protocol == 1) || (h.protocol == 6) || (h.protocol == 17)) c.requires.fields)
    ∙ ap (λ route. if route then Some rules.IRoute else if not c.is_known-known.result then Some rules.PProto else None) c.if-facts.true)

pub returns-then-known : goal.returns-then-known
returns-then-known c =
    sym (read_options c.args.packet.now c.in-Ok.facts c.is_known-known.result (sym (ap facts_of c.options_of.ensures) ∙ sym c.options.ensures ∙ c.in-Ok.is) (c.is_known-known.ensures ∙ ap (λ (h : Ipv4). (h.protocol == 1) || (h.protocol == 6) || (h.protocol == 17)) c.requires.fields)
    ∙ ap (λ route. if route then Some rules.IRoute else if not c.is_known-known.result then Some rules.PProto else None) c.if-facts.false
    ∙ ap (λ known. if not known then Some rules.PProto else None) c.if-known.true)

pub returns : goal.returns
returns c =
    sym (read_options c.args.packet.now c.in-Ok.facts c.is_known-known.result (sym (ap facts_of c.options_of.ensures) ∙ sym c.options.ensures ∙ c.in-Ok.is) (c.is_known-known.ensures ∙ ap (λ (h : Ipv4). (h.protocol == 1) || (h.protocol == 6) || (h.protocol == 17)) c.requires.fields)
    ∙ ap (λ route. if route then Some rules.IRoute else if not c.is_known-known.result then Some rules.PProto else None) c.if-facts.false
    ∙ ap (λ known. if not known then Some rules.PProto else None) c.if-known.false)

use Rattle.std.proofs.Common.{sym, ap, ◌∙◌, refl, ◌||◌, ◌&&◌, nat_lt, nat_le, ◌++◌, Some}
use Rattle.ipv4_codec.specs.declared.header.Ipv4.{Ipv4}
use Rattle.ip_rules.specs.RuleRows.{is_inward}
use Rattle.ip_rules.specs.JudgedRecord.{where_holds}
use Rattle.rule_book.specs.declared.rule.Rule.TheVariants as rules
use Rattle.ip_rules.proofs.Rules.{piece_fixes, whole_fixes}
use Rattle.ip_rules.proofs.Datagrams.{inward_is}
use Rattle.ip_rules.proofs.rows.read_packet.Goals as goal

pub returns-then-is_fragment : goal.returns-then-is_fragment
returns-then-is_fragment c settings given same undropped side = (
  undropped,
  sym (ap (λ (h : Ipv4). h.more || nat_lt 0 h.offset) c.requires.fields) ∙ sym c.is_fragment.ensures ∙ c.if-is_fragment.true,
  record {
    side = side;
    head = c.requires.fields;
    frame = refl;
    payload = c.payload_of-packet.ensures;
    fixes = c.fill_fixes.ensures ∙ piece_fixes settings given c.args.octets.now;
  },
)

pub returns : goal.returns
returns c settings given same undropped side = (
  undropped,
  sym (ap (λ (h : Ipv4). h.more || nat_lt 0 h.offset) c.requires.fields) ∙ sym c.is_fragment.ensures ∙ c.if-is_fragment.false,
  record {
    side = side;
    head = c.requires.fields;
    frame = refl;
    payload = c.payload_of-packet.ensures;
    fixes =
        c.note.ensures ∙ ap (λ named. named ++ where_holds c.has_low_ttl-low.result rules.ITtl) c.fill_fixes.ensures
        ∙ whole_fixes settings given c.args.octets.now c.args.packet.now.head c.args.packet.now.side c.has_low_ttl-low.result c.requires.fields side
        (c.has_low_ttl-low.ensures ∙ ap (λ b. b && nat_le c.args.packet.now.head.ttl c.args.hops) (sym (inward_is c.args.packet.now.side))
        ∙ ap (λ hops. is_inward (Some c.args.packet.now.side) && nat_le c.args.packet.now.head.ttl hops) (sym same));
  },
)

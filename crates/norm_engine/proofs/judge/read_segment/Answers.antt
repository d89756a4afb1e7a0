-- The rules on the header of a segment are those of its faults, in the order in which these are
-- tested.
use Rattle.std.proofs.Common.{◌≡◌, ℕ, ◌≤◌, Bool, true, false, ◌&&◌, not, cond, length, Option, Some, None, Ok, Err, refl, sym, ap, ap₂, ◌∙◌, option_map, slice_range}
use Rattle.std.proofs.Math.Bool.{and_comm}
use Rattle.wire_base.specs.ParseResults.{value_or_fault}
use Rattle.wire_base.specs.Tcp as tcp
use Rattle.wire_base.specs.Options.{are_well_formed}
use Rattle.tcp_codec.specs.declared.header.Tcp.{Tcp}
use Rattle.tcp_codec.specs.declared.header.SumRule.{SumRule}
use Rattle.tcp_codec.specs.declared.header.TcpFault.{TcpFault}
use Rattle.tcp_codec.specs.declared.header.TcpFault.TheVariants as faults
use Rattle.tcp_codec.specs.HeaderFields.{is_judged, fields_of, fault_of, parsed}
use Rattle.rule_book.specs.declared.rule.Rule.{Rule}
use Rattle.norm_settings.specs.SettingValues.{PlainSettings, plain_settings}
use Rattle.ip_rules.specs.Datagrams.{Datagram, datagram_with}
use Rattle.dgram_rules.specs.RuleRows.{pseudo_of, is_offloaded}
use Rattle.norm_engine.specs.working.DatagramJudgment as judged
use Rattle.norm_engine.specs.RuleRows.{t_short, t_hlen, t_sum, t_flags, t_opt_bad}
use Rattle.norm_engine.specs.working.FirstRow.{segment_row}
use Rattle.norm_engine.specs.working.EngineAnswers.{rule_of, IsReadSegment}
use Rattle.norm_engine.proofs.judge.read_segment.Goals as goal

-- a fault and those tested after it are the rule of its test and those tested after it
then_rows : (a b : Bool) (fault : TcpFault) (others : Option TcpFault) (rows : Option Rule) → a ≡ b → option_map rule_of others ≡ rows
    → option_map rule_of (cond a (Some fault) others) ≡ cond b (Some (rule_of fault)) rows
then_rows true b fault others rows same rest = ap (λ t. cond t (Some (rule_of fault)) rows) same
then_rows false b fault others rows same rest = rest ∙ ap (λ t. cond t (Some (rule_of fault)) rows) same

row_by_fault : (settings : PlainSettings) (d : Datagram) (rule : SumRule) (pseudo : ℕ) → is_judged rule ≡ not (is_offloaded settings d) → pseudo ≡ pseudo_of d
    → option_map rule_of (fault_of rule pseudo d.octets) ≡ segment_row settings d
row_by_fault settings d rule pseudo judged summed =
    let sum : (is_judged rule && tcp.has_wrong_sum pseudo d.octets) ≡ t_sum settings d =
    and_comm (is_judged rule) (tcp.has_wrong_sum pseudo d.octets) ∙ ap₂ (λ n b. tcp.has_wrong_sum n d.octets && b) summed judged in
    then_rows (t_short d) (t_short d) faults.Short _ _ refl (then_rows (t_hlen d) (t_hlen d) faults.DataOffset _ _ refl
    (then_rows (is_judged rule && tcp.has_wrong_sum pseudo d.octets) (t_sum settings d) faults.Sum _ _ sum
    (then_rows (t_flags d) (t_flags d) faults.Flags _ _ refl (then_rows (t_opt_bad d) (t_opt_bad d) faults.Options None None refl refl))))

faultless : (fields head : Tcp) (fault : Option TcpFault) → value_or_fault fields fault ≡ Ok head → (option_map rule_of fault ≡ None) × (head ≡ fields)
faultless fields head None h = (refl, cc)
faultless fields head (Some fault) h = absurd (cc)

refused : (fields : Tcp) (fault : Option TcpFault) (told : TcpFault) → value_or_fault fields fault ≡ Err told → option_map rule_of fault ≡ Some (rule_of told)
refused fields None told h = absurd (cc)
refused fields (Some fault) told h = let same : fault ≡ told = cc in ap (λ f. Some (rule_of f)) same

-- the header of a segment is read if no rule on it holds
read_row : (settings : PlainSettings) (d : Datagram) (rule : SumRule) (pseudo : ℕ) (head : Tcp) → is_judged rule ≡ not (is_offloaded settings d) → pseudo ≡ pseudo_of d
    → parsed rule pseudo d.octets ≡ Ok head → (20 ≤ head.header) × (head.header ≤ 60) → head.header ≤ length d.octets → tcp.are_legal head.flags.0 ≡ true
    → are_well_formed (tcp.options d.octets) ≡ true → slice_range d.octets 20 head.header ≡ tcp.options d.octets → IsReadSegment settings d (judged.Segment head)
read_row settings d rule pseudo head sums summed read sizes inside legal formed area =
    let no = faultless (fields_of pseudo d.octets) head (fault_of rule pseudo d.octets) read in (
      sym (row_by_fault settings d rule pseudo sums summed) ∙ no.0,
      record {
        fields = no.1 ∙ ap (λ n. fields_of n d.octets) summed;
        whole = record { pseudo = pseudo; fields = no.1; least = sizes.0; most = sizes.1; inside = inside; legal = legal; formed = formed; area = area };
      },
    )

-- otherwise the first of them drops it
refused_row : (settings : PlainSettings) (d : Datagram) (rule : SumRule) (pseudo : ℕ) (told : TcpFault) → is_judged rule ≡ not (is_offloaded settings d) → pseudo ≡ pseudo_of d
    → parsed rule pseudo d.octets ≡ Err told → IsReadSegment settings d (judged.Drop (rule_of told))
refused_row settings d rule pseudo told sums summed read =
    sym (row_by_fault settings d rule pseudo sums summed) ∙ refused (fields_of pseudo d.octets) (fault_of rule pseudo d.octets) told read

pub returns-in-Ok : goal.returns-in-Ok
returns-in-Ok c = λ header.
    read_row (plain_settings c.args.settings.now) (datagram_with header c.args.packet.now) c.sum_rule-rule.result c.pseudo_sum-pseudo.result c.parse_into.new.head
    c.sum_rule-rule.ensures c.pseudo_sum-pseudo.ensures (sym c.in-Ok.ensures.exact)
    c.in-Ok.ensures.header c.in-Ok.ensures.inside c.in-Ok.ensures.flags c.in-Ok.ensures.options c.in-Ok.ensures.area

pub returns-in-Err : goal.returns-in-Err
returns-in-Err c = λ header.
    refused_row (plain_settings c.args.settings.now) (datagram_with header c.args.packet.now) c.sum_rule-rule.result c.pseudo_sum-pseudo.result c.in-Err.fault
    c.sum_rule-rule.ensures c.pseudo_sum-pseudo.ensures (sym c.in-Err.ensures.exact)
    ∙ ap Some (sym c.rule_of.ensures)

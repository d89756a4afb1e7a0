use Rattle.std.proofs.Common.{◌≡◌, ℕ, ◌==◌, ◌&&◌, not, true, List, length, drop, Option, Some, None, Ok, refl, sym, ap, ◌∙◌}
use Rattle.std.proofs.lemmas.Bool.{eqb-true, not-true, and_parts}
use Rattle.wire_base.specs.ParseResults.{value_or_fault}
use Rattle.wire_base.specs.Ipv4 as ip
use Rattle.ipv4_codec.specs.declared.header.Ipv4.{Ipv4}
use Rattle.ipv4_codec.specs.declared.header.IpFault.{IpFault}
use Rattle.ipv4_codec.specs.HeaderFields as ip_header
use Rattle.tcp_codec.specs.declared.header.SumRule.TheVariants.{Skip}
use Rattle.tcp_codec.specs.HeaderFields as tcp_header
use Rattle.emit_mtu.specs.FrameParts.{IsWhole}
use Rattle.emit_mtu.proofs.Frames.{payload_is, not_one}
use Rattle.rule_tests.proofs.cuts.is_whole.Goals as goal

accepted : (fields head : Ipv4) (fault : Option IpFault) → Ok head ≡ value_or_fault fields fault → (head ≡ fields) × (fault ≡ None)
accepted fields head None e = (cc, refl)
accepted fields head (Some f) e = cc

whole_by : (p : List ℕ) (head : Ipv4) → Ok head ≡ ip_header.parsed p → ((head.header == 20) && not head.more && (head.offset == 0) && (head.total == length p)) ≡ true → (head.protocol ≡ 6 → tcp_header.fault_of Skip 0 (drop 20 p) ≡ None) → IsWhole p
whole_by p head read single segment =
    let fields = accepted (ip_header.fields_of p) head (ip_header.fault_of p) read in
    let a = and_parts _ _ single in
    let b = and_parts _ _ a.0 in
    let d = and_parts _ _ b.0 in
    let header : ip.header_length p ≡ 20 = ap (λ (h : Ipv4). h.header) (sym fields.0) ∙ eqb-true _ _ d.0 in
    let ends : ip.total_length p ≡ length p = ap (λ (h : Ipv4). h.total) (sym fields.0) ∙ eqb-true _ _ a.1 in
    record {
      header = header;
      whole = not_one _ _ (ap (λ (h : Ipv4). h.more) (sym fields.0) ∙ not-true _ d.1) (ap (λ (h : Ipv4). h.offset) (sym fields.0) ∙ eqb-true _ _ b.1);
      ends = ends;
      datagram = fields.1;
      segment = λ six. ap (tcp_header.fault_of Skip 0) (payload_is p header ends) ∙ segment (ap (λ (h : Ipv4). h.protocol) fields.0 ∙ six);
    }

pub returns-then-is_single : goal.returns-then-is_single
returns-then-is_single c held = whole_by c.args.packet.now c.in-Ok.head c.in-Ok.ensures.exact (sym c.is_single.ensures ∙ c.if-is_single.true) (c.is_segment.ensures held)

use Rattle.std.proofs.Common.{◌≡◌, ℕ, ◌+◌, ◌-◌, ◌==◌, ◌&&◌, ◌≤◌, List, take, drop, Option, Some, None, Bool, true, false, refl, sym, ap, ap₂, ◌∙◌, arith, rules, Ok, Err, is_ok}
use Rattle.std.proofs.lemmas.List.{drop-take}
use Rattle.wire_base.specs.ParseResults.{value_or_fault}
use Rattle.wire_base.specs.Ipv4 as ip
use Rattle.wire_base.specs.Tcp as tcp
use Rattle.ipv4_codec.specs.HeaderFields as header
use Rattle.ipv4_codec.specs.declared.header.Ipv4.{Ipv4}
use Rattle.ipv4_codec.specs.declared.header.IpFault.{IpFault}
use Rattle.tcp_codec.specs.HeaderFields as segment
use Rattle.tcp_codec.specs.declared.header.Tcp.{Tcp}
use Rattle.tcp_codec.specs.declared.header.TcpFault.{TcpFault}
use Rattle.tcp_codec.specs.declared.header.SumRule.TheVariants.{Skip}
use Rattle.run_audit.specs.FrameFaults.{is_segment}
use Rattle.run_audit.specs.working.OutwardFields.{IsSegment}
use Rattle.run_audit.proofs.frame.segment_in.Goals as goal

-- The fields that the codecs read from a packet that went outwards.

-- a header that was read has the packet's fields
fields_read : (p : List ℕ) (head : Ipv4) → header.parsed p ≡ Ok head → head ≡ header.fields_of p
fields_read p head e = by (header.fault_of p) e
  where
    by : (f : Option IpFault) → value_or_fault (header.fields_of p) f ≡ Ok head → head ≡ header.fields_of p
    by None e = cc e
    by (Some f) e = absurd (cc e)

head_read : (m : List ℕ) (head : Tcp) → segment.parsed Skip 0 m ≡ Ok head → head ≡ segment.fields_of 0 m
head_read m head e = by (segment.fault_of Skip 0 m) e
  where
    by : (f : Option TcpFault) → value_or_fault (segment.fields_of 0 m) f ≡ Ok head → head ≡ segment.fields_of 0 m
    by None e = cc e
    by (Some f) e = absurd (cc e)

pub segment_read : (p m : List ℕ) (h : Ipv4) (head : Tcp) → header.parsed p ≡ Ok h → h.protocol ≡ 6 → m ≡ ip.payload p → segment.parsed Skip 0 m ≡ Ok head → IsSegment p head
segment_read p m h head read six whole told = record {
  is = ap₂ (λ (a b : Bool). a && b && is_ok (segment.parsed Skip 0 (ip.payload p))) (ap is_ok read) tcp_is ∙ ap is_ok (ap (segment.parsed Skip 0) (sym whole) ∙ told);
  protocol = protocol_is;
  flags_are = ap (λ (t : Tcp). t.flags.0) (head_read m head told) ∙ ap tcp.flags whole;
  number_is = ap (λ (t : Tcp). t.ack) (head_read m head told) ∙ ap tcp.acknowledgment whole;
}
  where
    protocol_is : ip.protocol p ≡ 6
    protocol_is = sym (ap (λ (i : Ipv4). i.protocol) (fields_read p h read)) ∙ six

    tcp_is : (ip.protocol p == 6) ≡ true
    tcp_is = ap (λ n. n == 6) protocol_is

pub segment_refused : (p m : List ℕ) (h : Ipv4) (fault : TcpFault) → header.parsed p ≡ Ok h → m ≡ ip.payload p → segment.parsed Skip 0 m ≡ Err fault → is_segment p ≡ false
segment_refused p m h fault read whole told =
    ap (λ (b : Bool). is_ok (header.parsed p) && (ip.protocol p == 6) && b) (ap is_ok (ap (segment.parsed Skip 0) (sym whole) ∙ told))
    ∙ last (is_ok (header.parsed p)) (ip.protocol p == 6)
  where
    last : (a b : Bool) → (a && b && false) ≡ false
    last true true = refl
    last true false = refl
    last false b = refl

-- the octets between the header's end and the total length
pub payload_read : (p : List ℕ) (h : Ipv4) (total : ℕ) → header.parsed p ≡ Ok h → h.header ≤ h.total → total ≡ h.total → take (total - h.header) (drop h.header p) ≡ ip.payload p
payload_read p h total read order is =
    let whole : h.header + (total - h.header) ≡ h.total = omega (arith, order, is) in
    sym (drop-take h.header (total - h.header) p)
    ∙ ap (λ n. drop h.header (take n p)) whole
    ∙ ap (λ (i : Ipv4). drop i.header (take i.total p)) (fields_read p h read)

pub returns-in-Ok-parse-clause-some : goal.returns-in-Ok-parse-clause-some
returns-in-Ok-parse-clause-some c =
    let read = sym c.parse.ensures.exact ∙ c.in-Ok.is in
    segment_read c.args.packet.now _ c.in-Ok.head c.in-Ok-parse.head read (search rules) (payload_read c.args.packet.now c.in-Ok.head c.from.result read c.in-Ok.ensures.total.0 c.from.ensures) (sym c.parse-2.ensures.exact ∙ c.in-Ok-parse.is)

pub returns-in-Err-clause-none : goal.returns-in-Err-clause-none
returns-in-Err-clause-none c =
    let read = sym c.parse.ensures.exact ∙ c.in-Ok.is in
    segment_refused c.args.packet.now _ c.in-Ok.head c.in-Err.field-0 read (payload_read c.args.packet.now c.in-Ok.head c.from.result read c.in-Ok.ensures.total.0 c.from.ensures) (sym c.parse-2.ensures.exact ∙ c.in-Err.is)

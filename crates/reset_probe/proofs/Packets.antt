-- The packet of a probe: its two parts in one buffer, and what is read of it again.
use Rattle.std.proofs.Common.{◌≡◌, ℕ, ◌+◌, List, ◌++◌, length, drop, arith, ◌^◌, ◌<◌, inl, inr, refl, ap, ◌∙◌}
use Rattle.std.proofs.lemmas.Grind.{common_steps}
use Rattle.wire_base.specs.Checksums.{pseudo_sum, sum_is_right}
use Rattle.wire_base.specs.Plain.{IsPlainTcp, pseudo_of}
use Rattle.ipv4_codec.specs.declared.header.Ipv4.{Ipv4}
use Rattle.ipv4_codec.proofs.PlainHeaders.{header-plain}
use Rattle.tcp_codec.specs.WrittenSegment as write
use Rattle.tcp_codec.proofs.Segments.{sum-written}
use Rattle.era_state.specs.declared.probe.Probe.{Probe}
use Rattle.wire_base.proofs.Octets.{four-octets}
use Rattle.reset_probe.specs.ProbePackets.{ProbesArePlain, probe_octets, probe_segment}

-- Two parts of a buffer, each written from its start.

-- the first part is filled, and the octets after those written to the second part stay
pub joined : (a b : ℕ) (h m front back all x y : List ℕ) → length front ≡ a → back ≡ drop a all → x ≡ h ++ drop a front → y ≡ m ++ drop b back → x ++ y ≡ (h ++ m) ++ drop (a + b) all
joined a b h m front back all x y full behind first second = grind (arith, common_steps)

-- The packet of a probe, read again.

-- the addresses are those of the segment, so the sum of the pseudo-header is the same
pseudo : (head : Ipv4) (source_port destination_port : ℕ) (probe : Probe) → head.src.0 < 2 ^ 32 → head.dst.0 < 2 ^ 32 → head.protocol ≡ 6 → pseudo_of (probe_octets head source_port destination_port probe) ≡ write.pseudo_of (probe_segment head source_port destination_port probe)
pseudo head source_port destination_port probe source destination tcp =
    λ i. pseudo_sum (four-octets head.src.0 source i) (four-octets head.dst.0 destination i) (tcp i) 20

tcp-plain : (head : Ipv4) (source_port destination_port : ℕ) (probe : Probe) → head.src.0 < 2 ^ 32 → head.dst.0 < 2 ^ 32 → head.protocol ≡ 6 → IsPlainTcp (probe_octets head source_port destination_port probe)
tcp-plain head source_port destination_port probe source destination tcp =
    let s = probe_segment head source_port destination_port probe in
    record {
      whole_header = omega arith;
      data_offset = omega arith;
      inside = omega arith;
      sum = ap (sum_is_right (write.segment_octets s)) (pseudo head source_port destination_port probe source destination tcp) ∙ sum-written s;
      flags = refl;
      reserved = refl;
      urgent = refl;
      pointer = refl;
      options = refl;
      kept = refl;
      bare = λ marked. refl;
    }

pub probes_are_plain : ProbesArePlain
probes_are_plain head source_port destination_port probe source destination protocol hops reaches = record {
  header = header-plain head (write.segment_octets (probe_segment head source_port destination_port probe)) (omega arith);
  passes = reaches;
  message = record {
    protocol = inr (inl protocol);
    icmp = λ f. absurd (omega (arith, protocol, f));
    tcp = λ f. tcp-plain head source_port destination_port probe source destination protocol;
    udp = λ f. absurd (omega (arith, protocol, f));
  };
}

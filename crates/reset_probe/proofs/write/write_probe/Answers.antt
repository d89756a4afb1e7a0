use Rattle.std.proofs.Common.{rules, ◌≡◌, ◌++◌, length, ap, ◌∙◌, drop, arith}
use Rattle.ipv4_codec.specs.WrittenHeader.{plain_header}
use Rattle.tcp_codec.specs.WrittenSegment.{segment_octets}
use Rattle.reset_probe.specs.ProbePackets.{probe_segment}
use Rattle.reset_probe.proofs.Packets.{joined, probes_are_plain}
use Rattle.reset_probe.proofs.write.write_probe.Goals as goal

pub returns-clause-exact : goal.returns-clause-exact
returns-clause-exact c =
    let front = c.split_at_mut-header.result.0.now in
    let back = c.split_at_mut-header.result.1.now in
    let header = plain_header c.args.head.now 20 in
    let segment = segment_octets (probe_segment c.args.head.now c.args.sport c.args.dport c.args.probe.now) in
    let options : length c.probe_parts-parts.result.options.items ≡ 0 = ap length c.probe_parts-parts.ensures.options in
    let size : c.write_segment.result ≡ 20 = omega (arith, options, c.write_segment.ensures.size) in
    let written : c.write_segment.new.buf ≡ segment ++ drop 20 back = c.write_segment.ensures.exact ∙ (λ i. segment_octets (c.probe_parts-parts.ensures.segment i) ++ drop (size i) back) in
    joined 20 20 header segment front back c.args.buf.now c.write_plain-size.new.buf c.write_segment.new.buf c.split_at_mut-header.ensures.front_len c.split_at_mut-header.ensures.back c.write_plain-size.ensures.exact written

pub returns-clause-plain : goal.returns-clause-plain
returns-clause-plain c hops protocol = probes_are_plain c.args.head.now c.args.sport c.args.dport c.args.probe.now (search rules) (search rules) protocol hops

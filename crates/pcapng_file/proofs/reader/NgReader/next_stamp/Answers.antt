use Rattle.std.proofs.Common.{rules, refl}
use Rattle.std.proofs.lemmas.Result.{err_from_is_err_and}
use Rattle.pcapng_file.proofs.BlockReads.{between_none, none_before, stops_behind, ends_behind, packet_behind, passed_behind, no_packet}
use Rattle.pcapng_file.proofs.reader.NgReader.next_stamp.Goals as goal

pub loop-found-init : goal.loop-found-init
loop-found-init g c = record { passed = between_none _ _; room = search rules; counted = refl }

pub returns-in_err-found-clause-octets : goal.returns-in_err-found-clause-octets
returns-in_err-found-clause-octets g c =
    let p = err_from_is_err_and c.from_residual.result c.from_residual.ensures.1 in
    let here = none_before (g.S.Source.left c.loop-found.source) in
    rw (p.1, p.2) (stops_behind _ _ _ _ _ _ c.loop-found.invariant.passed _ (rw here at c.in_err-found.ensures.octets))

pub returns-in-Packet-clause-octets : goal.returns-in-Packet-clause-octets
returns-in-Packet-clause-octets g c =
    let here = none_before (g.S.Source.left c.loop-found.source) in
    let looked = rw (c.in-Some.is, here) at c.in_ok-found.ensures.octets in
    let packet = rw (c.in-Packet.is) at looked in
    packet_behind _ _ _ _ _ _ c.loop-found.invariant.passed _ c.in-Packet.stamp packet

pub loop-found-preserved : goal.loop-found-preserved
loop-found-preserved g c =
    let here = none_before (g.S.Source.left c.loop-found.source) in
    let looked = rw (c.in-Some.is, here) at c.in_ok-found.ensures.octets in
    record {
      passed = passed_behind _ _ _ _ _ _ c.loop-found.invariant.passed _ c.in-Some.found (no_packet _ c.in_default-found.not-Packet) looked;
      room = search rules;
      counted = search rules;
    }

pub returns-clause-octets : goal.returns-clause-octets
returns-clause-octets g c =
    let here = none_before (g.S.Source.left c.loop-found.source) in
    let looked = rw (c.in_default.is, here) at c.in_ok-found.ensures.octets in
    ends_behind _ _ _ _ _ _ c.loop-found.invariant.passed looked

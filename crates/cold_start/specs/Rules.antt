-- Conditions of rules on a segment without a live era (this project's profile), and the probe of
-- its host. None of them reads the octets.
use Rattle.std.specs.Prelude.{◌&&◌, ◌||◌, not, Bool}
use Rattle.wire_base.specs.Tcp as tcp
use Rattle.wire_base.specs.Segments.{Written}
use Rattle.era_state.specs.declared.probe.Probe.{Probe}
use Rattle.era_state.specs.Offsets.{number_before}
use Rattle.era_state.specs.SegmentMarks.{acknowledges, is_inbound_syn}

-- T_COLD: an inbound segment has RST, or SYN with ACK
abbrev pub t_cold : Written → Bool
t_cold w = w.inward && (tcp.has_rst w.flags || (tcp.has_syn w.flags && tcp.has_ack w.flags))

-- an inbound segment begins an era: the outside opens a connection, by a SYN without ACK
abbrev pub is_call : Written → Bool
is_call w = is_inbound_syn w && not (tcp.has_ack w.flags)

-- C_PROBE without a live era: an inbound segment has neither SYN nor RST
abbrev pub is_asked : Written → Bool
is_asked w = w.inward && not (tcp.has_syn w.flags) && not (tcp.has_rst w.flags)

-- an outbound segment begins an era and fixes its base: it has ACK and no RST
abbrev pub begins_warm : Written → Bool
begins_warm w = acknowledges w && not (tcp.has_rst w.flags)

-- The cold probe finds out whether a host holds the connection of an inbound segment. A host that
-- holds it answers a number below the one that it awaits with an ACK, and any other host with a RST
-- (RFC 9293 sections 3.10.7.4 and 3.10.7.1).
abbrev pub cold_probe_of : Written → Probe
cold_probe_of w = record { seq = number_before w.seq; ack = w.ack; window = w.window }

-- The probe of a host about an inbound segment of a live era (this project's profile): `ws` are the
-- segments written of the era so far, `w` is the segment. The probe does not depend on its octets.
use Rattle.std.specs.Prelude.{ℕ, ◌+◌, List, Option, Some, None, if◌then◌else◌}
use Rattle.wire_base.specs.Segments.{Written}
use Rattle.era_state.specs.declared.probe.Probe.{Probe}
use Rattle.era_state.specs.Offsets.{number_before}
use Rattle.era_state.specs.Quantities.{base_at, acked, out}
use Rattle.era_state.specs.States.{state_of, is_called}

-- the number that the host awaits, modulo 2^32: the one after all that it acknowledged, or the
-- segment's own in a Called era
abbrev pub awaited_number : List Written → Written → ℕ
awaited_number ws w = if is_called (state_of ws) then w.seq else base_at ws + acked (base_at ws) ws

-- the probe one below a number, with this acknowledgment and the segment's window
abbrev pub probe_before : (number acknowledgment : ℕ) → Written → Probe
probe_before number acknowledgment w = record { seq = number_before number; ack = acknowledgment; window = w.window }

-- the probe that acknowledges what the host sent, or none if it sent nothing
abbrev pub probe_with : (number : ℕ) → (out : Option ℕ) → Written → Option Probe
probe_with number None w = None
probe_with number (Some out) w = Some (probe_before number out w)

-- The era probe finds out whether a host still holds the connection. A host that holds it answers a
-- number below the one that it awaits with an ACK, and any other host with a RST (RFC 9293 sections
-- 3.10.7.4 and 3.10.7.1).
abbrev pub era_probe : List Written → Written → Option Probe
era_probe ws w = probe_with (awaited_number ws w) (out ws) w

-- A segment's fields as a written segment.
use Rattle.std.specs.Prelude.{ℕ, true, false, List, []}
use Rattle.wire_base.specs.Segments.{Written}
use Rattle.era_state.specs.declared.segment.Seg.{Seg}

-- written outwards with these octets
abbrev pub sent : Seg → List ℕ → Written
sent s octets = record { inward = false; seq = s.seq; ack = s.ack; flags = s.flags.0; window = s.window; scale = s.scale; octets = octets }

-- as received from outside with these octets
abbrev pub received : Seg → List ℕ → Written
received s octets = record (sent s octets) { inward = true }

-- a SYN as it is written inwards: without octets
abbrev pub came : Seg → Written
came s = received s []

-- The datagram that fragments make, if they complete it (RFC 791 section 3.2).
use Rattle.std.specs.Prelude.{ℕ, ◌==◌, Option, Some, None, if◌then◌else◌}
use Rattle.reassembly.specs.declared.piece.Front.{Front}
use Rattle.reassembly.specs.declared.piece.Whole.{Whole}
use Rattle.reassembly.specs.DatagramFragments.{whole_with}

-- the complete datagram, if its total is known and as many octets are held
abbrev pub whole_if : Option ℕ → (filled : ℕ) → Option Front → Option Whole
whole_if None filled front = None
whole_if (Some total) filled front = if filled == total then Some (whole_with (Some total) front) else None

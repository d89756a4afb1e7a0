-- What becomes of an inbound datagram of a connection that has no live era.
use Rattle.std.specs.Prelude.{◌≡◌, ℕ, ◌&&◌, not, Bool, true, [], None}
use Rattle.wire_base.specs.Tcp as tcp
use Rattle.tcp_norm.specs.Calls.{Outcome, is_written}

-- an outcome of which no era hears
pub record IsUnheard (o : Outcome) : Type 0 where
  pub era : is_written o.verdict ≡ true → o.era ≡ None
  pub begun : o.begun ≡ None
  pub ended : o.ended ≡ []

-- flags of a segment by which the outside opens a connection: SYN, and neither ACK nor RST
abbrev pub are_of_call : (flags : ℕ) → Bool
are_of_call flags = (tcp.has_syn flags && not (tcp.has_ack flags)) && not (tcp.has_rst flags)

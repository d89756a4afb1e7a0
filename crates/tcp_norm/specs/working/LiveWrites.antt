-- An outcome that writes in a live era alone.
use Rattle.std.specs.Prelude.{◌≡◌, ℕ, true, List, [], Some, None, map}
use Rattle.wire_base.specs.Segments.{Written}
use Rattle.ip_rules.specs.Datagrams.{Datagram, goes_in}
use Rattle.tcp_norm.specs.Calls.{Outcome, read, is_written}

-- an outcome that writes these segments in the live era of this number, and begins and ends none
pub record WritesAll (d : Datagram) (number : ℕ) (ws : List Written) (o : Outcome) : Type 0 where
  pub written : is_written o.verdict ≡ true
  pub era_is : o.era ≡ Some number
  pub begun_is : o.begun ≡ None
  pub ended_are : o.ended ≡ []
  pub packets_are : map (λ p. read (goes_in d.side) p.octets) o.packets ≡ ws

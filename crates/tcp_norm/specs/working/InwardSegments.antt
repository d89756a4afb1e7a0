-- What goes inwards of a datagram, and what its record's entry says.
use Rattle.std.specs.Prelude.{ℕ, true, List, [], ◌++◌}
use Rattle.wire_base.specs.Tcp as tcp
use Rattle.wire_base.specs.Options.{cleaned, scale_of}
use Rattle.wire_base.specs.Segments.{Written}
use Rattle.rule_book.specs.declared.rule.Rule.{Rule}
use Rattle.rule_book.specs.declared.rule.Rule.TheVariants as rules
use Rattle.ip_rules.specs.JudgedRecord.{where_holds}
use Rattle.tcp_norm.specs.declared.step.Step.{Step}
use Rattle.ip_rules.specs.Datagrams.{Packet}
use Rattle.tcp_norm.specs.Calls.{Outcome}
use Rattle.tcp_norm.specs.EmittedPackets.{flags_cleared}
use Rattle.tcp_norm.specs.Outcomes.{verdict_of}
use Rattle.tcp_norm.specs.working.EraSteps.{listed}

-- what goes inwards of a SYN or a RST of these octets
abbrev pub bare_read : List ℕ → Written
bare_read m =
    record {
      inward = true;
      seq = tcp.sequence m;
      ack = tcp.acknowledgment m;
      flags = flags_cleared (tcp.flags m);
      window = tcp.window m;
      scale = scale_of (cleaned (tcp.has_syn (tcp.flags m)) (tcp.options m));
      octets = [];
    }

-- the outcome of a datagram that no rule drops, by what it does to the eras, the rules on its
-- header and on its segment, and its packets
abbrev pub passed : Step → (fixes mended : List Rule) → List Packet → Outcome
passed s fixes mended packets =
    record { verdict = verdict_of (fixes ++ mended); rules = where_holds s.full rules.TFull ++ fixes ++ mended; era = s.era; begun = s.begun; ended = listed s.ended; packets = packets }

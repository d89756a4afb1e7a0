-- Worked examples: a connection that opens and brings octets, a clash, a reset with its probe, a
-- reset that is dropped, and one that ends an era.
use Rattle.std.specs.Prelude.{◌≡◌, ℕ, true, false, List, [], ◌∷◌, map, Some, None}
use Rattle.rule_book.specs.declared.entry.Reason.TheVariants as reasons
use Rattle.ip_rules.specs.Datagrams.{Datagram, anew}
use Rattle.wire_base.specs.declared.address.Side.TheVariants.{Inward, Outward}
use Rattle.wire_base.specs.Segments.{Segment}
use Rattle.ipv4_codec.specs.declared.header.Ipv4.{Ipv4}
use Rattle.tcp_codec.specs.WrittenSegment.{segment_octets}
use Rattle.rule_book.specs.declared.rule.Rule.TheVariants as rules
use Rattle.rule_book.specs.declared.entry.Verdict.TheVariants as verdicts
use Rattle.norm_settings.specs.SettingValues.{standard}
use Rattle.tcp_norm.specs.Calls.{Call, Outcome, read}
use Rattle.tcp_norm.specs.RuleViews.{view_of}
use Rattle.tcp_norm.specs.Outcomes.{call_of, outcome_at}

abbrev pub head : (source destination : ℕ) → Ipv4
head source destination =
    record { header = 20; tos = 0; total = 0; ident = 1; reserved = false; df = false; more = false; offset = 0; ttl = 64; protocol = 6; sum = 0; src = record { 0 = source }; dst = record { 0 = destination } }

abbrev pub parts : (source destination source_port destination_port flags sequence acknowledgment : ℕ) → List ℕ → Segment
parts source destination source_port destination_port flags sequence acknowledgment octets =
    record { source = source; destination = destination; source_port = source_port; destination_port = destination_port; sequence = sequence; acknowledgment = acknowledgment; flags = flags; window = 8192; options = []; octets = octets }

abbrev pub came_in : (flags sequence acknowledgment : ℕ) → List ℕ → Datagram
came_in flags sequence acknowledgment octets =
    record { side = Inward; head = head 3325256711 167772161; header = []; octets = segment_octets (parts 3325256711 167772161 40000 80 flags sequence acknowledgment octets); fixes = [] }

abbrev pub went_out : (flags sequence acknowledgment : ℕ) → List ℕ → Datagram
went_out flags sequence acknowledgment octets =
    record { side = Outward; head = head 167772161 3325256711; header = []; octets = segment_octets (parts 167772161 3325256711 80 40000 flags sequence acknowledgment octets); fixes = [] }

-- the calls of these datagrams, the newest first, all at the time 0
abbrev pub ran : List Datagram → List Call
ran [] = []
ran (d ∷ ds) = call_of (standard []) (ran ds) 0 d ∷ ran ds

abbrev pub became : List Datagram → Datagram → Outcome
became ds d = outcome_at (standard []) (view_of (standard []) (ran ds) d) d

abbrev pub opening : List Datagram
opening = came_in 16 1000 5001 [] ∷ went_out 18 5000 1000 [] ∷ came_in 2 999 0 [] ∷ []

-- what becomes of each
pub record WorkedRows : Type 0 where
  -- the first datagram of a connection begins its first era
  pub first_call : (became [] (came_in 2 999 0 [])).begun ≡ Some 1
  -- the third passes as it arrived, in that era
  pub third_call : became (went_out 18 5000 1000 [] ∷ came_in 2 999 0 [] ∷ []) (came_in 16 1000 5001 [])
      ≡ record {
        verdict = verdicts.Pass;
        rules = [];
        era = Some 1;
        begun = None;
        ended = [];
        packets = record { header = []; octets = (came_in 16 1000 5001 []).octets } ∷ [];
      }
  -- octets that differ from those that went in first are replaced by them
  pub clash : became (came_in 24 1000 5001 (97 ∷ 98 ∷ 99 ∷ 100 ∷ []) ∷ opening) (came_in 24 1000 5001 (97 ∷ 98 ∷ 88 ∷ 100 ∷ []))
      ≡ record {
        verdict = verdicts.Fix;
        rules = rules.TClash ∷ [];
        era = Some 1;
        begun = None;
        ended = [];
        packets = anew (standard []) (came_in 24 1000 5001 []) (came_in 24 1000 5001 (97 ∷ 98 ∷ 99 ∷ 100 ∷ [])).octets ∷ [];
      }
  -- a reset that is awaited passes, and the probe of its era follows it
  pub reset : (became opening (came_in 4 1000 0 [])).rules ≡ rules.CProbe ∷ []
  pub reset_packets : map (λ p. read true p.octets) (became opening (came_in 4 1000 0 [])).packets
      ≡ record { inward = true; seq = 1000; ack = 0; flags = 4; window = 8192; scale = None; octets = [] }
      ∷ record { inward = true; seq = 999; ack = 5001; flags = 16; window = 8192; scale = None; octets = [] } ∷ []
  -- a reset at an acknowledged number is dropped
  pub stray_reset : (became (went_out 16 5001 1004 [] ∷ came_in 24 1000 5001 (97 ∷ 98 ∷ 99 ∷ 100 ∷ []) ∷ opening) (came_in 4 1003 0 [])).rules ≡ rules.TRst ∷ []
  -- an outbound reset ends the era
  pub ends_by_reset : (became opening (went_out 4 5001 0 [])).ended ≡ record { era = 1; reason = reasons.Reset; octets = Some 0 } ∷ []

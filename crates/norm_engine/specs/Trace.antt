-- Which trace is lawful: what norm does with each record of a capture after those before it (this
-- project's profile).
use Rattle.std.specs.Prelude.{◌≡◌, ℕ, ◌+◌, ◌&&◌, not, Bool, false, List, [], ◌∷◌, ◌++◌, length, Option, Some, None, option_map, find, filter, if◌then◌else◌}
use Rattle.std.specs.Option.{is_some}
use Rattle.wire_base.specs.declared.address.Link.{Link}
use Rattle.wire_base.specs.declared.address.Side.{Side}
use Rattle.wire_base.specs.declared.address.FlowKey.{FlowKey}
use Rattle.wire_base.specs.Frames.{link_octets}
use Rattle.icmp_codec.specs.declared.quote.QuotedKey.{QuotedKey}
use Rattle.icmp_codec.specs.QuotedPacket.{quoted_in}
use Rattle.pcap_file.specs.Records.{Packet}
use Rattle.rule_book.specs.declared.rule.Rule.{Rule}
use Rattle.rule_book.specs.declared.rule.Rule.TheVariants as rules
use Rattle.rule_book.specs.declared.entry.Ended.{Ended}
use Rattle.rule_book.specs.declared.entry.Verdict.{Verdict}
use Rattle.rule_book.specs.declared.entry.Verdict.TheVariants as verdicts
use Rattle.rule_book.specs.Rules.{Layer, drop_rows, fix_rows, layer_of, notes_outbound, step_rows}
use Rattle.norm_settings.specs.SettingValues.{PlainSettings}
use Rattle.ip_rules.specs.Datagrams.{Datagram, goes_in, frames_of}
use Rattle.ip_rules.specs.RuleRows.{holds_ip, tells_side}
use Rattle.dgram_rules.specs.RuleRows.{holds_dgram}
use Rattle.tcp_norm.specs.Calls.{Call, Outcome, live}
use Rattle.tcp_norm.specs.RuleViews.{view_of}
use Rattle.tcp_norm.specs.RuleRows.{holds_era}
use Rattle.tcp_norm.specs.Outcomes.{outcome_at, verdict_of}
use Rattle.norm_engine.specs.Items.{Item}
use Rattle.norm_engine.specs.RuleRows.{side_of_record, holds_tcp}
use Rattle.norm_engine.specs.Fragments.{Offering, i_ttl, holds_offered, offering_in, pieces_before}
use Rattle.norm_engine.specs.Calls.{Past, past_of, datagram_after, segment_after}
use Rattle.norm_engine.specs.MessageFrames.{frame_by}

-- the connection that an inbound error quotes, whose packet went outwards
abbrev pub key_quoted : QuotedKey → FlowKey
key_quoted q = record { outside = q.dst; outside_port = q.dport; inside = q.src; inside_port = q.sport }

-- an era is live for the quoted connection, if there is one
abbrev pub is_quoted_live : List Call → Option QuotedKey → Bool
is_quoted_live calls None = false
is_quoted_live calls (Some q) = is_some (live calls (key_quoted q))

-- What the rules of a record read: the fragment that it carries, with what its rules read, and the
-- datagram that it makes after its history. Also the segment that this is, if no rule before those
-- of eras drops it, and the past of the record.
pub record Read : Type 0 where
  pub piece : Option Offering
  pub datagram : Option Datagram
  pub segment : Option Datagram
  pub past : Past

abbrev pub read_after : PlainSettings → Link → (history : List Item) → Packet → Read
read_after settings link history r =
    record {
      piece = offering_in settings link (pieces_before settings link history r) r;
      datagram = datagram_after settings link history r;
      segment = segment_after settings link history r;
      past = past_of settings link history r;
    }

-- the test of a datagram, false if there is none
abbrev pub holds_of : Option Datagram → (Datagram → Bool) → Bool
holds_of None test = false
holds_of (Some d) test = test d

-- whether the rule of a layer applies to what was read
abbrev pub holds_at : Layer → PlainSettings → Link → Read → Packet → Rule → Bool
holds_at Layer.link settings link read r rule = holds_ip settings link r rule
holds_at Layer.header settings link read r rule = holds_ip settings link r rule
holds_at Layer.protocol settings link read r rule = holds_ip settings link r rule
holds_at Layer.fragment settings link read r rule = holds_offered read.piece rule
holds_at Layer.lifetime settings link read r rule = holds_of read.datagram (i_ttl settings)
holds_at Layer.datagram settings link read r rule =
    holds_of read.datagram (λ d. holds_dgram settings (is_quoted_live read.past.calls (quoted_in d.octets)) d rule)
holds_at Layer.segment settings link read r rule = holds_of read.datagram (λ d. holds_tcp settings d rule)
holds_at Layer.era settings link read r rule = holds_of read.segment (λ d. holds_era settings (view_of settings read.past.calls d) d rule)
holds_at Layer.cut settings link read r rule = false

-- whether the condition of a rule holds
abbrev pub holds : PlainSettings → Link → Read → Packet → Rule → Bool
holds settings link read r rule = holds_at (layer_of rule) settings link read r rule

-- the rule is a note on an outbound segment, which it does not drop
abbrev pub is_note : Read → Rule → Bool
is_note read rule = notes_outbound rule && holds_of read.segment (λ d. not (goes_in d.side))

-- the rule drops the record: it holds, and is not a note
abbrev pub drops : PlainSettings → Link → Read → Packet → Rule → Bool
drops settings link read r rule = not (is_note read rule) && holds settings link read r rule

-- the first rule that drops the record, if one does
unfoldable pub dropped_by : PlainSettings → Link → Read → Packet → Option Rule
dropped_by settings link read r = find (drops settings link read r) drop_rows

-- the notes on the record: rules that hold and drop nothing
unfoldable pub noted_rows : PlainSettings → Link → Read → Packet → List Rule
noted_rows settings link read r = filter (λ rule. is_note read rule && holds settings link read r rule) drop_rows

-- the rules after the drop rules that hold, those that hold or rewrite a packet, in the order of
-- their numbers
unfoldable pub named_rows : PlainSettings → Link → Read → Packet → List Rule
named_rows settings link read r = filter (holds settings link read r) (fix_rows ++ step_rows)

-- the outcome of a segment by its rules
abbrev pub outcome_of : PlainSettings → Read → Datagram → Outcome
outcome_of settings read d = outcome_at settings (view_of settings read.past.calls d) d

-- the record is a fragment that is held: F_HELD holds
abbrev pub is_held : Read → Bool
is_held read = holds_offered read.piece rules.FHeld

-- the frames of a record that is not a segment: none if a rule drops it, or if it is held
abbrev pub frames_by : Option Rule → (held : Bool) → (passed : List ℕ) → List (List ℕ)
frames_by (Some rule) held passed = []
frames_by None held passed = if held then [] else passed ∷ []

-- the frames of a record, by its segment: those of the segment's packets, among them a probe for a
-- dropped one; otherwise its own, if no rule drops it
abbrev pub frames_with : PlainSettings → Link → Read → Packet → (segment : Option Datagram) → List (List ℕ)
frames_with settings link read r (Some d) = frames_of (link_octets link r.octets) (outcome_of settings read d).packets
frames_with settings link read r None =
    frames_by (dropped_by settings link read r) (is_held read) (frame_by settings (link_octets link r.octets) r.octets read.datagram (named_rows settings link read r))

abbrev pub emits : PlainSettings → Link → Read → Packet → List (List ℕ)
emits settings link read r = frames_with settings link read r read.segment

-- a rule drops the record, or it is held; otherwise these rules rewrite it
abbrev pub verdict_by : Option Rule → (held : Bool) → (named : List Rule) → Verdict
verdict_by (Some rule) held named = verdicts.Drop
verdict_by None held named = if held then verdicts.Hold else verdict_of named

-- the rule that drops a record is its only one, and so is F_HELD; otherwise the notes precede the
-- rules that rewrite it
abbrev pub rules_by : Option Rule → (held : Bool) → (noted named : List Rule) → List Rule
rules_by (Some rule) held noted named = rule ∷ []
rules_by None held noted named = if held then rules.FHeld ∷ [] else noted ++ named

-- a record that a rule drops before its side is known has no side
abbrev pub side_by : Option Rule → Option Side → Option Side
side_by (Some rule) side = if tells_side rule then side else None
side_by None side = side

-- the eras in the outcome of a segment: the one that it belongs to, the one that begins, and those
-- that end
abbrev pub era_by : Option Outcome → Option ℕ
era_by None = None
era_by (Some outcome) = outcome.era

abbrev pub begun_by : Option Outcome → Option ℕ
begun_by None = None
begun_by (Some outcome) = outcome.begun

abbrev pub ended_by : Option Outcome → List Ended
ended_by None = []
ended_by (Some outcome) = outcome.ended

-- the item of a record with this number; idle eras are listed before those that the record ends
abbrev pub item_by : PlainSettings → Link → Read → Packet → (number : ℕ) → Item
item_by settings link read r number =
    let dropped = dropped_by settings link read r in
    let named = named_rows settings link read r in
    let outcome = option_map (outcome_of settings read) read.segment in
    record {
      packet = r;
      entry = record {
        number = number;
        side = side_by dropped (side_of_record settings link r);
        verdict = verdict_by dropped (is_held read) named;
        packets = length (emits settings link read r);
        rules = rules_by dropped (is_held read) (noted_rows settings link read r) named;
        era = era_by outcome;
        begun = begun_by outcome;
        ended = read.past.idle ++ ended_by outcome;
      };
      frames = emits settings link read r;
    }

-- the one item that a record has after a history
abbrev pub item_of : PlainSettings → Link → (history : List Item) → Packet → Item
item_of settings link history r = item_by settings link (read_after settings link history r) r (length history + 1)

-- each item is the one that its record has after the items before it
abbrev pub Lawful : PlainSettings → Link → List Item → Type 0
Lawful settings link [] = Unit {0}
Lawful settings link (item ∷ older) = Lawful settings link older × (item ≡ item_of settings link older item.packet)

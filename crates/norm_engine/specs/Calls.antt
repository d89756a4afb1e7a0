-- The calls of the connection state that a history makes (this project's profile). For each record
-- these are first the eras that are idle by its time, then its datagram, if that is a segment which
-- no rule before those of eras drops. Lists of calls have the newest at the head, as the history
-- has.
use Rattle.std.specs.Prelude.{ℕ, not, Bool, true, false, List, [], ◌∷◌, map, filter, Option, Some, None, if◌then◌else◌}
use Rattle.std.specs.Option.{option_or}
use Rattle.wire_base.specs.declared.address.Link.{Link}
use Rattle.wire_base.specs.Ipv4 as ip
use Rattle.wire_base.specs.Frames.{packet_in}
use Rattle.pcap_file.specs.Records as records
use Rattle.rule_book.specs.declared.entry.Ended.{Ended}
use Rattle.rule_book.specs.declared.entry.Reason.{Reason}
use Rattle.rule_book.specs.declared.entry.Reason.TheVariants as reasons
use Rattle.norm_settings.specs.SettingValues.{PlainSettings}
use Rattle.ip_rules.specs.Datagrams.{Datagram, Packet, datagram_in}
use Rattle.tcp_norm.specs.Calls.{Call, expiry, datagram, Outcome, segments}
use Rattle.tcp_norm.specs.RuleViews.{idle_at}
use Rattle.tcp_norm.specs.IdleEnds.{idled}
use Rattle.tcp_norm.specs.Outcomes.{expiry_of}
use Rattle.reassembly.specs.Calls as reassembly
use Rattle.norm_engine.specs.Items.{Item, now_with}
use Rattle.norm_engine.specs.Fragments.{pieces_before, offering_in, joined_in}
use Rattle.norm_engine.specs.RuleRows.{is_segment}

-- the value, if it passes the test
abbrev pub where_passes : {A : Type 0} → (A → Bool) → Option A → Option A
where_passes test None = None
where_passes test (Some x) = if test x then Some x else None

-- the datagram of a record after these calls of reassembly: the one that it carries unfragmented,
-- or the one that its fragment completes
abbrev pub datagram_by : PlainSettings → Link → (pieces : List reassembly.Call) → records.Packet → Option Datagram
datagram_by settings link pieces r = option_or (datagram_in settings link r) (joined_in settings link r (offering_in settings link pieces r))

abbrev pub datagram_after : PlainSettings → Link → (history : List Item) → records.Packet → Option Datagram
datagram_after settings link history r = datagram_by settings link (pieces_before settings link history r) r

-- the segment of a record, if no rule before those of eras drops it
abbrev pub segment_after : PlainSettings → Link → (history : List Item) → records.Packet → Option Datagram
segment_after settings link history r = where_passes (is_segment settings) (datagram_after settings link history r)

-- the packet in a frame
abbrev pub packet_of : Link → (frame : List ℕ) → Packet
packet_of link frame = record { header = ip.header (packet_in link frame); octets = ip.payload (packet_in link frame) }

-- the reason is idleness
abbrev pub is_idleness : Reason → Bool
is_idleness reasons.Idle = true
is_idleness _ = false

-- an era ended because it was idle
abbrev pub is_idle : Ended → Bool
is_idle ended = is_idleness ended.reason

-- the outcome of an item's datagram: the values of its entry, without the eras that ended because
-- they were idle, and the packets of its frames
abbrev pub outcome_in : Link → Item → Outcome
outcome_in link item =
    record {
      verdict = item.entry.verdict;
      rules = item.entry.rules;
      era = item.entry.era;
      begun = item.entry.begun;
      ended = filter (λ e. not (is_idle e)) item.entry.ended;
      packets = map (packet_of link) item.frames;
    }

-- the eras that ended because they were idle with an item, as a call at its time
abbrev pub expiry_in : (older : List Item) → Item → Call
expiry_in older item = expiry (now_with older item.packet) (map (λ e. e.era) (filter is_idle item.entry.ended))

-- the calls with that of a datagram, if there is one
abbrev pub with_asked : Option Datagram → (now : ℕ) → Outcome → List Call → List Call
with_asked None now outcome calls = calls
with_asked (Some d) now outcome calls = datagram now d outcome ∷ calls

-- the calls that a history makes
abbrev pub flow_calls : PlainSettings → Link → List Item → List Call
flow_calls settings link [] = []
flow_calls settings link (item ∷ older) =
    with_asked (segment_after settings link older item.packet) (now_with older item.packet) (outcome_in link item)
    (expiry_in older item ∷ flow_calls settings link older)

-- What the rules read of a history before a record: the eras that are idle by the record's time, as
-- they end, and the calls of connections, including their expiry. Also the calls of reassembly,
-- including the removal of old datagrams.
pub record Past : Type 0 where
  pub idle : List Ended
  pub calls : List Call
  pub pieces : List reassembly.Call

abbrev pub past_of : PlainSettings → Link → (history : List Item) → records.Packet → Past
past_of settings link history r =
    let calls = flow_calls settings link history in
    let now = now_with history r in
    record {
      idle = idled (λ era. segments era calls) (idle_at settings now calls);
      calls = expiry_of settings calls now ∷ calls;
      pieces = pieces_before settings link history r;
    }

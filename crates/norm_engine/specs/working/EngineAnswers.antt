-- The meaning of the engine's judgments and answers for a record.
use Rattle.std.specs.Prelude.{◌≡◌, ℕ, ◌≤◌, ◌==◌, ◌&&◌, nat_le, Bool, true, false, List, [], ◌∷◌, ◌++◌, length, Option, Some, None, find, if◌then◌else◌}
use Rattle.std.specs.Option.{option_or}
use Rattle.wire_base.specs.declared.address.Link.{Link}
use Rattle.wire_base.specs.declared.address.Side.{Side}
use Rattle.wire_base.specs.Frames.{link_octets}
use Rattle.pcap_file.specs.Records.{Packet}
use Rattle.tcp_codec.specs.declared.header.Tcp.{Tcp}
use Rattle.tcp_codec.specs.declared.header.TcpFault.{TcpFault}
use Rattle.tcp_codec.specs.declared.header.TcpFault.TheVariants as faults
use Rattle.tcp_codec.specs.HeaderFields.{fields_of}
use Rattle.udp_codec.specs.WrittenChecksum.{mended}
use Rattle.icmp_codec.specs.QuotedPacket.{quoted_in}
use Rattle.rule_book.specs.declared.rule.Rule.{Rule}
use Rattle.rule_book.specs.declared.rule.Rule.TheVariants as rules
use Rattle.rule_book.specs.declared.entry.Ended.{Ended}
use Rattle.rule_book.specs.declared.entry.Verdict.{Verdict}
use Rattle.rule_book.specs.declared.entry.Verdict.TheVariants as verdicts
use Rattle.rule_book.specs.Rules.{segment_rows}
use Rattle.rule_book.specs.Entries.{PlainEntry}
use Rattle.norm_settings.specs.SettingValues.{PlainSettings}
use Rattle.ip_rules.specs.declared.rows.IpPacket.{IpPacket}
use Rattle.ip_rules.specs.RuleRows.{tells_side}
use Rattle.ip_rules.specs.Datagrams.{Datagram, datagram_with, goes_in, head_at, AreOctets, HasSizes, IsDatagram, IsKnown}
use Rattle.ip_rules.specs.JudgedRecord.{where_holds}
use Rattle.ipv4_codec.specs.WrittenHeader.{plain_header}
use Rattle.dgram_rules.specs.declared.judged.DgramJudged.{DgramJudged}
use Rattle.dgram_rules.specs.declared.judged.DgramJudged.TheVariants as dgram
use Rattle.dgram_rules.specs.RuleRows.{pseudo_of, holds_dgram, dgram_dropped_by}
use Rattle.tcp_norm.specs.declared.state.TcpNorm.{TcpNorm}
use Rattle.tcp_norm.specs.Calls.{Call}
use Rattle.tcp_norm.specs.TableAndStore as flows
use Rattle.tcp_norm.specs.SegmentHeads.{IsHead}
use Rattle.tcp_norm.specs.RuleViews.{view_of}
use Rattle.tcp_norm.specs.RuleRows as era
use Rattle.norm_engine.specs.declared.judge.Decision.{Decision}
use Rattle.norm_engine.specs.declared.judge.Decision.TheVariants as decisions
use Rattle.norm_engine.specs.working.RecordJudgment.{Judgment, Arp, Drop, Hold, Send, Segment}
use Rattle.norm_engine.specs.working.DatagramJudgment.{Judged}
use Rattle.norm_engine.specs.working.DatagramJudgment as judged
use Rattle.reassembly.specs.declared.assembly.Assembly.{Assembly}
use Rattle.reassembly.specs.declared.piece.Whole.{Whole}
use Rattle.reassembly.specs.DatagramFragments.{whole_of, datagram_octets}
use Rattle.reassembly.specs.Calls as reassembly
use Rattle.reassembly.specs.AssemblyState as fragments
use Rattle.norm_engine.specs.Fragments.{Offering, offering_in, pieces_with, head_of_whole}
use Rattle.norm_engine.specs.RuleRows.{side_of_record, holds_tcp, is_segment}
use Rattle.norm_engine.specs.working.FirstRow.{segment_row}
use Rattle.norm_engine.specs.Calls.{Past, where_passes, datagram_by}
use Rattle.norm_engine.specs.Trace.{Read, is_held, is_quoted_live, dropped_by, noted_rows, named_rows}
use Rattle.wire_base.specs.declared.limits.TheConstants.{MAX_FRAME, MAX_PAYLOAD}
use Rattle.norm_engine.specs.EngineState.{entry_written}

-- connections represent some calls, with at most `records` datagrams among them, and fragments
-- represent others, none of them later than `latest`
pub record Kept (settings : PlainSettings) (norm : TcpNorm) (pieces : Assembly) (records latest : ℕ) : Type 0 where
  pub calls : List Call
  pub stands : flows.StandsFor settings norm calls
  pub later : norm.latest ≤ latest
  pub few : norm.calls ≤ records
  pub offers : List reassembly.Call
  pub holds : fragments.StandsFor settings pieces offers
  pub passed : fragments.last_time pieces ≤ latest

-- the rule for a fault of a segment's header
abbrev pub rule_of : TcpFault → Rule
rule_of faults.Short = rules.TShort
rule_of faults.DataOffset = rules.THlen
rule_of faults.Sum = rules.TSum
rule_of faults.Flags = rules.TFlags
rule_of faults.Options = rules.TOptBad

-- the judgment of the rules on UDP and ICMP
abbrev pub of_rows : DgramJudged → Judged
of_rows dgram.Pass = judged.Pass
of_rows dgram.Mend = judged.Mend
of_rows (dgram.Drop rule) = judged.Drop rule

-- the fields of a segment's header are those of its octets, and the header has no fault
pub record IsHeaded (d : Datagram) (head : Tcp) : Type 0 where
  pub fields : head ≡ fields_of (pseudo_of d) d.octets
  pub whole : IsHead d.octets head

-- the header of a segment was read, or this rule on it is the first that holds
abbrev pub IsReadSegment : PlainSettings → Datagram → Judged → Type 0
IsReadSegment settings d judged.Pass = ⊥
IsReadSegment settings d judged.Mend = ⊥
IsReadSegment settings d (judged.Drop rule) = segment_row settings d ≡ Some rule
IsReadSegment settings d (judged.Segment head) = (segment_row settings d ≡ None) × IsHeaded d head

-- the header of a datagram judged a segment was read
abbrev pub HeadIsRead : Datagram → Judged → Type 0
HeadIsRead d judged.Pass = Unit {0}
HeadIsRead d judged.Mend = Unit {0}
HeadIsRead d (judged.Drop rule) = Unit {0}
HeadIsRead d (judged.Segment head) = IsHeaded d head

abbrev pub SegmentIsRead : Judgment → Type 0
SegmentIsRead Arp = Unit {0}
SegmentIsRead (Drop side rule) = Unit {0}
SegmentIsRead (Hold side) = Unit {0}
SegmentIsRead (Send packet mend) = Unit {0}
SegmentIsRead (Segment packet head) = IsHeaded (datagram_with [] packet) head

-- the first rule on a datagram, or on the header of its segment, that holds
abbrev pub datagram_row : PlainSettings → (live : Bool) → Datagram → Option Rule
datagram_row settings live d = option_or (dgram_dropped_by settings live d) (find (holds_tcp settings d) segment_rows)

-- the judgment on a datagram is that of the rules on it and on the header of its segment
abbrev pub Follows : PlainSettings → (live : Bool) → Datagram → Judged → Type 0
Follows settings live d judged.Pass =
    (is_segment settings d ≡ false) × (datagram_row settings live d ≡ None) × (holds_dgram settings live d rules.USumOut ≡ false)
Follows settings live d judged.Mend =
    (is_segment settings d ≡ false) × (datagram_row settings live d ≡ None) × (holds_dgram settings live d rules.USumOut ≡ true)
Follows settings live d (judged.Drop rule) = (is_segment settings d ≡ false) × (datagram_row settings live d ≡ Some rule)
Follows settings live d (judged.Segment head) =
    (is_segment settings d ≡ true) × (datagram_row settings live d ≡ None)

-- a record that passes as ARP: no rule drops or rewrites it
pub record IsArp (settings : PlainSettings) (link : Link) (read : Read) (r : Packet) : Type 0 where
  pub datagram : read.datagram ≡ None
  pub segment : read.segment ≡ None
  pub undropped : dropped_by settings link read r ≡ None
  pub held : is_held read ≡ false
  pub named : named_rows settings link read r ≡ []
  pub side : side_of_record settings link r ≡ None
  pub short : length r.octets ≤ MAX_FRAME

-- a record that this rule drops, and which is not a segment
pub record IsDropped (settings : PlainSettings) (link : Link) (read : Read) (r : Packet) (told : Option Side) (rule : Rule) : Type 0 where
  pub segment : read.segment ≡ None
  pub dropped : dropped_by settings link read r ≡ Some rule
  pub side : told ≡ (if tells_side rule then side_of_record settings link r else None)

-- a record that is a fragment to this side which no rule drops, and which does not complete its
-- datagram
pub record IsHeldBack (settings : PlainSettings) (link : Link) (read : Read) (r : Packet) (side : Side) : Type 0 where
  pub segment : read.segment ≡ None
  pub undropped : dropped_by settings link read r ≡ None
  pub held : is_held read ≡ true
  pub told : side_of_record settings link r ≡ Some side

-- a record whose datagram is written and is not a segment: no rule drops it, the rules that rewrite
-- it are named, and the packet is the one in its frame
pub record IsSent (settings : PlainSettings) (link : Link) (read : Read) (r : Packet) (packet : IpPacket) (mend : Bool) : Type 0 where
  pub own : Datagram
  pub datagram : read.datagram ≡ Some own
  pub segment : read.segment ≡ None
  pub undropped : dropped_by settings link read r ≡ None
  pub held : is_held read ≡ false
  pub named : named_rows settings link read r ≡ packet.fixes.items
  pub told : side_of_record settings link r ≡ Some packet.side
  pub side : own.side ≡ packet.side
  pub head : own.head ≡ packet.head
  pub octets : own.octets ≡ packet.payload.now
  pub frame : packet.frame.now ≡ r.octets
  pub mends : mend ≡ holds_dgram settings false own rules.USumOut
  pub whole : mend ≡ true → 8 ≤ length packet.payload.now
  pub fits : length packet.payload.now ≤ MAX_PAYLOAD
  pub short : packet.fixes.items ≡ [] → length packet.frame.now ≤ MAX_FRAME

-- a record whose datagram is a segment that no rule before those of eras drops: the rules that
-- drop, note and rewrite it are those of its connection
pub record IsTaken (settings : PlainSettings) (link : Link) (read : Read) (r : Packet) (packet : IpPacket) (head : Tcp) : Type 0 where
  pub own : Datagram
  pub segment : read.segment ≡ Some own
  pub is : IsDatagram packet (link_octets link r.octets) own
  pub known : IsKnown settings own
  pub told : side_of_record settings link r ≡ Some packet.side
  pub frame : packet.frame.now ≡ r.octets
  pub protocol : own.head.protocol ≡ 6
  pub held : is_held read ≡ false
  pub dropped : dropped_by settings link read r ≡ era.dropped_by settings (view_of settings read.past.calls own) own
  pub noted : noted_rows settings link read r ≡ era.noted (view_of settings read.past.calls own) own
  pub named : named_rows settings link read r ≡ own.fixes ++ era.mended_by settings (view_of settings read.past.calls own) own
  pub few : length packet.fixes.items ≤ 6
  pub fits : length packet.payload.now ≤ MAX_PAYLOAD
  pub short : packet.fixes.items ≡ [] → length packet.frame.now ≤ MAX_FRAME

-- the judgment is that of the rules
abbrev pub Judges : PlainSettings → Link → Read → Packet → Judgment → Type 0
Judges settings link read r Arp = IsArp settings link read r
Judges settings link read r (Drop side rule) = IsDropped settings link read r side rule
Judges settings link read r (Hold side) = IsHeldBack settings link read r side
Judges settings link read r (Send packet mend) = IsSent settings link read r packet mend
Judges settings link read r (Segment packet head) = IsTaken settings link read r packet head

-- what the rules read of a record, with this past
abbrev pub read_with : PlainSettings → Link → Past → Packet → Read
read_with settings link past r =
    record {
      piece = offering_in settings link past.pieces r;
      datagram = datagram_by settings link past.pieces r;
      segment = where_passes (is_segment settings) (datagram_by settings link past.pieces r);
      past = past;
    }

-- the packet of a complete datagram: that of the fragment which completed it, with the datagram's
-- header and octets, and the rules that rewrite it
pub record IsMadeWhole (hops : ℕ) (packet : IpPacket) (whole : Whole) (octets : List ℕ) (made : IpPacket) : Type 0 where
  pub side : made.side ≡ packet.side
  pub head : made.head ≡ head_of_whole packet.head whole
  pub frame : made.frame.now ≡ packet.frame.now
  pub payload : made.payload.now ≡ octets
  pub fixes : made.fixes.items ≡ packet.fixes.items ++ where_holds (goes_in packet.side && nat_le whole.ttl hops) rules.ITtl ++ rules.FDone ∷ []

-- the judgment on a packet whose datagram has this judgment
abbrev pub joined : IpPacket → Judged → Judgment
joined packet judged.Pass = Send packet false
joined packet (judged.Drop rule) = Drop (Some packet.side) rule
joined packet judged.Mend = Send (record packet { fixes = record { items = packet.fixes.items ++ rules.USumOut ∷ [] } }) true
joined packet (judged.Segment head) = Segment packet head

-- a packet is judged as its datagram with a header of these octets
pub record IsWholeJudged (settings : PlainSettings) (calls : List Call) (header : List ℕ) (packet : IpPacket) (judgment : Judgment) : Type 0 where
  pub answer : Judged
  pub follows : Follows settings (is_quoted_live calls (quoted_in packet.payload.now)) (datagram_with header packet) answer
  pub is : judgment ≡ joined packet answer

-- a packet was made of the datagram that a fragment completes, and is judged as its datagram
pub record IsJoinedJudged (settings : PlainSettings) (calls : List Call) (o : Offering) (packet : IpPacket) (judgment : Judgment) : Type 0 where
  pub made : IpPacket
  pub makes : IsMadeWhole settings.hops packet (whole_of (pieces_with o)) (datagram_octets (pieces_with o)) made
  pub sizes : HasSizes made.head
  pub each : AreOctets made.payload.now
  pub short : length made.payload.now ≤ MAX_PAYLOAD
  pub judged : IsWholeJudged settings calls [] made judgment

-- a packet that is a fragment is judged by the answer to it
abbrev pub IsPieceJudged : PlainSettings → (calls : List Call) → Offering → IpPacket → Judgment → reassembly.Answer → Type 0
IsPieceJudged settings calls o packet judgment reassembly.held = judgment ≡ Hold packet.side
IsPieceJudged settings calls o packet judgment reassembly.done = IsJoinedJudged settings calls o packet judgment
IsPieceJudged settings calls o packet judgment (reassembly.dropped rule) = judgment ≡ Drop (Some packet.side) rule

-- the entry of a record for which nothing is written, by this rule alone: it drops the record, or
-- holds it
abbrev pub entry_stopped : (number : ℕ) → Option Side → Verdict → Rule → List Ended → PlainEntry
entry_stopped number side verdict rule ended =
    record { number = number; side = side; verdict = verdict; packets = 0; rules = rule ∷ []; era = None; begun = None; ended = ended }

-- the entry of the record with this number and judgment, which is not a segment
abbrev pub entry_for : (number : ℕ) → Judgment → List Ended → PlainEntry
entry_for number Arp ended = entry_written number None [] ended
entry_for number (Drop side rule) ended = entry_stopped number side verdicts.Drop rule ended
entry_for number (Hold side) ended = entry_stopped number (Some side) verdicts.Hold rules.FHeld ended
entry_for number (Send packet mend) ended = entry_written number (Some packet.side) packet.fixes.items ended
entry_for number (Segment packet head) ended = entry_written number (Some packet.side) [] ended

-- the bounds of the outbox and the header, for a packet with this decision
abbrev pub Fits : IpPacket → Decision → Type 0
Fits packet (decisions.Send mend) = (length packet.payload.now ≤ MAX_PAYLOAD) × (mend ≡ true → 8 ≤ length packet.payload.now)
Fits packet _ = Unit {0}

-- the record is written as it was read: it is ARP, or no rule rewrites its packet
abbrev pub is_as_read : Judgment → Bool
is_as_read Arp = true
is_as_read (Drop side rule) = false
is_as_read (Hold side) = false
is_as_read (Send packet mend) = length packet.fixes.items == 0
is_as_read (Segment packet head) = false

-- the payload that is written with a packet
abbrev pub payload_for : IpPacket → (mend : Bool) → List ℕ
payload_for packet mend = if mend then mended (pseudo_of (datagram_with [] packet)) packet.payload.now else packet.payload.now

-- the frame that is written if rules rewrite a packet
abbrev pub frame_for : IpPacket → (mend : Bool) → (hops : ℕ) → Link → List ℕ
frame_for packet mend hops link =
    let octets = payload_for packet mend in
    link_octets link packet.frame.now ++ plain_header (head_at packet.side hops packet.head) (length octets) ++ octets

-- the frame as it was read if no rule rewrites it
abbrev pub frame_with : List Rule → (read mended : List ℕ) → List ℕ
frame_with [] read mended = read
frame_with (rule ∷ more) read mended = mended

-- the frames of a record with this judgment, which is not a segment
abbrev pub frames_for : Judgment → (hops : ℕ) → Link → (octets : List ℕ) → List (List ℕ)
frames_for Arp hops link octets = octets ∷ []
frames_for (Drop side rule) hops link octets = []
frames_for (Hold side) hops link octets = []
frames_for (Send packet mend) hops link octets = frame_with packet.fixes.items octets (frame_for packet mend hops link) ∷ []
frames_for (Segment packet head) hops link octets = []

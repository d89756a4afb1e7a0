-- What the engine represents after a record, and that its outbox and header have room for it.
use Rattle.std.proofs.Common.{◌≡◌, ℕ, ◌+◌, ◌≤◌, ◌==◌, Bool, true, false, List, [], ◌∷◌, ◌++◌, length, take, Some, None, refl, sym, ap, ap₂, subst, ◌∙◌, arith, if◌then◌else◌, eqb-true}
use Rattle.std.proofs.Math.Logic.{∥∥₁_elim}
use Rattle.std.specs.Coded.{le_prop}
use Rattle.std.proofs.lemmas.List.{length-map}
use Rattle.wire_base.specs.declared.address.Link.{Link}
use Rattle.wire_base.specs.Segments.{Written}
use Rattle.wire_base.specs.Frames.{link_octets}
use Rattle.pcap_file.specs.Records as records
use Rattle.tcp_codec.specs.declared.header.Tcp.{Tcp}
use Rattle.udp_codec.specs.WrittenChecksum.{mended}
use Rattle.rule_book.specs.declared.rule.Rule.{Rule}
use Rattle.norm_settings.specs.SettingValues.{PlainSettings}
use Rattle.ip_rules.specs.declared.rows.IpPacket.{IpPacket}
use Rattle.ip_rules.specs.Datagrams.{Datagram, datagram_with, head_at}
use Rattle.ipv4_codec.specs.WrittenHeader.{plain_header}
use Rattle.dgram_rules.specs.RuleRows.{pseudo_of}
use Rattle.tcp_norm.specs.Calls.{Call, Alive, numbers_of}
use Rattle.tcp_norm.specs.RuleViews.{view_of, idle_at}
use Rattle.tcp_norm.specs.IdleEnds.{idled, idle_end}
use Rattle.tcp_norm.specs.TableAndStore as flows
use Rattle.tcp_norm.specs.Outcomes.{call_of, expiry_of}
use Rattle.tcp_norm.specs.SegmentPackets.{PacketsAreItsOwn}
use Rattle.reassembly.specs.declared.assembly.Assembly.{Assembly}
use Rattle.reassembly.specs.AssemblyState as fragments
use Rattle.reassembly.specs.Calls as reassembly
use Rattle.tcp_norm.specs.PassedPackets.{given, IsUnsent}
use Rattle.norm_engine.specs.declared.judge.Decision.{Decision}
use Rattle.norm_engine.specs.declared.judge.Decision.TheVariants as decisions
use Rattle.norm_engine.specs.working.RecordJudgment.{Judgment, judgment_of, Arp, Drop, Hold, Send, Segment}
use Rattle.norm_engine.specs.Items.{Item, now_with}
use Rattle.norm_engine.specs.RuleRows.{is_segment}
use Rattle.norm_engine.specs.Fragments.{fragment_in, piece_calls, with_offered}
use Rattle.norm_engine.specs.Calls.{Past, past_of, flow_calls}
use Rattle.norm_engine.specs.MessageFrames.{octets_sent, mended_frame, frame_by}
use Rattle.norm_engine.specs.Trace.{Read, read_after, is_held, item_of, named_rows, frames_by, emits}
use Rattle.norm_engine.specs.EngineState.{Engaged, StandsFor, frames_given}
use Rattle.norm_engine.specs.working.EngineAnswers.{IsTaken, IsSent, Judges, Fits, is_as_read, frames_for, frame_for, frame_with, payload_for}
use Rattle.norm_engine.proofs.Items.{taken_rows, segment_calls, plain_calls, plain_frames}
use Rattle.norm_engine.proofs.Traces.{both_of, segment_known, long_enough}

-- what rules read of these calls, after idle eras and old datagrams are removed by this time
abbrev pub past_with : PlainSettings → (now : ℕ) → List Call → List reassembly.Call → Past
past_with settings now calls offers = record { idle = []; calls = expiry_of settings calls now ∷ calls; pieces = reassembly.expiry now ∷ offers }

-- at most two eras end because they are idle

idle_long : (segments : ℕ → List Written) (numbers : List ℕ) → length (idled segments numbers) ≡ length numbers
idle_long segments numbers = length-map numbers (idle_end segments)

pub few_idle : (settings : PlainSettings) (now : ℕ) (calls : List Call) (segments : ℕ → List Written) → length (idled segments (idle_at settings now calls)) ≤ 2
few_idle settings now calls segments =
    let long = idle_long segments (idle_at settings now calls) in
    subst (λ n. n ≤ 2) (sym long) (of_two _)
  where
    of_two : (lives : List Alive) → length (numbers_of (take 2 lives)) ≤ 2
    of_two [] = omega arith
    of_two (a ∷ []) = omega arith
    of_two (a ∷ b ∷ more) = omega arith

-- the bounds of the outbox and the header, by the judgment, which some reading of the record gives
pub room_for : (settings : PlainSettings) (link : Link) (r : records.Packet) (packet : IpPacket) (head : Tcp) (decision : Decision)
    → ∥ ((read : Read) × Judges settings link read r (judgment_of packet head decision)) ∥₁ → Fits packet decision
room_for settings link r packet head decisions.Arp judged = tt
room_for settings link r packet head (decisions.Drop side rule) judged = tt
room_for settings link r packet head (decisions.Hold side) judged = tt
room_for settings link r packet head (decisions.Send mend) judged = (∥∥₁_elim judged le_prop (λ j. j.1.fits), λ mends. ∥∥₁_elim judged le_prop (λ j. j.1.whole mends))
room_for settings link r packet head decisions.Segment judged = tt

-- a record that is written as it was read fits in the outbox

none_named : (fixes : List Rule) → (length fixes == 0) ≡ true → fixes ≡ []
none_named [] none = refl
none_named (rule ∷ more) none = let size = eqb-true (length (rule ∷ more)) 0 none in absurd (omega (arith, size))

pub short_read : (settings : PlainSettings) (link : Link) (read : Read) (r : records.Packet) (judgment : Judgment) → Judges settings link read r judgment
    → is_as_read judgment ≡ true → length r.octets ≤ 65549
short_read settings link read r Arp j as_read = j.short
short_read settings link read r (Drop side rule) j as_read = absurd (cc)
short_read settings link read r (Hold side) j as_read = absurd (cc)
short_read settings link read r (Send packet mend) j as_read = subst (λ (xs : List ℕ). length xs ≤ 65549) j.frame (j.short (none_named packet.fixes.items as_read))
short_read settings link read r (Segment packet head) j as_read = absurd (cc)

-- a decision that is not a segment gives no judgment that is one
pub no_segment_of : (packet : IpPacket) (head : Tcp) (decision : Decision) → (decision ≡ decisions.Segment → ⊥) → (other : IpPacket) (told : Tcp) → judgment_of packet head decision ≡ Segment other told → ⊥
no_segment_of packet head decisions.Arp never other told is = absurd (cc)
no_segment_of packet head (decisions.Drop side rule) never other told is = absurd (cc)
no_segment_of packet head (decisions.Hold side) never other told is = absurd (cc)
no_segment_of packet head (decisions.Send mend) never other told is = absurd (cc)
no_segment_of packet head decisions.Segment never other told is = never refl

-- a record that is judged not to be a segment is not one
pub no_segment : (settings : PlainSettings) (link : Link) (read : Read) (r : records.Packet) (judgment : Judgment) → Judges settings link read r judgment
    → ((packet : IpPacket) (head : Tcp) → judgment ≡ Segment packet head → ⊥) → read.segment ≡ None
no_segment settings link read r Arp j other = j.segment
no_segment settings link read r (Drop side rule) j other = j.segment
no_segment settings link read r (Hold side) j other = j.segment
no_segment settings link read r (Send packet mend) j other = j.segment
no_segment settings link read r (Segment packet head) j other = absurd (other packet head refl)

-- the frames of such a record

sent_frame : (settings : PlainSettings) (link : Link) (read : Read) (r : records.Packet) (packet : IpPacket) (mend : Bool) → (sent : IsSent settings link read r packet mend)
    → frame_for packet mend settings.hops link ≡ mended_frame settings (link_octets link r.octets) sent.own
sent_frame settings link read r packet mend sent =
    let d = sent.own in
    let same : datagram_with d.header packet ≡ record d { fixes = packet.fixes.items } = λ i. record {
      side = sym sent.side i;
      head = sym sent.head i;
      header = d.header;
      octets = sym sent.octets i;
      fixes = packet.fixes.items;
    } in
    let octets : payload_for packet mend ≡ octets_sent settings d =
    ap₂ (λ (x : Datagram) b. if b then mended (pseudo_of x) x.octets else x.octets) same sent.mends in
    (λ i. link_octets link (sent.frame i) ++ plain_header (head_at (sym sent.side i) settings.hops (sym sent.head i)) (length (octets i)) ++ octets i)

frame_named : (settings : PlainSettings) (link read mended : List ℕ) (named : List Rule) (d : Datagram) → mended ≡ mended_frame settings link d → frame_with named read mended ≡ frame_by settings link read (Some d) named
frame_named settings link read mended [] d same = refl
frame_named settings link read mended (rule ∷ more) d same = same

pub other_frames : (settings : PlainSettings) (link : Link) (read : Read) (r : records.Packet) (judgment : Judgment) → Judges settings link read r judgment → read.segment ≡ None
    → frames_for judgment settings.hops link r.octets ≡ emits settings link read r
other_frames settings link read r Arp j none =
    sym (plain_frames settings link read r none
    ∙ (λ i. frames_by (j.undropped i) (j.held i) (frame_by settings (link_octets link r.octets) r.octets (j.datagram i) (named_rows settings link read r))))
other_frames settings link read r (Drop side rule) j none =
    sym (plain_frames settings link read r none ∙ ap (λ d. frames_by d (is_held read) (frame_by settings (link_octets link r.octets) r.octets read.datagram (named_rows settings link read r))) j.dropped)
other_frames settings link read r (Hold side) j none =
    sym (plain_frames settings link read r none
    ∙ (λ i. frames_by (j.undropped i) (j.held i) (frame_by settings (link_octets link r.octets) r.octets read.datagram (named_rows settings link read r))))
other_frames settings link read r (Send packet mend) j none =
    ap (λ frame. frame ∷ [])
    (frame_named settings (link_octets link r.octets) r.octets (frame_for packet mend settings.hops link) packet.fixes.items j.own (sent_frame settings link read r packet mend j))
    ∙ sym (plain_frames settings link read r none ∙ (λ i. frames_by (j.undropped i) (j.held i) (frame_by settings (link_octets link r.octets) r.octets (j.datagram i) (j.named i))))
other_frames settings link read r (Segment packet head) j none = let never = sym j.segment ∙ none in absurd (cc)

-- fragments represent the calls of a history with one item more
pub pieces_stand : (settings : PlainSettings) (link : Link) (history : List Item) (r : records.Packet) (pieces : Assembly) (now : ℕ) → now ≡ now_with history r
    → fragments.StandsFor settings pieces (with_offered settings (fragment_in settings link r) now (reassembly.expiry now ∷ piece_calls settings link history))
    → fragments.StandsFor settings pieces (piece_calls settings link (item_of settings link history r ∷ history))
pieces_stand settings link history r pieces now same =
    subst (λ n. fragments.StandsFor settings pieces (with_offered settings (fragment_in settings link r) n (reassembly.expiry n ∷ piece_calls settings link history))) same

-- the engine represents the history with one item more, if its connections and its fragments
-- represent the calls with that item
stands_with : (old new : Engaged) (history : List Item) (r : records.Packet)
    → StandsFor old history → new.settings ≡ old.settings → new.link ≡ old.link → new.records ≡ old.records + 1 → new.latest ≡ now_with history r
    → flows.StandsFor old.settings new.norm (flow_calls old.settings old.link (item_of old.settings old.link history r ∷ history))
    → fragments.StandsFor old.settings new.pieces (piece_calls old.settings old.link (item_of old.settings old.link history r ∷ history))
    → StandsFor new (item_of old.settings old.link history r ∷ history)
stands_with old new history r stands settings link counted latest norm pieces =
    let items = item_of old.settings old.link history r ∷ history in
    record {
      counted = counted ∙ (ap (λ n. n + 1) stands.counted ∙ omega arith);
      latest = latest;
      flows = subst (λ (e : PlainSettings). flows.StandsFor e new.norm (flow_calls e new.link items)) (sym settings)
          (subst (λ (l : Link). flows.StandsFor old.settings new.norm (flow_calls old.settings l items)) (sym link) norm);
      pieces = subst (λ (e : PlainSettings). fragments.StandsFor e new.pieces (piece_calls e new.link items)) (sym settings)
          (subst (λ (l : Link). fragments.StandsFor old.settings new.pieces (piece_calls old.settings l items)) (sym link) pieces);
    }

pub segment_stands : PacketsAreItsOwn → (old new : Engaged) (history : List Item) (r : records.Packet) (packet : IpPacket) (head : Tcp)
    → old.settings.hops ≤ 254 → (t : IsTaken old.settings old.link (read_after old.settings old.link history r) r packet head)
    → StandsFor old history → new.settings ≡ old.settings → new.link ≡ old.link → new.records ≡ old.records + 1 → new.latest ≡ now_with history r
    → flows.StandsFor old.settings new.norm (call_of old.settings (past_of old.settings old.link history r).calls (now_with history r) t.own ∷ (past_of old.settings old.link history r).calls)
    → fragments.StandsFor old.settings new.pieces (piece_calls old.settings old.link (item_of old.settings old.link history r ∷ history))
    → StandsFor new (item_of old.settings old.link history r ∷ history)
segment_stands own old new history r packet head hops t stands settings link counted latest norm pieces =
    let read = read_after old.settings old.link history r in
    let past = past_of old.settings old.link history r in
    let d = t.own in
    let s = segment_known old.settings d t.known (both_of (is_segment old.settings) read.datagram d t.segment).1 in
    let calls = segment_calls old.settings old.link history r d (long_enough old.settings old.link history r d t.segment) (taken_rows old.settings old.link read r packet head t)
    (own old.settings (view_of old.settings past.calls d) d hops s) in
    stands_with old new history r stands settings link counted latest (subst (flows.StandsFor old.settings new.norm) (sym calls) norm) pieces

pub other_stands : (old new : Engaged) (history : List Item) (r : records.Packet) → (read_after old.settings old.link history r).segment ≡ None
    → StandsFor old history → new.settings ≡ old.settings → new.link ≡ old.link → new.records ≡ old.records + 1 → new.latest ≡ now_with history r
    → flows.StandsFor old.settings new.norm (past_of old.settings old.link history r).calls
    → fragments.StandsFor old.settings new.pieces (piece_calls old.settings old.link (item_of old.settings old.link history r ∷ history))
    → StandsFor new (item_of old.settings old.link history r ∷ history)
other_stands old new history r none stands settings link counted latest norm pieces =
    stands_with old new history r stands settings link counted latest (subst (flows.StandsFor old.settings new.norm) (sym (plain_calls old.settings old.link history r none)) norm) pieces

-- the frames of a segment; the frame that was read is that of its record
pub as_given : (as_read : Bool) (frame octets : List ℕ) (out : List (List ℕ)) → frame ≡ octets → frames_given as_read octets out ≡ given as_read frame out
as_given true frame octets out is = ap (λ (xs : List ℕ). xs ∷ []) (sym is)
as_given false frame octets out is = refl

pub unsent_of : (as_read : Bool) (frame : List ℕ) (out : List (List ℕ)) → IsUnsent as_read frame out → as_read ≡ true → (out ≡ []) × (length frame ≤ 65549)
unsent_of true frame out is read = is
unsent_of false frame out is read = absurd (cc)

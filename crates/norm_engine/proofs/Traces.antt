-- A lawful trace: its calls are those that the rules make, its datagrams are known, and records
-- have one.
use Rattle.std.proofs.Common.{◌≡◌, ℕ, ◌≤◌, Bool, true, false, cond, ◌&&◌, ◌||◌, not, nat_lt, List, [], ◌∷◌, length, take, Option, Some, None, refl, sym, ap, subst, ◌∙◌, arith, ◌+◌, ap₂, eqb-true, option_map}
use Rattle.std.proofs.lemmas.Bool.Decides.{nat_tests}
use Rattle.std.specs.List.{AllByRecursion}
use Rattle.std.specs.Option.{option_or}
use Rattle.std.proofs.lemmas.Bool.{not-false}
use Rattle.wire_base.specs.declared.address.Link.{Link}
use Rattle.wire_base.specs.Checksums.{sum_is_right, pseudo_sum}
use Rattle.wire_base.specs.Tcp as tcp
use Rattle.wire_base.specs.Options.{are_well_formed}
use Rattle.pcap_file.specs.Records as records
use Rattle.rule_book.specs.declared.rule.Rule.TheVariants as rules
use Rattle.rule_book.specs.Rules.{segment_rows}
use Rattle.norm_settings.specs.SettingValues.{PlainSettings}
use Rattle.wire_base.specs.Ipv4 as ip
use Rattle.wire_base.specs.Frames.{packet_in}
use Rattle.ip_rules.specs.RuleRows.{l_snap, l_short, ip_dropped_by, ip_fixes}
use Rattle.ip_rules.specs.Datagrams.{Datagram, DatagramsAreKnown, IsKnown, datagram_in, goes_in}
use Rattle.ip_rules.proofs.Datagrams.{packet_octets, sizes}
use Rattle.ip_rules.proofs.Lists.{none_found, taken, dropped}
use Rattle.reassembly.specs.DatagramFragments.{Fragment}
use Rattle.reassembly.specs.Calls as reassembly
use Rattle.reassembly.specs.RuleRows.{AreAnswered, is_done}
use Rattle.reassembly.specs.CallLaws.{IsSized, AreSized}
use Rattle.reassembly.proofs.Datagrams.{wholes_are_sized}
use Rattle.dgram_rules.specs.RuleRows as dgram
use Rattle.tcp_norm.specs.Calls.{Call, segments}
use Rattle.tcp_norm.specs.RuleViews.{view_of, idle_at}
use Rattle.tcp_norm.specs.Outcomes.{call_of, expiry_of}
use Rattle.tcp_norm.specs.SegmentPackets.{IsSegment, AsksSegment, AreOfSegments, PacketsAreItsOwn}
use Rattle.tcp_norm.specs.LiveEras.{AreMade}
use Rattle.tcp_norm.specs.IdleEnds.{idled}
use Rattle.reassembly.specs.Calls.{Call as FragmentCall, expiry}
use Rattle.norm_engine.specs.Items.{Item, now_with, packets}
use Rattle.norm_engine.specs.TraceLaws.{IsSound, IsWithin, IsAlwaysWithin}
use Rattle.norm_engine.specs.Fragments.{fragment_in, with_offered, piece_calls, pieces_before, offering_in, joined_in, Offering, offering_of}
use Rattle.norm_engine.specs.RuleRows.{holds_header, is_segment}
use Rattle.norm_engine.specs.Calls.{where_passes, segment_after, datagram_after, past_of, flow_calls, outcome_in, expiry_in, with_asked}
use Rattle.norm_engine.specs.Trace.{item_of, read_after, Read, Lawful, item_by, dropped_by, noted_rows, named_rows}
use Rattle.norm_engine.specs.CleanRecords.{HasOctets, HaveOctets}
use Rattle.norm_engine.proofs.Items.{AreOfEra, segment_calls, plain_calls}
use Rattle.norm_engine.proofs.Datagrams.{IsJoined, fragment_is, joined_of, made_of, segment_tests}
use Rattle.norm_engine.proofs.Frames.{kept_packet, rest_none}
use Rattle.norm_engine.proofs.Judgments.{not_nil}
use Rattle.norm_engine.proofs.Layers.{header_row, segment_rows_are}

-- The calls of a lawful trace are those that the rules make of its segments.

-- the calls with that of a segment, if there is one
abbrev pub called : PlainSettings → List Call → (now : ℕ) → Option Datagram → List Call
called settings cs now None = cs
called settings cs now (Some d) = call_of settings cs now d ∷ cs

-- what passes exists, and passes
pub both_of : {A : Type 0} (test : A → Bool) (o : Option A) (x : A) → where_passes test o ≡ Some x → (o ≡ Some x) × (test x ≡ true)
both_of test None x h = absurd (cc)
both_of test (Some y) x h = by (test y) refl h
  where
    by : (b : Bool) → test y ≡ b → cond b (Some y) None ≡ Some x → (Some y ≡ Some x) × (test x ≡ true)
    by true is here = let same : y ≡ x = cc in (here, subst (λ z. test z ≡ true) same is)
    by false is here = absurd (cc)

header_fits : (header octets : ℕ) → (nat_lt header 20 || nat_lt octets header) ≡ false → (20 ≤ header) × (header ≤ octets)
header_fits header octets h = (grind (arith, nat_tests), grind (arith, nat_tests))

pub right_inward : (wrong inward offload : Bool) → inward ≡ true → (wrong && not (not inward && offload)) ≡ false → wrong ≡ false
right_inward true true offload e h = absurd (cc)
right_inward false inward offload e h = refl
right_inward true false offload e h = absurd (cc)

-- a known datagram that no rule on the header of its segment drops
pub segment_known : (settings : PlainSettings) (d : Datagram) → IsKnown settings d → is_segment settings d ≡ true → IsSegment settings d
segment_known settings d known is =
    let tests = segment_tests settings d is in
    let six : d.head.protocol ≡ 6 = eqb-true d.head.protocol 6 tests.0 in
    let none = none_found (holds_header settings d) segment_rows (sym (header_row settings d tests.0) ∙ tests.1) in
    let sizes = header_fits (tcp.header_length d.octets) (length d.octets) none.1.0 in
    record {
      known = known;
      protocol = six;
      least = sizes.0;
      inside = sizes.1;
      legal = not-false (tcp.are_legal (tcp.flags d.octets)) none.1.1.1.0;
      formed = not-false (are_well_formed (tcp.options d.octets)) none.1.1.1.1.0;
      sum = λ inward.
          let right = right_inward (tcp.has_wrong_sum (dgram.pseudo_of d) d.octets) (goes_in d.side) settings.offload inward none.1.1.0 in
          subst (λ n. sum_is_right d.octets (pseudo_sum d.head.src.0 d.head.dst.0 n (length d.octets)) ≡ true) six (not-false (sum_is_right d.octets (dgram.pseudo_of d)) right);
    }

-- the fragments of a history of octets

piece_sized : (settings : PlainSettings) (link : Link) (r : records.Packet) (piece : Fragment) → HasOctets r → fragment_in settings link r ≡ Some piece → IsSized piece
piece_sized settings link r piece octets h =
    let each = packet_octets link r.octets octets in
    let p = packet_in link r.octets in
    subst IsSized (fragment_is settings link r piece h).is (record { tos = each 1; ttl = each 8; octets = dropped (ip.header_length p) (take (ip.total_length p) p) (taken (ip.total_length p) p each) })

with_sized : (settings : PlainSettings) (piece : Option Fragment) (now : ℕ) (calls : List reassembly.Call) → ((p : Fragment) → piece ≡ Some p → IsSized p) → AreSized calls
    → AreSized (with_offered settings piece now calls)
with_sized settings None now calls is all = all
with_sized settings (Some p) now calls is all = (is p refl, all)

pieces_sized : (settings : PlainSettings) (link : Link) (history : List Item) → HaveOctets history → AreSized (piece_calls settings link history)
pieces_sized settings link [] octets = tt
pieces_sized settings link (item ∷ older) octets =
    with_sized settings (fragment_in settings link item.packet) (now_with older item.packet) (reassembly.expiry (now_with older item.packet) ∷ piece_calls settings link older)
    (λ p h. piece_sized settings link item.packet p octets.1 h) (pieces_sized settings link older octets.0)

with_answered : (settings : PlainSettings) (piece : Option Fragment) (now : ℕ) (calls : List reassembly.Call) → AreAnswered settings calls → AreAnswered settings (with_offered settings piece now calls)
with_answered settings None now calls all = all
with_answered settings (Some p) now calls all = (refl, all)

-- each fragment of a history was answered by the rules
pub pieces_answered : (settings : PlainSettings) (link : Link) (history : List Item) → AreAnswered settings (piece_calls settings link history)
pieces_answered settings link [] = tt
pieces_answered settings link (item ∷ older) =
    with_answered settings (fragment_in settings link item.packet) (now_with older item.packet) (reassembly.expiry (now_with older item.packet) ∷ piece_calls settings link older)
    (pieces_answered settings link older)

answer_is : (answer : reassembly.Answer) → is_done answer ≡ true → answer ≡ reassembly.done
answer_is reassembly.held h = absurd (cc)
answer_is reassembly.done h = refl
answer_is (reassembly.dropped rule) h = absurd (cc)

joined_known : (settings : PlainSettings) (link : Link) (history : List Item) (r : records.Packet) (d : Datagram) → HaveOctets history → HasOctets r
    → IsJoined settings link (pieces_before settings link history r) r d → IsKnown settings d
joined_known settings link history r d older octets j =
    let p = packet_in link r.octets in
    let calls = pieces_before settings link history r in
    let f = fragment_is settings link r j.piece j.offered in
    let is = wholes_are_sized settings calls j.piece (pieces_answered settings link history) (pieces_sized settings link history older) (piece_sized settings link r j.piece octets j.offered)
    (answer_is _ j.done) in
    let size = sizes p (packet_octets link r.octets octets) in
    subst (IsKnown settings) j.is (record {
      sizes = record { tos = is.tos; ident = size.ident; ttl = is.ttl; protocol = size.protocol; source = size.source; destination = size.destination };
      known = (kept_packet settings link r (record { undropped = f.undropped; carries = f.carried })).known;
      short = is.short;
      each = is.octets;
      whole = λ none. absurd (not_nil _ rules.FDone none);
    })

-- what is known of the datagram of a record, if it and those before it are octets
pub datagram_known : DatagramsAreKnown → (settings : PlainSettings) (link : Link) (history : List Item) (r : records.Packet) (d : Datagram) → HaveOctets history → HasOctets r
    → datagram_after settings link history r ≡ Some d → IsKnown settings d
datagram_known known settings link history r d older octets h = by (datagram_in settings link r) refl h
  where
    calls : List reassembly.Call
    calls = pieces_before settings link history r

    by : (x : Option Datagram) → datagram_in settings link r ≡ x → option_or x (joined_in settings link r (offering_in settings link calls r)) ≡ Some d → IsKnown settings d
    by None is h = joined_known settings link history r d older octets (joined_of settings link calls r d h)
    by (Some e) is h = known settings link r d octets (is ∙ h)

-- the segment of a record of octets
pub segment_is : DatagramsAreKnown → (settings : PlainSettings) (link : Link) (history : List Item) (r : records.Packet) (d : Datagram)
    → HaveOctets history → HasOctets r → segment_after settings link history r ≡ Some d → IsSegment settings d
segment_is known settings link history r d older octets h =
    let here = both_of (is_segment settings) (datagram_after settings link history r) d h in
    segment_known settings d (datagram_known known settings link history r d older octets here.0) here.1

-- a frame that no rule on the link drops has its complete header
pub link_kept : (settings : PlainSettings) (link : Link) (r : records.Packet) → ip_dropped_by settings link r ≡ None → l_short link r.octets ≡ false
unfolding ip_dropped_by
link_kept settings link r none = (rest_none (l_short link r.octets) rules.LShort _ (rest_none (l_snap r) rules.LSnap _ none).1).0

pub long_enough : (settings : PlainSettings) (link : Link) (history : List Item) (r : records.Packet) (d : Datagram) → segment_after settings link history r ≡ Some d
    → l_short link r.octets ≡ false
long_enough settings link history r d h =
    link_kept settings link r (made_of settings link (past_of settings link history r) r d (both_of (is_segment settings) (datagram_after settings link history r) d h).0).undropped

-- the rules of each segment are those of its connection
abbrev pub RowsAreOfEras : Type 0
RowsAreOfEras =
    (settings : PlainSettings) (link : Link) (history : List Item) (r : records.Packet) (d : Datagram)
    → segment_after settings link history r ≡ Some d → AreOfEra settings link (read_after settings link history r) r d

-- the calls with one record more
pub calls_with : RowsAreOfEras → DatagramsAreKnown → PacketsAreItsOwn → (settings : PlainSettings) (link : Link) (history : List Item) (r : records.Packet) → settings.hops ≤ 254 → HaveOctets history → HasOctets r
    → (segment : Option Datagram) → segment_after settings link history r ≡ segment
    → flow_calls settings link (item_of settings link history r ∷ history) ≡ called settings (past_of settings link history r).calls (now_with history r) segment
calls_with rows known own settings link history r hops before octets None h = plain_calls settings link history r h
calls_with rows known own settings link history r hops before octets (Some d) h =
    segment_calls settings link history r d (long_enough settings link history r d h) (rows settings link history r d h)
    (own settings (view_of settings (past_of settings link history r).calls d) d hops (segment_is known settings link history r d before octets h))

made_with : (settings : PlainSettings) (cs : List Call) (now : ℕ) (segment : Option Datagram) → AreMade settings cs → AreMade settings (called settings cs now segment)
made_with settings cs now None made = made
made_with settings cs now (Some d) made = (refl, made)

asked_with : (settings : PlainSettings) (cs : List Call) (now : ℕ) (segment : Option Datagram) → ((d : Datagram) → segment ≡ Some d → IsSegment settings d)
    → AllByRecursion (AsksSegment settings) cs → AllByRecursion (AsksSegment settings) (called settings cs now segment)
asked_with settings cs now None is asked = asked
asked_with settings cs now (Some d) is asked = (is d refl, asked)

pub calls_are_made : RowsAreOfEras → DatagramsAreKnown → PacketsAreItsOwn → (settings : PlainSettings) (link : Link) (trace : List Item) → IsSound settings link trace
    → AreOfSegments settings (flow_calls settings link trace)
calls_are_made rows known own settings link [] sound = record { made = tt; asked = tt }
calls_are_made rows known own settings link (item ∷ older) sound =
    let before = calls_are_made rows known own settings link older (record { hops = sound.hops; octets = sound.octets.0; lawful = sound.lawful.0 }) in
    let r = item.packet in
    let same : flow_calls settings link (item ∷ older) ≡ called settings (past_of settings link older r).calls (now_with older r) (segment_after settings link older r) =
    ap (λ (x : Item). flow_calls settings link (x ∷ older)) sound.lawful.1
    ∙ calls_with rows known own settings link older r sound.hops sound.octets.0 sound.octets.1 (segment_after settings link older r) refl in
    subst (AreOfSegments settings) (sym same) (record {
      made = made_with settings (past_of settings link older r).calls (now_with older r) (segment_after settings link older r) (refl, before.made);
      asked = asked_with settings (past_of settings link older r).calls (now_with older r) (segment_after settings link older r)
          (λ d h. segment_is known settings link older r d sound.octets.0 sound.octets.1 h) (tt, before.asked);
    })

-- what holds after each sound history holds at each history of a sound trace
pub always_within : (settings : PlainSettings) (link : Link) → ((history : List Item) → IsSound settings link history → IsWithin settings link history)
    → (trace : List Item) → IsSound settings link trace → IsAlwaysWithin settings link trace
always_within settings link within [] sound = within [] sound
always_within settings link within (item ∷ older) sound =
    (always_within settings link within older (record { hops = sound.hops; octets = sound.octets.0; lawful = sound.lawful.0 }), within (item ∷ older) sound)

-- The rules of each segment are those of its connection.

pub rows_are_of_eras : RowsAreOfEras
rows_are_of_eras settings link history r d h = segment_rows_are settings link (past_of settings link history r) r d h

-- Records have one lawful trace, whatever the seed.

abbrev reseeded : PlainSettings → ℕ → PlainSettings
reseeded settings seed = record settings { seed = seed }

same_datagram : (settings : PlainSettings) (seed : ℕ) (link : Link) (r : records.Packet) → datagram_in (reseeded settings seed) link r ≡ datagram_in settings link r
unfolding ip_dropped_by ip_fixes
same_datagram settings seed link r = refl

same_piece : (settings : PlainSettings) (seed : ℕ) (link : Link) (r : records.Packet) → fragment_in (reseeded settings seed) link r ≡ fragment_in settings link r
unfolding ip_dropped_by
same_piece settings seed link r = refl

same_pieces : (settings : PlainSettings) (seed : ℕ) (link : Link) (history : List Item) → piece_calls (reseeded settings seed) link history ≡ piece_calls settings link history
same_pieces settings seed link [] = refl
same_pieces settings seed link (item ∷ older) =
    let now = now_with older item.packet in
    same_offered settings seed (fragment_in (reseeded settings seed) link item.packet) now (expiry now ∷ piece_calls (reseeded settings seed) link older)
    ∙ (λ i. with_offered settings (same_piece settings seed link item.packet i) now (expiry now ∷ same_pieces settings seed link older i))
  where
    same_offered : (settings : PlainSettings) (seed : ℕ) (piece : Option Fragment) (now : ℕ) (calls : List FragmentCall) → with_offered (reseeded settings seed) piece now calls ≡ with_offered settings piece now calls
    same_offered settings seed None now calls = refl
    same_offered settings seed (Some piece) now calls = refl

same_before : (settings : PlainSettings) (seed : ℕ) (link : Link) (history : List Item) (r : records.Packet) → pieces_before (reseeded settings seed) link history r ≡ pieces_before settings link history r
same_before settings seed link history r = ap (λ cs. expiry (now_with history r) ∷ cs) (same_pieces settings seed link history)

same_joined : (settings : PlainSettings) (seed : ℕ) (link : Link) (r : records.Packet) (o : Option Offering) → joined_in (reseeded settings seed) link r o ≡ joined_in settings link r o
unfolding ip_fixes
same_joined settings seed link r None = refl
same_joined settings seed link r (Some o) = refl

same_made : (settings : PlainSettings) (seed : ℕ) (link : Link) (history : List Item) (r : records.Packet) → datagram_after (reseeded settings seed) link history r ≡ datagram_after settings link history r
same_made settings seed link history r =
    (λ i. option_or (same_datagram settings seed link r i)
    (joined_in (reseeded settings seed) link r (option_map (offering_of settings (same_before settings seed link history r i)) (same_piece settings seed link r i))))
    ∙ ap (option_or (datagram_in settings link r)) (same_joined settings seed link r (offering_in settings link (pieces_before settings link history r) r))

same_segment : (settings : PlainSettings) (seed : ℕ) (link : Link) (history : List Item) (r : records.Packet) → segment_after (reseeded settings seed) link history r ≡ segment_after settings link history r
same_segment settings seed link history r = ap (where_passes (is_segment settings)) (same_made settings seed link history r)

same_calls : (settings : PlainSettings) (seed : ℕ) (link : Link) (history : List Item) → flow_calls (reseeded settings seed) link history ≡ flow_calls settings link history
same_calls settings seed link [] = refl
same_calls settings seed link (item ∷ older) = λ i.
    with_asked (same_segment settings seed link older item.packet i) (now_with older item.packet) (outcome_in link item) (expiry_in older item ∷ same_calls settings seed link older i)

same_past : (settings : PlainSettings) (seed : ℕ) (link : Link) (history : List Item) (r : records.Packet) → past_of (reseeded settings seed) link history r ≡ past_of settings link history r
same_past settings seed link history r =
    let calls = same_calls settings seed link history in
    let now = now_with history r in
    λ i. record { idle = idled (λ era. segments era (calls i)) (idle_at settings now (calls i)); calls = expiry_of settings (calls i) now ∷ calls i; pieces = same_before settings seed link history r i }

same_read : (settings : PlainSettings) (seed : ℕ) (link : Link) (history : List Item) (r : records.Packet) → read_after (reseeded settings seed) link history r ≡ read_after settings link history r
same_read settings seed link history r = λ i. record {
  piece = option_map (offering_of settings (same_before settings seed link history r i)) (same_piece settings seed link r i);
  datagram = same_made settings seed link history r i;
  segment = same_segment settings seed link history r i;
  past = same_past settings seed link history r i;
}

same_by : (settings : PlainSettings) (seed : ℕ) (link : Link) (read : Read) (r : records.Packet) (number : ℕ) → item_by (reseeded settings seed) link read r number ≡ item_by settings link read r number
unfolding dropped_by noted_rows named_rows
same_by settings seed link read r number = refl

same_item : (settings : PlainSettings) (seed : ℕ) (link : Link) (history : List Item) (r : records.Packet) → item_of (reseeded settings seed) link history r ≡ item_of settings link history r
same_item settings seed link history r =
    same_by settings seed link (read_after (reseeded settings seed) link history r) r (length history + 1)
    ∙ ap (λ read. item_by settings link read r (length history + 1)) (same_read settings seed link history r)

pub trace_is_one : (settings : PlainSettings) (seed : ℕ) (link : Link) (trace other : List Item)
    → Lawful settings link trace → Lawful (reseeded settings seed) link other → packets trace ≡ packets other → trace ≡ other
trace_is_one settings seed link [] [] a b e = refl
trace_is_one settings seed link [] (item ∷ older) a b e = absurd (cc)
trace_is_one settings seed link (item ∷ older) [] a b e = absurd (cc)
trace_is_one settings seed link (item ∷ older) (thing ∷ past) a b e =
    let same : item.packet ≡ thing.packet = cc in
    let rest : packets older ≡ packets past = cc in
    let before : older ≡ past = trace_is_one settings seed link older past a.0 b.0 rest in
    ap₂ (λ i l. i ∷ l) (a.1 ∙ ap₂ (λ h p. item_of settings link h p) before same ∙ sym (same_item settings seed link past thing.packet) ∙ sym b.1) before

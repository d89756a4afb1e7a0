-- In each era of a lawful trace all receivers agree, and what waits in one is what norm keeps.
use Rattle.std.proofs.Common.{◌≡◌, ℕ, ◌≤◌, Bool, true, false, cond, ◌&&◌, ◌==◌, not, List, [], ◌∷◌, ◌++◌, length, map, Option, Some, None, refl, sym, ap, ap₂, subst, ◌∙◌, zero, suc, ◌+◌, ◌*◌, ◌/◌, ◌<◌, is_some, ℤ, pos, arith, append_assoc, append-nil, All, option_map, nat_lt}
use Rattle.std.specs.List.{AllByRecursion, count_by, range_with_len}
use Rattle.std.proofs.lemmas.List.Elements.{All-nil, All-cons, All-append}
use Rattle.std.proofs.lemmas.Bool.Decides.{nat_tests}
use Rattle.std.proofs.lemmas.Int.{ints}
use Rattle.std.proofs.lemmas.List.Sums.{sum_by-cons}
use Rattle.wire_base.specs.declared.address.Link.{Link}
use Rattle.wire_base.specs.Tcp as tcp
use Rattle.wire_base.specs.Plain.{Plain}
use Rattle.wire_base.specs.Segments.{Segment, fields_of, segment_of, Written}
use Rattle.wire_base.specs.Frames.{link_octets, packet_in}
use Rattle.pcap_file.specs.Records as records
use Rattle.norm_settings.specs.SettingValues.{PlainSettings}
use Rattle.ip_rules.specs.RuleRows.{is_inward, l_short}
use Rattle.ip_rules.specs.Datagrams.{Datagram, Packet, DatagramsAreKnown, IsPacketOf, goes_in, frames_of}
use Rattle.era_state.specs.Emission.{AreEmitted}
use Rattle.era_agreement.specs.SentPackets.{Sent, is_era, inward_packets, aside_packets, written_as, segments_in, written_in, inward_places}
use Rattle.era_agreement.specs.Agreement.{IsSilentPacket, read_to}
use Rattle.era_agreement.specs.AgreementLaws.{EmittedAgrees, EmittedIsOfOneStream, EmittedMissesNothing, EmittedReadsOneStream, EmittedStaysNearAcks, EmittedTellsOneStream, IsEmittedEra, TellsItsStream}
use Rattle.tcp_norm.specs.Calls.{Call, Outcome, expiry, datagram, read, segments, is_written}
use Rattle.tcp_norm.specs.RuleViews.{view_of}
use Rattle.tcp_norm.specs.SegmentPackets.{IsSegment, PacketsAreItsOwn, PacketsArePlain, ProbesAreSilent, CallsAreEmitted, IsSilentPacket as Silent}
use Rattle.ip_rules.proofs.Datagrams.{inward_is}
use Rattle.receiver_model.specs.FamilyAgreement.{FinAt, OctetAt}
use Rattle.receiver_model.specs.Delivery.{Receiver, beginning}
use Rattle.receiver_model.proofs.Members.{IsStream, Sound, sound_beginning, is_stream, run_keeps}
use Rattle.retain_store.proofs.Counts.{count_most, none_counted, parts}
use Rattle.era_state.specs.Offsets.{number_in}
use Rattle.era_state.specs.Quantities.{acked, base_at, first}
use Rattle.tcp_norm.specs.HeldOctets.{has_block, held_of, kept_at}
use Rattle.tcp_norm.proofs.HeldBlocks.{held_most, holds_at}
use Rattle.norm_engine.specs.Items.{Item, now_with}
use Rattle.norm_engine.specs.RuleRows.{is_segment, side_of_record}
use Rattle.norm_engine.specs.Calls.{segment_after, datagram_after, past_of, flow_calls}
use Rattle.norm_engine.specs.Trace.{item_of, read_after, dropped_by, outcome_of, era_by}
use Rattle.norm_engine.specs.CleanRecords.{HasOctets, HaveOctets}
use Rattle.norm_engine.specs.Agreement.{sent_for, sent_in}
use Rattle.norm_engine.specs.CertainReading.{LawfulIsEmitted}
use Rattle.norm_engine.specs.TraceLaws.{IsSound, LawfulAgrees, LawfulCallsAreMade, LawfulIsOfOneStream, LawfulMissesNothing, LawfulReadsOneStream, LawfulStaysNearAcks, LawfulTellsStreams}
use Rattle.norm_engine.specs.MonitorMemory.{WaitingIsFew, WaitingIsKept}
use Rattle.norm_engine.proofs.Frames.{packet_behind, whole}
use Rattle.norm_engine.proofs.Items.{AreOfEra, era_told, sides, segment_frames, segment_verdict}
use Rattle.norm_engine.proofs.Datagrams.{made_of}
use Rattle.norm_engine.proofs.Traces.{RowsAreOfEras, both_of, calls_with, called, long_enough, segment_is}

-- In each era of a lawful trace all receivers agree.

-- the packets in a segment's frames are those that were written
wholes_back : (link : Link) (frame : List ℕ) (packets : List Packet) → l_short link frame ≡ false
    → map (packet_in link) (frames_of (link_octets link frame) packets) ≡ map whole packets
wholes_back link frame [] long = refl
wholes_back link frame (p ∷ ps) long =
    let here = ap (packet_in link) (append_assoc (link_octets link frame) p.header p.octets) ∙ packet_behind link frame (whole p) long in
    ap₂ (λ x xs. x ∷ xs) here (wholes_back link frame ps long)

-- such a packet of a segment is read as one
segment_whole : (settings : PlainSettings) (d : Datagram) (p : Packet) → d.head.protocol ≡ 6 → IsPacketOf settings d p → segment_of (whole p) ≡ Some (fields_of (whole p))
segment_whole settings d p six is = ap (λ n. cond (n == 6) (Some (fields_of (whole p))) None) (is.protocol ∙ six)

-- the segments of packets are those that they carry
read_back : (settings : PlainSettings) (d : Datagram) (inward : Bool) (packets : List Packet) → d.head.protocol ≡ 6 → AllByRecursion (IsPacketOf settings d) packets
    → segments_in inward (map whole packets) ≡ map (λ p. read inward p.octets) packets
read_back settings d inward [] six own = refl
read_back settings d inward (p ∷ ps) six own =
    let here = ap (written_as inward) (segment_whole settings d p six own.0) ∙ ap (λ m. read inward m ∷ []) own.0.carries in
    ap₂ (λ xs ys. xs ++ ys) here (read_back settings d inward ps six own.1)

-- a packet without octets, SYN and FIN is silent
silent_whole : (settings : PlainSettings) (d : Datagram) (p : Packet) → d.head.protocol ≡ 6 → IsPacketOf settings d p → Silent p → IsSilentPacket (whole p)
silent_whole settings d p six is silent s says =
    let same : fields_of (whole p) ≡ s = let stands = segment_whole settings d p six is in cc in
    subst (λ (t : Segment). (t.octets ≡ []) × (tcp.has_syn t.flags ≡ false) × (tcp.has_fin t.flags ≡ false)) same (
      ap tcp.payload is.carries ∙ silent.octets,
      ap (λ m. tcp.has_syn (tcp.flags m)) is.carries ∙ silent.no_syn,
      ap (λ m. tcp.has_fin (tcp.flags m)) is.carries ∙ silent.no_fin,
    )

silent_wholes : (settings : PlainSettings) (d : Datagram) (packets : List Packet) → d.head.protocol ≡ 6 → AllByRecursion (IsPacketOf settings d) packets → AllByRecursion Silent packets
    → All IsSilentPacket (map whole packets)
silent_wholes settings d [] six own silent = All-nil IsSilentPacket
silent_wholes settings d (p ∷ ps) six own silent =
    All-cons IsSilentPacket (whole p) (map whole ps) (silent_whole settings d p six own.0 silent.0) (silent_wholes settings d ps six own.1 silent.1)

plain_wholes : (hops : ℕ) (packets : List Packet) → AllByRecursion (λ p. Plain hops (whole p)) packets → All (λ p. Plain hops p) (map whole packets)
plain_wholes hops [] plain = All-nil (λ p. Plain hops p)
plain_wholes hops (p ∷ ps) plain = All-cons (λ p. Plain hops p) (whole p) (map whole ps) plain.0 (plain_wholes hops ps plain.1)

-- What was sent in an era is what its calls wrote: the same segments, plain inwards, and
-- probes without octets, SYN and FIN.
record IsAsCalled (hops era : ℕ) (sent : List Sent) (cs : List Call) : Type 0 where
  written : written_in era sent ≡ segments era cs
  plain : All (λ p. Plain hops p) (inward_packets era sent)
  silent : All IsSilentPacket (aside_packets era sent)

-- with the eras that are idle by a time
with_idle : (hops era : ℕ) (sent : List Sent) (cs : List Call) (now : ℕ) (ended : List ℕ) → IsAsCalled hops era sent cs → IsAsCalled hops era sent (expiry now ended ∷ cs)
with_idle hops era sent cs now ended is = record { written = is.written ∙ sym (append-nil (segments era cs)); plain = is.plain; silent = is.silent }

-- with what was sent for a record that belongs to no era
with_other : (hops era : ℕ) (sent : List Sent) (cs : List Call) (s : Sent) → s.era ≡ None → IsAsCalled hops era sent cs → IsAsCalled hops era (s ∷ sent) cs
with_other hops era sent cs s none is = subst (λ o. IsAsCalled hops era (record s { era = o } ∷ sent) cs) (sym none) (record {
  written = append-nil (written_in era sent) ∙ is.written;
  plain = subst (All (λ p. Plain hops p)) (sym (append-nil (inward_packets era sent))) is.plain;
  silent = subst (All IsSilentPacket) (sym (append-nil (aside_packets era sent))) is.silent;
})

-- what is known of the packets that are written for a segment
pub record AreOf (settings : PlainSettings) (d : Datagram) (o : Outcome) : Type 0 where
  pub protocol : d.head.protocol ≡ 6
  pub own : AllByRecursion (IsPacketOf settings d) o.packets
  pub plain : goes_in d.side ≡ true → AllByRecursion (λ p. Plain settings.hops (whole p)) o.packets
  pub silent : is_written o.verdict ≡ false → AllByRecursion Silent o.packets

-- what was sent for a segment, by its outcome
abbrev sent_by : Datagram → Outcome → Sent
sent_by d o = record { inward = goes_in d.side; era = o.era; written = is_written o.verdict; packets = map whole o.packets }

with_segment : (settings : PlainSettings) (era : ℕ) (sent : List Sent) (cs : List Call) (now : ℕ) (d : Datagram) (o : Outcome)
    → AreOf settings d o → IsAsCalled settings.hops era sent cs → IsAsCalled settings.hops era (sent_by d o ∷ sent) (datagram now d o ∷ cs)
with_segment settings era sent cs now d o known is = record {
  written =
      ap₂ (λ xs ys. xs ++ ys) is.written
      (ap (λ xs. cond (is_era era o.era && is_written o.verdict) xs []) (read_back settings d (goes_in d.side) o.packets known.protocol known.own));
  plain =
      All-append (λ p. Plain settings.hops p) (inward_packets era sent) (cond (is_era era o.era && goes_in d.side) (map whole o.packets) [])
      is.plain (plain_here (is_era era o.era) (goes_in d.side) refl);
  silent =
      All-append IsSilentPacket (aside_packets era sent) (cond (is_era era o.era && goes_in d.side && not (is_written o.verdict)) (map whole o.packets) [])
      is.silent (silent_here (is_era era o.era) (goes_in d.side) (is_written o.verdict) refl);
}
  where
    plain_here : (named inward : Bool) → goes_in d.side ≡ inward → All (λ p. Plain settings.hops p) (cond (named && inward) (map whole o.packets) [])
    plain_here true true goes = plain_wholes settings.hops o.packets (known.plain goes)
    plain_here true false goes = All-nil (λ p. Plain settings.hops p)
    plain_here false inward goes = All-nil (λ p. Plain settings.hops p)

    silent_here : (named inward written : Bool) → is_written o.verdict ≡ written → All IsSilentPacket (cond (named && inward && not written) (map whole o.packets) [])
    silent_here true true false was = silent_wholes settings d o.packets known.protocol known.own (known.silent was)
    silent_here true true true was = All-nil IsSilentPacket
    silent_here true false written was = All-nil IsSilentPacket
    silent_here false inward written was = All-nil IsSilentPacket

-- what is sent for a segment is its outcome
sent_is : (settings : PlainSettings) (link : Link) (history : List Item) (r : records.Packet) (d : Datagram)
    → segment_after settings link history r ≡ Some d → AreOfEra settings link (read_after settings link history r) r d
    → sent_for link (item_of settings link history r) ≡ sent_by d (outcome_of settings (read_after settings link history r) d)
sent_is settings link history r d h rows =
    let read = read_after settings link history r in
    let o = outcome_of settings read d in
    let record_side = side_of_record settings link r in
    let told = sides (dropped_by settings link read r) record_side (λ rule dropped. era_told settings read.past.calls d rule (sym rows.dropped ∙ dropped)) in
    let side = (made_of settings link (past_of settings link history r) r d (both_of (is_segment settings) (datagram_after settings link history r) d h).0).told in
    λ i. record {
      inward = (ap is_inward (told ∙ side) ∙ inward_is d.side) i;
      era = era_by (option_map (outcome_of settings read) (h i));
      written = is_written (segment_verdict settings link read r d rows i);
      packets = (ap (map (packet_in link)) (segment_frames settings link read r d rows)
          ∙ wholes_back link r.octets o.packets (long_enough settings link history r d h)) i;
    }

-- the laws that this is based on
pub record PacketLaws : Type 0 where
  pub rows : RowsAreOfEras
  pub known : DatagramsAreKnown
  pub own : PacketsAreItsOwn
  pub plain : PacketsArePlain
  pub silent : ProbesAreSilent

pub packets_are : PacketLaws → (settings : PlainSettings) (link : Link) (history : List Item) (r : records.Packet) (d : Datagram) → settings.hops ≤ 254 → HaveOctets history → HasOctets r
    → segment_after settings link history r ≡ Some d → AreOf settings d (outcome_of settings (read_after settings link history r) d)
packets_are laws settings link history r d hops older octets h =
    let v = view_of settings (past_of settings link history r).calls d in
    let is : IsSegment settings d = segment_is laws.known settings link history r d older octets h in
    record {
      protocol = is.protocol;
      own = laws.own settings v d hops is;
      plain = laws.plain settings v d hops is;
      silent = laws.silent settings v d;
    }

-- with one record more
as_called_with : PacketLaws → (settings : PlainSettings) (link : Link) (era : ℕ) (history : List Item) (r : records.Packet) → settings.hops ≤ 254 → HaveOctets history → HasOctets r
    → IsAsCalled settings.hops era (sent_in link history) (flow_calls settings link history)
    → IsAsCalled settings.hops era (sent_in link (item_of settings link history r ∷ history)) (flow_calls settings link (item_of settings link history r ∷ history))
as_called_with laws settings link era history r hops older octets before =
    let calls = calls_with laws.rows laws.known laws.own settings link history r hops older octets (segment_after settings link history r) refl in
    subst (IsAsCalled settings.hops era (sent_in link (item ∷ history))) (sym calls) (by (segment_after settings link history r) refl)
  where
    item : Item
    item = item_of settings link history r

    now : ℕ
    now = now_with history r

    past : List Call
    past = (past_of settings link history r).calls

    idle : IsAsCalled settings.hops era (sent_in link history) past
    idle = with_idle settings.hops era (sent_in link history) (flow_calls settings link history) now _ before

    by : (segment : Option Datagram) → segment_after settings link history r ≡ segment → IsAsCalled settings.hops era (sent_in link (item ∷ history)) (called settings past now segment)
    by None h =
        with_other settings.hops era (sent_in link history) past (sent_for link item)
        (ap (λ o. era_by (option_map (outcome_of settings (read_after settings link history r)) o)) h) idle
    by (Some d) h =
        let o = outcome_of settings (read_after settings link history r) d in
        subst (λ s. IsAsCalled settings.hops era (s ∷ sent_in link history) (datagram now d o ∷ past))
        (sym (sent_is settings link history r d h (laws.rows settings link history r d h)))
        (with_segment settings era (sent_in link history) past now d o (packets_are laws settings link history r d hops older octets h) idle)

as_called : PacketLaws → (settings : PlainSettings) (link : Link) (era : ℕ) (trace : List Item) → IsSound settings link trace
    → IsAsCalled settings.hops era (sent_in link trace) (flow_calls settings link trace)
as_called laws settings link era [] sound = record { written = refl; plain = All-nil (λ p. Plain settings.hops p); silent = All-nil IsSilentPacket }
as_called laws settings link era (item ∷ older) sound =
    let before = as_called laws settings link era older (record { hops = sound.hops; octets = sound.octets.0; lawful = sound.lawful.0 }) in
    subst (λ x. IsAsCalled settings.hops era (sent_in link (x ∷ older)) (flow_calls settings link (x ∷ older))) (sym sound.lawful.1)
    (as_called_with laws settings link era older item.packet sound.hops sound.octets.0 sound.octets.1 before)

pub written_is : PacketLaws → (settings : PlainSettings) (link : Link) (era : ℕ) (trace : List Item) → IsSound settings link trace
    → written_in era (sent_in link trace) ≡ segments era (flow_calls settings link trace)
written_is laws settings link era trace sound = (as_called laws settings link era trace sound).written

pub emitted_era : PacketLaws → CallsAreEmitted → LawfulCallsAreMade → (settings : PlainSettings) (link : Link) (trace : List Item) → IsSound settings link trace
    → (era : ℕ) → IsEmittedEra settings.hops era (sent_in link trace)
emitted_era laws emitted made settings link trace sound era =
    let is = as_called laws settings link era trace sound in
    record {
      plain = is.plain;
      emitted = subst (AreEmitted []) (sym is.written) (emitted settings (flow_calls settings link trace) (made settings link trace sound) era);
      silent = is.silent;
    }

pub agrees : PacketLaws → CallsAreEmitted → EmittedAgrees → LawfulCallsAreMade → LawfulAgrees
agrees laws emitted agree made settings link trace sound = agree settings.hops (sent_in link trace) (emitted_era laws emitted made settings link trace sound)

pub tells : PacketLaws → CallsAreEmitted → EmittedTellsOneStream → LawfulCallsAreMade → LawfulTellsStreams
tells laws emitted tell made settings link trace sound era base based =
    tell settings.hops era base (sent_in link trace) (emitted_era laws emitted made settings link trace sound era) based

pub of_one_stream : EmittedIsOfOneStream → LawfulIsEmitted → LawfulIsOfOneStream
of_one_stream of emitted settings link trace sound era base based = of settings.hops era base (sent_in link trace) (emitted settings link trace sound era) based

pub reads_one_stream : EmittedReadsOneStream → LawfulIsEmitted → LawfulReadsOneStream
reads_one_stream reads emitted settings link trace sound = reads settings.hops (sent_in link trace) (emitted settings link trace sound)

pub misses : EmittedMissesNothing → LawfulIsEmitted → LawfulMissesNothing
misses miss emitted settings link [] sound = miss settings.hops (sent_in link []) (emitted settings link [] sound)
misses miss emitted settings link (item ∷ older) sound = (
  misses miss emitted settings link older (record { hops = sound.hops; octets = sound.octets.0; lawful = sound.lawful.0 }),
  miss settings.hops (sent_in link (item ∷ older)) (emitted settings link (item ∷ older) sound),
)

pub near_acks : EmittedStaysNearAcks → LawfulIsEmitted → LawfulStaysNearAcks
near_acks stay emitted settings link trace sound era base based = stay settings.hops era base (sent_in link trace) (emitted settings link trace sound era) based

-- What waits in a receiver is what norm keeps of the era: at most 256 octets for each block that it
-- holds.

-- ---- each octet

-- no octet waits at or past the end
not_ended : (places : List ℤ) (frames : List (List ℕ)) (start : ℕ) (r : Receiver) (offset octet : ℕ) → IsStream (OctetAt places frames) (FinAt places frames)
    → Sound (OctetAt places frames) (FinAt places frames) start r → start + length r.stream ≤ offset → OctetAt places frames (pos offset) octet
    → (ended : Bool) → r.ended ≡ ended → ended ≡ false
not_ended places frames start r offset octet is known from c false e = refl
not_ended places frames start r offset octet is known from c true e =
    let past = is.none_past (pos offset) octet (pos (start + length r.stream)) c (known.ends e) in
    absurd (omega (arith, ints, from, past))

reaches : (start : ℕ) (stream : List ℕ) (ack : ℕ) (ended : Bool) → ended ≡ false → ack ≤ read_to start stream ended → ack ≤ start + length stream
reaches start stream ack false e h = omega (arith, h)
reaches start stream ack true e h = absurd (cc)

pub waiting_is_kept : LawfulTellsStreams → WaitingIsKept
waiting_is_kept tell settings link trace era base start r sound k offset octet from waits =
    let sent : List Sent = sent_in link trace in
    let ws : List Written = written_in era sent in
    let places : List ℤ = inward_places era base sent in
    let frames : List (List ℕ) = inward_packets era sent in
    let tells : TellsItsStream settings.hops era base sent = tell settings link trace sound era base k.based in
    let last : Receiver = k.delivers.delivery.last in
    let known : Sound (OctetAt places frames) (FinAt places frames) start last =
    run_keeps settings.hops k.member.distance base start places frames beginning last k.schedule k.near tells.stream
    (sound_beginning (OctetAt places frames) (FinAt places frames) start) k.delivers.delivery.run k.delivers.timely in
    let stands : OctetAt places frames (pos offset) octet = known.waits (pos offset) octet (ap (λ s. s.waiting (pos offset)) k.last ∙ waits) in
    let based : base_at ws ≡ base = ap number_in k.based in
    let live : r.ended ≡ false = not_ended places frames start r offset octet (is_stream settings.hops base places frames tells.stream) (subst (Sound (OctetAt places frames) (FinAt places frames) start) k.last known) from stands r.ended refl in
    let up : acked base ws ≤ start + length r.stream = reaches start r.stream (acked base ws) r.ended live k.has_read in
    let test : nat_lt offset (acked base ws) ≡ false = grind (arith, nat_tests, from, up) in
    subst (λ n. cond (nat_lt offset (acked n ws)) None (first n ws (pos offset)) ≡ Some octet) (sym based)
    (ap (λ b. cond b None (first base ws (pos offset))) test ∙ tells.octets (pos offset) octet stands)

-- ---- counts

-- what passes one test passes the other, from this number on
count_below : (p q : ℕ → Bool) (a n : ℕ) → ((m : ℕ) → a ≤ m → p m ≡ true → q m ≡ true) → count_by p (range_with_len a n) ≤ count_by q (range_with_len a n)
count_below p q a zero passes = omega arith
count_below p q a (suc n) passes =
    let rest = count_below p q (a + 1) n (λ m above. passes m (omega (arith, above))) in
    let one = here (p a) (q a) (passes a (omega arith)) in
    omega (arith, rest, one, sum_by-cons (λ k. cond (p k) 1 0) a (range_with_len (a + 1) n), sum_by-cons (λ k. cond (q k) 1 0) a (range_with_len (a + 1) n))
  where
    here : (x y : Bool) → (x ≡ true → y ≡ true) → cond {A = ℕ} x 1 0 ≤ cond {A = ℕ} y 1 0
    here false y goes = omega arith
    here true true goes = omega arith
    here true false goes = let e = goes refl in absurd (cc)

-- a count in two parts, each at most 256 for each block that is held there
join_blocks : (whole first rest here held total : ℕ) → whole ≡ first + rest → total ≡ here + held → first ≤ 256 * here → rest ≤ 256 * held → whole ≤ 256 * total
join_blocks whole first rest here held total parted summed low high = omega (arith, parted, summed, low, high)

at_most_none : (n most : ℕ) → n ≡ 0 → n ≤ most
at_most_none n most none = omega (arith, none)

-- of each block of 256 numbers at most 256 are counted, and none if the block is not
count_in_blocks : (p b : ℕ → Bool) → ((m : ℕ) → p m ≡ true → b (m / 256) ≡ true) → (a n : ℕ) → count_by p (range_with_len (256 * a) (256 * n)) ≤ 256 * count_by b (range_with_len a n)
count_in_blocks p b each a zero = count_most p (256 * a) 0
count_in_blocks p b each a (suc n) =
    join_blocks (count_by p (range_with_len (256 * a) (256 * suc n))) (count_by p (range_with_len (256 * a) 256)) (count_by p (range_with_len (256 * (a + 1)) (256 * n)))
    (cond (b a) 1 0) (count_by b (range_with_len (a + 1) n)) (count_by b (range_with_len a (suc n))) parted (sum_by-cons (λ k. cond (b k) 1 0) a (range_with_len (a + 1) n))
    (here (b a) refl) (count_in_blocks p b each (a + 1) n)
  where
    parted : count_by p (range_with_len (256 * a) (256 * suc n)) ≡ count_by p (range_with_len (256 * a) 256) + count_by p (range_with_len (256 * (a + 1)) (256 * n))
    parted =
        let split : 256 * suc n ≡ 256 + 256 * n = omega arith in
        let next : 256 * a + 256 ≡ 256 * (a + 1) = omega arith in
        ap (λ k. count_by p (range_with_len (256 * a) k)) split
        ∙ parts p (256 * a) 256 (256 * n)
        ∙ ap (λ k. count_by p (range_with_len (256 * a) 256) + count_by p (range_with_len k (256 * n))) next

    none : (m : ℕ) → b a ≡ false → 256 * a ≤ m → m < 256 * a + 256 → (x : Bool) → p m ≡ x → x ≡ false
    none m e low high false is = refl
    none m e low high true is = let block : m / 256 ≡ a = omega (arith, low, high) in let t = each m is in let u = ap b block in absurd (cc)

    here : (t : Bool) → b a ≡ t → count_by p (range_with_len (256 * a) 256) ≤ 256 * cond {A = ℕ} t 1 0
    here true e = count_most p (256 * a) 256
    here false e = at_most_none (count_by p (range_with_len (256 * a) 256)) (256 * 0) (none_counted p (256 * a) 256 (λ m low high. none m e low high (p m) refl))

-- a part of a count is at most the whole
middle_part : (whole low rest middle high : ℕ) → whole ≡ low + rest → rest ≡ middle + high → middle ≤ whole
middle_part whole low rest middle high parted again = omega (arith, parted, again)

count_part : (p : ℕ → Bool) (a n more : ℕ) → count_by p (range_with_len a n) ≤ count_by p (range_with_len 0 (a + (n + more)))
count_part p a n more =
    let from : 0 + a ≡ a = omega arith in
    middle_part (count_by p (range_with_len 0 (a + (n + more)))) (count_by p (range_with_len 0 a)) (count_by p (range_with_len a (n + more)))
    (count_by p (range_with_len a n)) (count_by p (range_with_len (a + n) more))
    (parts p 0 a (n + more) ∙ ap (λ k. count_by p (range_with_len 0 a) + count_by p (range_with_len k (n + more))) from) (parts p a n more)

-- kept octets from an offset on
kept_count : (ws : List Written) (a n : ℕ) → count_by (λ k. is_some (kept_at ws k)) (range_with_len a n) ≤ 256 * held_of ws
kept_count ws a n = joined (count_part p a n (255 * m)) (subst (λ k. count_by p (range_with_len 0 k) ≤ 256 * count_by (has_block ws) (range_with_len 0 m)) split all) (held_most ws m)
  where
    p : ℕ → Bool
    p k = is_some (kept_at ws k)

    m : ℕ
    m = a + n

    split : 256 * m ≡ a + (n + 255 * m)
    split = omega arith

    all : count_by p (range_with_len 0 (256 * m)) ≤ 256 * count_by (has_block ws) (range_with_len 0 m)
    all = count_in_blocks p (has_block ws) (holds_at ws) 0 m

    joined : {one two three four : ℕ} → one ≤ two → two ≤ 256 * three → three ≤ four → one ≤ 256 * four
    joined {one} {two} {three} {four} x y z = omega (arith, x, y, z)

some_is : (o : Option ℕ) → is_some o ≡ true → (x : ℕ) × (o ≡ Some x)
some_is (Some x) e = (x, refl)
some_is None e = absurd (cc)

pub waiting_is_few : PacketLaws → LawfulTellsStreams → WaitingIsFew
waiting_is_few laws tell settings link trace a base start r sound live k len =
    let ws : List Written = written_in a.number (sent_in link trace) in
    let next = start + length r.stream in
    let kept : (m : ℕ) → next ≤ m → is_some (r.waiting (pos m)) ≡ true → is_some (kept_at ws m) ≡ true =
    (λ m from some. let w = some_is (r.waiting (pos m)) some in ap is_some (waiting_is_kept tell settings link trace a.number base start r sound k m w.0 from w.1)) in
    let counted = count_below (λ n. is_some (r.waiting (pos n))) (λ n. is_some (kept_at ws n)) next len kept in
    let same : held_of ws ≡ held_of (segments a.number (flow_calls settings link trace)) = ap held_of (written_is laws settings link a.number trace sound) in
    omega (arith, counted, kept_count ws next len, same)

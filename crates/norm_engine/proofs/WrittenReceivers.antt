-- Receivers agree on what was written of each era, also under an MTU, and read parts of one stream;
-- and a monitor misses nothing of it.
use Rattle.std.proofs.Common.{ℤ, ◌≡◌, ℕ, ◌==◌, ◌&&◌, not, nat_lt, Bool, cond, All, List, ◌++◌, length, map, get_or, Option, Some, None, refl, sym, ap, ap₂, subst, ◌∙◌, arith, true, false, [], ◌∷◌}
use Rattle.std.specs.List.{AllByRecursion, flat_map}
use Rattle.std.proofs.lemmas.Bool.{and_parts}
use Rattle.std.proofs.lemmas.Grind.{flat_map-append}
use Rattle.std.proofs.lemmas.List.{map-append}
use Rattle.std.proofs.lemmas.List.Elements.{All-nil, All-cons, All-append, All-map}
use Rattle.wire_base.specs.declared.address.Link.{Link}
use Rattle.wire_base.specs.declared.address.Link.TheVariants.{Raw}
use Rattle.wire_base.specs.Frames.{packet_in}
use Rattle.wire_base.specs.Ipv4 as ip
use Rattle.wire_base.specs.Tcp as tcp
use Rattle.wire_base.specs.Segments.{fields_of, segment_of}
use Rattle.norm_settings.specs.SettingValues.{PlainSettings}
use Rattle.ip_rules.specs.RuleRows.{is_inward}
use Rattle.receiver_model.specs.FamilyAgreement.{MembersAgree, TellOneStream}
use Rattle.receiver_model.specs.Monitors.{MonitorsMissNothing, StayNearAcks}
use Rattle.receiver_model.specs.StreamParts.{AreOfStream, MembersReadParts}
use Rattle.era_state.specs.Quantities.{base_of, end_of, first}
use Rattle.era_agreement.specs.SentPackets.{Sent, inward_packets, inward_places, inward_acks, is_era, written_in}
use Rattle.era_agreement.specs.Agreement.{EraIsSound, IsSilentPacket}
use Rattle.norm_engine.specs.Items.{Item}
use Rattle.norm_engine.specs.Agreement.{AtEachHistory, sent_in}
use Rattle.norm_engine.specs.TraceLaws.{IsSound, LawfulAgrees, LawfulIsOfOneStream, LawfulStaysNearAcks, LawfulTellsStreams}
use Rattle.norm_engine.specs.OutgoingFrames.{CarriesWhole, IsOutgoing}
use Rattle.emit_mtu.specs.declared.long.LongKind.{LongKind}
use Rattle.emit_mtu.specs.FrameParts.{AreOctets}
use Rattle.emit_mtu.specs.LongFrames.{is_long, is_marked, long_kind, may_be_cut}
use Rattle.emit_mtu.specs.CutStreams.{CutIsOfStream, CutStaysNearAcks, CutTellsOneStream, PacketsGoOutAlike, frames_for, frames_of, packets_for, places_for, acks_for}
use Rattle.emit_mtu.proofs.Frames.{kind_sized, octets_in}
use Rattle.norm_engine.specs.WrittenTrace.{AgreeAsWritten, HaveFrameOctets, MissesNothingAsWritten, ReadsOneStreamAsWritten, item_written, places_written}
use Rattle.norm_engine.proofs.WrittenFrames.{InRange, all_flat, same_trace}
use Rattle.emit_mtu.specs.declared.long.LongKind.TheVariants.{Fits, Cut, Drop}

-- ---- the packets of an era

module _ (link : Link) (mtu : ℕ) (alike : PacketsGoOutAlike) (era : ℕ) where
  abbrev fr : List ℕ → List (List ℕ)
  fr = frames_for Raw mtu

  packets_alike : (frames : List (List ℕ)) → AllByRecursion (CarriesWhole link) frames
      → map (packet_in link) (flat_map (frames_for link mtu) frames) ≡ flat_map fr (map (packet_in link) frames)
  packets_alike [] each = refl
  packets_alike (frame ∷ frames) each =
      map-append (packet_in link) (frames_for link mtu frame) (flat_map (frames_for link mtu) frames)
      ∙ ap₂ (λ xs ys. xs ++ ys) (alike link mtu frame (kind_sized link frame each.0.0 each.0.1)) (packets_alike frames each.1)

  either_way : (b : Bool) (xs ys : List (List ℕ)) → (b ≡ true → xs ≡ flat_map fr ys) → cond b xs [] ≡ flat_map fr (cond b ys [])
  either_way true xs ys same = same refl
  either_way false xs ys same = refl

  here : (item : Item) → IsOutgoing link item → (named : Option ℕ) → item.entry.era ≡ named
      → cond (is_era era named && is_inward item.entry.side) (map (packet_in link) (flat_map (frames_for link mtu) item.frames)) []
      ≡ flat_map fr (cond (is_era era named && is_inward item.entry.side) (map (packet_in link) item.frames) [])
  here item goes None is = refl
  here item goes (Some n) is =
      either_way ((n == era) && is_inward item.entry.side) (map (packet_in link) (flat_map (frames_for link mtu) item.frames)) (map (packet_in link) item.frames)
      (λ e. packets_alike item.frames (goes.of_era n is))

  pub inward_cut : (trace : List Item) → AllByRecursion (IsOutgoing link) trace
      → inward_packets era (sent_in link (map (item_written (Some mtu) link) trace)) ≡ packets_for mtu (inward_packets era (sent_in link trace))
  inward_cut [] each = refl
  inward_cut (item ∷ older) each =
      ap₂ (λ xs ys. xs ++ ys) (inward_cut older each.1) (here item each.0 item.entry.era refl)
      ∙ sym (flat_map-append fr (inward_packets era (sent_in link older)) (cond (is_era era item.entry.era && is_inward item.entry.side) (map (packet_in link) item.frames) []))

  -- they are octets
  octets_if : (b : Bool) (frames : List (List ℕ)) → All AreOctets frames → All AreOctets (cond b (map (packet_in link) frames) [])
  octets_if false frames all = All-nil AreOctets
  octets_if true frames all = All-map AreOctets (packet_in link) frames (λ k d l. octets_in link (get_or frames k d) (all k d l))

  pub inward_octets : (trace : List Item) → HaveFrameOctets (Some mtu) trace → All AreOctets (inward_packets era (sent_in link trace))
  inward_octets [] octets = All-nil AreOctets
  inward_octets (item ∷ older) octets =
      All-append AreOctets (inward_packets era (sent_in link older)) _ (inward_octets older octets.1)
      (octets_if (is_era era item.entry.era && is_inward item.entry.side) item.frames octets.0)

-- a packet without octets, SYN and FIN is not cut
silent_by : (mtu : ℕ) (packet : List ℕ) → IsSilentPacket packet → (kind : LongKind) → long_kind Raw mtu packet ≡ kind → All IsSilentPacket (frames_of kind Raw mtu packet)
silent_by mtu packet silent Fits is = All-cons IsSilentPacket packet [] silent (All-nil IsSilentPacket)
silent_by mtu packet silent Drop is = All-nil IsSilentPacket
silent_by mtu packet silent Cut is = absurd (uncut (is_long Raw mtu packet) (may_be_cut packet) refl is)
  where
    not_empty : nat_lt 0 (length (tcp.payload (ip.payload packet))) ≡ true → (ip.protocol packet == 6) ≡ true → ⊥
    not_empty some six =
        let says : segment_of packet ≡ Some (fields_of packet) = ap (λ b. cond b (Some (fields_of packet)) None) six in
        let none : tcp.payload (ip.payload packet) ≡ [] = (silent (fields_of packet) says).0 in
        let e : true ≡ false = sym some ∙ ap (λ l. nat_lt 0 (length l)) none in
        absurd (cc)

    uncut : (long may : Bool) → may_be_cut packet ≡ may → (cond (long && may) Cut (cond (long && not may) Drop Fits)) ≡ Cut → ⊥
    uncut true true may e =
        let m = and_parts ((ip.protocol packet == 6) && not (is_marked (tcp.flags (ip.payload packet)))) (nat_lt 0 (length (tcp.payload (ip.payload packet)))) may in
        not_empty m.1 (and_parts (ip.protocol packet == 6) (not (is_marked (tcp.flags (ip.payload packet)))) m.0).0
    uncut true false may e = absurd (cc)
    uncut false b may e = absurd (cc)

silent_cut : (mtu : ℕ) (packets : List (List ℕ)) → All IsSilentPacket packets → All IsSilentPacket (packets_for mtu packets)
silent_cut mtu packets all = all_flat IsSilentPacket (frames_for Raw mtu) packets (λ k d l. silent_by mtu (get_or packets k d) (all k d l) (long_kind Raw mtu (get_or packets k d)) refl)

-- ---- receivers agree on what was written, and a monitor misses nothing of it

-- the laws that this is based on
pub record StreamLaws : Type 0 where
  pub agree : LawfulAgrees
  pub tells : LawfulTellsStreams
  pub near : LawfulStaysNearAcks
  pub alike : PacketsGoOutAlike
  pub cut : CutTellsOneStream
  pub cut_acks : CutStaysNearAcks
  pub members : MembersAgree
  pub of : LawfulIsOfOneStream
  pub cut_of : CutIsOfStream
  pub parts : MembersReadParts
  pub monitors : MonitorsMissNothing

-- what is written in an era with a base describes one stream
tells_by : StreamLaws → (mtu : Option ℕ) (settings : PlainSettings) (link : Link) (trace : List Item) → InRange mtu → IsSound settings link trace → AllByRecursion (IsOutgoing link) trace
    → HaveFrameOctets mtu trace → (era base : ℕ) → base_of (written_in era (sent_in link trace)) ≡ Some base
    → TellOneStream settings.hops base (places_written mtu (inward_places era base (sent_in link trace)) (inward_packets era (sent_in link trace)))
    (inward_packets era (sent_in link (map (item_written mtu link) trace)))
tells_by laws None settings link trace range sound each octets era base is =
    subst (λ t. TellOneStream settings.hops base (inward_places era base (sent_in link trace)) (inward_packets era (sent_in link t))) (sym (same_trace link trace))
    (laws.tells settings link trace sound era base is).stream
tells_by laws (Some mtu) settings link trace range sound each octets era base is =
    let sent = sent_in link trace in
    let packets = inward_packets era sent in
    let most = range.1 in
    subst (TellOneStream settings.hops base (places_for mtu (inward_places era base sent) packets)) (sym (inward_cut link mtu laws.alike era trace each))
    (laws.cut settings.hops base mtu (inward_places era base sent) packets range.0 (omega (arith, most)) (inward_octets link mtu laws.alike era trace octets)
    (laws.tells settings link trace sound era base is).stream)

-- and stays near what was acknowledged
record StayNearSome (places : List ℤ) (packets : List (List ℕ)) : Type 0 where
  acks : List ℕ
  stay : StayNearAcks acks places packets

stays_by : StreamLaws → (mtu : Option ℕ) (settings : PlainSettings) (link : Link) (trace : List Item) → InRange mtu → IsSound settings link trace → AllByRecursion (IsOutgoing link) trace
    → HaveFrameOctets mtu trace → (era base : ℕ) → base_of (written_in era (sent_in link trace)) ≡ Some base
    → StayNearSome (places_written mtu (inward_places era base (sent_in link trace)) (inward_packets era (sent_in link trace)))
    (inward_packets era (sent_in link (map (item_written mtu link) trace)))
stays_by laws None settings link trace range sound each octets era base is =
    subst (λ t. StayNearSome (inward_places era base (sent_in link trace)) (inward_packets era (sent_in link t))) (sym (same_trace link trace))
    (record { acks = inward_acks era base (sent_in link trace); stay = laws.near settings link trace sound era base is })
stays_by laws (Some mtu) settings link trace range sound each octets era base is =
    let sent = sent_in link trace in
    let packets = inward_packets era sent in
    let most = range.1 in
    subst (StayNearSome (places_for mtu (inward_places era base sent) packets)) (sym (inward_cut link mtu laws.alike era trace each)) (record {
      acks = acks_for mtu (inward_acks era base sent) packets;
      stay =
          laws.cut_acks settings.hops base mtu (inward_acks era base sent) (inward_places era base sent) packets range.0 (omega (arith, most))
          (inward_octets link mtu laws.alike era trace octets) (laws.tells settings link trace sound era base is).stream (laws.near settings link trace sound era base is);
    })

agree_by : StreamLaws → (mtu : Option ℕ) (settings : PlainSettings) (link : Link) (trace : List Item) → InRange mtu → IsSound settings link trace → AllByRecursion (IsOutgoing link) trace
    → HaveFrameOctets mtu trace → (era : ℕ)
    → EraIsSound settings.hops (base_of (written_in era (sent_in link trace))) (λ base. places_written mtu (inward_places era base (sent_in link trace)) (inward_packets era (sent_in link trace)))
    (inward_packets era (sent_in link (map (item_written mtu link) trace)))
agree_by laws None settings link trace range sound each octets era =
    let sent = sent_in link trace in
    subst (λ t. EraIsSound settings.hops (base_of (written_in era sent)) (λ base. inward_places era base sent) (inward_packets era (sent_in link t))) (sym (same_trace link trace))
    (laws.agree settings link trace sound era)
agree_by laws (Some mtu) settings link trace range sound each octets era = by (base_of (written_in era sent)) refl
  where
    sent : List Sent
    sent = sent_in link trace

    packets : List (List ℕ)
    packets = inward_packets era sent

    by : (base : Option ℕ) → base_of (written_in era sent) ≡ base
        → EraIsSound settings.hops base (λ b. places_for mtu (inward_places era b sent) packets) (inward_packets era (sent_in link (map (item_written (Some mtu) link) trace)))
    by None is =
        let silent : All IsSilentPacket packets = subst (λ b. EraIsSound settings.hops b (λ base. inward_places era base sent) packets) is (laws.agree settings link trace sound era) in
        subst (All IsSilentPacket) (sym (inward_cut link mtu laws.alike era trace each)) (silent_cut mtu packets silent)
    by (Some base) is =
        laws.members settings.hops base (places_for mtu (inward_places era base sent) packets) (inward_packets era (sent_in link (map (item_written (Some mtu) link) trace)))
        (tells_by laws (Some mtu) settings link trace range sound each octets era base is)

pub agree_as_written : StreamLaws → (settings : PlainSettings) (link : Link) (trace : List Item) → InRange settings.mtu → IsSound settings link trace → AllByRecursion (IsOutgoing link) trace
    → HaveFrameOctets settings.mtu trace → AgreeAsWritten settings link trace
agree_as_written laws settings link trace range sound each octets = agree_by laws settings.mtu settings link trace range sound each octets

-- what is written in an era with a base is of the era's stream
of_by : StreamLaws → (mtu : Option ℕ) (settings : PlainSettings) (link : Link) (trace : List Item) → InRange mtu → IsSound settings link trace → AllByRecursion (IsOutgoing link) trace
    → HaveFrameOctets mtu trace → (era base : ℕ) → let ws = written_in era (sent_in link trace) in base_of ws ≡ Some base
    → AreOfStream (first base ws) (end_of base ws) (places_written mtu (inward_places era base (sent_in link trace)) (inward_packets era (sent_in link trace)))
    (inward_packets era (sent_in link (map (item_written mtu link) trace)))
of_by laws None settings link trace range sound each octets era base is =
    let sent = sent_in link trace in
    let ws = written_in era sent in
    subst (λ t. AreOfStream (first base ws) (end_of base ws) (inward_places era base sent) (inward_packets era (sent_in link t))) (sym (same_trace link trace))
    (laws.of settings link trace sound era base is)
of_by laws (Some mtu) settings link trace range sound each octets era base is =
    let sent = sent_in link trace in
    let ws = written_in era sent in
    let packets = inward_packets era sent in
    let most = range.1 in
    subst (AreOfStream (first base ws) (end_of base ws) (places_for mtu (inward_places era base sent) packets)) (sym (inward_cut link mtu laws.alike era trace each))
    (laws.cut_of settings.hops base mtu (inward_places era base sent) packets (first base ws) (end_of base ws) range.0 (omega (arith, most))
    (inward_octets link mtu laws.alike era trace octets) (laws.tells settings link trace sound era base is).stream (laws.of settings link trace sound era base is))

pub reads_as_written : StreamLaws → (settings : PlainSettings) (link : Link) (trace : List Item) → InRange settings.mtu → IsSound settings link trace → AllByRecursion (IsOutgoing link) trace
    → HaveFrameOctets settings.mtu trace → ReadsOneStreamAsWritten settings link trace
reads_as_written laws settings link trace range sound each octets era base is =
    let sent = sent_in link trace in
    let ws = written_in era sent in
    laws.parts settings.hops base (places_written settings.mtu (inward_places era base sent) (inward_packets era sent))
    (inward_packets era (sent_in link (map (item_written settings.mtu link) trace))) (first base ws) (end_of base ws)
    (tells_by laws settings.mtu settings link trace range sound each octets era base is) (of_by laws settings.mtu settings link trace range sound each octets era base is)

misses_as_written : StreamLaws → (settings : PlainSettings) (link : Link) (trace : List Item) → InRange settings.mtu → IsSound settings link trace → AllByRecursion (IsOutgoing link) trace
    → HaveFrameOctets settings.mtu trace → MissesNothingAsWritten settings link trace
misses_as_written laws settings link trace range sound each octets era base is =
    let places = places_written settings.mtu (inward_places era base (sent_in link trace)) (inward_packets era (sent_in link trace)) in
    let packets = inward_packets era (sent_in link (map (item_written settings.mtu link) trace)) in
    let tells = tells_by laws settings.mtu settings link trace range sound each octets era base is in
    let some = stays_by laws settings.mtu settings link trace range sound each octets era base is in
    record {
      in_order = laws.monitors.in_order settings.hops base some.acks places packets tells some.stay;
      in_time = laws.monitors.in_time settings.hops base places packets tells;
    }

pub always_misses : StreamLaws → (settings : PlainSettings) (link : Link) (trace : List Item) → InRange settings.mtu → IsSound settings link trace → AllByRecursion (IsOutgoing link) trace
    → HaveFrameOctets settings.mtu trace → AtEachHistory (MissesNothingAsWritten settings link) trace
always_misses laws settings link [] range sound each octets = misses_as_written laws settings link [] range sound each octets
always_misses laws settings link (item ∷ older) range sound each octets = (
  always_misses laws settings link older range (record { hops = sound.hops; octets = sound.octets.0; lawful = sound.lawful.0 }) each.1 octets.1,
  misses_as_written laws settings link (item ∷ older) range sound each octets,
)

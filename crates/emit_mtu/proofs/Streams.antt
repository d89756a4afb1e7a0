-- Packets that are cut, and the segments written instead of them, describe the same stream.
use Rattle.std.proofs.Common.{◌≡◌, ℕ, zero, suc, ◌+◌, ◌*◌, ◌/◌, ◌%◌, ◌^◌, ◌<◌, ◌≤◌, false, List, [], ◌∷◌, ◌++◌, length, take, drop, Some, refl, sym, ap, subst, ⊎_elim, ◌∙◌, arith, ◌⊎◌, inl, inr, ◌-◌, map, ℤ, pos, ◌+ℤ◌, IsTrue, slice_get, All, IfSome}
use Rattle.std.proofs.lemmas.Int.{ints}
use Rattle.std.proofs.lemmas.Bool.{cases_lt, and_parts, leb-true}
use Rattle.std.specs.List.{range_with_len}
use Rattle.std.proofs.lemmas.Option.{slice_get-get_or}
use Rattle.wire_base.specs.declared.address.Link.TheVariants.{Raw}
use Rattle.wire_base.specs.Ipv4 as ip
use Rattle.wire_base.specs.Tcp as tcp
use Rattle.wire_base.specs.Plain.{Plain}
use Rattle.wire_base.specs.Segments.{fields_of, segment_of, Segment}
use Rattle.receiver_model.specs.Offsets.{IsPlace}
use Rattle.receiver_model.specs.FamilyAgreement.{ArePlaces, FinAt, HasSynBefore, OctetAt, TellOneStream}
use Rattle.receiver_model.proofs.Places.{Each, each_at, each_long, each_append}
use Rattle.receiver_model.proofs.Members.{all_at}
use Rattle.receiver_model.proofs.Streams.{segment_is}
use Rattle.emit_mtu.specs.FrameParts.{parts_of, AreOctets}
use Rattle.emit_mtu.specs.Segments as spec
use Rattle.emit_mtu.specs.CutLaws.{IsToBeCut, piece_of}
use Rattle.emit_mtu.specs.declared.long.LongKind.{LongKind}
use Rattle.emit_mtu.specs.declared.long.LongKind.TheVariants.{Fits, Cut, Drop}
use Rattle.emit_mtu.specs.LongFrames.{long_kind}
use Rattle.emit_mtu.specs.CutStreams.{CutIsOfStream, CutTellsOneStream, frames_for, frames_of, packets_for, places_for, places_of}
use Rattle.emit_mtu.proofs.Segments.{past, cutting}
use Rattle.emit_mtu.proofs.Headers.{fields_of-packet_of, header-front, length-piece_of, is_own, packet_of}
use Rattle.emit_mtu.proofs.PlainPackets.{flags_are_kept, is_unmarked, plain_packet, whole-plain}

-- The content of the packets that are written instead of others.

-- the number of payload octets of each segment of a packet except the last
abbrev pub room_in : (mtu : ℕ) → (packet : List ℕ) → ℕ
room_in mtu packet = spec.room_of mtu (parts_of Raw packet)

-- a packet is a segment of another, at its offset in the stream
pub record IsPart (mtu : ℕ) (packet : List ℕ) (place : ℤ) (own_packet : List ℕ) (own_place : ℤ) : Type 0 where
  pub cut : IsToBeCut Raw mtu packet
  pub index : ℕ
  pub within : index < spec.count_of (room_in mtu packet) (parts_of Raw packet)
  pub is : own_packet ≡ packet_of (room_in mtu packet) (parts_of Raw packet) index
  pub there : own_place ≡ place +ℤ pos (room_in mtu packet * index)

-- an octet of a part
slice_get-take : (n : ℕ) (xs : List ℕ) (i x : ℕ) → slice_get (take n xs) i ≡ Some x → slice_get xs i ≡ Some x
slice_get-take zero xs i x e = absurd (cc)
slice_get-take (suc n) [] i x e = e
slice_get-take (suc n) (y ∷ xs) zero x e = e
slice_get-take (suc n) (y ∷ xs) (suc i) x e = slice_get-take n xs i x e

slice_get-drop : (n : ℕ) (xs : List ℕ) (i x : ℕ) → slice_get (drop n xs) i ≡ Some x → slice_get xs (n + i) ≡ Some x
slice_get-drop zero xs i x e = let z : zero + i ≡ i = omega arith in ap (slice_get xs) z ∙ e
slice_get-drop (suc n) [] i x e = absurd (cc)
slice_get-drop (suc n) (y ∷ xs) i x e = let z : suc n + i ≡ suc (n + i) = omega arith in ap (slice_get (y ∷ xs)) z ∙ slice_get-drop n xs i x e

-- the fields of a part
pub record IsRead (mtu : ℕ) (packet own_packet : List ℕ) (index : ℕ) : Type 0 where
  pub original : segment_of packet ≡ Some (fields_of packet)
  pub part : segment_of own_packet ≡ Some (piece_of (room_in mtu packet) index (fields_of packet))

pub is_read : (mtu : ℕ) (packet : List ℕ) (place : ℤ) (own_packet : List ℕ) (own_place : ℤ) → (part : IsPart mtu packet place own_packet own_place) → IsRead mtu packet own_packet part.index
is_read mtu packet place own_packet own_place part =
    let c = cutting Raw mtu packet part.cut in
    let parts = parts_of Raw packet in
    let room = room_in mtu packet in
    let own = is_own room part.index parts c.joined.sized c.joined.words in
    let whole = header-front parts.ip (parts.tcp ++ parts.payload) c.joined.sized.ip in
    let six : ip.protocol own_packet ≡ 6 = ap ip.protocol part.is ∙ own.header.protocol ∙ sym whole.protocol ∙ ap ip.protocol (sym c.joined.joined) ∙ c.cut.protocol in
    record {
      original = segment_is packet c.cut.protocol;
      part = segment_is own_packet six ∙ ap (λ p. Some (fields_of p)) part.is ∙ ap Some (fields_of-packet_of packet room part.index parts c.joined refl);
    }

-- the part is plain if the packet is
pub plain_part : (hops mtu : ℕ) (packet : List ℕ) (place : ℤ) (own_packet : List ℕ) (own_place : ℤ) → IsPart mtu packet place own_packet own_place → Plain hops packet → Plain hops own_packet
plain_part hops mtu packet place own_packet own_place part plain =
    let c = cutting Raw mtu packet part.cut in
    subst (Plain hops) (sym part.is) (plain_packet hops packet (room_in mtu packet) part.index (parts_of Raw packet) c.joined c.cut.protocol c.cut.unmarked plain)

-- the part has no SYN
pub no_syn : (mtu : ℕ) (packet : List ℕ) (place : ℤ) (own_packet : List ℕ) (own_place : ℤ) → (part : IsPart mtu packet place own_packet own_place) → tcp.has_syn (piece_of (room_in mtu packet) part.index (fields_of packet)).flags ≡ false
no_syn mtu packet place own_packet own_place part =
    let c = cutting Raw mtu packet part.cut in
    let kept = flags_are_kept (spec.is_first part.index) (spec.is_last (room_in mtu packet) part.index (parts_of Raw packet)) (tcp.flags (ip.payload packet)) in
    kept.syn ∙ (is_unmarked _ c.cut.unmarked).syn

-- an octet of the part is the octet of the packet at its offset
pub octet_of_part : (room index : ℕ) (octets : List ℕ) (i x : ℕ) → slice_get (take room (drop (room * index) octets)) i ≡ Some x → slice_get octets (room * index + i) ≡ Some x
octet_of_part room index octets i x e = slice_get-drop (room * index) octets i x (slice_get-take room (drop (room * index) octets) i x e)

-- the sequence number of the part represents its offset
pub part_placed : (base sequence behind : ℕ) (place own : ℤ) → own ≡ place +ℤ pos behind → IsPlace base sequence place → IsPlace base ((sequence + behind) % 2 ^ 32) own
part_placed base sequence behind place own e h = record { turns = h.turns +ℤ pos ((sequence + behind) / 2 ^ 32); is = let f = h.is in omega (arith, ints, e, f) }

-- if the part has a FIN, so has the packet, and its octets end with the packet's
pub record EndsWith (mtu : ℕ) (packet : List ℕ) (index : ℕ) : Type 0 where
  pub has : IsTrue (tcp.has_fin (fields_of packet).flags)
  pub size : room_in mtu packet * index + length (piece_of (room_in mtu packet) index (fields_of packet)).octets ≡ length (fields_of packet).octets

pub ends_with : (mtu : ℕ) (packet : List ℕ) (place : ℤ) (own_packet : List ℕ) (own_place : ℤ) → (part : IsPart mtu packet place own_packet own_place) → IsTrue (tcp.has_fin (piece_of (room_in mtu packet) part.index (fields_of packet)).flags) → EndsWith mtu packet part.index
ends_with mtu packet place own_packet own_place part fin =
    let c = cutting Raw mtu packet part.cut in
    let parts = parts_of Raw packet in
    let room = room_in mtu packet in
    let index = part.index in
    let kept = flags_are_kept (spec.is_first index) (spec.is_last room index parts) (tcp.flags (ip.payload packet)) in
    let last = and_parts (spec.is_last room index parts) (tcp.has_fin (tcp.flags (ip.payload packet))) (sym kept.fin ∙ fin) in
    let reaches : length parts.payload ≤ room * (index + 1) = leb-true _ _ last.0 in
    let begins : room * index < length parts.payload =
    ⊎_elim (λ lt. lt) (λ ge. absurd (let none = past room index parts c.some ge in let some = part.within in omega arith)) (cases_lt (room * index) (length parts.payload)) in
    let size = length-piece_of room index parts in
    record { has = last.1; size = omega (arith, size, reaches, begins) }

each_by : (P : ℤ → List ℕ → Type 0) (zs : List ℤ) (ps : List (List ℕ)) → length zs ≡ length ps → ((k : ℕ) (z : ℤ) (p : List ℕ) → slice_get zs k ≡ Some z → slice_get ps k ≡ Some p → P z p) → Each P zs ps
each_by P [] [] e h = tt
each_by P [] (q ∷ ps) e h = absurd (omega arith)
each_by P (y ∷ zs) [] e h = absurd (omega arith)
each_by P (y ∷ zs) (q ∷ ps) e h = (h 0 y q refl refl, each_by P zs ps (omega arith) (λ k z p f g. h (suc k) z p f g))

each_all : (P : ℤ → List ℕ → Type 0) (Q : List ℕ → Type 0) (zs : List ℤ) (ps : List (List ℕ)) → Each P zs ps → ((z : ℤ) (p : List ℕ) → P z p → Q p) → All Q ps
each_all P Q zs ps h f k d inside =
    let long = each_long P zs ps h in
    f _ _ (each_at P zs ps k _ _ h (slice_get-get_or zs k (pos 0) (omega arith)) (slice_get-get_or ps k d inside))

-- a packet is in the list, with its offset
record Stands (places : List ℤ) (packets : List (List ℕ)) (place : ℤ) (packet : List ℕ) : Type 0 where
  number : ℕ
  stands : slice_get packets number ≡ Some packet
  placed : slice_get places number ≡ Some place

-- a packet that is written is one of the list, or a part of one
record Came (mtu : ℕ) (Q : ℤ → List ℕ → Type 0) (own_place : ℤ) (own_packet : List ℕ) : Type 0 where
  place : ℤ
  packet : List ℕ
  origin : Q place packet
  how : ((own_packet ≡ packet) × (own_place ≡ place)) ⊎ IsPart mtu packet place own_packet own_place

each_part : (mtu : ℕ) (Q : ℤ → List ℕ → Type 0) (place : ℤ) (packet : List ℕ) (n first : ℕ) → Q place packet → IsToBeCut Raw mtu packet → first + n ≤ spec.count_of (room_in mtu packet) (parts_of Raw packet) → Each (Came mtu Q) (map (λ index. place +ℤ pos (room_in mtu packet * index)) (range_with_len first n)) (map (spec.segment_of (room_in mtu packet) (parts_of Raw packet)) (range_with_len first n))
each_part mtu Q place packet zero first origin cut few = tt
each_part mtu Q place packet (suc n) first origin cut few =
    (record { place = place; packet = packet; origin = origin; how = inr (record { cut = cut; index = first; within = omega arith; is = refl; there = refl }) }, each_part mtu Q place packet n (first + 1) origin cut (omega arith))

each_kind : (kind : LongKind) (mtu : ℕ) (Q : ℤ → List ℕ → Type 0) (place : ℤ) (packet : List ℕ) → Q place packet → (kind ≡ Cut → IsToBeCut Raw mtu packet) → Each (Came mtu Q) (places_of kind mtu packet place) (frames_of kind Raw mtu packet)
each_kind Fits mtu Q place packet origin cut = (record { place = place; packet = packet; origin = origin; how = inl (refl, refl) }, tt)
each_kind Drop mtu Q place packet origin cut = tt
each_kind Cut mtu Q place packet origin cut =
    let n = spec.count_of (room_in mtu packet) (parts_of Raw packet) in
    let all : n - 0 ≡ n = omega arith in
    subst (λ m. Each (Came mtu Q) (places_of Cut mtu packet place) (map (spec.segment_of (room_in mtu packet) (parts_of Raw packet)) (range_with_len 0 m))) (sym all)
    (each_part mtu Q place packet n 0 origin (cut refl) (omega arith))

each_cut : (mtu : ℕ) (Q : ℤ → List ℕ → Type 0) (places : List ℤ) (packets : List (List ℕ)) → ((place : ℤ) (packet : List ℕ) → Q place packet → long_kind Raw mtu packet ≡ Cut → IsToBeCut Raw mtu packet) → Each Q places packets → Each (Came mtu Q) (places_for mtu places packets) (packets_for mtu packets)
each_cut mtu Q [] [] cut h = tt
each_cut mtu Q [] (q ∷ ps) cut h = absurd h
each_cut mtu Q (y ∷ zs) [] cut h = absurd h
each_cut mtu Q (y ∷ zs) (q ∷ ps) cut h =
    each_append (Came mtu Q) (places_of (long_kind Raw mtu q) mtu q y) (frames_for Raw mtu q) (places_for mtu zs ps) (packets_for mtu ps)
    (each_kind (long_kind Raw mtu q) mtu Q y q h.0 (cut y q h.0)) (each_cut mtu Q zs ps cut h.1)

-- the octets and FINs that are written are those of the list, at the same offsets
octets_stood : (mtu : ℕ) (places : List ℤ) (packets : List (List ℕ)) (own_places : List ℤ) (own_packets : List (List ℕ)) (offset : ℤ) (x : ℕ) → Each (Came mtu (Stands places packets)) own_places own_packets → OctetAt own_places own_packets offset x → OctetAt places packets offset x
octets_stood mtu places packets own_places own_packets offset x each o =
    let came = each_at (Came mtu (Stands places packets)) own_places own_packets o.number o.place o.frame each o.placed o.stands in
    ⊎_elim (λ same. record {
      number = came.origin.number;
      frame = came.packet;
      place = came.place;
      segment = o.segment;
      index = o.index;
      stands = came.origin.stands;
      placed = came.origin.placed;
      says = ap segment_of (sym same.0) ∙ o.says;
      has = o.has;
      there = o.there ∙ ap (λ z. z +ℤ pos o.index) same.1;
    }) (λ part.
    let read = is_read mtu came.packet came.place o.frame o.place part in
    let s = fields_of came.packet in
    let room = room_in mtu came.packet in
    let e : o.segment ≡ piece_of room part.index s = cc (o.says, read.part) in
    let has = ap (λ (t : Segment). slice_get t.octets o.index) (sym e) ∙ o.has in
    let there = part.there in
    let at = o.there in
    record {
      number = came.origin.number;
      frame = came.packet;
      place = came.place;
      segment = s;
      index = room * part.index + o.index;
      stands = came.origin.stands;
      placed = came.origin.placed;
      says = read.original;
      has = octet_of_part room part.index s.octets o.index x has;
      there = omega (arith, ints, there, at);
    }) came.how

fins_stood : (mtu : ℕ) (places : List ℤ) (packets : List (List ℕ)) (own_places : List ℤ) (own_packets : List (List ℕ)) (offset : ℤ) → Each (Came mtu (Stands places packets)) own_places own_packets → FinAt own_places own_packets offset → FinAt places packets offset
fins_stood mtu places packets own_places own_packets offset each o =
    let came = each_at (Came mtu (Stands places packets)) own_places own_packets o.number o.place o.frame each o.placed o.stands in
    ⊎_elim (λ same. record {
      number = came.origin.number;
      frame = came.packet;
      place = came.place;
      segment = o.segment;
      stands = came.origin.stands;
      placed = came.origin.placed;
      says = ap segment_of (sym same.0) ∙ o.says;
      has = o.has;
      there = o.there ∙ ap (λ z. z +ℤ pos (length o.segment.octets)) same.1;
    }) (λ part.
    let read = is_read mtu came.packet came.place o.frame o.place part in
    let s = fields_of came.packet in
    let room = room_in mtu came.packet in
    let e : o.segment ≡ piece_of room part.index s = cc (o.says, read.part) in
    let ends = ends_with mtu came.packet came.place o.frame o.place part (ap (λ (t : Segment). tcp.has_fin t.flags) (sym e) ∙ o.has) in
    let size = ap (λ (t : Segment). length t.octets) e in
    let whole = ends.size in
    let there = part.there in
    let at = o.there in
    record {
      number = came.origin.number;
      frame = came.packet;
      place = came.place;
      segment = s;
      stands = came.origin.stands;
      placed = came.origin.placed;
      says = read.original;
      has = ends.has;
      there = omega (arith, ints, there, at, size, whole);
    }) came.how

-- the sequence number of each packet that is written represents its offset
placed_stood : (base mtu : ℕ) (places : List ℤ) (packets : List (List ℕ)) (place : ℤ) (packet : List ℕ) (s : Segment) → ArePlaces base places packets → Came mtu (Stands places packets) place packet → segment_of packet ≡ Some s → IsPlace base s.sequence place
placed_stood base mtu places packets place packet s all came says =
    ⊎_elim (λ same. subst (IsPlace base s.sequence) (sym same.1) (all.placed came.origin.number came.packet s came.place came.origin.stands (ap segment_of (sym same.0) ∙ says) came.origin.placed)) (λ part.
    let read = is_read mtu came.packet came.place packet place part in
    let e : s ≡ piece_of (room_in mtu came.packet) part.index (fields_of came.packet) = cc (says, read.part) in
    subst (λ (t : Segment). IsPlace base t.sequence place) (sym e)
    (part_placed base (fields_of came.packet).sequence (room_in mtu came.packet * part.index) came.place place part.there
    (all.placed came.origin.number came.packet (fields_of came.packet) came.place came.origin.stands read.original came.origin.placed))) came.how

-- the SYN of a packet that is written is one of the list
syn_stood : (base mtu : ℕ) (places : List ℤ) (packets : List (List ℕ)) (place : ℤ) (packet : List ℕ) → All (λ p. HasSynBefore base p) packets → Came mtu (Stands places packets) place packet → HasSynBefore base packet
syn_stood base mtu places packets place packet syns came =
    ⊎_elim (λ same. subst (HasSynBefore base) (sym same.0) (all_at (HasSynBefore base) packets came.origin.number came.packet syns came.origin.stands)) (λ part.
    let read = is_read mtu came.packet came.place packet place part in
    let none = no_syn mtu came.packet came.place packet place part in
    subst (λ o. IfSome o (λ s. IsTrue (tcp.has_syn s.flags) → (s.sequence + 1) % 2 ^ 32 ≡ base % 2 ^ 32)) (sym read.part) (λ syn. absurd (let e = sym none ∙ syn in cc e))) came.how

plain_stood : (hops mtu : ℕ) (places : List ℤ) (packets : List (List ℕ)) (place : ℤ) (packet : List ℕ) → All (Plain hops) packets → Came mtu (Stands places packets) place packet → Plain hops packet
plain_stood hops mtu places packets place packet plain came =
    let original = all_at (Plain hops) packets came.origin.number came.packet plain came.origin.stands in
    ⊎_elim (λ same. subst (Plain hops) (sym same.0) original) (λ part. plain_part hops mtu came.packet came.place packet place part original) came.how

-- each packet that is written is one of those that describe a stream, or a part of one
each_came : (hops base mtu : ℕ) (places : List ℤ) (packets : List (List ℕ)) → 576 ≤ mtu → mtu < 2 ^ 16 → All AreOctets packets → TellOneStream hops base places packets
    → Each (Came mtu (Stands places packets)) (places_for mtu places packets) (packets_for mtu packets)
each_came hops base mtu places packets least most octets h =
    let Q = Stands places packets in
    let stand : Each Q places packets = each_by Q places packets h.placed.one_each (λ k z p placed stands. record { number = k; stands = stands; placed = placed }) in
    each_cut mtu Q places packets (λ place packet origin cut. record {
      sent = inr (refl, whole-plain hops packet (all_at (Plain hops) packets origin.number packet h.plain origin.stands));
      octets = all_at AreOctets packets origin.number packet octets origin.stands;
      cut = cut;
      least = least;
      most = most;
    }) stand

pub cut_is_of_stream : CutIsOfStream
cut_is_of_stream hops base mtu places packets first end least most octets tells h =
    let each = each_came hops base mtu places packets least most octets tells in
    let own_places = places_for mtu places packets in
    let own_packets = packets_for mtu packets in
    record {
      octets = λ offset octet o. h.octets offset octet (octets_stood mtu places packets own_places own_packets offset octet each o);
      fins = λ offset f. h.fins offset (fins_stood mtu places packets own_places own_packets offset each f);
      none_past = h.none_past;
    }

pub cut_tells_one_stream : CutTellsOneStream
cut_tells_one_stream hops base mtu places packets least most octets h =
    let Q = Stands places packets in
    let each = each_came hops base mtu places packets least most octets h in
    let own_places = places_for mtu places packets in
    let own_packets = packets_for mtu packets in
    record {
      plain = each_all (Came mtu Q) (Plain hops) own_places own_packets each (λ z p came. plain_stood hops mtu places packets z p h.plain came);
      syns = each_all (Came mtu Q) (HasSynBefore base) own_places own_packets each (λ z p came. syn_stood base mtu places packets z p h.syns came);
      placed = record {
        one_each = each_long (Came mtu Q) own_places own_packets each;
        placed = λ number frame s place stands says placed. placed_stood base mtu places packets place frame s h.placed (each_at (Came mtu Q) own_places own_packets number place frame each placed stands) says;
      };
      one_octet = λ offset x y a b. h.one_octet offset x y (octets_stood mtu places packets own_places own_packets offset x each a) (octets_stood mtu places packets own_places own_packets offset y each b);
      one_end = λ one other a b. h.one_end one other (fins_stood mtu places packets own_places own_packets one each a) (fins_stood mtu places packets own_places own_packets other each b);
      none_past = λ offset x end a b. h.none_past offset x end (octets_stood mtu places packets own_places own_packets offset x each a) (fins_stood mtu places packets own_places own_packets end each b);
    }

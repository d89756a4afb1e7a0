-- Packets that are cut stay near acks: the octets of a part are near the ack of its packet, and
-- acks never go back.
use Rattle.std.proofs.Common.{◌≡◌, ◌⊎◌, inl, inr, ⊎_elim, ℕ, zero, suc, ◌+◌, ◌-◌, ◌*◌, ◌^◌, ◌<◌, ◌≤◌, Some, List, [], ◌∷◌, ◌++◌, length, map, get_or, refl, sym, ap, subst, arith, ℤ, pos, ◌+ℤ◌, ◌≤ℤ◌, IsTrue, slice_get}
use Rattle.std.specs.List.{range_with_len}
use Rattle.std.proofs.lemmas.Int.{ints}
use Rattle.std.proofs.lemmas.Option.{slice_get-get_or, slice_get_within}
use Rattle.wire_base.specs.declared.address.Link.TheVariants.{Raw}
use Rattle.wire_base.specs.Tcp as tcp
use Rattle.wire_base.specs.Plain.{Plain}
use Rattle.wire_base.specs.Segments.{Segment, fields_of, segment_of}
use Rattle.receiver_model.specs.FamilyAgreement.{OctetAt, FinAt}
use Rattle.receiver_model.proofs.Places.{EachAck, each_ack_append, each_ack_long, each_ack_at, IsNearAck, StaysNear}
use Rattle.receiver_model.proofs.Members.{all_at}
use Rattle.emit_mtu.specs.declared.long.LongKind.{LongKind}
use Rattle.emit_mtu.specs.declared.long.LongKind.TheVariants.{Fits, Cut, Drop}
use Rattle.emit_mtu.specs.FrameParts.{AreOctets, parts_of}
use Rattle.emit_mtu.specs.LongFrames.{long_kind}
use Rattle.emit_mtu.specs.Segments as spec
use Rattle.emit_mtu.specs.CutLaws.{IsToBeCut, piece_of}
use Rattle.emit_mtu.specs.CutStreams.{CutStaysNearAcks, frames_for, frames_of, packets_for, places_for, places_of, acks_for}
use Rattle.emit_mtu.proofs.Streams.{IsPart, ends_with, is_read, octet_of_part, room_in}
use Rattle.emit_mtu.proofs.PlainPackets.{whole-plain}

-- by the index of each
abbrev ByIndex : (ℕ → ℤ → List ℕ → Type 0) → List ℕ → List ℤ → List (List ℕ) → Type 0
ByIndex P ws zs ps = (k w : ℕ) (z : ℤ) (p : List ℕ) → slice_get ws k ≡ Some w → slice_get zs k ≡ Some z → slice_get ps k ≡ Some p → P w z p

each_by :
    (P : ℕ → ℤ → List ℕ → Type 0) (ws : List ℕ) (zs : List ℤ) (ps : List (List ℕ)) →
    length ws ≡ length ps → length zs ≡ length ps → ByIndex P ws zs ps → EachAck P ws zs ps
each_by P [] [] [] d e h = tt
each_by P (w ∷ ws) (z ∷ zs) (p ∷ ps) d e h =
    (h 0 w z p refl refl refl, each_by P ws zs ps (omega arith) (omega arith) (λ k v y q a b c. h (suc k) v y q a b c))
each_by P ws zs ps d e h = absurd (omega arith)

-- a part is in the ack of its packet
part_stays :
    (mtu ack : ℕ) (place own_place : ℤ) (packet own_packet : List ℕ) →
    StaysNear ack place packet → IsPart mtu packet place own_packet own_place → StaysNear ack own_place own_packet
part_stays mtu ack place own_place packet own_packet stays part own says =
    subst (IsNearAck ack own_place) (sym is) (record { octets = octets; fin = fin })
  where
    room : ℕ
    room = room_in mtu packet

    s : Segment
    s = fields_of packet

    piece : Segment
    piece = piece_of room part.index s

    is : own ≡ piece
    is = let read = (is_read mtu packet place own_packet own_place part).part in cc (says, read)

    whole : IsNearAck ack place s
    whole = stays s (is_read mtu packet place own_packet own_place part).original

    octets : (i : ℕ) → i < length piece.octets → (pos ack ≤ℤ (own_place +ℤ pos i)) × ((own_place +ℤ pos i) ≤ℤ pos (ack + 2 ^ 30))
    octets i within =
        let has = octet_of_part room part.index s.octets i _ (slice_get-get_or piece.octets i 0 within) in
        let there = part.there in
        let at : place +ℤ pos (room * part.index + i) ≡ own_place +ℤ pos i = omega (arith, ints, there) in
        subst (λ z. (pos ack ≤ℤ z) × (z ≤ℤ pos (ack + 2 ^ 30))) at
        (whole.octets (room * part.index + i) (slice_get_within s.octets (room * part.index + i) _ has))

    fin :
        IsTrue (tcp.has_fin piece.flags) →
        (pos 0 ≤ℤ (own_place +ℤ pos (length piece.octets))) × ((own_place +ℤ pos (length piece.octets)) ≤ℤ pos (ack + 2 ^ 30))
    fin has =
        let ends = ends_with mtu packet place own_packet own_place part has in
        let size = ends.size in
        let there = part.there in
        let at : place +ℤ pos (length s.octets) ≡ own_place +ℤ pos (length piece.octets) = omega (arith, ints, there, size) in
        subst (λ z. (pos 0 ≤ℤ z) × (z ≤ℤ pos (ack + 2 ^ 30))) at (whole.fin ends.has)

-- this number of parts of a packet from this index on
abbrev parts : (mtu : ℕ) (packet : List ℕ) (first n : ℕ) → List (List ℕ)
parts mtu packet first n = map (spec.segment_of (room_in mtu packet) (parts_of Raw packet)) (range_with_len first n)

each_part :
    (mtu ack : ℕ) (place : ℤ) (packet : List ℕ) (n first : ℕ) → StaysNear ack place packet → IsToBeCut Raw mtu packet →
    first + n ≤ spec.count_of (room_in mtu packet) (parts_of Raw packet) →
    EachAck StaysNear (map (λ _. ack) (parts mtu packet first n)) (map (λ index. place +ℤ pos (room_in mtu packet * index)) (range_with_len first n))
    (parts mtu packet first n)
each_part mtu ack place packet zero first stays cut few = tt
each_part mtu ack place packet (suc n) first stays cut few = (
  part_stays mtu ack place _ packet _ stays (record { cut = cut; index = first; within = omega arith; is = refl; there = refl }),
  each_part mtu ack place packet n (first + 1) stays cut (omega arith),
)

each_kind :
    (kind : LongKind) (mtu ack : ℕ) (place : ℤ) (packet : List ℕ) → StaysNear ack place packet → (kind ≡ Cut → IsToBeCut Raw mtu packet) →
    EachAck StaysNear (map (λ _. ack) (frames_of kind Raw mtu packet)) (places_of kind mtu packet place) (frames_of kind Raw mtu packet)
each_kind Fits mtu ack place packet stays cut = (stays, tt)
each_kind Drop mtu ack place packet stays cut = tt
each_kind Cut mtu ack place packet stays cut =
    let n = spec.count_of (room_in mtu packet) (parts_of Raw packet) in
    let all : n - 0 ≡ n = omega arith in
    subst (λ m. EachAck StaysNear (map (λ _. ack) (parts mtu packet 0 m)) (places_of Cut mtu packet place) (parts mtu packet 0 m)) (sym all)
    (each_part mtu ack place packet n 0 stays (cut refl) (omega arith))

-- the packet stays in its ack, and may be cut if it is to be
record Fit (mtu ack : ℕ) (place : ℤ) (packet : List ℕ) : Type 0 where
  stays : StaysNear ack place packet
  cut : long_kind Raw mtu packet ≡ Cut → IsToBeCut Raw mtu packet

each_cut :
    (mtu : ℕ) (ws : List ℕ) (zs : List ℤ) (ps : List (List ℕ)) → EachAck (Fit mtu) ws zs ps →
    EachAck StaysNear (acks_for mtu ws ps) (places_for mtu zs ps) (packets_for mtu ps)
each_cut mtu [] [] [] h = tt
each_cut mtu (w ∷ ws) (z ∷ zs) (p ∷ ps) h =
    each_ack_append StaysNear (map (λ _. w) (frames_for Raw mtu p)) (places_of (long_kind Raw mtu p) mtu p z) (frames_for Raw mtu p)
    (acks_for mtu ws ps) (places_for mtu zs ps) (packets_for mtu ps)
    (each_kind (long_kind Raw mtu p) mtu w z p h.0.stays h.0.cut) (each_cut mtu ws zs ps h.1)
each_cut mtu ws zs ps h = absurd h

-- an element of a list that follows some others
record Behind (n : ℕ) (xs : List ℕ) (k x : ℕ) : Type 0 where
  index : ℕ
  is : k ≡ n + index
  has : slice_get xs index ≡ Some x

in_parts :
    (w : ℕ) (frames : List (List ℕ)) (rest : List ℕ) (k x : ℕ) → slice_get (map (λ _. w) frames ++ rest) k ≡ Some x →
    ((k < length frames) × (x ≡ w)) ⊎ Behind (length frames) rest k x
in_parts w [] rest k x e = inr (record { index = k; is = omega arith; has = e })
in_parts w (f ∷ frames) rest zero x e = inl (omega arith, cc e)
in_parts w (f ∷ frames) rest (suc k) x e =
    ⊎_elim (λ h. let less = h.0 in inl (omega (arith, less), h.1))
    (λ h. let is = h.is in inr (record { index = h.index; is = omega (arith, is); has = h.has }))
    (in_parts w frames rest k x e)

-- each of these acks is one of those
came_from :
    (mtu : ℕ) (ws : List ℕ) (ps : List (List ℕ)) (k x : ℕ) → slice_get (acks_for mtu ws ps) k ≡ Some x →
    (n : ℕ) × (slice_get ws n ≡ Some x)
came_from mtu [] ps k x e = absurd (cc)
came_from mtu (w ∷ ws) [] k x e = absurd (cc)
came_from mtu (w ∷ ws) (p ∷ ps) k x e =
    ⊎_elim (λ h. (0, ap (λ n. Some n) (sym h.1))) (λ h. let r = came_from mtu ws ps h.index x h.has in (suc r.0, r.1))
    (in_parts w (frames_for Raw mtu p) (acks_for mtu ws ps) k x e)

-- they never go back
abbrev GoOn : List ℕ → Type 0
GoOn ws = (number later one other : ℕ) → number ≤ later → slice_get ws number ≡ Some one → slice_get ws later ≡ Some other → one ≤ other

go_on : (mtu : ℕ) (ws : List ℕ) (ps : List (List ℕ)) → GoOn ws → GoOn (acks_for mtu ws ps)
go_on mtu [] ps h number later one other order e f = absurd (cc)
go_on mtu (w ∷ ws) [] h number later one other order e f = absurd (cc)
go_on mtu (w ∷ ws) (p ∷ ps) h number later one other order e f =
    by (go_on mtu ws ps (λ n l a b o. h (suc n) (suc l) a b (omega (arith, o))))
    (in_parts w frames rest number one e) (in_parts w frames rest later other f)
  where
    frames : List (List ℕ)
    frames = frames_for Raw mtu p

    rest : List ℕ
    rest = acks_for mtu ws ps

    Part : (k x : ℕ) → Type 0
    Part k x = ((k < length frames) × (x ≡ w)) ⊎ Behind (length frames) rest k x

    by : GoOn rest → Part number one → Part later other → one ≤ other
    by go (inl a) (inl b) = let i = a.1 in let j = b.1 in omega (arith, i, j)
    by go (inl a) (inr b) =
        let r = came_from mtu ws ps b.index other b.has in
        let i = a.1 in
        let above = h 0 (suc r.0) w other (omega arith) refl r.1 in
        omega (arith, i, above)
    by go (inr a) (inl b) = let i = a.is in let j = b.0 in absurd (omega (arith, i, j))
    by go (inr a) (inr b) = let i = a.is in let j = b.is in go a.index b.index one other (omega (arith, i, j, order)) a.has b.has

pub cut_stays_near_acks : CutStaysNearAcks
cut_stays_near_acks hops base mtu acks places packets least most octets tells h = record {
  one_each = each_ack_long StaysNear own_acks own_places own_packets each;
  go_on = go_on mtu acks packets h.go_on;
  octets = λ offset octet ack c has.
      let stays = each_ack_at StaysNear own_acks own_places own_packets c.number ack c.place c.frame each has c.placed c.stands c.segment c.says in
      let within = slice_get_within c.segment.octets c.index octet c.has in
      subst (λ z. (pos ack ≤ℤ z) × (z ≤ℤ pos (ack + 2 ^ 30))) (sym c.there) (stays.octets c.index within);
  fins = λ offset ack c has.
      let stays = each_ack_at StaysNear own_acks own_places own_packets c.number ack c.place c.frame each has c.placed c.stands c.segment c.says in
      subst (λ z. (pos 0 ≤ℤ z) × (z ≤ℤ pos (ack + 2 ^ 30))) (sym c.there) (stays.fin c.has);
}
  where
    own_acks : List ℕ
    own_acks = acks_for mtu acks packets

    own_places : List ℤ
    own_places = places_for mtu places packets

    own_packets : List (List ℕ)
    own_packets = packets_for mtu packets

    stay : ByIndex StaysNear acks places packets
    stay k ack place packet of placed stands s says = record {
      octets = λ index within.
          let octet : OctetAt places packets (place +ℤ pos index) (get_or s.octets index 0) = record {
            number = k;
            frame = packet;
            place = place;
            segment = s;
            index = index;
            stands = stands;
            placed = placed;
            says = says;
            has = slice_get-get_or s.octets index 0 within;
            there = refl;
          } in
          h.octets (place +ℤ pos index) (get_or s.octets index 0) ack octet of;
      fin = λ has.
          let end : FinAt places packets (place +ℤ pos (length s.octets)) = record {
            number = k;
            frame = packet;
            place = place;
            segment = s;
            stands = stands;
            placed = placed;
            says = says;
            has = has;
            there = refl;
          } in
          h.fins (place +ℤ pos (length s.octets)) ack end of;
    }

    fit : ByIndex (Fit mtu) acks places packets
    fit k ack place packet of placed stands = record {
      stays = stay k ack place packet of placed stands;
      cut = λ cut. record {
        sent = inr (refl, whole-plain hops packet (all_at (Plain hops) packets k packet tells.plain stands));
        octets = all_at AreOctets packets k packet octets stands;
        cut = cut;
        least = least;
        most = most;
      };
    }

    each : EachAck StaysNear own_acks own_places own_packets
    each = each_cut mtu acks places packets (each_by (Fit mtu) acks places packets h.one_each tells.placed.one_each fit)

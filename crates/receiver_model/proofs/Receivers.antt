-- Receivers: what one keeps of frames that it hears in time, and what one has that took the first
-- frames in order.
use Rattle.std.proofs.Common.{◌≡◌, ◌⊎◌, ℕ, ◌+◌, ◌≤◌, List, length, Some, None, Option, refl, sym, ap, ◌∙◌, subst, inl, inr, arith, length-append, suc, ◌<◌, ◌^◌, ◌∷◌, get_or, ℤ, pos, ◌+ℤ◌, ◌≤ℤ◌, slice_get, ◌<ℤ◌, IsTrue}
use Rattle.std.proofs.lemmas.Int.{ints}
use Rattle.std.proofs.lemmas.Option.{slice_get_within, slice_get-get_or}
use Rattle.std.proofs.lemmas.Bool.{cases_lt}
use Rattle.wire_base.specs.Plain.{Plain}
use Rattle.wire_base.specs.Segments.{Segment, segment_of}
use Rattle.wire_base.specs.Tcp as tcp
use Rattle.receiver_model.specs.Offsets.{IsPlace, IsNear, Carries, Ends}
use Rattle.receiver_model.specs.Delivery.{Receiver, Step, Hears, beginning}
use Rattle.receiver_model.specs.FamilyAgreement.{OctetAt, FinAt, TellOneStream}
use Rattle.receiver_model.specs.Monitors.{Keeps, HasDeliveredAll, TakesAndDelivers, StayNearAcks}
use Rattle.receiver_model.proofs.Members.{place_on, ComesInTime, all_at, plain_nearer, IsStream, Sound, sound_beginning, sound_more, step_keeps, read_end, octet_of_frame, fin_of_frame}

-- What a receiver keeps of a frame that it hears in time, and that no later step loses it.

-- an octet waits there, this one or another
abbrev pub Waits : (waiting : ℤ → Option ℕ) → ℤ → Type 0
Waits waiting offset = (x : ℕ) × (waiting offset ≡ Some x)

-- what is kept of the frame with this index: octets wait at its offsets from the next one on, and a
-- FIN is kept if it has one
pub record Kept (places : List ℤ) (frames : List (List ℕ)) (start number : ℕ) (r : Receiver) : Type 0 where
  pub octets :
      (offset : ℤ) (x : ℕ) (c : OctetAt places frames offset x) →
      c.number ≡ number →
      pos (start + length r.stream) ≤ℤ offset →
      Waits r.waiting offset
  pub fin : (offset : ℤ) (c : FinAt places frames offset) → c.number ≡ number → (end : ℤ) × (r.fin ≡ Some end)

-- ---- a step loses nothing

still_waits : (base start : ℕ) (s : Option Segment) (before after : Receiver) → Step base start s before after → (offset : ℤ)
    → Waits before.waiting offset → Waits after.waiting offset
still_waits base start s before after t offset w = by (t.octets offset)
  where
    by : (after.waiting offset ≡ before.waiting offset)
        ⊎ ((octet : ℕ) × Carries base (start + length before.stream) s offset octet × (after.waiting offset ≡ Some octet))
        → Waits after.waiting offset
    by (inl same) = (w.0, same ∙ w.1)
    by (inr new) = (new.0, new.2)

still_kept : (base start : ℕ) (s : Option Segment) (before after : Receiver) → Step base start s before after → (end : ℤ) × (before.fin ≡ Some end)
    → (end : ℤ) × (after.fin ≡ Some end)
still_kept base start s before after t k = by t.fin
  where
    by : (after.fin ≡ before.fin) ⊎ ((offset : ℤ) × Ends base (start + length before.stream) s offset × (after.fin ≡ Some offset))
        → (end : ℤ) × (after.fin ≡ Some end)
    by (inl same) = (k.0, same ∙ k.1)
    by (inr new) = (new.0, new.2)

-- the next offset does not go back
pub goes_on : (base start : ℕ) (s : Option Segment) (before after : Receiver) → Step base start s before after
    → start + length before.stream ≤ start + length after.stream
goes_on base start s before after t =
    let long : length after.stream ≡ length before.stream + length t.stream.more =
    ap length t.stream.joined ∙ length-append before.stream t.stream.more in
    omega (arith, long)

from_before : (base start : ℕ) (s : Option Segment) (before after : Receiver) (offset : ℤ) → Step base start s before after
    → pos (start + length after.stream) ≤ℤ offset → pos (start + length before.stream) ≤ℤ offset
from_before base start s before after offset t from = let on = goes_on base start s before after t in omega (arith, ints, from, on)

pub kept_on : (places : List ℤ) (frames : List (List ℕ)) (base start number : ℕ) (s : Option Segment) (before after : Receiver)
    → Step base start s before after → Kept places frames start number before → Kept places frames start number after
kept_on places frames base start number s before after t k = record {
  octets = λ offset x c same from.
      still_waits base start s before after t offset (k.octets offset x c same (from_before base start s before after offset t from));
  fin = λ offset c same. still_kept base start s before after t (k.fin offset c same);
}

-- ---- a frame that is heard is kept

pub kept_now : (hops distance base start : ℕ) (places : List ℤ) (frames : List (List ℕ)) (number : ℕ) (before after : Receiver) → distance ≤ hops
    → TellOneStream hops base places frames → (hears : Hears distance base start frames number before after)
    → Keeps distance base start hears.frame hears.segment before after → ComesInTime places frames (start + length before.stream) number
    → Kept places frames start number after
kept_now hops distance base start places frames number before after near h hears keeps timely = record { octets = octets; fin = fin }
  where
    next : ℕ
    next = start + length before.stream

    heard : (frame : List ℕ) (s : Segment) → slice_get frames number ≡ Some frame → segment_of frame ≡ Some s → hears.segment ≡ Some s
    heard frame s stands says =
        let same : hears.frame ≡ frame = let e = hears.stands in cc (e, stands) in
        let plain = all_at (λ p. Plain hops p) frames number hears.frame h.plain hears.stands in
        keeps.reads (plain_nearer hops distance hears.frame near plain) ∙ ap segment_of same ∙ says

    octets : (offset : ℤ) (x : ℕ) (c : OctetAt places frames offset x) → c.number ≡ number → pos (start + length after.stream) ≤ℤ offset
        → Waits after.waiting offset
    octets offset x c same from = by (before.waiting offset) refl
      where
        stands : slice_get frames number ≡ Some c.frame
        stands = subst (λ n. slice_get frames n ≡ Some c.frame) same c.stands

        placed : slice_get places number ≡ Some c.place
        placed = subst (λ n. slice_get places n ≡ Some c.place) same c.placed

        place : IsPlace base c.segment.sequence c.place
        place = h.placed.placed number c.frame c.segment c.place stands c.says placed

        near_there : IsNear next (c.place +ℤ pos c.index)
        near_there = (timely c.frame c.segment c.place stands c.says placed).octets c.index (slice_get_within c.segment.octets c.index x c.has)

        carries : Carries base next hears.segment offset x
        carries =
            subst (λ o. Carries base next o offset x) (sym (heard c.frame c.segment stands c.says)) (
              c.index,
              c.has,
              record {
                place = subst (IsPlace base (c.segment.sequence + c.index)) (sym c.there) (place_on base c.segment.sequence c.index c.place place);
                near = subst (IsNear next) (sym c.there) near_there;
              },
            )

        by : (o : Option ℕ) → before.waiting offset ≡ o → Waits after.waiting offset
        by None none = (x, keeps.octets offset x carries (from_before base start hears.segment before after offset hears.step from) none)
        by (Some y) waits = still_waits base start hears.segment before after hears.step offset (y, waits)

    fin : (offset : ℤ) (c : FinAt places frames offset) → c.number ≡ number → (end : ℤ) × (after.fin ≡ Some end)
    fin offset c same = by before.fin refl
      where
        stands : slice_get frames number ≡ Some c.frame
        stands = subst (λ n. slice_get frames n ≡ Some c.frame) same c.stands

        placed : slice_get places number ≡ Some c.place
        placed = subst (λ n. slice_get places n ≡ Some c.place) same c.placed

        place : IsPlace base (c.segment.sequence + length c.segment.octets) (c.place +ℤ pos (length c.segment.octets))
        place =
            place_on base c.segment.sequence (length c.segment.octets) c.place
            (h.placed.placed number c.frame c.segment c.place stands c.says placed)

        ends : Ends base next hears.segment offset
        ends =
            subst (λ o. Ends base next o offset) (sym (heard c.frame c.segment stands c.says)) (
              c.has,
              record {
                place = subst (IsPlace base (c.segment.sequence + length c.segment.octets)) (sym c.there) place;
                near = subst (IsNear next) (sym c.there) ((timely c.frame c.segment c.place stands c.says placed).fin c.has);
              },
            )

        by : (o : Option ℤ) → before.fin ≡ o → (end : ℤ) × (after.fin ≡ Some end)
        by None none = (offset, keeps.fin offset ends none)
        by (Some end) is = still_kept base start hears.segment before after hears.step (end, is)

-- What a receiver has that took the first frames in order, each in time, and when the next frame is
-- in time for it.

-- ---- elements from an index on

-- the list has these elements from this index on
abbrev pub IsRest : (X : Type 0) (all : List X) (k : ℕ) (rest : List X) → Type 0
IsRest X all k rest = (i : ℕ) (x : X) → slice_get rest i ≡ Some x → slice_get all (k + i) ≡ Some x

pub rest_all : (X : Type 0) (all : List X) → IsRest X all 0 all
rest_all X all i x e = let there : i ≡ 0 + i = omega arith in subst (λ n. slice_get all n ≡ Some x) there e

pub rest_first : (X : Type 0) (all : List X) (k : ℕ) (x : X) (rest : List X) → IsRest X all k (x ∷ rest) → slice_get all k ≡ Some x
rest_first X all k x rest is = let there : k + 0 ≡ k = omega arith in subst (λ n. slice_get all n ≡ Some x) there (is 0 x refl)

pub rest_on : (X : Type 0) (all : List X) (k : ℕ) (x : X) (rest : List X) → IsRest X all k (x ∷ rest) → IsRest X all (k + 1) rest
rest_on X all k x rest is i y e = let there : k + suc i ≡ k + 1 + i = omega arith in subst (λ n. slice_get all n ≡ Some y) there (is (suc i) y e)

-- a frame has an ack
pub has_ack : (acks : List ℕ) (places : List ℤ) (frames : List (List ℕ)) (k : ℕ) → StayNearAcks acks places frames → k < length frames
    → (ack : ℕ) × (slice_get acks k ≡ Some ack)
has_ack acks places frames k stay within =
    let same = stay.one_each in
    (get_or acks k 0, slice_get-get_or acks k 0 (omega (arith, same, within)))

-- ---- the first frames

-- one of the frames before this index has the octet there
abbrev pub OctetBefore : (places : List ℤ) (frames : List (List ℕ)) (k : ℕ) → ℤ → ℕ → Type 0
OctetBefore places frames k offset x = (c : OctetAt places frames offset x) × (c.number < k)

-- one of them has a FIN there
abbrev pub FinBefore : (places : List ℤ) (frames : List (List ℕ)) (k : ℕ) → ℤ → Type 0
FinBefore places frames k offset = (c : FinAt places frames offset) × (c.number < k)

-- what a receiver has is of these frames; it has kept each of them, and given all that it can
pub record Caught (places : List ℤ) (frames : List (List ℕ)) (start k : ℕ) (r : Receiver) : Type 0 where
  pub sound : Sound (OctetBefore places frames k) (FinBefore places frames k) start r
  pub kept : (number : ℕ) → number < k → Kept places frames start number r
  pub gives : HasDeliveredAll start r

pub caught_none : (places : List ℤ) (frames : List (List ℕ)) (start : ℕ) → Caught places frames start 0 beginning
caught_none places frames start = record {
  sound = sound_beginning (OctetBefore places frames 0) (FinBefore places frames 0) start;
  kept = λ number none. absurd (omega (arith, none));
  gives = record { octets = refl; end = λ e. absurd (cc) };
}

pub caught_sound : (places : List ℤ) (frames : List (List ℕ)) (start k : ℕ) (r : Receiver) → Caught places frames start k r
    → Sound (OctetAt places frames) (FinAt places frames) start r
caught_sound places frames start k r caught =
    sound_more (OctetBefore places frames k) (OctetAt places frames) (FinBefore places frames k) (FinAt places frames) start r (λ offset x c. c.0)
    (λ offset c. c.0) caught.sound

-- with one frame more
module _ (hops distance base start : ℕ) (places : List ℤ) (frames : List (List ℕ)) (k : ℕ) (frame : List ℕ) (before after : Receiver)
    (near : distance ≤ hops) (h : TellOneStream hops base places frames) (stands : slice_get frames k ≡ Some frame)
    (t : TakesAndDelivers distance base start frame before after)
    (time : ComesInTime places frames (start + length before.stream) k) (caught : Caught places frames start k before) where
  is : IsStream (OctetBefore places frames (k + 1)) (FinBefore places frames (k + 1))
  is = record {
    one_octet = λ offset x y c d. h.one_octet offset x y c.0 d.0;
    one_end = λ one other c d. h.one_end one other c.0 d.0;
    none_past = λ offset x end c d. h.none_past offset x end c.0 d.0;
  }

  older : Sound (OctetBefore places frames (k + 1)) (FinBefore places frames (k + 1)) start before
  older =
      sound_more (OctetBefore places frames k) (OctetBefore places frames (k + 1)) (FinBefore places frames k) (FinBefore places frames (k + 1)) start
      before (λ offset x c. let less = c.1 in (c.0, omega (arith, less))) (λ offset c. let less = c.1 in (c.0, omega (arith, less))) caught.sound

  octets : (offset : ℤ) (x : ℕ) → Carries base (start + length before.stream) t.segment offset x → OctetBefore places frames (k + 1) offset x
  octets offset x c =
      let next = start + length before.stream in
      let d = octet_of_frame hops distance base next places frames k frame t.segment near h stands (inr t.keeps.reads) time offset x c in
      let same = d.1 in
      (d.0, omega (arith, same))

  fins : (offset : ℤ) → Ends base (start + length before.stream) t.segment offset → FinBefore places frames (k + 1) offset
  fins offset c =
      let next = start + length before.stream in
      let d = fin_of_frame hops distance base next places frames k frame t.segment near h stands (inr t.keeps.reads) time offset c in
      let same = d.1 in
      (d.0, omega (arith, same))

  abbrev hears : Hears distance base start frames k before after
  hears = record { frame = frame; stands = stands; segment = t.segment; reads = inr t.keeps.reads; step = t.step }

  kept : (number : ℕ) → number < k + 1 → Kept places frames start number after
  kept number within = by (cases_lt number k)
    where
      by : (number < k) ⊎ (k ≤ number) → Kept places frames start number after
      by (inl less) = kept_on places frames base start number t.segment before after t.step (caught.kept number less)
      by (inr more) =
          let same : k ≡ number = omega (arith, within, more) in
          subst (λ n. Kept places frames start n after) same
          (kept_now hops distance base start places frames k before after near h hears t.keeps time)

  pub caught_next : Caught places frames start (k + 1) after
  caught_next = record {
    sound =
        step_keeps (OctetBefore places frames (k + 1)) (FinBefore places frames (k + 1)) base start t.segment before after is octets fins older
        t.step;
    kept = kept;
    gives = t.gives;
  }

-- ---- the next frame

-- no octet and no FIN of the frame with this index is 2^31 or more past this offset
pub record IsAhead (places : List ℤ) (frames : List (List ℕ)) (next number : ℕ) : Type 0 where
  pub octets : (offset : ℤ) (x : ℕ) (c : OctetAt places frames offset x) → c.number ≡ number → offset <ℤ pos (next + 2 ^ 31)
  pub fin : (offset : ℤ) (c : FinAt places frames offset) → c.number ≡ number → offset <ℤ pos (next + 2 ^ 31)

-- a frame is so if its ack is less than 2^30 past it
pub ahead_of_ack : (acks : List ℕ) (places : List ℤ) (frames : List (List ℕ)) (next number ack : ℕ) → StayNearAcks acks places frames
    → slice_get acks number ≡ Some ack → ack < next + 2 ^ 30 → IsAhead places frames next number
ahead_of_ack acks places frames next number ack stay w less = record {
  octets = λ offset x c same.
      let far = (stay.octets offset x ack c (subst (λ n. slice_get acks n ≡ Some ack) (sym same) w)).1 in
      omega (arith, ints, far, less);
  fin = λ offset c same.
      let far = (stay.fins offset ack c (subst (λ n. slice_get acks n ≡ Some ack) (sym same) w)).1 in
      omega (arith, ints, far, less);
}

-- each frame is so once the stream's end is not past it
pub ahead_at_end : (hops base : ℕ) (places : List ℤ) (frames : List (List ℕ)) (next number end : ℕ) → TellOneStream hops base places frames
    → FinAt places frames (pos end) → end ≤ next → IsAhead places frames next number
ahead_at_end hops base places frames next number end h f past = record {
  octets = λ offset x c same. let before = h.none_past offset x (pos end) c f in omega (arith, ints, before, past);
  fin = λ offset c same. let there = h.one_end offset (pos end) c f in omega (arith, ints, there, past);
}

module _ (hops base start : ℕ) (acks : List ℕ) (places : List ℤ) (frames : List (List ℕ)) (k ack : ℕ) (r : Receiver)
    (h : TellOneStream hops base places frames) (stay : StayNearAcks acks places frames) (low : start ≤ 2 ^ 31)
    (w : slice_get acks k ≡ Some ack) (caught : Caught places frames start k r) where
  -- the read octets are of frames before this one, so it ends at most 2^30 past the ack
  reach : (start + length r.stream ≡ start) ⊎ (start + length r.stream ≤ ack + 2 ^ 30 + 1)
  reach = by (read_end (OctetBefore places frames k) start r.stream caught.sound.read)
    where
      by : (start + length r.stream ≡ start)
          ⊎ ((last : ℕ) × (x : ℕ) × (start + length r.stream ≡ last + 1) × OctetBefore places frames k (pos last) x)
          → (start + length r.stream ≡ start) ⊎ (start + length r.stream ≤ ack + 2 ^ 30 + 1)
      by (inl none) = inl none
      by (inr some) =
          let e = some.2 in
          let less = some.3.1 in
          let c : OctetAt places frames (pos some.0) some.1 = some.3.0 in
          let v = has_ack acks places frames c.number stay (slice_get_within frames c.number c.frame c.stands) in
          let before : v.0 ≤ ack = stay.go_on c.number k v.0 ack (omega (arith, less)) v.1 w in
          let far = (stay.octets (pos some.0) some.1 v.0 c v.1).1 in
          inr (omega (arith, ints, e, before, far))

  -- and it ends before a FIN
  reach_fin : (offset : ℤ) → FinAt places frames offset → (start + length r.stream ≡ start) ⊎ (pos (start + length r.stream) ≤ℤ offset)
  reach_fin offset f = by (read_end (OctetBefore places frames k) start r.stream caught.sound.read)
    where
      by : (start + length r.stream ≡ start)
          ⊎ ((last : ℕ) × (x : ℕ) × (start + length r.stream ≡ last + 1) × OctetBefore places frames k (pos last) x)
          → (start + length r.stream ≡ start) ⊎ (pos (start + length r.stream) ≤ℤ offset)
      by (inl none) = inl none
      by (inr some) =
          let e = some.2 in
          let before = h.none_past (pos some.0) some.1 offset some.3.0 f in
          inr (omega (arith, ints, e, before))

  behind : (offset : ℤ) → pos ack ≤ℤ offset → pos (start + length r.stream) ≤ℤ (offset +ℤ pos (2 ^ 31))
  behind offset from = by reach
    where
      by : (start + length r.stream ≡ start) ⊎ (start + length r.stream ≤ ack + 2 ^ 30 + 1)
          → pos (start + length r.stream) ≤ℤ (offset +ℤ pos (2 ^ 31))
      by (inl none) = omega (arith, ints, none, low, from)
      by (inr less) = omega (arith, ints, less, from)

  behind_fin : (offset : ℤ) → FinAt places frames offset → pos 0 ≤ℤ offset → pos (start + length r.stream) ≤ℤ (offset +ℤ pos (2 ^ 31))
  behind_fin offset f from = by (reach_fin offset f)
    where
      by : (start + length r.stream ≡ start) ⊎ (pos (start + length r.stream) ≤ℤ offset)
          → pos (start + length r.stream) ≤ℤ (offset +ℤ pos (2 ^ 31))
      by (inl none) = omega (arith, ints, none, low, from)
      by (inr less) = omega (arith, ints, less)

  -- so a frame that is not too far ahead arrives in time
  pub comes_in_time : IsAhead places frames (start + length r.stream) k → ComesInTime places frames (start + length r.stream) k
  comes_in_time ahead frame s place stands says placed = record { octets = octets; fin = fin }
    where
      octets : (i : ℕ) → i < length s.octets → IsNear (start + length r.stream) (place +ℤ pos i)
      octets i within =
          let c : OctetAt places frames (place +ℤ pos i) (get_or s.octets i 0) = record {
            number = k;
            frame = frame;
            place = place;
            segment = s;
            index = i;
            stands = stands;
            placed = placed;
            says = says;
            has = slice_get-get_or s.octets i 0 within;
            there = refl;
          } in
          record {
            behind = behind (place +ℤ pos i) (stay.octets (place +ℤ pos i) (get_or s.octets i 0) ack c w).0;
            ahead = ahead.octets (place +ℤ pos i) (get_or s.octets i 0) c refl;
          }

      fin : IsTrue (tcp.has_fin s.flags) → IsNear (start + length r.stream) (place +ℤ pos (length s.octets))
      fin has =
          let c : FinAt places frames (place +ℤ pos (length s.octets)) = record {
            number = k;
            frame = frame;
            place = place;
            segment = s;
            stands = stands;
            placed = placed;
            says = says;
            has = has;
            there = refl;
          } in
          let there = place +ℤ pos (length s.octets) in
          record { behind = behind_fin there c (stay.fins there ack c w).0; ahead = ahead.fin there c refl }

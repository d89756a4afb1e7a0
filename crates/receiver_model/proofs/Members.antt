-- Members of the family: what each of them knows at any time, if frames describe one stream, and
-- that all agree.
use Rattle.std.proofs.Common.{◌≡◌, ℕ, suc, ◌+◌, ◌-◌, ◌/◌, ◌%◌, ◌^◌, ◌<◌, ◌≤◌, true, arith, ◌⊎◌, List, [], ◌∷◌, ◌++◌, length, Some, Option, refl, sym, ap, ◌∙◌, subst, inl, inr, ⊎_elim, append-nil, None, Bool, get_or, ℤ, pos, negsuc, ◌+ℤ◌, ◌-ℤ◌, ◌≤ℤ◌, ◌<ℤ◌, slice_get, All}
use Rattle.std.proofs.lemmas.Int.{ints}
use Rattle.std.proofs.lemmas.Bool.Decides.{nat_tests}
use Rattle.std.proofs.lemmas.Option.{slice_get_within, slice_get-get_or, get_or_from_slice_get}
use Rattle.std.proofs.lemmas.List.Elements.{All-get_or}
use Rattle.wire_base.specs.Segments.{Segment, segment_of}
use Rattle.wire_base.specs.Plain.{Plain}
use Rattle.receiver_model.specs.Offsets.{IsPlace, IsNear, Names, raised_of, offset_in, Carries, Ends}
use Rattle.receiver_model.specs.Policies.{is_near, index_of}
use Rattle.receiver_model.specs.Delivery.{Receiver, WaitFrom, Step, beginning, Reads, Run, InTime, IsTimely, DeliversInTime}
use Rattle.receiver_model.specs.FamilyAgreement.{IsPrefixOf, Agree, OctetAt, FinAt, TellOneStream, IsMember, MembersAgree}
use Rattle.receiver_model.specs.declared.member.Member.{Member}
use Rattle.receiver_model.specs.Messages.{PlainIsReadAlike}

-- Offsets near the next one.

-- two places of one number that are near to one offset are equal
pub one_place : (base next number : ℕ) (p q : ℤ) → IsPlace base number p → IsPlace base number q → IsNear next p → IsNear next q → p ≡ q
one_place base next number p q a b h k = omega (arith, ints)

-- a place increases with the number
pub place_on : (base number i : ℕ) (p : ℤ) → IsPlace base number p → IsPlace base (number + i) (p +ℤ pos i)
place_on base number i p a = record { turns = a.turns; is = let e = a.is in omega (arith, ints, e) }

-- the computed offset is the one that the number represents
pub raised_named : (base next number : ℕ) → Names base next number (offset_in (raised_of base next number))
raised_named base next number =
    record {
      place = record { turns = pos (base / 2 ^ 32 + next / 2 ^ 32 + 2) -ℤ pos ((number + 2 ^ 33 + 2 ^ 31 - base % 2 ^ 32 - next % 2 ^ 32) / 2 ^ 32); is = omega (arith, ints) };
      near = record { behind = omega (arith, ints); ahead = omega (arith, ints) };
    }

-- and no other
pub named_raised : (base next number : ℕ) (p : ℤ) → Names base next number p → p ≡ offset_in (raised_of base next number)
named_raised base next number p h = let is = raised_named base next number in one_place base next number p _ h.place is.place h.near is.near

pub near_test : (next : ℕ) (o : ℤ) → is_near next o ≡ true → IsNear next o
near_test next (pos n) e = let h : (next ≤ n + 2 ^ 31) × (n < next + 2 ^ 31) = grind (arith, nat_tests) in record { behind = omega (arith, ints); ahead = omega (arith, ints) }
near_test next (negsuc n) e = let h : next + suc n ≤ 2 ^ 31 = grind (arith, nat_tests) in record { behind = omega (arith, ints); ahead = omega (arith, ints) }

pub test_near : (next : ℕ) (o : ℤ) → IsNear next o → is_near next o ≡ true
test_near next (pos n) h = let a : next ≤ n + 2 ^ 31 = omega (arith, ints, h.behind) in let b : n < next + 2 ^ 31 = omega (arith, ints, h.ahead) in grind (arith, nat_tests)
test_near next (negsuc n) h = let a : next + suc n ≤ 2 ^ 31 = omega (arith, ints, h.behind) in grind (arith, nat_tests)

pub far_back : (next : ℕ) (o : ℤ) → IsNear next o → pos 0 ≤ℤ (o +ℤ pos (2 ^ 31))
far_back next o h = omega (arith, ints, h.behind)

-- the octet for an offset is the one whose number represents it
pub goes_there : (base sequence : ℕ) (o : ℤ) → sequence < 2 ^ 32 → pos 0 ≤ℤ (o +ℤ pos (2 ^ 31)) → IsPlace base (sequence + index_of base sequence o) o
goes_there base sequence (pos n) k low = record { turns = pos ((n + base + 2 ^ 32 - sequence) / 2 ^ 32) -ℤ pos 1; is = omega (arith, ints) }
goes_there base sequence (negsuc n) k low =
    let less : suc n ≤ 2 ^ 31 = omega (arith, ints) in
    record { turns = pos ((base + 2 ^ 33 - sequence - suc n) / 2 ^ 32) -ℤ pos 2; is = omega (arith, ints) }

pub comes_back : (base sequence i : ℕ) (o : ℤ) → i < 2 ^ 32 → sequence < 2 ^ 32 → pos 0 ≤ℤ (o +ℤ pos (2 ^ 31)) → IsPlace base (sequence + i) o → index_of base sequence o ≡ i
comes_back base sequence i (pos n) h k low p = let e = p.is in omega (arith, ints)
comes_back base sequence i (negsuc n) h k low p = let less : suc n ≤ 2 ^ 31 = omega (arith, ints) in let e = p.is in omega (arith, ints)

-- What a receiver knows at any time, if each octet and each FIN that it may be given is one of a
-- single stream's.

-- the list is the stream's octets from this offset on
abbrev pub ReadFrom : (ℤ → ℕ → Type 0) → ℕ → List ℕ → Type 0
ReadFrom C at [] = Unit {0}
ReadFrom C at (x ∷ xs) = C (pos at) x × ReadFrom C (at + 1) xs

-- `C`: this octet is at this offset. `F`: the stream ends at this offset
pub record IsStream (C : ℤ → ℕ → Type 0) (F : ℤ → Type 0) : Type 0 where
  pub one_octet : (offset : ℤ) (x y : ℕ) → C offset x → C offset y → x ≡ y
  pub one_end : (one other : ℤ) → F one → F other → one ≡ other
  pub none_past : (offset : ℤ) (x : ℕ) (end : ℤ) → C offset x → F end → offset <ℤ end

-- waiting octets are the stream's, the kept offset is its end, the given octets are the stream from
-- `start` on, and an ended receiver is at its end
pub record Sound (C : ℤ → ℕ → Type 0) (F : ℤ → Type 0) (start : ℕ) (r : Receiver) : Type 0 where
  pub waits : (offset : ℤ) (x : ℕ) → r.waiting offset ≡ Some x → C offset x
  pub keeps : (offset : ℤ) → r.fin ≡ Some offset → F offset
  pub read : ReadFrom C start r.stream
  pub ends : r.ended ≡ true → F (pos (start + length r.stream))

pub sound_beginning : (C : ℤ → ℕ → Type 0) (F : ℤ → Type 0) (start : ℕ) → Sound C F start beginning
sound_beginning C F start = record { waits = λ _ _ e. absurd (cc); keeps = λ _ e. absurd (cc); read = tt; ends = λ e. absurd (cc) }

read_waiting : (C : ℤ → ℕ → Type 0) (waiting : ℤ → Option ℕ) (at : ℕ) (xs : List ℕ) → ((offset : ℤ) (x : ℕ) → waiting offset ≡ Some x → C offset x) → WaitFrom waiting at xs → ReadFrom C at xs
read_waiting C waiting at [] all w = tt
read_waiting C waiting at (x ∷ xs) all w = (all (pos at) x w.0, read_waiting C waiting (at + 1) xs all w.1)

read_append : (C : ℤ → ℕ → Type 0) (at : ℕ) (xs ys : List ℕ) → ReadFrom C at xs → ReadFrom C (at + length xs) ys → ReadFrom C at (xs ++ ys)
read_append C at [] ys r s = subst (λ n. ReadFrom C n ys) (omega arith) s
read_append C at (x ∷ xs) ys r s = (r.0, read_append C (at + 1) xs ys r.1 (subst (λ n. ReadFrom C n ys) (omega arith) s))

read_more : (C D : ℤ → ℕ → Type 0) (at : ℕ) (xs : List ℕ) → ((offset : ℤ) (x : ℕ) → C offset x → D offset x) → ReadFrom C at xs → ReadFrom D at xs
read_more C D at [] more r = tt
read_more C D at (x ∷ xs) more r = (more (pos at) x r.0, read_more C D (at + 1) xs more r.1)

-- what is sound of a part of the stream is sound of the stream
pub sound_more : (C D : ℤ → ℕ → Type 0) (F G : ℤ → Type 0) (start : ℕ) (r : Receiver) → ((offset : ℤ) (x : ℕ) → C offset x → D offset x)
    → ((offset : ℤ) → F offset → G offset) → Sound C F start r → Sound D G start r
sound_more C D F G start r more also h = record {
  waits = λ offset x e. more offset x (h.waits offset x e);
  keeps = λ offset e. also offset (h.keeps offset e);
  read = read_more C D start r.stream more h.read;
  ends = λ e. also (pos (start + length r.stream)) (h.ends e);
}

-- nothing was read, or the octet before the next offset is the stream's
pub read_end : (C : ℤ → ℕ → Type 0) (at : ℕ) (xs : List ℕ) → ReadFrom C at xs
    → (at + length xs ≡ at) ⊎ ((last : ℕ) × (x : ℕ) × (at + length xs ≡ last + 1) × C (pos last) x)
read_end C at [] r = inl (omega arith)
read_end C at (x ∷ xs) r = by (read_end C (at + 1) xs r.1)
  where
    by : (at + 1 + length xs ≡ at + 1) ⊎ ((last : ℕ) × (y : ℕ) × (at + 1 + length xs ≡ last + 1) × C (pos last) y)
        → (at + suc (length xs) ≡ at) ⊎ ((last : ℕ) × (y : ℕ) × (at + suc (length xs) ≡ last + 1) × C (pos last) y)
    by (inl none) = inr (at, x, omega arith, r.0)
    by (inr some) = let e = some.2 in inr (some.0, some.1, omega (arith, e), some.3)

apart : (at : ℕ) → pos at <ℤ pos at → ⊥
apart at h = omega (arith, ints)

-- at the end no octet waits
no_more : (C : ℤ → ℕ → Type 0) (F : ℤ → Type 0) (at : ℕ) (xs : List ℕ) → IsStream C F → F (pos at) → ReadFrom C at xs → xs ≡ []
no_more C F at [] is f r = refl
no_more C F at (x ∷ xs) is f r = absurd (apart at (is.none_past (pos at) x (pos at) r.0 f))

-- a step with octets and a FIN of the stream stays sound; a receiver that has ended gets no further
-- octet
pub step_keeps : (C : ℤ → ℕ → Type 0) (F : ℤ → Type 0) (base start : ℕ) (s : Option Segment) (before after : Receiver) → IsStream C F → ((offset : ℤ) (x : ℕ) → Carries base (start + length before.stream) s offset x → C offset x) → ((offset : ℤ) → Ends base (start + length before.stream) s offset → F offset) → Sound C F start before → Step base start s before after → Sound C F start after
step_keeps C F base start s before after is octets ends h t = record { waits = waits; keeps = keeps; read = read; ends = at_end }
  where
    waits : (offset : ℤ) (x : ℕ) → after.waiting offset ≡ Some x → C offset x
    waits offset x e =
        ⊎_elim
        (λ (same : after.waiting offset ≡ before.waiting offset). h.waits offset x (sym same ∙ e))
        (λ (new : (octet : ℕ) × Carries base (start + length before.stream) s offset octet × (after.waiting offset ≡ Some octet)). let same : new.0 ≡ x = cc (new.2, e) in subst (C offset) same (octets offset new.0 new.1))
        (t.octets offset)

    keeps : (offset : ℤ) → after.fin ≡ Some offset → F offset
    keeps offset e =
        ⊎_elim
        (λ (same : after.fin ≡ before.fin). h.keeps offset (sym same ∙ e))
        (λ (new : (place : ℤ) × Ends base (start + length before.stream) s place × (after.fin ≡ Some place)). let same : new.0 ≡ offset = cc (new.2, e) in subst F same (ends new.0 new.1))
        t.fin

    more : ReadFrom C (start + length before.stream) t.stream.more
    more = read_waiting C after.waiting (start + length before.stream) t.stream.more waits t.stream.waited

    read : ReadFrom C start after.stream
    read = subst (ReadFrom C start) (sym t.stream.joined) (read_append C start before.stream t.stream.more h.read more)

    at_end : after.ended ≡ true → F (pos (start + length after.stream))
    at_end e =
        ⊎_elim
        (λ (same : after.ended ≡ before.ended).
        let old : F (pos (start + length before.stream)) = h.ends (sym same ∙ e) in
        let none : t.stream.more ≡ [] = no_more C F (start + length before.stream) t.stream.more is old more in
        let still : after.stream ≡ before.stream = t.stream.joined ∙ ap (λ l. before.stream ++ l) none ∙ append-nil before.stream in
        subst (λ l. F (pos (start + length l))) (sym still) old)
        (λ (new : (after.ended ≡ true) × (after.fin ≡ Some (pos (start + length after.stream)))). keeps _ new.1)
        t.ended

-- of two streams read from one offset one is a prefix of the other
prefixes : (C : ℤ → ℕ → Type 0) (at : ℕ) (xs ys : List ℕ) → ((offset : ℤ) (x y : ℕ) → C offset x → C offset y → x ≡ y) → ReadFrom C at xs → ReadFrom C at ys → IsPrefixOf xs ys ⊎ IsPrefixOf ys xs
prefixes C at [] ys one r s = inl (ys, refl)
prefixes C at (x ∷ xs) [] one r s = inr (x ∷ xs, refl)
prefixes C at (x ∷ xs) (y ∷ ys) one r s =
    let same : x ≡ y = one (pos at) x y r.0 s.0 in
    ⊎_elim
    (λ (p : IsPrefixOf xs ys). inl (p.0, λ i. same i ∷ p.1 i))
    (λ (p : IsPrefixOf ys xs). inr (p.0, λ i. sym same i ∷ p.1 i))
    (prefixes C (at + 1) xs ys one r.1 s.1)

pub read_rest : (C : ℤ → ℕ → Type 0) (at : ℕ) (xs rest : List ℕ) → ReadFrom C at (xs ++ rest) → ReadFrom C (at + length xs) rest
read_rest C at [] rest r = subst (λ n. ReadFrom C n rest) (omega arith) r
read_rest C at (x ∷ xs) rest r = subst (λ n. ReadFrom C n rest) (omega arith) (read_rest C (at + 1) xs rest r.1)

-- an ended stream is a prefix only of an equal one
ended_whole : (C : ℤ → ℕ → Type 0) (F : ℤ → Type 0) (start : ℕ) (xs ys : List ℕ) → IsStream C F → F (pos (start + length xs)) → ReadFrom C start ys → IsPrefixOf xs ys → xs ≡ ys
ended_whole C F start xs ys is f r p =
    let rest : ReadFrom C (start + length xs) p.0 = read_rest C start xs p.0 (subst (ReadFrom C start) (sym p.1) r) in
    let none : p.0 ≡ [] = no_more C F (start + length xs) p.0 is f rest in
    sym (append-nil xs) ∙ ap (λ l. xs ++ l) (sym none) ∙ p.1

pub sound_agree : (C : ℤ → ℕ → Type 0) (F : ℤ → Type 0) (start : ℕ) (a b : Receiver) → IsStream C F → Sound C F start a → Sound C F start b → Agree a.stream a.ended b.stream b.ended
sound_agree C F start a b is h k = record { prefix = prefix; first = first; second = second; both = both }
  where
    prefix : IsPrefixOf a.stream b.stream ⊎ IsPrefixOf b.stream a.stream
    prefix = prefixes C start a.stream b.stream is.one_octet h.read k.read

    first : a.ended ≡ true → IsPrefixOf a.stream b.stream → a.stream ≡ b.stream
    first e p = ended_whole C F start a.stream b.stream is (h.ends e) k.read p

    second : b.ended ≡ true → IsPrefixOf b.stream a.stream → b.stream ≡ a.stream
    second e p = ended_whole C F start b.stream a.stream is (k.ends e) h.read p

    both : a.ended ≡ true → b.ended ≡ true → a.stream ≡ b.stream
    both e f = ⊎_elim (λ p. first e p) (λ p. sym (second f p)) prefix

-- where the stream has no octet at the next offset of a receiver, no other receiver has more
pub none_has_more : (C : ℤ → ℕ → Type 0) (F : ℤ → Type 0) (start : ℕ) (r other : Receiver) → IsStream C F → Sound C F start r → Sound C F start other
    → ((x : ℕ) → C (pos (start + length r.stream)) x → ⊥) → IsPrefixOf other.stream r.stream
none_has_more C F start r other is h k none = by (prefixes C start other.stream r.stream is.one_octet k.read h.read)
  where
    no_rest : (rest : List ℕ) → r.stream ++ rest ≡ other.stream → IsPrefixOf other.stream r.stream
    no_rest [] e = ([], append-nil other.stream ∙ sym e ∙ append-nil r.stream)
    no_rest (x ∷ rest) e = absurd (none x (read_rest C start r.stream (x ∷ rest) (subst (ReadFrom C start) (sym e) k.read)).0)

    by : IsPrefixOf other.stream r.stream ⊎ IsPrefixOf r.stream other.stream → IsPrefixOf other.stream r.stream
    by (inl p) = p
    by (inr p) = no_rest p.0 p.1

-- From frames that describe one stream to the agreement of all members.

pub all_at : {X : Type 0} (P : X → Type 0) (xs : List X) (i : ℕ) (x : X) → All P xs → slice_get xs i ≡ Some x → P x
all_at P xs i x h e = subst P (get_or_from_slice_get xs i x x e) (All-get_or P xs i x (slice_get_within xs i x e) h)

pub plain_nearer : (hops distance : ℕ) (p : List ℕ) → distance ≤ hops → Plain hops p → Plain distance p
plain_nearer hops distance p near h = record { header = h.header; passes = let far = h.passes in omega (arith, far); message = h.message }

pub is_stream : (hops base : ℕ) (places : List ℤ) (frames : List (List ℕ)) → TellOneStream hops base places frames → IsStream (OctetAt places frames) (FinAt places frames)
is_stream hops base places frames h = record { one_octet = h.one_octet; one_end = h.one_end; none_past = h.none_past }

-- the frame with this index arrives in time
abbrev pub ComesInTime : (places : List ℤ) (frames : List (List ℕ)) (next number : ℕ) → Type 0
ComesInTime places frames next number =
    (frame : List ℕ) (s : Segment) (place : ℤ) →
    slice_get frames number ≡ Some frame →
    segment_of frame ≡ Some s →
    slice_get places number ≡ Some place →
    InTime next place s

-- a frame of the list with its place, which arrives in time
record Comes (places : List ℤ) (frames : List (List ℕ)) (base next number : ℕ) (frame : List ℕ) (place : ℤ) : Type 0 where
  stands : slice_get frames number ≡ Some frame
  placed : slice_get places number ≡ Some place
  from : (s : Segment) → segment_of frame ≡ Some s → IsPlace base s.sequence place
  time : (s : Segment) → segment_of frame ≡ Some s → InTime next place s

-- a segment as which a member reads a frame is the frame's
same_segment : (s : Segment) (o : Option Segment) → (Some s ≡ None) ⊎ (Some s ≡ o) → o ≡ Some s
same_segment s o is = ⊎_elim (λ (none : Some s ≡ None). absurd (cc)) (λ (same : Some s ≡ o). sym same) is

-- so it has only octets of the frame
octet_heard : (places : List ℤ) (frames : List (List ℕ)) (base next number : ℕ) (frame : List ℕ) (place : ℤ) (s : Option Segment)
    → Comes places frames base next number frame place → (s ≡ None) ⊎ (s ≡ segment_of frame) → (offset : ℤ) (x : ℕ) → Carries base next s offset x
    → (c : OctetAt places frames offset x) × (c.number ≡ number)
octet_heard places frames base next number frame place None h is offset x c = absurd c
octet_heard places frames base next number frame place (Some s) h is offset x c =
    let says : segment_of frame ≡ Some s = same_segment s (segment_of frame) is in
    let near = (h.time s says).octets c.0 (slice_get_within s.octets c.0 x c.1) in (
      record {
        number = number;
        frame = frame;
        place = place;
        segment = s;
        index = c.0;
        stands = h.stands;
        placed = h.placed;
        says = says;
        has = c.1;
        there =
            one_place base next (s.sequence + c.0) offset (place +ℤ pos c.0) c.2.place (place_on base s.sequence c.0 place (h.from s says)) c.2.near
            near;
      },
      refl,
    )

fin_heard : (places : List ℤ) (frames : List (List ℕ)) (base next number : ℕ) (frame : List ℕ) (place : ℤ) (s : Option Segment)
    → Comes places frames base next number frame place → (s ≡ None) ⊎ (s ≡ segment_of frame) → (offset : ℤ) → Ends base next s offset
    → (c : FinAt places frames offset) × (c.number ≡ number)
fin_heard places frames base next number frame place None h is offset c = absurd c
fin_heard places frames base next number frame place (Some s) h is offset c =
    let says : segment_of frame ≡ Some s = same_segment s (segment_of frame) is in
    let place_there = place_on base s.sequence (length s.octets) place (h.from s says) in (
      record {
        number = number;
        frame = frame;
        place = place;
        segment = s;
        stands = h.stands;
        placed = h.placed;
        says = says;
        has = c.0;
        there =
            one_place base next (s.sequence + length s.octets) offset (place +ℤ pos (length s.octets)) c.1.place place_there c.1.near
            ((h.time s says).fin c.0);
      },
      refl,
    )

heard_as : (hops distance base : ℕ) (places : List ℤ) (frames : List (List ℕ)) (number : ℕ) (frame : List ℕ) (s : Option Segment) → distance ≤ hops → TellOneStream hops base places frames → slice_get frames number ≡ Some frame → (s ≡ None) ⊎ Reads distance frame s → (s ≡ None) ⊎ (s ≡ segment_of frame)
heard_as hops distance base places frames number frame s near h stands reads =
    ⊎_elim
    (λ (none : s ≡ None). inl none)
    (λ (read : Reads distance frame s). inr (read (plain_nearer hops distance frame near (all_at (λ p. Plain hops p) frames number frame h.plain stands))))
    reads

-- each frame has a place
has_place : (places : List ℤ) (frames : List (List ℕ)) (number : ℕ) (frame : List ℕ) → length places ≡ length frames → slice_get frames number ≡ Some frame → (place : ℤ) × (slice_get places number ≡ Some place)
has_place places frames number frame same stands =
    let within : number < length frames = slice_get_within frames number frame stands in
    (get_or places number (pos 0), slice_get-get_or places number (pos 0) (omega arith))

-- what a member that is near enough hears of this frame, if it arrives in time, is the frame's
module _ (hops distance base next : ℕ) (places : List ℤ) (frames : List (List ℕ)) (number : ℕ) (frame : List ℕ) (s : Option Segment) (near : distance ≤ hops)
    (h : TellOneStream hops base places frames) (stands : slice_get frames number ≡ Some frame) (reads : (s ≡ None) ⊎ Reads distance frame s)
    (time : ComesInTime places frames next number) where
  is : (s ≡ None) ⊎ (s ≡ segment_of frame)
  is = heard_as hops distance base places frames number frame s near h stands reads

  place : (p : ℤ) × (slice_get places number ≡ Some p)
  place = has_place places frames number frame h.placed.one_each stands

  comes : Comes places frames base next number frame place.0
  comes = record {
    stands = stands;
    placed = place.1;
    from = λ r says. h.placed.placed number frame r place.0 stands says place.1;
    time = λ r says. time frame r place.0 stands says place.1;
  }

  pub octet_of_frame : (offset : ℤ) (x : ℕ) → Carries base next s offset x → (c : OctetAt places frames offset x) × (c.number ≡ number)
  octet_of_frame = octet_heard places frames base next number frame place.0 s comes is

  pub fin_of_frame : (offset : ℤ) → Ends base next s offset → (c : FinAt places frames offset) × (c.number ≡ number)
  fin_of_frame = fin_heard places frames base next number frame place.0 s comes is

-- by induction on the schedule
pub run_keeps : (hops distance base start : ℕ) (places : List ℤ) (frames : List (List ℕ)) (before after : Receiver) (schedule : List ℕ) → distance ≤ hops
    → TellOneStream hops base places frames → Sound (OctetAt places frames) (FinAt places frames) start before
    → (run : Run distance base start frames before schedule after) → IsTimely places distance base start frames before schedule after run
    → Sound (OctetAt places frames) (FinAt places frames) start after
run_keeps hops distance base start places frames before after [] near h sound run timely =
    subst (Sound (OctetAt places frames) (FinAt places frames) start) (sym run) sound
run_keeps hops distance base start places frames before after (number ∷ schedule) near h sound run timely =
    let t = run.1 in
    let next = start + length before.stream in
    let octets = λ (offset : ℤ) (x : ℕ) (c : Carries base next t.segment offset x).
    (octet_of_frame hops distance base next places frames number t.frame t.segment near h t.stands t.reads timely.0 offset x c).0 in
    let fins = λ (offset : ℤ) (c : Ends base next t.segment offset).
    (fin_of_frame hops distance base next places frames number t.frame t.segment near h t.stands t.reads timely.0 offset c).0 in
    let mid : Sound (OctetAt places frames) (FinAt places frames) start run.0 =
    step_keeps (OctetAt places frames) (FinAt places frames) base start t.segment before run.0 (is_stream hops base places frames h) octets fins sound t.step in
    run_keeps hops distance base start places frames run.0 after schedule near h mid run.2 timely.1

agree : (hops base : ℕ) (places : List ℤ) (frames : List (List ℕ)) → TellOneStream hops base places frames → (a b : Member) (start : ℕ) (a_schedule b_schedule a_stream b_stream : List ℕ) (a_ended b_ended : Bool) → IsMember hops a → IsMember hops b → DeliversInTime places a.distance base start frames a_schedule a_stream a_ended → DeliversInTime places b.distance base start frames b_schedule b_stream b_ended → Agree a_stream a_ended b_stream b_ended
agree hops base places frames h a b start a_schedule b_schedule a_stream b_stream a_ended b_ended near_a near_b ta tb =
    let da = ta.delivery in
    let db = tb.delivery in
    let begins = sound_beginning (OctetAt places frames) (FinAt places frames) start in
    let one = run_keeps hops a.distance base start places frames beginning da.last a_schedule near_a h begins da.run ta.timely in
    let other = run_keeps hops b.distance base start places frames beginning db.last b_schedule near_b h begins db.run tb.timely in
    let all : Agree da.last.stream da.last.ended db.last.stream db.last.ended = sound_agree (OctetAt places frames) (FinAt places frames) start da.last db.last (is_stream hops base places frames h) one other in
    let left : Agree a_stream a_ended db.last.stream db.last.ended = subst (λ (r : List ℕ × Bool). Agree r.0 r.1 db.last.stream db.last.ended) (λ i. (da.stream_is i, da.ended_is i)) all in
    subst (λ (r : List ℕ × Bool). Agree a_stream a_ended r.0 r.1) (λ i. (db.stream_is i, db.ended_is i)) left

pub agrees : MembersAgree
agrees hops base places frames h = record { plain = h.plain; syns = h.syns; agree = agree hops base places frames h }

-- Plain packets are read alike.

pub read_alike : PlainIsReadAlike
read_alike hops p h = record {
  segment = λ a b x y near_a near_b one other. one (plain_nearer hops a.distance p near_a h) ∙ sym (other (plain_nearer hops b.distance p near_b h));
  message = λ a b x y near_a near_b one other. one (plain_nearer hops a.distance p near_a h) ∙ sym (other (plain_nearer hops b.distance p near_b h));
}

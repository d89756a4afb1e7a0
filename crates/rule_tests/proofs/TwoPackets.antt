-- Two packets of one stream: `bc` at the offset 0, and `XY` at the offset 2^32.
use Rattle.std.proofs.Common.{◌≡◌, ◌⊎◌, ℕ, zero, suc, ◌+◌, ◌%◌, ◌<◌, ◌≤◌, ◌^◌, List, [], ◌∷◌, Some, None, true, false, refl, sym, ap, ◌∙◌, subst, inl, inr, arith, ℤ, pos, ◌≤ℤ◌, slice_get, IsTrue, IfSome}
use Rattle.std.proofs.lemmas.Int.{ints}
use Rattle.std.proofs.lemmas.Option.{slice_get_within}
use Rattle.std.proofs.lemmas.List.Elements.{All-nil, All-cons}
use Rattle.wire_base.specs.Tcp as tcp
use Rattle.wire_base.specs.Plain.{Plain}
use Rattle.wire_base.specs.Segments.{Segment, segment_of}
use Rattle.receiver_model.specs.Offsets.{IsPlace}
use Rattle.receiver_model.specs.FamilyAgreement.{OctetAt, FinAt, HasSynBefore, TellOneStream}
use Rattle.receiver_model.specs.Monitors.{StayNearAcks}

-- ---- the packets, as in the tests of receivers

pub bc : List ℕ
bc =
    69 ∷ 0 ∷ 0 ∷ 42 ∷ 0 ∷ 1 ∷ 0 ∷ 0 ∷ 64 ∷ 6 ∷ 70 ∷ 146 ∷ 198 ∷ 51 ∷ 100 ∷ 7 ∷ 10 ∷ 0 ∷ 0 ∷ 1 ∷ 156 ∷ 64 ∷ 0 ∷ 80 ∷ 0 ∷ 0 ∷ 3 ∷ 233 ∷ 0 ∷ 0
    ∷ 19 ∷ 137 ∷ 80 ∷ 24 ∷ 32 ∷ 0 ∷ 69 ∷ 41 ∷ 0 ∷ 0 ∷ 98 ∷ 99 ∷ []

pub xy : List ℕ
xy =
    69 ∷ 0 ∷ 0 ∷ 42 ∷ 0 ∷ 1 ∷ 0 ∷ 0 ∷ 64 ∷ 6 ∷ 70 ∷ 146 ∷ 198 ∷ 51 ∷ 100 ∷ 7 ∷ 10 ∷ 0 ∷ 0 ∷ 1 ∷ 156 ∷ 64 ∷ 0 ∷ 80 ∷ 0 ∷ 0 ∷ 3 ∷ 233 ∷ 0 ∷ 0
    ∷ 19 ∷ 137 ∷ 80 ∷ 24 ∷ 32 ∷ 0 ∷ 79 ∷ 51 ∷ 0 ∷ 0 ∷ 88 ∷ 89 ∷ []

-- what they say: two octets with the sequence number 1001
abbrev pub said : (a b : ℕ) → Segment
said a b =
    record {
      source = 3325256711;
      destination = 167772161;
      source_port = 40000;
      destination_port = 80;
      sequence = 1001;
      acknowledgment = 5001;
      flags = 24;
      window = 8192;
      options = [];
      octets = a ∷ b ∷ [];
    }

pub bc_says : segment_of bc ≡ Some (said 98 99)
unfolding bc
bc_says = refl

pub xy_says : segment_of xy ≡ Some (said 88 89)
unfolding xy
xy_says = refl

bc_plain : Plain 30 bc
unfolding bc
bc_plain = record {
  header = record {
    whole_header = omega arith;
    version = refl;
    header_length = refl;
    total_length = refl;
    reserved = refl;
    more_fragments = refl;
    fragment_offset = refl;
    sum = refl;
  };
  passes = omega arith;
  message = record {
    protocol = inr (inl refl);
    icmp = λ e. absurd (omega (arith, e));
    tcp = λ _. record {
      whole_header = omega arith;
      data_offset = omega arith;
      inside = omega arith;
      sum = refl;
      flags = refl;
      reserved = refl;
      urgent = refl;
      pointer = refl;
      options = refl;
      kept = refl;
      bare = λ e. absurd (cc);
    };
    udp = λ e. absurd (omega (arith, e));
  };
}

xy_plain : Plain 30 xy
unfolding xy
xy_plain = record {
  header = record {
    whole_header = omega arith;
    version = refl;
    header_length = refl;
    total_length = refl;
    reserved = refl;
    more_fragments = refl;
    fragment_offset = refl;
    sum = refl;
  };
  passes = omega arith;
  message = record {
    protocol = inr (inl refl);
    icmp = λ e. absurd (omega (arith, e));
    tcp = λ _. record {
      whole_header = omega arith;
      data_offset = omega arith;
      inside = omega arith;
      sum = refl;
      flags = refl;
      reserved = refl;
      urgent = refl;
      pointer = refl;
      options = refl;
      kept = refl;
      bare = λ e. absurd (cc);
    };
    udp = λ e. absurd (omega (arith, e));
  };
}

-- ---- they describe one stream

abbrev pub frames : List (List ℕ)
frames = bc ∷ xy ∷ []

abbrev pub places : List ℤ
places = pos 0 ∷ pos (2 ^ 32) ∷ []

abbrev pub acks : List ℕ
acks = 0 ∷ 2 ^ 32 ∷ []

-- an octet is `b` or `c`, or 2^32 further on `X` or `Y`
abbrev Told : (number : ℕ) → ℤ → ℕ → Type 0
Told number offset x =
    ((number ≡ 0) × (i : ℕ) × (i < 2) × (offset ≡ pos i) × (slice_get (98 ∷ 99 ∷ []) i ≡ Some x))
    ⊎ ((number ≡ 1) × (i : ℕ) × (i < 2) × (offset ≡ pos (2 ^ 32 + i)) × (slice_get (88 ∷ 89 ∷ []) i ≡ Some x))

-- the fields of a frame at an index
module _ (number : ℕ) (frame : List ℕ) (place : ℤ) (s : Segment) (stands : slice_get frames number ≡ Some frame)
    (placed : slice_get places number ≡ Some place) (says : segment_of frame ≡ Some s) where
  pub first : number ≡ 0 → (place ≡ pos 0) × (s ≡ said 98 99)
  first e =
      let f : bc ≡ frame = let g = subst (λ n. slice_get frames n ≡ Some frame) e stands in cc (g) in
      let p : pos 0 ≡ place = let g = subst (λ n. slice_get places n ≡ Some place) e placed in cc (g) in
      let t : Some (said 98 99) ≡ Some s = sym bc_says ∙ ap segment_of f ∙ says in
      (sym p, let u : said 98 99 ≡ s = cc (t) in sym u)

  second : number ≡ 1 → (place ≡ pos (2 ^ 32)) × (s ≡ said 88 89)
  second e =
      let f : xy ≡ frame = let g = subst (λ n. slice_get frames n ≡ Some frame) e stands in cc (g) in
      let p : pos (2 ^ 32) ≡ place = let g = subst (λ n. slice_get places n ≡ Some place) e placed in cc (g) in
      let t : Some (said 88 89) ≡ Some s = sym xy_says ∙ ap segment_of f ∙ says in
      (sym p, let u : said 88 89 ≡ s = cc (t) in sym u)

-- there are two
two : (number : ℕ) (frame : List ℕ) → slice_get frames number ≡ Some frame → (number ≡ 0) ⊎ (number ≡ 1)
two zero frame e = inl refl
two (suc zero) frame e = inr refl
two (suc (suc n)) frame e = absurd (let none : None ≡ Some frame = e in cc)

told : (offset : ℤ) (x : ℕ) (c : OctetAt places frames offset x) → Told c.number offset x
told offset x c = by (two c.number c.frame c.stands)
  where
    by : (c.number ≡ 0) ⊎ (c.number ≡ 1) → Told c.number offset x
    by (inl e) =
        let f = first c.number c.frame c.place c.segment c.stands c.placed c.says e in
        let has : slice_get (98 ∷ 99 ∷ []) c.index ≡ Some x = subst (λ s. slice_get s.octets c.index ≡ Some x) f.1 c.has in
        let within : c.index < 2 = slice_get_within (98 ∷ 99 ∷ []) c.index x has in
        let there = c.there in
        let place = f.0 in
        inl (e, c.index, within, omega (arith, ints, there, place), has)
    by (inr e) =
        let f = second c.number c.frame c.place c.segment c.stands c.placed c.says e in
        let has : slice_get (88 ∷ 89 ∷ []) c.index ≡ Some x = subst (λ s. slice_get s.octets c.index ≡ Some x) f.1 c.has in
        let within : c.index < 2 = slice_get_within (88 ∷ 89 ∷ []) c.index x has in
        let there = c.there in
        let place = f.0 in
        inr (e, c.index, within, omega (arith, ints, there, place), has)

one_octet : (m n : ℕ) (offset : ℤ) (x y : ℕ) → Told m offset x → Told n offset y → x ≡ y
one_octet m n offset x y (inl c) (inl d) =
    let e = c.3 in
    let f = d.3 in
    let same : c.1 ≡ d.1 = omega (arith, ints, e, f) in
    let g = subst (λ i. slice_get (98 ∷ 99 ∷ []) i ≡ Some x) same c.4 in
    let h = d.4 in
    cc (g, h)
one_octet m n offset x y (inr c) (inr d) =
    let e = c.3 in
    let f = d.3 in
    let same : c.1 ≡ d.1 = omega (arith, ints, e, f) in
    let g = subst (λ i. slice_get (88 ∷ 89 ∷ []) i ≡ Some x) same c.4 in
    let h = d.4 in
    cc (g, h)
one_octet m n offset x y (inl c) (inr d) =
    let e = c.3 in
    let f = d.3 in
    let less = c.2 in
    absurd (omega (arith, ints, e, f, less))
one_octet m n offset x y (inr c) (inl d) =
    let e = c.3 in
    let f = d.3 in
    let less = d.2 in
    absurd (omega (arith, ints, e, f, less))

-- no frame has a FIN
no_fin : (offset : ℤ) → FinAt places frames offset → ⊥
no_fin offset c = by (two c.number c.frame c.stands)
  where
    by : (c.number ≡ 0) ⊎ (c.number ≡ 1) → ⊥
    by (inl e) =
        let f = first c.number c.frame c.place c.segment c.stands c.placed c.says e in
        let wrong : false ≡ true = subst (λ s. IsTrue (tcp.has_fin s.flags)) f.1 c.has in
        absurd (cc)
    by (inr e) =
        let f = second c.number c.frame c.place c.segment c.stands c.placed c.says e in
        let wrong : false ≡ true = subst (λ s. IsTrue (tcp.has_fin s.flags)) f.1 c.has in
        absurd (cc)

placed : (number : ℕ) (frame : List ℕ) (s : Segment) (place : ℤ) → slice_get frames number ≡ Some frame → segment_of frame ≡ Some s
    → slice_get places number ≡ Some place → IsPlace 1001 s.sequence place
placed number frame s place stands says at = by (two number frame stands)
  where
    by : (number ≡ 0) ⊎ (number ≡ 1) → IsPlace 1001 s.sequence place
    by (inl e) =
        let f = first number frame place s stands at says e in
        let sequence : s.sequence ≡ 1001 = ap (λ (t : Segment). t.sequence) f.1 in
        let there = f.0 in
        record { turns = pos 0; is = omega (arith, ints, there, sequence) }
    by (inr e) =
        let f = second number frame place s stands at says e in
        let sequence : s.sequence ≡ 1001 = ap (λ (t : Segment). t.sequence) f.1 in
        let there = f.0 in
        record { turns = pos 1; is = omega (arith, ints, there, sequence) }

pub tells : TellOneStream 30 1001 places frames
tells = record {
  plain = All-cons (Plain 30) bc (xy ∷ []) bc_plain (All-cons (Plain 30) xy [] xy_plain (All-nil (Plain 30)));
  syns =
      All-cons (HasSynBefore 1001) bc (xy ∷ []) (no_syn bc 98 99 bc_says)
      (All-cons (HasSynBefore 1001) xy [] (no_syn xy 88 89 xy_says) (All-nil (HasSynBefore 1001)));
  placed = record { one_each = refl; placed = placed };
  one_octet = λ offset x y c d. one_octet c.number d.number offset x y (told offset x c) (told offset y d);
  one_end = λ one other c d. absurd (no_fin one c);
  none_past = λ offset x end c d. absurd (no_fin end d);
}
  where
    no_syn : (p : List ℕ) (a b : ℕ) → segment_of p ≡ Some (said a b) → HasSynBefore 1001 p
    no_syn p a b e =
        subst (λ o. IfSome o (λ s. IsTrue (tcp.has_syn s.flags) → (s.sequence + 1) % 2 ^ 32 ≡ 1001 % 2 ^ 32)) (sym e) (λ wrong. absurd (cc))

ack_at : (n w : ℕ) → slice_get acks n ≡ Some w → ((n ≡ 0) × (w ≡ 0)) ⊎ ((n ≡ 1) × (w ≡ 2 ^ 32))
ack_at zero w e = let f : 0 ≡ w = cc in inl (refl, sym f)
ack_at (suc zero) w e = let f : 2 ^ 32 ≡ w = cc in inr (refl, sym f)
ack_at (suc (suc n)) w e = absurd (let none : None ≡ Some w = e in cc)

pub stays : StayNearAcks acks places frames
stays = record { one_each = refl; go_on = go_on; octets = octets; fins = λ offset ack c at. absurd (no_fin offset c) }
  where
    go_on : (number later one other : ℕ) → number ≤ later → slice_get acks number ≡ Some one → slice_get acks later ≡ Some other → one ≤ other
    go_on number later one other less a b = by (ack_at number one a) (ack_at later other b)
      where
        by : ((number ≡ 0) × (one ≡ 0)) ⊎ ((number ≡ 1) × (one ≡ 2 ^ 32)) → ((later ≡ 0) × (other ≡ 0)) ⊎ ((later ≡ 1) × (other ≡ 2 ^ 32))
            → one ≤ other
        by (inl p) q = let e = p.1 in omega (arith, e)
        by (inr p) (inl q) = let e = p.0 in let f = q.0 in absurd (omega (arith, e, f, less))
        by (inr p) (inr q) = let e = p.1 in let f = q.1 in omega (arith, e, f)

    octets : (offset : ℤ) (octet ack : ℕ) (c : OctetAt places frames offset octet) → slice_get acks c.number ≡ Some ack
        → (pos ack ≤ℤ offset) × (offset ≤ℤ pos (ack + 2 ^ 30))
    octets offset x ack c at = by (told offset x c) (ack_at c.number ack at)
      where
        by : Told c.number offset x → ((c.number ≡ 0) × (ack ≡ 0)) ⊎ ((c.number ≡ 1) × (ack ≡ 2 ^ 32))
            → (pos ack ≤ℤ offset) × (offset ≤ℤ pos (ack + 2 ^ 30))
        by (inl t) (inl w) = let less = t.2 in let e = t.3 in let f = w.1 in (omega (arith, ints, less, e, f), omega (arith, ints, less, e, f))
        by (inr t) (inr w) = let less = t.2 in let e = t.3 in let f = w.1 in (omega (arith, ints, less, e, f), omega (arith, ints, less, e, f))
        by (inl t) (inr w) = let e = t.0 in let f = w.0 in absurd (omega (arith, e, f))
        by (inr t) (inl w) = let e = t.0 in let f = w.0 in absurd (omega (arith, e, f))

-- Two eras are read as one stream if the second goes on past the first.
use Rattle.std.proofs.Common.{◌≡◌, false, true, Bool, ◌⊎◌, ⊎_elim, inl, inr, ℕ, zero, suc, ◌+◌, ◌%◌, ◌^◌, ◌<◌, ◌≤◌, List, [], ◌∷◌, ◌++◌, length, map, Some, None, Option, refl, ap, sym, ◌∙◌, subst, arith, length-append, ℤ, pos, negsuc, ◌+ℤ◌, ◌-ℤ◌, ◌≤ℤ◌, ◌<ℤ◌, IsTrue, IfSome, slice_get, All}
use Rattle.std.proofs.lemmas.List.{length-map}
use Rattle.std.proofs.lemmas.List.Elements.{All-nil, All-cons, All-head, All-tail, All-append}
use Rattle.std.proofs.lemmas.Int.{ints}
use Rattle.std.specs.Option.{option_or}
use Rattle.wire_base.specs.Plain.{Plain}
use Rattle.wire_base.specs.Segments.{Segment, Written, segment_of}
use Rattle.wire_base.specs.Tcp as tcp
use Rattle.era_state.specs.Offsets.{OffsetsAreRead}
use Rattle.era_state.specs.Quantities.{acked, base_of, edge, end_of, first, top}
use Rattle.era_state.specs.EmissionLaws.{EmittedOctetsArePlaces}
use Rattle.era_state.proofs.Frames.{EndLies}
use Rattle.era_state.proofs.EmittedSegments.{bounded}
use Rattle.receiver_model.specs.Offsets.{IsPlace}
use Rattle.receiver_model.specs.FamilyAgreement.{ArePlaces, FinAt, HasSynBefore, MembersAgree, OctetAt, TellOneStream}
use Rattle.receiver_model.specs.Monitors.{MonitorsMissNothing}
use Rattle.receiver_model.specs.StreamParts.{AreOfStream, MembersReadParts, ReadsPart}
use Rattle.era_agreement.specs.SentPackets.{Sent, inward_packets, inward_places, written_in}
use Rattle.era_agreement.specs.Agreement.{read_to}
use Rattle.era_agreement.specs.AgreementLaws.{EmittedIsOfOneStream, EmittedTellsOneStream, IsEmittedEra}
use Rattle.era_agreement.specs.TwoEras.{EmittedErasAreReadAsOne, EmittedIsNotReadAgain, EmittedIsReadToAcked, GoesOn, GoesOnPast, HasNoSyn, end_of_both, octet_of_both, packets_of_both, places_of_both, shifted}

-- Elements of joined lists.

-- an index into two lists that are joined each with another of its length
both :
    {A B : Type 0} (xs more : List A) (us rest : List B) → length xs ≡ length us → (k : ℕ) (x : A) (u : B) →
    slice_get (xs ++ more) k ≡ Some x → slice_get (us ++ rest) k ≡ Some u →
    ((slice_get xs k ≡ Some x) × (slice_get us k ≡ Some u)) ⊎ ((j : ℕ) × (slice_get more j ≡ Some x) × (slice_get rest j ≡ Some u))
both [] more [] rest long k x u e f = inr (k, e, f)
both [] more (v ∷ us) rest long k x u e f = absurd (omega (arith, long))
both (y ∷ xs) more [] rest long k x u e f = absurd (omega (arith, long))
both (y ∷ xs) more (v ∷ us) rest long zero x u e f = inl (e, f)
both (y ∷ xs) more (v ∷ us) rest long (suc k) x u e f = both xs more us rest (omega (arith, long)) k x u e f

mapped : (d : ℕ) (zs : List ℤ) (k : ℕ) (z : ℤ) → slice_get (map (shifted d) zs) k ≡ Some z → (y : ℤ) × (slice_get zs k ≡ Some y) × (z ≡ shifted d y)
mapped d [] k z e = absurd (cc)
mapped d (y ∷ zs) zero z e = (y, refl, cc e)
mapped d (y ∷ zs) (suc k) z e = mapped d zs k z e

moved : (o z y : ℤ) (d i : ℕ) → o ≡ (z +ℤ pos i) → z ≡ (y +ℤ pos d) → (o -ℤ pos d) ≡ (y +ℤ pos i)
moved o z y d i e f = omega (arith, ints, e, f)

-- an octet of one of the lists of packets is that of the first, or of the second
octet_split :
    (d : ℕ) (zs ys : List ℤ) (ps qs : List (List ℕ)) → length zs ≡ length ps → (o : ℤ) (x : ℕ) → OctetAt (zs ++ map (shifted d) ys) (ps ++ qs) o x →
    OctetAt zs ps o x ⊎ OctetAt ys qs (o -ℤ pos d) x
octet_split d zs ys ps qs long o x c =
    ⊎_elim
    (λ h. inl (record { number = c.number; frame = c.frame; place = c.place; segment = c.segment; index = c.index; stands = h.1; placed = h.0; says = c.says; has = c.has; there = c.there }))
    (λ h. let m = mapped d ys h.0 c.place h.1 in
    inr (record {
      number = h.0;
      frame = c.frame;
      place = m.0;
      segment = c.segment;
      index = c.index;
      stands = h.2;
      placed = m.1;
      says = c.says;
      has = c.has;
      there = moved o c.place m.0 d c.index c.there m.2;
    }))
    (both zs (map (shifted d) ys) ps qs long c.number c.place c.frame c.placed c.stands)

fin_split :
    (d : ℕ) (zs ys : List ℤ) (ps qs : List (List ℕ)) → length zs ≡ length ps → (o : ℤ) → FinAt (zs ++ map (shifted d) ys) (ps ++ qs) o →
    FinAt zs ps o ⊎ FinAt ys qs (o -ℤ pos d)
fin_split d zs ys ps qs long o c =
    ⊎_elim
    (λ h. inl (record { number = c.number; frame = c.frame; place = c.place; segment = c.segment; stands = h.1; placed = h.0; says = c.says; has = c.has; there = c.there }))
    (λ h. let m = mapped d ys h.0 c.place h.1 in
    inr (record {
      number = h.0;
      frame = c.frame;
      place = m.0;
      segment = c.segment;
      stands = h.2;
      placed = m.1;
      says = c.says;
      has = c.has;
      there = moved o c.place m.0 d (length c.segment.octets) c.there m.2;
    }))
    (both zs (map (shifted d) ys) ps qs long c.number c.place c.frame c.placed c.stands)

-- Two streams on one line.

-- Each stream is that of its packets. The octets of the first are before the shift, and those of
-- the second and its end not below 0. The first has no FIN, and the second no SYN.
record Two (hops base next d : ℕ) (zs ys : List ℤ) (ps qs : List (List ℕ)) (one two : ℤ → Option ℕ) (end : Option ℤ) : Type 0 where
  tell : TellOneStream hops base zs ps
  octets : (o : ℤ) (x : ℕ) → OctetAt zs ps o x → one o ≡ Some x
  no_fin : (o : ℤ) → FinAt zs ps o → ⊥
  below : (o : ℤ) (x : ℕ) → one o ≡ Some x → o <ℤ pos d
  tell_later : TellOneStream hops next ys qs
  of_later : AreOfStream two end ys qs
  from : (o : ℤ) (x : ℕ) → two o ≡ Some x → pos 0 ≤ℤ o
  end_from : (o : ℤ) → end ≡ Some o → pos 0 ≤ℤ o
  bases : IsPlace base next (pos d)
  no_syn : All HasNoSyn qs

place_joined : (base next d number : ℕ) (y : ℤ) → IsPlace base next (pos d) → IsPlace next number y → IsPlace base number (y +ℤ pos d)
place_joined base next d number y shift p =
    let s = shift.is in
    let is = p.is in
    record { turns = shift.turns +ℤ p.turns; is = omega (arith, ints, s, is) }

syn_of : (base : ℕ) (o : Option Segment) → ((s : Segment) → o ≡ Some s → tcp.has_syn s.flags ≡ false) → IfSome o (λ s. IsTrue (tcp.has_syn s.flags) → (s.sequence + 1) % 2 ^ 32 ≡ base % 2 ^ 32)
syn_of base None h = tt
syn_of base (Some s) h = λ has. let bare = h s refl in absurd (cc (has, bare))

syns_of : (base : ℕ) (qs : List (List ℕ)) → All HasNoSyn qs → All (λ p. HasSynBefore base p) qs
syns_of base [] h = All-nil (λ p. HasSynBefore base p)
syns_of base (q ∷ qs) h = All-cons (λ p. HasSynBefore base p) q qs (syn_of base (segment_of q) (All-head HasNoSyn q qs h)) (syns_of base qs (All-tail HasNoSyn q qs h))

joined_octet :
    (hops base next d : ℕ) (zs ys : List ℤ) (ps qs : List (List ℕ)) (one two : ℤ → Option ℕ) (end : Option ℤ) → Two hops base next d zs ys ps qs one two end →
    (o : ℤ) (x : ℕ) → OctetAt (zs ++ map (shifted d) ys) (ps ++ qs) o x → octet_of_both d one two o ≡ Some x
joined_octet hops base next d zs ys ps qs one two end t o x c =
    ⊎_elim (λ a. ap (λ n. option_or n (two (o -ℤ pos d))) (t.octets o x a)) (λ b. by (t.of_later.octets (o -ℤ pos d) x b) (one o) refl)
    (octet_split d zs ys ps qs t.tell.placed.one_each o x c)
  where
    by : two (o -ℤ pos d) ≡ Some x → (n : Option ℕ) → one o ≡ n → option_or n (two (o -ℤ pos d)) ≡ Some x
    by later None is = later
    by later (Some y) is = let low = t.below o y is in let high = t.from (o -ℤ pos d) x later in absurd (omega (arith, ints, low, high))

joined_fin :
    (hops base next d : ℕ) (zs ys : List ℤ) (ps qs : List (List ℕ)) (one two : ℤ → Option ℕ) (end : Option ℤ) → Two hops base next d zs ys ps qs one two end →
    (o : ℤ) → FinAt (zs ++ map (shifted d) ys) (ps ++ qs) o → end_of_both d end ≡ Some o
joined_fin hops base next d zs ys ps qs one two end t o c =
    ⊎_elim (λ a. absurd (t.no_fin o a)) (λ b. let back : ((o -ℤ pos d) +ℤ pos d) ≡ o = omega (arith, ints) in ap (end_of_both d) (t.of_later.fins (o -ℤ pos d) b) ∙ ap Some back)
    (fin_split d zs ys ps qs t.tell.placed.one_each o c)

joined_past :
    (hops base next d : ℕ) (zs ys : List ℤ) (ps qs : List (List ℕ)) (one two : ℤ → Option ℕ) (end : Option ℤ) → Two hops base next d zs ys ps qs one two end →
    (o : ℤ) (x : ℕ) (last : ℤ) → octet_of_both d one two o ≡ Some x → end_of_both d end ≡ Some last → o <ℤ last
joined_past hops base next d zs ys ps qs one two end t o x last has ends = by (one o) refl end refl has ends
  where
    by : (n : Option ℕ) → one o ≡ n → (m : Option ℤ) → end ≡ m → option_or n (two (o -ℤ pos d)) ≡ Some x → end_of_both d m ≡ Some last → o <ℤ last
    by n is None none has ends = absurd (cc (ends))
    by (Some y) is (Some e) some has ends =
        let low = t.below o y is in
        let high = t.end_from e some in
        let same : (e +ℤ pos d) ≡ last = cc (ends) in
        omega (arith, ints, low, high, same)
    by None is (Some e) some has ends =
        let under = t.of_later.none_past (o -ℤ pos d) x e has some in
        let same : (e +ℤ pos d) ≡ last = cc (ends) in
        omega (arith, ints, under, same)

joined_stream :
    (hops base next d : ℕ) (zs ys : List ℤ) (ps qs : List (List ℕ)) (one two : ℤ → Option ℕ) (end : Option ℤ) → Two hops base next d zs ys ps qs one two end →
    AreOfStream (octet_of_both d one two) (end_of_both d end) (zs ++ map (shifted d) ys) (ps ++ qs)
joined_stream hops base next d zs ys ps qs one two end t = record {
  octets = joined_octet hops base next d zs ys ps qs one two end t;
  fins = joined_fin hops base next d zs ys ps qs one two end t;
  none_past = joined_past hops base next d zs ys ps qs one two end t;
}

joined_places :
    (hops base next d : ℕ) (zs ys : List ℤ) (ps qs : List (List ℕ)) (one two : ℤ → Option ℕ) (end : Option ℤ) → Two hops base next d zs ys ps qs one two end →
    ArePlaces base (zs ++ map (shifted d) ys) (ps ++ qs)
joined_places hops base next d zs ys ps qs one two end t = record {
  one_each =
      let a = t.tell.placed.one_each in
      let b = t.tell_later.placed.one_each in
      let m = length-map ys (shifted d) in
      omega (arith, a, b, m, length-append zs (map (shifted d) ys), length-append ps qs);
  placed = λ number frame s place stands says placed.
      ⊎_elim (λ h. t.tell.placed.placed number frame s place h.1 says h.0)
      (λ h. let m = mapped d ys h.0 place h.1 in
      subst (IsPlace base s.sequence) (sym m.2) (place_joined base next d s.sequence m.0 t.bases (t.tell_later.placed.placed h.0 frame s m.0 h.2 says m.1)))
      (both zs (map (shifted d) ys) ps qs t.tell.placed.one_each number place frame placed stands);
}

joined_tell :
    (hops base next d : ℕ) (zs ys : List ℤ) (ps qs : List (List ℕ)) (one two : ℤ → Option ℕ) (end : Option ℤ) → Two hops base next d zs ys ps qs one two end →
    TellOneStream hops base (zs ++ map (shifted d) ys) (ps ++ qs)
joined_tell hops base next d zs ys ps qs one two end t =
    let octet = joined_octet hops base next d zs ys ps qs one two end t in
    let fin = joined_fin hops base next d zs ys ps qs one two end t in
    record {
      plain = All-append (λ p. Plain hops p) ps qs t.tell.plain t.tell_later.plain;
      syns = All-append (λ p. HasSynBefore base p) ps qs t.tell.syns (syns_of base qs t.no_syn);
      placed = joined_places hops base next d zs ys ps qs one two end t;
      one_octet = λ o x y a b. let e = octet o x a in let f = octet o y b in cc (e, f);
      one_end = λ p q a b. let e = fin p a in let f = fin q b in cc (e, f);
      none_past = λ o x p a b. joined_past hops base next d zs ys ps qs one two end t o x p (octet o x a) (fin p b);
    }

-- Two eras.

-- the laws of eras that are used
pub record EraLaws : Type 0 where
  pub tells : EmittedTellsOneStream
  pub of : EmittedIsOfOneStream
  pub places : EmittedOctetsArePlaces
  pub read : OffsetsAreRead

-- an offset with an octet is before Top, and not below 0
place_of : EraLaws → (hops era base : ℕ) (sent : List Sent) → IsEmittedEra hops era sent → base_of (written_in era sent) ≡ Some base
    → (o : ℤ) (x : ℕ) → first base (written_in era sent) o ≡ Some x → (pos 0 ≤ℤ o) × (o <ℤ pos (top base (written_in era sent)))
place_of l hops era base sent h based o x has =
    let at = (l.places base (written_in era sent) based h.emitted).below_top o x has in
    let is = at.1 in
    let low = at.2 in
    (omega (arith, ints, is), omega (arith, ints, is, low))

-- the end is not below 0
end_place : (end : Option ℤ) (most far : ℕ) → EndLies end most far → (o : ℤ) → end ≡ Some o → pos 0 ≤ℤ o
end_place None most far lies o e = absurd (cc (e))
end_place (Some (pos n)) most far lies o e = let same : pos n ≡ o = cc e in omega (arith, ints, same)
end_place (Some (negsuc n)) most far lies o e = absurd lies

-- all that was written inwards in the first is before the base of the second
before_shift : (era later base next shift : ℕ) (sent : List Sent) → GoesOnPast era later base next shift sent → top base (written_in era sent) ≤ shift
before_shift era later base next shift sent past = let most = past.acknowledged.octets in let up = past.past in omega (arith, most, up)

pub not_read_again : EraLaws → MembersReadParts → EmittedIsNotReadAgain
not_read_again l members hops era later base next shift sent h g past member start schedule stream ended near delivers = record {
  octets = λ index read has offset octet c.
      let low = (place_of l hops era base sent h past.based (pos (start + index)) read (part.octets index read has)).1 in
      let high = from offset octet c in
      omega (arith, ints, low, high, most);
  end = λ is offset octet c.
      let low = past.acknowledged.fin (pos (start + length stream)) (part.ends is) in
      let high = from offset octet c in
      let up = past.past in
      omega (arith, ints, low, high, up);
}
  where
    ws : List Written
    ws = written_in era sent

    part : ReadsPart (first base ws) (end_of base ws) start stream ended
    part = members hops base (inward_places era base sent) (inward_packets era sent) (first base ws) (end_of base ws)
        (l.tells hops era base sent h past.based).stream (l.of hops era base sent h past.based) member start schedule stream ended near delivers

    most : top base ws ≤ shift
    most = before_shift era later base next shift sent past

    from : (offset : ℤ) (octet : ℕ) → OctetAt (inward_places later next sent) (inward_packets later sent) offset octet → pos 0 ≤ℤ offset
    from offset octet c = (place_of l hops later next sent g past.based_later offset octet ((l.of hops later next sent g past.based_later).octets offset octet c)).0

two_eras : EraLaws → (hops era later base next shift : ℕ) (sent : List Sent) → IsEmittedEra hops era sent → IsEmittedEra hops later sent
    → GoesOn era later base next shift sent
    → Two hops base next shift (inward_places era base sent) (inward_places later next sent) (inward_packets era sent) (inward_packets later sent)
    (first base (written_in era sent)) (first next (written_in later sent)) (end_of next (written_in later sent))
two_eras l hops era later base next shift sent h g goes =
    let one = l.tells hops era base sent h goes.past.based in
    let most = before_shift era later base next shift sent goes.past in
    let ws = written_in era sent in
    let is = (l.read base (acked base ws) next (pos shift)).1 goes.past.shift_is in
    record {
      tell = one.stream;
      octets = one.octets;
      no_fin = λ o c. let e = one.fins o c in let none = goes.no_fin in cc (e, none);
      below = λ o x has. let low = (place_of l hops era base sent h goes.past.based o x has).1 in omega (arith, ints, low, most);
      tell_later = (l.tells hops later next sent g goes.past.based_later).stream;
      of_later = l.of hops later next sent g goes.past.based_later;
      from = λ o x has. (place_of l hops later next sent g goes.past.based_later o x has).0;
      end_from = λ o e.
          let ws = written_in later sent in
          end_place (end_of next ws) (top next ws) (edge next ws) (bounded next ws (λ number f. let is = goes.past.based_later in cc (is, f)) g.emitted).end_lies o e;
      bases = record { turns = is.turns; is = is.place };
      no_syn = goes.no_syn;
    }

pub eras_are_read_as_one : EraLaws → MembersAgree → MembersReadParts → MonitorsMissNothing → EmittedErasAreReadAsOne
eras_are_read_as_one l agree members monitors hops era later base next shift sent h g goes = record {
  agree = agree hops base zs ps stream;
  reads = members hops base zs ps (octet_of_both shift one two) (end_of_both shift end) stream
      (joined_stream hops base next shift (inward_places era base sent) (inward_places later next sent) (inward_packets era sent) (inward_packets later sent) one two end t);
  monitor = monitors.in_time hops base zs ps stream;
}
  where
    zs : List ℤ
    zs = places_of_both era later base next shift sent

    ps : List (List ℕ)
    ps = packets_of_both era later sent

    one : ℤ → Option ℕ
    one = first base (written_in era sent)

    two : ℤ → Option ℕ
    two = first next (written_in later sent)

    end : Option ℤ
    end = end_of next (written_in later sent)

    t : Two hops base next shift (inward_places era base sent) (inward_places later next sent) (inward_packets era sent) (inward_packets later sent) one two end
    t = two_eras l hops era later base next shift sent h g goes

    stream : TellOneStream hops base zs ps
    stream = joined_tell hops base next shift (inward_places era base sent) (inward_places later next sent) (inward_packets era sent) (inward_packets later sent) one two end t

-- What was read, if all is acknowledged.

last_of : (y : ℕ) (xs : List ℕ) → (x : ℕ) × (slice_get (y ∷ xs) (length xs) ≡ Some x)
last_of y [] = (y, refl)
last_of y (z ∷ xs) = last_of z xs

-- the offset after the octets that were read is at most this one, if each of them is before it
reach : (start most : ℕ) (stream : List ℕ) → start ≤ most → ((index octet : ℕ) → slice_get stream index ≡ Some octet → start + index < most) → start + length stream ≤ most
reach start most [] low each = omega (arith, low)
reach start most (y ∷ xs) low each = let last = last_of y xs in let under = each (length xs) last.0 last.1 in omega (arith, under)

pub read_to_acked : EraLaws → MembersReadParts → EmittedIsReadToAcked
read_to_acked l members hops era base sent member start schedule stream ended h based all near delivers low far = by ended part far
  where
    ws : List Written
    ws = written_in era sent

    a : ℕ
    a = acked base ws

    part : ReadsPart (first base ws) (end_of base ws) start stream ended
    part = members hops base (inward_places era base sent) (inward_packets era sent) (first base ws) (end_of base ws)
        (l.tells hops era base sent h based).stream (l.of hops era base sent h based) member start schedule stream ended near delivers

    each : (index octet : ℕ) → slice_get stream index ≡ Some octet → start + index < a
    each index octet has =
        let at = (place_of l hops era base sent h based (pos (start + index)) octet (part.octets index octet has)).1 in
        let most = all.octets in
        omega (arith, ints, at, most)

    by : (b : Bool) → ReadsPart (first base ws) (end_of base ws) start stream b → a ≤ read_to start stream b → read_to start stream b ≡ a
    by false p far = let most = reach start a stream low each in omega (arith, most, far)
    by true p far = let under = all.fin (pos (start + length stream)) (p.ends refl) in omega (arith, ints, under, far)

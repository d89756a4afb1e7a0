-- What receivers make of these two packets; without one of the premises a monitor misses octets.
use Rattle.std.proofs.Common.{◌≡◌, ◌⊎◌, ℕ, zero, suc, ◌+◌, ◌<◌, ◌≤◌, List, [], ◌∷◌, length, Some, None, Option, true, false, refl, sym, ap, ◌∙◌, subst, inl, inr, arith, append-nil, ℤ, pos, negsuc, ◌≤ℤ◌, slice_get, Contains}
use Rattle.std.proofs.lemmas.Int.{ints}
use Rattle.std.proofs.lemmas.Option.{slice_get_within}
use Rattle.std.proofs.lemmas.List.Elements.{All-nil}
use Rattle.wire_base.specs.Segments.{Segment, segment_of}
use Rattle.receiver_model.specs.declared.member.Member.{Member}
use Rattle.receiver_model.specs.Offsets.{Names, Carries, Ends}
use Rattle.receiver_model.specs.Delivery.{Receiver, Reads, Extends, Step, InTime, Delivers, DeliversInTime, beginning}
use Rattle.receiver_model.specs.Monitors.{Keeps, HasDeliveredAll, TakesAndDelivers, TakesInOrder, MonitorsInOrder, Covers, CoversEach}
use Rattle.rule_tests.specs.working.MonitorPremises.{TakesBy, EachPremiseIsNeeded}
use Rattle.rule_tests.proofs.TwoPackets.{bc, xy, said, bc_says, xy_says, frames, places, acks, first, tells, stays}

-- two octets that wait at the offsets 0 and 1
abbrev two_wait : (a b : ℕ) → ℤ → Option ℕ
two_wait a b (pos zero) = Some a
two_wait a b (pos (suc zero)) = Some b
two_wait a b (pos (suc (suc n))) = None
two_wait a b (negsuc n) = None

-- they were given, or not
abbrev holding : (a b : ℕ) (stream : List ℕ) → Receiver
holding a b stream = record { stream = stream; waiting = two_wait a b; fin = None; ended = false }

-- the octets of such a segment, near an offset of at most 2
carried : (next a b : ℕ) (offset : ℤ) (x : ℕ) → next ≤ 2 → Carries 1001 next (Some (said a b)) offset x
    → (i : ℕ) × (i < 2) × (offset ≡ pos i) × (slice_get (a ∷ b ∷ []) i ≡ Some x)
carried next a b offset x low c =
    let less : c.0 < 2 = slice_get_within (a ∷ b ∷ []) c.0 x c.1 in
    let is = c.2.place.is in
    let behind = c.2.near.behind in
    let ahead = c.2.near.ahead in
    (c.0, less, omega (arith, ints, is, behind, ahead, less, low), c.1)

no_end : (next a b : ℕ) (offset : ℤ) → Ends 1001 next (Some (said a b)) offset → ⊥
no_end next a b offset c = let wrong : false ≡ true = c.0 in absurd (cc)

named : (i : ℕ) → i < 2 → Names 1001 0 (1001 + i) (pos i)
named i less = record {
  place = record { turns = pos 0; is = omega (arith, ints, less) };
  near = record { behind = omega (arith, ints, less); ahead = omega (arith, ints, less) };
}

-- a receiver with nothing takes both, and gives them or not
both_taken : (a b : ℕ) (stream : List ℕ) → Extends (two_wait a b) 0 [] stream → Step 1001 0 (Some (said a b)) beginning (holding a b stream)
both_taken a b stream more = record { octets = octets; fin = inl refl; stream = more; ended = inl refl }
  where
    octets : (offset : ℤ)
        → (two_wait a b offset ≡ None) ⊎ ((octet : ℕ) × Carries 1001 0 (Some (said a b)) offset octet × (two_wait a b offset ≡ Some octet))
    octets (pos zero) = inr (a, (0, refl, named 0 (omega arith)), refl)
    octets (pos (suc zero)) = inr (b, (1, refl, named 1 (omega arith)), refl)
    octets (pos (suc (suc n))) = inl refl
    octets (negsuc n) = inl refl

both_kept : (a b : ℕ) (offset : ℤ) (x : ℕ) → Carries 1001 0 (Some (said a b)) offset x → two_wait a b offset ≡ Some x
both_kept a b offset x c = by d.0 d.3 d.2
  where
    d : (i : ℕ) × (i < 2) × (offset ≡ pos i) × (slice_get (a ∷ b ∷ []) i ≡ Some x)
    d = carried 0 a b offset x (omega arith) c

    by : (i : ℕ) → slice_get (a ∷ b ∷ []) i ≡ Some x → offset ≡ pos i → two_wait a b offset ≡ Some x
    by zero e there = ap (two_wait a b) there ∙ e
    by (suc zero) e there = ap (two_wait a b) there ∙ e
    by (suc (suc n)) e there = absurd (let none : None ≡ Some x = e in cc)

given : (a b : ℕ) → Extends (two_wait a b) 0 [] (a ∷ b ∷ [])
given a b = record { more = a ∷ b ∷ []; joined = refl; waited = (refl, (refl, tt)) }

not_given : (waiting : ℤ → Option ℕ) (start : ℕ) (stream : List ℕ) → Extends waiting start stream stream
not_given waiting start stream = record { more = []; joined = sym (append-nil stream); waited = tt }

-- a receiver stays as it is
same : (base start : ℕ) (s : Option Segment) (r : Receiver) → Step base start s r r
same base start s r = record { octets = λ offset. inl refl; fin = inl refl; stream = not_given r.waiting start r.stream; ended = inl refl }

-- one whose next offset is 2 loses nothing in this way
passed : (frame : List ℕ) (a b start : ℕ) (r : Receiver) → segment_of frame ≡ Some (said a b) → start + length r.stream ≡ 2 → HasDeliveredAll start r
    → TakesAndDelivers 0 1001 start frame r r
passed frame a b start r says next gives =
    record {
      segment = Some (said a b);
      step = same 1001 start (Some (said a b)) r;
      keeps = record { reads = λ _. sym says; octets = octets; fin = fin };
      gives = gives;
    }
  where
    octets : (offset : ℤ) (octet : ℕ) → Carries 1001 (start + length r.stream) (Some (said a b)) offset octet
        → pos (start + length r.stream) ≤ℤ offset → r.waiting offset ≡ None → r.waiting offset ≡ Some octet
    octets offset octet c from none =
        let d = carried (start + length r.stream) a b offset octet (omega (arith, next)) c in
        let less = d.1 in
        let there = d.2 in
        absurd (omega (arith, ints, less, there, from, next))

    fin : (offset : ℤ) → Ends 1001 (start + length r.stream) (Some (said a b)) offset → r.fin ≡ None → r.fin ≡ Some offset
    fin offset c none = absurd (no_end (start + length r.stream) a b offset c)

nothing_waits : (start : ℕ) → HasDeliveredAll start beginning
nothing_waits start = record { octets = refl; end = λ e. absurd (cc) }

whole : TakesAndDelivers 0 1001 0 bc beginning (holding 98 99 (98 ∷ 99 ∷ []))
whole = record {
  segment = Some (said 98 99);
  step = both_taken 98 99 (98 ∷ 99 ∷ []) (given 98 99);
  keeps = record {
    reads = λ _. sym bc_says;
    octets = λ offset x c from none. both_kept 98 99 offset x c;
    fin = λ offset c none. absurd (no_end 0 98 99 offset c);
  };
  gives = record { octets = refl; end = λ e. absurd (cc) };
}

-- ---- what the other has

abbrev near_host : Member
near_host = record { distance = 0 }

abbrev delivers_bc : Delivers 0 1001 0 frames (0 ∷ []) (98 ∷ 99 ∷ []) false
delivers_bc = record {
  last = holding 98 99 (98 ∷ 99 ∷ []);
  run = (
    holding 98 99 (98 ∷ 99 ∷ []),
    record {
      frame = bc;
      stands = refl;
      segment = Some (said 98 99);
      reads = inr (λ _. sym bc_says);
      step = both_taken 98 99 (98 ∷ 99 ∷ []) (given 98 99);
    },
    refl,
  );
  stream_is = refl;
  ended_is = refl;
}

reads_bc : DeliversInTime places 0 1001 0 frames (0 ∷ []) (98 ∷ 99 ∷ []) false
reads_bc = record { delivery = delivers_bc; timely = (timely, tt) }
  where
    timely : (frame : List ℕ) (s : Segment) (place : ℤ) → slice_get frames 0 ≡ Some frame → segment_of frame ≡ Some s
        → slice_get places 0 ≡ Some place → InTime 0 place s
    timely frame s place stands says at =
        let f = first 0 frame place s stands at says refl in
        subst (λ (r : ℤ × Segment). InTime 0 r.0 r.1) (λ i. (sym f.0 i, sym f.1 i)) (record {
          octets = λ i within. let less : i < 2 = within in record { behind = omega (arith, ints, less); ahead = omega (arith, ints, less) };
          fin = λ has. let wrong : false ≡ true = has in absurd (cc);
        })

reads_xy : Delivers 0 1001 0 frames (1 ∷ []) (88 ∷ 89 ∷ []) false
reads_xy = record {
  last = holding 88 89 (88 ∷ 89 ∷ []);
  run = (
    holding 88 89 (88 ∷ 89 ∷ []),
    record {
      frame = xy;
      stands = refl;
      segment = Some (said 88 89);
      reads = inr (λ _. sym xy_says);
      step = both_taken 88 89 (88 ∷ 89 ∷ []) (given 88 89);
    },
    refl,
  );
  stream_is = refl;
  ended_is = refl;
}

-- a monitor that has read nothing does not cover it
missed : CoversEach 30 1001 places frames 0 [] false → ⊥
missed each =
    let c : Covers [] false (98 ∷ 99 ∷ []) false = each near_host (0 ∷ []) (98 ∷ 99 ∷ []) false (omega arith) reads_bc in
    let e : 98 ∷ 99 ∷ c.prefix.0 ≡ [] = c.prefix.1 in
    absurd (cc)

heads : (x y : ℕ) (xs ys : List ℕ) → x ∷ xs ≡ y ∷ ys → x ≡ y
heads x y xs ys e = cc

other_octets : Covers (98 ∷ 99 ∷ []) false (88 ∷ 89 ∷ []) false → ⊥
other_octets c =
    let e : 88 ∷ 89 ∷ c.prefix.0 ≡ 98 ∷ 99 ∷ [] = c.prefix.1 in
    let f = heads 88 98 (89 ∷ c.prefix.0) (99 ∷ []) e in
    absurd (omega (arith, f))

-- ---- monitors to which one premise does not apply

-- both packets are taken by the first, and lost
lost : TakesBy (λ frame segment before after. Reads 0 frame segment × HasDeliveredAll 0 after) 1001 0 frames beginning beginning
lost = (
  beginning,
  Some (said 98 99),
  same 1001 0 (Some (said 98 99)) beginning,
  (λ _. sym bc_says, nothing_waits 0),
  (beginning, Some (said 88 89), same 1001 0 (Some (said 88 89)) beginning, (λ _. sym xy_says, nothing_waits 0), refl),
)

-- octets wait in the second, which gives none
withheld : TakesBy (λ frame segment before after. Keeps 0 1001 0 frame segment before after) 1001 0 frames beginning (holding 98 99 [])
withheld = (
  holding 98 99 [],
  Some (said 98 99),
  both_taken 98 99 [] (not_given (two_wait 98 99) 0 []),
  keeps_bc,
  (holding 98 99 [], Some (said 88 89), same 1001 0 (Some (said 88 89)) (holding 98 99 []), keeps_xy, refl),
)
  where
    keeps_bc : Keeps 0 1001 0 bc (Some (said 98 99)) beginning (holding 98 99 [])
    keeps_bc = record {
      reads = λ _. sym bc_says;
      octets = λ offset x c from none. both_kept 98 99 offset x c;
      fin = λ offset c none. absurd (no_end 0 98 99 offset c);
    }

    -- an octet waits at each of its offsets
    keeps_xy : Keeps 0 1001 0 xy (Some (said 88 89)) (holding 98 99 []) (holding 98 99 [])
    keeps_xy = record { reads = λ _. sym xy_says; octets = octets; fin = λ offset c none. absurd (no_end 0 88 89 offset c) }
      where
        octets : (offset : ℤ) (x : ℕ) → Carries 1001 0 (Some (said 88 89)) offset x → pos 0 ≤ℤ offset → two_wait 98 99 offset ≡ None
            → two_wait 98 99 offset ≡ Some x
        octets offset x c from none = by d.0 d.1 d.2
          where
            d : (i : ℕ) × (i < 2) × (offset ≡ pos i) × (slice_get (88 ∷ 89 ∷ []) i ≡ Some x)
            d = carried 0 88 89 offset x (omega arith) c

            by : (i : ℕ) → i < 2 → offset ≡ pos i → two_wait 98 99 offset ≡ Some x
            by zero less there = absurd (let wrong : Some 98 ≡ None = sym (ap (two_wait 98 99) there) ∙ none in cc)
            by (suc zero) less there = absurd (let wrong : Some 99 ≡ None = sym (ap (two_wait 98 99) there) ∙ none in cc)
            by (suc (suc n)) less there = absurd (omega (arith, less))

-- the third starts after the octets
starts_behind : TakesInOrder 0 1001 2 frames beginning beginning
starts_behind = (
  beginning,
  passed bc 98 99 2 beginning bc_says refl (nothing_waits 2),
  (beginning, passed xy 88 89 2 beginning xy_says refl (nothing_waits 2), refl),
)

-- the last reads `bc`
reads_first : TakesInOrder 0 1001 0 frames beginning (holding 98 99 (98 ∷ 99 ∷ []))
reads_first = (
  holding 98 99 (98 ∷ 99 ∷ []),
  whole,
  (holding 98 99 (98 ∷ 99 ∷ []), passed xy 88 89 0 (holding 98 99 (98 ∷ 99 ∷ [])) xy_says refl whole.gives, refl),
)

abbrev in_order : (start : ℕ) (heard : List (List ℕ)) (last : Receiver) → TakesInOrder 0 1001 start heard beginning last
    → MonitorsInOrder 0 1001 start heard last.stream last.ended
in_order start heard last takes = record { last = last; takes = takes; stream_is = refl; ended_is = refl }

pub each_is_needed : EachPremiseIsNeeded
each_is_needed = record {
  hears = λ law.
      missed
      (law 30 1001 acks places frames tells stays near_host 0 [] [] false (omega arith) (omega arith) (All-nil (Contains frames))
      (in_order 0 [] beginning refl));
  keeps = λ law. missed (law 30 1001 acks places frames tells stays near_host 0 beginning (omega arith) (omega arith) lost);
  gives = λ law. missed (law 30 1001 acks places frames tells stays near_host 0 (holding 98 99 []) (omega arith) (omega arith) withheld);
  starts = λ law.
      missed
      (law 30 1001 acks places frames tells stays near_host 2 0 [] false (omega arith) (omega arith) (omega arith)
      (in_order 2 frames beginning starts_behind));
  in_time = λ law.
      other_octets
      (law 30 1001 acks places frames tells stays near_host near_host 0 (1 ∷ []) (98 ∷ 99 ∷ []) (88 ∷ 89 ∷ []) false false (omega arith)
      (omega arith) (omega arith) (in_order 0 frames (holding 98 99 (98 ∷ 99 ∷ [])) reads_first) reads_xy);
}

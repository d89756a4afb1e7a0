-- Monitors: one that heard all frames in time, or takes them in order, has all that any member has.
use Rattle.std.proofs.Common.{◌≡◌, ℕ, zero, suc, ◌+◌, ◌<◌, ◌≤◌, List, [], ◌∷◌, length, Some, None, Bool, true, Contains, refl, sym, ap, ◌∙◌, subst, arith, ◌⊎◌, ◌^◌, ◌++◌, false, inl, inr, append-nil, append_assoc, ℤ, pos, slice_index_or, slice_get, ◌<ℤ◌}
use Rattle.std.proofs.lemmas.Int.{ints}
use Rattle.std.proofs.lemmas.Option.{slice_get_within}
use Rattle.std.proofs.lemmas.Bool.{cases_lt}
use Rattle.wire_base.specs.Segments.{Segment, segment_of}
use Rattle.receiver_model.specs.Delivery.{Receiver, Run, IsTimely, beginning, Hears}
use Rattle.receiver_model.specs.FamilyAgreement.{Agree, IsPrefixOf, OctetAt, FinAt, TellOneStream}
use Rattle.receiver_model.specs.Monitors.{KeepsEach, HasDeliveredAll, Covers, MissesNothingInTime, TakesInOrder, StayNearAcks, MissesNothingInOrder, HasOctetOrFin, IsNeverFarBehind, MonitorsAreInTime}
use Rattle.receiver_model.specs.StreamParts.{InOrderIsInTime}
use Rattle.receiver_model.specs.Streams.{places_from}
use Rattle.receiver_model.proofs.Members.{IsStream, Sound, none_has_more, sound_agree, sound_beginning, is_stream, run_keeps, ComesInTime}
use Rattle.receiver_model.proofs.Receivers.{Kept, kept_now, kept_on, goes_on, IsRest, rest_all, rest_first, rest_on, has_ack, Caught, caught_none, caught_sound, caught_next, ahead_of_ack, ahead_at_end, comes_in_time, IsAhead}

-- A monitor that heard all frames in time has all that any member has.

kept_through : (places : List ℤ) (frames : List (List ℕ)) (distance base start number : ℕ) (before after : Receiver) (schedule : List ℕ)
    → Run distance base start frames before schedule after → Kept places frames start number before → Kept places frames start number after
kept_through places frames distance base start number before after [] run k = subst (Kept places frames start number) (sym run) k
kept_through places frames distance base start number before after (n ∷ schedule) run k =
    kept_through places frames distance base start number run.0 after schedule run.2
    (kept_on places frames base start number run.1.segment before run.0 run.1.step k)

-- by induction on the schedule
pub kept_in : (hops distance base start : ℕ) (places : List ℤ) (frames : List (List ℕ)) (before after : Receiver) (schedule : List ℕ) (number k : ℕ)
    → distance ≤ hops → TellOneStream hops base places frames → (run : Run distance base start frames before schedule after)
    → IsTimely places distance base start frames before schedule after run → KeepsEach distance base start frames before schedule after run
    → k < length schedule → slice_index_or schedule k number ≡ number → Kept places frames start number after
kept_in hops distance base start places frames before after [] number k near h run timely keeps within is = absurd (omega (arith, within))
kept_in hops distance base start places frames before after (n ∷ schedule) number zero near h run timely keeps within is =
    subst (λ m. Kept places frames start m after) is
    (kept_through places frames distance base start n run.0 after schedule run.2
    (kept_now hops distance base start places frames n before run.0 near h run.1 keeps.0 timely.0))
kept_in hops distance base start places frames before after (n ∷ schedule) number (suc k) near h run timely keeps within is =
    kept_in hops distance base start places frames run.0 after schedule number k near h run.2 timely.1 keeps.1 (omega (arith, within)) is

-- ---- so no member has more

-- a kept octet at the next offset would wait, and would have been given
pub none_kept_next : (places : List ℤ) (frames : List (List ℕ)) (start : ℕ) (r : Receiver) (x : ℕ) → HasDeliveredAll start r
    → (c : OctetAt places frames (pos (start + length r.stream)) x) → Kept places frames start c.number r → ⊥
none_kept_next places frames start r x gives c kept =
    let waits = kept.octets (pos (start + length r.stream)) x c refl (omega (arith, ints)) in
    let none = gives.octets in
    let e : None ≡ Some waits.0 = sym none ∙ waits.1 in
    absurd (cc)

pub covers_last : (places : List ℤ) (frames : List (List ℕ)) (start : ℕ) (r other : Receiver) → IsStream (OctetAt places frames) (FinAt places frames)
    → Sound (OctetAt places frames) (FinAt places frames) start r → Sound (OctetAt places frames) (FinAt places frames) start other
    → ((number : ℕ) → number < length frames → Kept places frames start number r) → HasDeliveredAll start r
    → Covers r.stream r.ended other.stream other.ended
covers_last places frames start r other is h k kept gives = record { prefix = prefix; whole = λ e. agree.first e prefix; end = end }
  where
    agree : Agree other.stream other.ended r.stream r.ended
    agree = sound_agree (OctetAt places frames) (FinAt places frames) start other r is k h

    prefix : IsPrefixOf other.stream r.stream
    prefix =
        none_has_more (OctetAt places frames) (FinAt places frames) start r other is h k
        (λ x c. none_kept_next places frames start r x gives c (kept c.number (slice_get_within frames c.number c.frame c.stands)))

    end : other.ended ≡ true → r.ended ≡ true
    end e =
        let c : FinAt places frames (pos (start + length other.stream)) = k.ends e in
        let fin = (kept c.number (slice_get_within frames c.number c.frame c.stands)).fin (pos (start + length other.stream)) c refl in
        let there : fin.0 ≡ pos (start + length other.stream) = is.one_end fin.0 (pos (start + length other.stream)) (h.keeps fin.0 fin.1) c in
        gives.end (fin.1 ∙ ap (λ o. Some o) (there ∙ ap (λ l. pos (start + length l)) (agree.first e prefix)))

-- two receivers that deliver these streams
pub covers_as : (r other : Receiver) (seen stream : List ℕ) (seen_ended ended : Bool) → r.stream ≡ seen → r.ended ≡ seen_ended → other.stream ≡ stream
    → other.ended ≡ ended → Covers r.stream r.ended other.stream other.ended → Covers seen seen_ended stream ended
covers_as r other seen stream seen_ended ended a b c d all =
    subst (λ (s : List ℕ × Bool × List ℕ × Bool). Covers s.0 s.1 s.2 s.3) (λ i. (a i, b i, c i, d i)) all

pub miss_nothing_in_time : (hops base : ℕ) (places : List ℤ) (frames : List (List ℕ)) → TellOneStream hops base places frames
    → MissesNothingInTime hops base places frames
miss_nothing_in_time hops base places frames h monitor start all seen seen_ended near_m m other some stream ended near_o o =
    let ours = m.in_time.delivery in
    let theirs = o.delivery in
    let is = is_stream hops base places frames h in
    let begins = sound_beginning (OctetAt places frames) (FinAt places frames) start in
    let one = run_keeps hops monitor.distance base start places frames beginning ours.last all near_m h begins ours.run m.in_time.timely in
    let two = run_keeps hops other.distance base start places frames beginning theirs.last some near_o h begins theirs.run o.timely in
    let kept : (number : ℕ) → number < length frames → Kept places frames start number ours.last = λ number within.
    let c = m.hears number within in
    kept_in hops monitor.distance base start places frames beginning ours.last all number c.0 near_m h ours.run m.in_time.timely m.keeps c.1 c.2 in
    covers_as ours.last theirs.last seen stream seen_ended ended ours.stream_is ours.ended_is theirs.stream_is theirs.ended_is
    (covers_last places frames start ours.last theirs.last is one two kept m.gives)

-- A monitor that takes the frames in order has all that any member has, whenever each frame
-- arrives: if one is not in time for it, no member reads

-- past its next offset.

-- a stream only grows
prefix_trans : (xs ys zs : List ℕ) → IsPrefixOf xs ys → IsPrefixOf ys zs → IsPrefixOf xs zs
prefix_trans xs ys zs p q = (p.0 ++ q.0, sym (append_assoc xs p.0 q.0) ∙ ap (λ l. l ++ q.0) p.1 ∙ q.1)

grows : (distance base start : ℕ) (rest : List (List ℕ)) (before after : Receiver) → TakesInOrder distance base start rest before after
    → IsPrefixOf before.stream after.stream
grows distance base start [] before after takes = ([], append-nil before.stream ∙ sym (ap (λ (r : Receiver). r.stream) takes))
grows distance base start (frame ∷ rest) before after takes =
    let grown = takes.1.step.stream in
    prefix_trans before.stream takes.0.stream after.stream (grown.more, sym grown.joined) (grows distance base start rest takes.0 after takes.2)

module _ (hops distance base start : ℕ) (acks : List ℕ) (places : List ℤ) (frames : List (List ℕ)) (h : TellOneStream hops base places frames)
    (stay : StayNearAcks acks places frames) (low : start ≤ 2 ^ 31) (near : distance ≤ hops) where
  is : IsStream (OctetAt places frames) (FinAt places frames)
  is = is_stream hops base places frames h

  -- from where the stream has its end at or before the next offset, each frame arrives in time
  caught_on : (rest : List (List ℕ)) (k : ℕ) (before after : Receiver) (end : ℕ) → IsRest (List ℕ) frames k rest → k + length rest ≡ length frames
      → FinAt places frames (pos end) → end ≤ start + length before.stream → Caught places frames start k before
      → TakesInOrder distance base start rest before after → Caught places frames start (length frames) after
  caught_on [] k before after end among count f past caught takes =
      let all : k ≡ length frames = omega (arith, count) in
      subst (λ (s : ℕ × Receiver). Caught places frames start s.0 s.1) (λ i. (all i, sym takes i)) caught
  caught_on (frame ∷ rest) k before after end among count f past caught takes =
      caught_on rest (k + 1) takes.0 after end (rest_on (List ℕ) frames k frame rest among) (omega (arith, count)) f (omega (arith, past, on)) next
      takes.2
    where
      on : start + length before.stream ≤ start + length takes.0.stream
      on = goes_on base start takes.1.segment before takes.0 takes.1.step

      ack : (v : ℕ) × (slice_get acks k ≡ Some v)
      ack = has_ack acks places frames k stay (omega (arith, count))

      time : ComesInTime places frames (start + length before.stream) k
      time =
          comes_in_time hops base start acks places frames k ack.0 before h stay low ack.1 caught
          (ahead_at_end hops base places frames (start + length before.stream) k end h f past)

      next : Caught places frames start (k + 1) takes.0
      next =
          caught_next hops distance base start places frames k frame before takes.0 near h (rest_first (List ℕ) frames k frame rest among) takes.1
          time caught

  module _ (other : Receiver) (o : Sound (OctetAt places frames) (FinAt places frames) start other) where
    covers_all : (r : Receiver) → Caught places frames start (length frames) r → Covers r.stream r.ended other.stream other.ended
    covers_all r caught =
        covers_last places frames start r other is (caught_sound places frames start (length frames) r caught) o caught.kept caught.gives

    -- no frame has an octet at the next offset of a receiver that heard the frames before an ack
    -- past it
    none_next : (k ack : ℕ) (r : Receiver) → slice_get acks k ≡ Some ack → start + length r.stream < ack → Caught places frames start k r
        → (x : ℕ) → OctetAt places frames (pos (start + length r.stream)) x → ⊥
    none_next k ack r w late caught x c = by (cases_lt c.number k)
      where
        by : (c.number < k) ⊎ (k ≤ c.number) → ⊥
        by (inl before) = none_kept_next places frames start r x caught.gives c (caught.kept c.number before)
        by (inr behind) =
            let v = has_ack acks places frames c.number stay (slice_get_within frames c.number c.frame c.stands) in
            let on : ack ≤ v.0 = stay.go_on k c.number ack v.0 behind w v.1 in
            let from = (stay.octets (pos (start + length r.stream)) x v.0 c v.1).0 in
            omega (arith, ints, late, on, from)

    -- if the other has ended, it has so at the next offset, and what follows arrives in time;
    -- otherwise nothing more is to be read
    covers_late : (rest : List (List ℕ)) (k ack : ℕ) (before after : Receiver) → IsRest (List ℕ) frames k rest → k + length rest ≡ length frames
        → slice_get acks k ≡ Some ack → start + length before.stream < ack → Caught places frames start k before
        → TakesInOrder distance base start rest before after → Covers after.stream after.ended other.stream other.ended
    covers_late rest k ack before after among count w late caught takes = by other.ended refl
      where
        sound : Sound (OctetAt places frames) (FinAt places frames) start before
        sound = caught_sound places frames start k before caught

        prefix : IsPrefixOf other.stream before.stream
        prefix =
            none_has_more (OctetAt places frames) (FinAt places frames) start before other is sound o (none_next k ack before w late caught)

        by : (b : Bool) → other.ended ≡ b → Covers after.stream after.ended other.stream other.ended
        by true e =
            let same : other.stream ≡ before.stream =
            (sound_agree (OctetAt places frames) (FinAt places frames) start other before is o sound).first e prefix in
            let length_same : length other.stream ≡ length before.stream = ap length same in
            covers_all after
            (caught_on rest k before after (start + length other.stream) among count (o.ends e) (omega (arith, length_same)) caught takes)
        by false e =
            let no : other.ended ≡ true → ⊥ = λ t. let wrong : false ≡ true = sym e ∙ t in absurd (cc) in
            record {
              prefix = prefix_trans other.stream before.stream after.stream prefix (grows distance base start rest before after takes);
              whole = λ t. absurd (no t);
              end = λ t. absurd (no t);
            }

    -- by induction on the frames
    covers : (rest : List (List ℕ)) (k : ℕ) (before after : Receiver) → IsRest (List ℕ) frames k rest → k + length rest ≡ length frames
        → Caught places frames start k before → TakesInOrder distance base start rest before after
        → Covers after.stream after.ended other.stream other.ended
    covers [] k before after among count caught takes =
        let all : k ≡ length frames = omega (arith, count) in
        covers_all after (subst (λ (s : ℕ × Receiver). Caught places frames start s.0 s.1) (λ i. (all i, sym takes i)) caught)
    covers (frame ∷ rest) k before after among count caught takes =
        by
        (λ next. covers rest (k + 1) takes.0 after (rest_on (List ℕ) frames k frame rest among) (omega (arith, count)) next takes.2)
        (cases_lt (start + length before.stream) ack.0)
      where
        ack : (v : ℕ) × (slice_get acks k ≡ Some v)
        ack = has_ack acks places frames k stay (omega (arith, count))

        by : (Caught places frames start (k + 1) takes.0 → Covers after.stream after.ended other.stream other.ended)
            → (start + length before.stream < ack.0) ⊎ (ack.0 ≤ start + length before.stream)
            → Covers after.stream after.ended other.stream other.ended
        by more (inl late) = covers_late (frame ∷ rest) k ack.0 before after among count ack.1 late caught takes
        by more (inr near_ack) =
            let ahead =
            ahead_of_ack acks places frames (start + length before.stream) k ack.0 stay ack.1 (omega (arith, near_ack)) in
            let time = comes_in_time hops base start acks places frames k ack.0 before h stay low ack.1 caught ahead in
            more
            (caught_next hops distance base start places frames k frame before takes.0 near h (rest_first (List ℕ) frames k frame rest among) takes.1
            time caught)

pub miss_nothing_in_order : (hops base : ℕ) (acks : List ℕ) (places : List ℤ) (frames : List (List ℕ)) → TellOneStream hops base places frames
    → StayNearAcks acks places frames → MissesNothingInOrder hops base places frames
miss_nothing_in_order hops base acks places frames h stay monitor start seen seen_ended low near_m m other schedule stream ended near_o o =
    let theirs = o.delivery in
    let begins = sound_beginning (OctetAt places frames) (FinAt places frames) start in
    let sound = run_keeps hops other.distance base start places frames beginning theirs.last schedule near_o h begins theirs.run o.timely in
    covers_as m.last theirs.last seen stream seen_ended ended m.stream_is m.ended_is theirs.stream_is theirs.ended_is
    (covers hops monitor.distance base start acks places frames h stay low near_m theirs.last sound frames 0 beginning m.last
    (rest_all (List ℕ) frames) (omega arith) (caught_none places frames start) m.takes)

-- A monitor that is never far behind what is acknowledged hears every frame in time.

-- a frame that has no octet and no FIN has nothing too far ahead
ahead_with_any : (acks : List ℕ) (places : List ℤ) (frames : List (List ℕ)) (next number ack : ℕ) (frame : List ℕ)
    → StayNearAcks acks places frames → slice_get acks number ≡ Some ack → slice_get frames number ≡ Some frame
    → (HasOctetOrFin (segment_of frame) → ack < next + 2 ^ 30) → IsAhead places frames next number
ahead_with_any acks places frames next number ack frame stay w stands up = record { octets = octets; fin = fin }
  where
    says : (n : ℕ) (f : List ℕ) (s : Segment) → n ≡ number → slice_get frames n ≡ Some f → segment_of f ≡ Some s → segment_of frame ≡ Some s
    says n f s same there e =
        let is : slice_get frames number ≡ Some f = subst (λ m. slice_get frames m ≡ Some f) same there in
        let one : frame ≡ f = cc (is, stands) in
        ap segment_of one ∙ e

    octets : (offset : ℤ) (x : ℕ) (c : OctetAt places frames offset x) → c.number ≡ number → offset <ℤ pos (next + 2 ^ 31)
    octets offset x c same =
        let within : c.index < length c.segment.octets = slice_get_within c.segment.octets c.index x c.has in
        let any : HasOctetOrFin (Some c.segment) = inl (omega (arith, within)) in
        let less = up (subst HasOctetOrFin (sym (says c.number c.frame c.segment same c.stands c.says)) any) in
        (ahead_of_ack acks places frames next number ack stay w less).octets offset x c same

    fin : (offset : ℤ) (c : FinAt places frames offset) → c.number ≡ number → offset <ℤ pos (next + 2 ^ 31)
    fin offset c same =
        let any : HasOctetOrFin (Some c.segment) = inr c.has in
        let less = up (subst HasOctetOrFin (sym (says c.number c.frame c.segment same c.stands c.says)) any) in
        (ahead_of_ack acks places frames next number ack stay w less).fin offset c same

-- a host hears the frames of a schedule, each in time, and keeps what is not yet read
record RunsInTime (places : List ℤ) (distance base start : ℕ) (frames : List (List ℕ)) (before : Receiver) (schedule : List ℕ) (after : Receiver) : Type 0 where
  run : Run distance base start frames before schedule after
  timely : IsTimely places distance base start frames before schedule after run
  keeps : KeepsEach distance base start frames before schedule after run

module _ (hops distance base start : ℕ) (acks : List ℕ) (places : List ℤ) (frames : List (List ℕ)) (h : TellOneStream hops base places frames)
    (stay : StayNearAcks acks places frames) (low : start ≤ 2 ^ 31) (near : distance ≤ hops) where
  -- by induction on the frames
  timely : (ws : List ℕ) (rest : List (List ℕ)) (k : ℕ) (before after : Receiver) → IsRest ℕ acks k ws
      → IsRest (List ℕ) frames k rest → k + length ws ≡ length acks → k + length rest ≡ length frames → Caught places frames start k before
      → (takes : TakesInOrder distance base start rest before after) → IsNeverFarBehind ws distance base start rest before after takes
      → RunsInTime places distance base start frames before (places_from k rest) after
  timely ws [] k before after among_w among count_w count caught takes up = record { run = takes; timely = tt; keeps = tt }
  timely [] (frame ∷ rest) k before after among_w among count_w count caught takes up =
      let same = stay.one_each in
      absurd (omega (arith, count_w, count, same))
  timely (w ∷ ws) (frame ∷ rest) k before after among_w among count_w count caught takes up =
      let more =
      timely ws rest (k + 1) takes.0 after (rest_on ℕ acks k w ws among_w) (rest_on (List ℕ) frames k frame rest among) (omega (arith, count_w))
      (omega (arith, count)) next takes.2 up.1 in
      record { run = (takes.0, heard, more.run); timely = (time, more.timely); keeps = (takes.1.keeps, more.keeps) }
    where
      ack : slice_get acks k ≡ Some w
      ack = rest_first ℕ acks k w ws among_w

      stands : slice_get frames k ≡ Some frame
      stands = rest_first (List ℕ) frames k frame rest among

      time : ComesInTime places frames (start + length before.stream) k
      time =
          comes_in_time hops base start acks places frames k w before h stay low ack caught
          (ahead_with_any acks places frames (start + length before.stream) k w frame stay ack stands up.0)

      heard : Hears distance base start frames k before takes.0
      heard = record { frame = frame; stands = stands; segment = takes.1.segment; reads = inr takes.1.keeps.reads; step = takes.1.step }

      next : Caught places frames start (k + 1) takes.0
      next = caught_next hops distance base start places frames k frame before takes.0 near h stands takes.1 time caught

pub are_in_time : MonitorsAreInTime
are_in_time hops base acks places frames monitor start last h stay low near takes up =
    let all =
    timely hops monitor.distance base start acks places frames h stay low near acks frames 0 beginning last (rest_all ℕ acks)
    (rest_all (List ℕ) frames) (omega arith) (omega arith) (caught_none places frames start) takes up in
    (record { delivery = record { last = last; run = all.run; stream_is = refl; ended_is = refl }; timely = all.timely }, refl)

-- the schedule of all frames in order has each
in_order : (k : ℕ) (frames : List (List ℕ)) (number : ℕ) → number < length frames → Contains (places_from k frames) (k + number)
in_order k [] number within = absurd (omega (arith, within))
in_order k (frame ∷ frames) zero within = (0, omega arith, omega arith)
in_order k (frame ∷ frames) (suc number) within =
    let same : k + 1 + number ≡ k + suc number = omega arith in
    let rest = subst (Contains (places_from (k + 1) frames)) same (in_order (k + 1) frames number (omega (arith, within))) in
    let inside = rest.1 in
    (suc rest.0, omega (arith, inside), rest.2)

-- at the end all is delivered
gives_last : (distance base start : ℕ) (rest : List (List ℕ)) (before after : Receiver) → HasDeliveredAll start before
    → TakesInOrder distance base start rest before after → HasDeliveredAll start after
gives_last distance base start [] before after gives takes = subst (HasDeliveredAll start) (sym takes) gives
gives_last distance base start (frame ∷ rest) before after gives takes = gives_last distance base start rest takes.0 after takes.1.gives takes.2

pub in_order_in_time : InOrderIsInTime
in_order_in_time hops base acks places frames monitor start last h stay low near takes up =
    let all =
    timely hops monitor.distance base start acks places frames h stay low near acks frames 0 beginning last (rest_all ℕ acks)
    (rest_all (List ℕ) frames) (omega arith) (omega arith) (caught_none places frames start) takes up in
    record {
      in_time = record { delivery = record { last = last; run = all.run; stream_is = refl; ended_is = refl }; timely = all.timely };
      hears = λ number within. let same : 0 + number ≡ number = omega arith in subst (Contains (places_from 0 frames)) same (in_order 0 frames number within);
      keeps = all.keeps;
      gives = gives_last monitor.distance base start frames beginning last (caught_none places frames start).gives takes;
    }

-- Streams: to take a segment is a step of the family, streams are monitors, and those of the four
-- policies agree.
use Rattle.std.proofs.Common.{◌≡◌, ℕ, ◌+◌, List, [], ◌∷◌, ◌++◌, length, Some, None, Option, ap, ◌∙◌, subst, arith, length-append, append_assoc, zero, suc, refl, sym, inr, ◌⊎◌, ◌-◌, ◌^◌, ◌<◌, Bool, true, false, inl, ⊎_elim, take, drop, length-drop, ◌≤◌, Result, Ok, Err, OnOk, OnErr, ℤ, pos, slice_get, nat_eq, option_map, ◌||◌, ◌≤ℤ◌}
use Rattle.std.proofs.lemmas.List.Sums.{fold_push}
use Rattle.std.proofs.lemmas.Bool.Decides.{nat_tests}
use Rattle.std.proofs.lemmas.List.{take_rest}
use Rattle.std.proofs.lemmas.Option.{slice_get_within}
use Rattle.std.proofs.lemmas.Int.{ints}
use Rattle.std.proofs.Math.Seq.{take-append_seam, take-length}
use Rattle.wire_base.specs.Segments.{segment_of, Segment, fields_of}
use Rattle.wire_base.specs.Ipv4 as ip
use Rattle.wire_base.specs.Tcp as tcp
use Rattle.receiver_model.specs.declared.policy.Policy.{Policy}
use Rattle.receiver_model.specs.Delivery.{WaitFrom, Extends, Receiver, Hears, Run, beginning, Step}
use Rattle.receiver_model.specs.Policies.{Taken, brought, chosen, waiting_after, is_near, index_of, octet_for, waiting_of, replaces, octet_after}
use Rattle.receiver_model.specs.Streams.{StreamState, IsSameStream, StandsFor, StepsWith, fresh, receiver_of, places_from, next_of, waiting_at, place_of, first_fin, taken_of, AddsFrame, Chooses}
use Rattle.receiver_model.specs.working.StreamSteps.{fin_after, is_at, Takes}
use Rattle.receiver_model.specs.declared.policy.Waiting.{Waiting}
use Rattle.receiver_model.specs.Offsets.{raised_of, offset_in, Carries, Ends}
use Rattle.receiver_model.specs.declared.segment.Segment.{Segment as Fields}
use Rattle.receiver_model.specs.SegmentFields.{segment_in}
use Rattle.receiver_model.specs.Monitors.{Keeps, HasDeliveredAll, TakesInOrder, TakesEach, StreamsAreMonitors}
use Rattle.receiver_model.specs.FamilyAgreement.{TellOneStream}
use Rattle.receiver_model.specs.Families.{FamilyState, AllStandFor, ComeInTime, EachTakes, StandsAs, StreamsAgree, TakesFrame}
use Rattle.receiver_model.specs.working.FamilyMarks.{GoesBack}
use Rattle.receiver_model.proofs.Members.{raised_named, named_raised, near_test, test_near, far_back, goes_there, comes_back, agrees}

-- What one more segment changes of the waiting octets.

pub waiting_after-push : (policy : Policy) (base : ℕ) (offset : ℤ) (ts : List Taken) (t : Taken) → waiting_after policy base (ts ++ t ∷ []) offset ≡ chosen policy (waiting_after policy base ts offset) (brought base t offset)
waiting_after-push policy base offset ts t = fold_push (λ old u. chosen policy old (brought base u offset)) None ts t

wait_push : (waiting : ℤ → Option ℕ) (at : ℕ) (xs : List ℕ) (x : ℕ) → WaitFrom waiting at xs → waiting (pos (at + length xs)) ≡ Some x → WaitFrom waiting at (xs ++ x ∷ [])
wait_push waiting at [] x w e = (subst (λ n. waiting (pos n) ≡ Some x) (omega arith) e, tt)
wait_push waiting at (y ∷ ys) x w e = (w.0, wait_push waiting (at + 1) ys x w.1 (subst (λ n. waiting (pos n) ≡ Some x) (omega arith) e))

-- one more waiting octet
pub extends_push : (waiting : ℤ → Option ℕ) (start : ℕ) (old now new : List ℕ) (x : ℕ) → Extends waiting start old now → waiting (pos (start + length now)) ≡ Some x → new ≡ now ++ x ∷ [] → Extends waiting start old new
extends_push waiting start old now new x g e is =
    let long : length now ≡ length old + length g.more = ap length g.joined ∙ length-append old g.more in
    record {
      more = g.more ++ x ∷ [];
      joined = is ∙ ap (λ l. l ++ x ∷ []) g.joined ∙ append_assoc old g.more (x ∷ []);
      waited = wait_push waiting (start + length old) g.more x g.waited (subst (λ n. waiting (pos n) ≡ Some x) (omega arith) e);
    }

-- A stream that took frames one after another is a delivery of them.

pub slice_get-append_left : {X : Type 0} (xs ys : List X) (i : ℕ) (x : X) → slice_get xs i ≡ Some x → slice_get (xs ++ ys) i ≡ Some x
slice_get-append_left [] ys i x e = absurd (cc)
slice_get-append_left (z ∷ xs) ys zero x e = e
slice_get-append_left (z ∷ xs) ys (suc i) x e = slice_get-append_left xs ys i x e

slice_get-append_last : {X : Type 0} (xs : List X) (x : X) → slice_get (xs ++ x ∷ []) (length xs) ≡ Some x
slice_get-append_last [] x = refl
slice_get-append_last (y ∷ xs) x = slice_get-append_last xs x

-- a schedule keeps its meaning when further frames are appended
abbrev pub run_more :
    (distance base start : ℕ) (frames more : List (List ℕ)) (before : Receiver) (schedule : List ℕ) (after : Receiver) →
    Run distance base start frames before schedule after → Run distance base start (frames ++ more) before schedule after
run_more distance base start frames more before [] after run = run
run_more distance base start frames more before (number ∷ schedule) after run = (
  run.0,
  record {
    frame = run.1.frame;
    stands = slice_get-append_left frames more number run.1.frame run.1.stands;
    segment = run.1.segment;
    reads = run.1.reads;
    step = run.1.step;
  },
  run_more distance base start frames more run.0 schedule after run.2,
)

run_push : (distance base start : ℕ) (frames : List (List ℕ)) (before mid after : Receiver) (schedule : List ℕ) (place : ℕ) → Run distance base start frames before schedule mid → Hears distance base start frames place mid after → Run distance base start frames before (schedule ++ place ∷ []) after
run_push distance base start frames before mid after [] place run hears = (after, subst (λ r. Hears distance base start frames place r after) run hears, refl)
run_push distance base start frames before mid after (first ∷ schedule) place run hears = (run.0, run.1, run_push distance base start frames run.0 mid after schedule place run.2 hears)

places_from-push : (k : ℕ) (frames : List (List ℕ)) (p : List ℕ) → places_from k (frames ++ p ∷ []) ≡ places_from k frames ++ (k + length frames) ∷ []
places_from-push k [] p = let same : k ≡ k + 0 = omega arith in ap (λ n. n ∷ []) same
places_from-push k (f ∷ frames) p =
    let same : k + 1 + length frames ≡ k + length (f ∷ frames) = omega arith in
    ap (λ l. k ∷ l) (places_from-push (k + 1) frames p ∙ ap (λ n. places_from (k + 1) frames ++ n ∷ []) same)

pub fresh_stands : (distance : ℕ) (h : StreamState) (policy : Policy) (base start : ℕ) → h ≡ fresh policy base start → StandsFor distance h []
fresh_stands distance h policy base start e = subst (λ s. StandsFor distance s []) (sym e) (record { delivery = record { last = beginning; run = refl; stream_is = refl; ended_is = refl }; last_is = refl })

pub stands_push : (distance : ℕ) (before after : StreamState) (frames : List (List ℕ)) (p : List ℕ) → IsSameStream before after → StepsWith (segment_of p) before after → StandsFor distance before frames → StandsFor distance after (frames ++ p ∷ [])
stands_push distance before after frames p same step h = record { delivery = record { last = receiver_of after; run = run; stream_is = refl; ended_is = refl }; last_is = refl }
  where
    all : List (List ℕ)
    all = frames ++ p ∷ []

    so_far : Run distance before.base before.start all beginning (places_from 0 frames) (receiver_of before)
    so_far = run_more distance before.base before.start frames (p ∷ []) beginning (places_from 0 frames) (receiver_of before) (subst (Run distance before.base before.start frames beginning (places_from 0 frames)) h.last_is h.delivery.run)

    last : slice_get all (0 + length frames) ≡ Some p
    last = let same : length frames ≡ 0 + length frames = omega arith in subst (λ n. slice_get all n ≡ Some p) same (slice_get-append_last frames p)

    hears : Hears distance before.base before.start all (0 + length frames) (receiver_of before) (receiver_of after)
    hears = record { frame = p; stands = last; segment = segment_of p; reads = inr (λ _. refl); step = step }

    pushed : Run distance before.base before.start all beginning (places_from 0 frames ++ (0 + length frames) ∷ []) (receiver_of after)
    pushed = run_push distance before.base before.start all beginning (receiver_of before) (receiver_of after) (places_from 0 frames) (0 + length frames) so_far hears

    run : Run distance after.base after.start all beginning (places_from 0 all) (receiver_of after)
    run = subst (λ (r : ℕ × ℕ × List ℕ). Run distance r.0 r.1 all beginning r.2 (receiver_of after)) (λ i. (sym same.base i, sym same.start i, sym (places_from-push 0 frames p) i)) pushed

-- Taking a segment is a step of the family, the one that the stream's policy selects.

-- the waiting octet stays or becomes the new one
chosen_cases : (policy : Policy) (old new : Option Waiting) → (chosen policy old new ≡ old) ⊎ ((w : Waiting) × (new ≡ Some w) × (chosen policy old new ≡ Some w))
chosen_cases policy old None = inl refl
chosen_cases policy None (Some new) = inr (new, refl, refl)
chosen_cases policy (Some old) (Some new) = by (replaces policy old new) refl
  where
    by : (b : Bool) → replaces policy old new ≡ b → (chosen policy (Some old) (Some new) ≡ Some old) ⊎ ((w : Waiting) × (Some new ≡ Some w) × (chosen policy (Some old) (Some new) ≡ Some w))
    by true e = inr (new, refl, rw e refl)
    by false e = inl (rw e refl)

brought_octet : (base : ℕ) (t : Taken) (o : Option ℕ) (w : Waiting) → option_map (waiting_of base t) o ≡ Some w → o ≡ Some w.octet
brought_octet base t None w e = absurd (cc)
brought_octet base t (Some x) w e = ap (option_map (λ (v : Waiting). v.octet)) e

octet_carried : (base next : ℕ) (s : Segment) (o : ℤ) (x : ℕ) → s.sequence < 2 ^ 32 → octet_for base (taken_of next s) o ≡ Some x → Carries base next (Some s) o x
octet_carried base next s o x small e = by (is_near next o) refl
  where
    by : (b : Bool) → is_near next o ≡ b → Carries base next (Some s) o x
    by true t =
        let got : slice_get s.octets (index_of base s.sequence o) ≡ Some x = rw t at e in
        (index_of base s.sequence o, got, record { place = goes_there base s.sequence o small (far_back next o (near_test next o t)); near = near_test next o t })
    by false t = let none : None ≡ Some x = rw t at e in absurd (cc)

carried_octet : (base next : ℕ) (s : Segment) (o : ℤ) (x : ℕ) → s.sequence < 2 ^ 32 → length s.octets < 2 ^ 32 → Carries base next (Some s) o x → octet_for base (taken_of next s) o ≡ Some x
carried_octet base next s o x small short c =
    let within : c.0 < length s.octets = slice_get_within s.octets c.0 x c.1 in
    let near : is_near next o ≡ true = test_near next o c.2.near in
    let back : index_of base s.sequence o ≡ c.0 = comes_back base s.sequence c.0 o (omega arith) small (far_back next o c.2.near) c.2.place in
    rw near (subst (λ k. slice_get s.octets k ≡ Some x) (sym back) c.1)

-- an offset for which the segment has no octet
octet_missing : (base next : ℕ) (s : Segment) (o : ℤ) → s.sequence < 2 ^ 32 → ((x : ℕ) → ¬ Carries base next (Some s) o x) → octet_for base (taken_of next s) o ≡ None
octet_missing base next s o small none = by (octet_for base (taken_of next s) o) refl
  where
    by : (r : Option ℕ) → octet_for base (taken_of next s) o ≡ r → r ≡ None
    by None e = refl
    by (Some x) e = absurd (none x (octet_carried base next s o x small e))

fin_cases : (base next : ℕ) (s : Segment) (old : Option ℕ) → (place_of (fin_after base (taken_of next s) (tcp.has_fin s.flags) old) ≡ place_of old) ⊎ ((p : ℤ) × Ends base next (Some s) p × (place_of (fin_after base (taken_of next s) (tcp.has_fin s.flags) old) ≡ Some p))
fin_cases base next s (Some q) = inl refl
fin_cases base next s None = by (tcp.has_fin s.flags) refl
  where
    by : (b : Bool) → tcp.has_fin s.flags ≡ b → (place_of (fin_after base (taken_of next s) (tcp.has_fin s.flags) None) ≡ None) ⊎ ((p : ℤ) × Ends base next (Some s) p × (place_of (fin_after base (taken_of next s) (tcp.has_fin s.flags) None) ≡ Some p))
    by true e = inr (offset_in (raised_of base next (s.sequence + length s.octets)), (e, raised_named base next (s.sequence + length s.octets)), rw e refl)
    by false e = inl (rw e refl)

fin_first : (base next : ℕ) (s : Segment) (old : Option ℕ) (p : ℤ) → Ends base next (Some s) p → place_of (fin_after base (taken_of next s) (tcp.has_fin s.flags) old) ≡ Some (first_fin (place_of old) p)
fin_first base next s (Some q) p h = refl
fin_first base next s None p h = rw h.0 (ap (λ n. Some n) (sym (named_raised base next (s.sequence + length s.octets) p h.1)))

ended_cases : (ended : Bool) (fin : Option ℕ) (next : ℕ) → ((ended || is_at fin next) ≡ ended) ⊎ (((ended || is_at fin next) ≡ true) × (place_of fin ≡ Some (pos next)))
ended_cases true fin next = inl refl
ended_cases false None next = inl refl
ended_cases false (Some place) next = by (nat_eq place (next + 2 ^ 31)) refl
  where
    by : (b : Bool) → nat_eq place (next + 2 ^ 31) ≡ b → (nat_eq place (next + 2 ^ 31) ≡ false) ⊎ ((nat_eq place (next + 2 ^ 31) ≡ true) × (Some (offset_in place) ≡ Some (pos next)))
    by true e = inr (e, let same : place ≡ next + 2 ^ 31 = grind (arith, nat_tests) in let is : offset_in place ≡ pos next = omega (arith, ints) in ap (λ n. Some n) is)
    by false e = inl e

ended_soon : (ended : Bool) (fin : Option ℕ) (next : ℕ) → place_of fin ≡ Some (pos next) → (ended || is_at fin next) ≡ true
ended_soon true fin next e = refl
ended_soon false None next e = absurd (cc)
ended_soon false (Some place) next e = let is : offset_in place ≡ pos next = cc in let same : place ≡ next + 2 ^ 31 = omega (arith, ints) in grind (arith, nat_tests)

waiting_then : (s : Segment) (old new : StreamState) (o : ℤ) → Takes (taken_of (next_of old) s) (tcp.has_fin s.flags) old new → waiting_at new o ≡ chosen old.policy (waiting_at old o) (brought old.base (taken_of (next_of old) s) o)
waiting_then s old new o t = (λ i. waiting_after (t.same.policy i) (t.same.base i) (t.taken i) o) ∙ waiting_after-push old.policy old.base o old.taken (taken_of (next_of old) s)

octets_then : (s : Segment) (old new : StreamState) → Takes (taken_of (next_of old) s) (tcp.has_fin s.flags) old new → octet_after new.policy new.base new.taken ≡ octet_after old.policy old.base (old.taken ++ taken_of (next_of old) s ∷ [])
octets_then s old new t = λ i. octet_after (t.same.policy i) (t.same.base i) (t.taken i)

takes_step : (s : Segment) (old new : StreamState) → s.sequence < 2 ^ 32 → Takes (taken_of (next_of old) s) (tcp.has_fin s.flags) old new → StepsWith (Some s) old new
takes_step s old new small t = record { octets = octets; fin = fin; stream = stream; ended = ended }
  where
    octets : (o : ℤ) → (octet_after new.policy new.base new.taken o ≡ octet_after old.policy old.base old.taken o) ⊎ ((x : ℕ) × Carries old.base (next_of old) (Some s) o x × (octet_after new.policy new.base new.taken o ≡ Some x))
    octets o =
        ⊎_elim
        (λ (same : chosen old.policy (waiting_at old o) (brought old.base (taken_of (next_of old) s) o) ≡ waiting_at old o). inl (ap (option_map (λ (v : Waiting). v.octet)) (waiting_then s old new o t ∙ same)))
        (λ (put : (w : Waiting) × (brought old.base (taken_of (next_of old) s) o ≡ Some w) × (chosen old.policy (waiting_at old o) (brought old.base (taken_of (next_of old) s) o) ≡ Some w)).
        inr (put.0.octet, octet_carried old.base (next_of old) s o put.0.octet small (brought_octet old.base (taken_of (next_of old) s) (octet_for old.base (taken_of (next_of old) s) o) put.0 put.1), ap (option_map (λ (v : Waiting). v.octet)) (waiting_then s old new o t ∙ put.2)))
        (chosen_cases old.policy (waiting_at old o) (brought old.base (taken_of (next_of old) s) o))

    fin : (place_of new.fin ≡ place_of old.fin) ⊎ ((p : ℤ) × Ends old.base (next_of old) (Some s) p × (place_of new.fin ≡ Some p))
    fin = subst (λ e. (place_of e ≡ place_of old.fin) ⊎ ((p : ℤ) × Ends old.base (next_of old) (Some s) p × (place_of e ≡ Some p))) (sym t.fin) (fin_cases old.base (next_of old) s old.fin)

    stream : Extends (octet_after new.policy new.base new.taken) old.start old.octets new.octets
    stream = subst (λ w. Extends w old.start old.octets new.octets) (sym (octets_then s old new t)) t.octets

    ended : (new.ended ≡ old.ended) ⊎ ((new.ended ≡ true) × (place_of new.fin ≡ Some (pos (old.start + length new.octets))))
    ended = subst (λ e. (e ≡ old.ended) ⊎ ((e ≡ true) × (place_of new.fin ≡ Some (pos (old.start + length new.octets))))) (sym t.ended) (ended_cases old.ended new.fin (old.start + length new.octets))

takes_chosen : (s : Segment) (old new : StreamState) → s.sequence < 2 ^ 32 → length s.octets < 2 ^ 32 → Takes (taken_of (next_of old) s) (tcp.has_fin s.flags) old new → Chooses s old new
takes_chosen s old new small short t = record { carried = carried; others = others; fin = fin; far = far; soon = soon }
  where
    carried : (o : ℤ) (x : ℕ) → Carries old.base (next_of old) (Some s) o x → waiting_at new o ≡ chosen old.policy (waiting_at old o) (Some (waiting_of old.base (taken_of (next_of old) s) x))
    carried o x c = waiting_then s old new o t ∙ ap (λ r. chosen old.policy (waiting_at old o) (option_map (waiting_of old.base (taken_of (next_of old) s)) r)) (carried_octet old.base (next_of old) s o x small short c)

    others : (o : ℤ) → ((x : ℕ) → ¬ Carries old.base (next_of old) (Some s) o x) → waiting_at new o ≡ waiting_at old o
    others o none = waiting_then s old new o t ∙ ap (λ r. chosen old.policy (waiting_at old o) (option_map (waiting_of old.base (taken_of (next_of old) s)) r)) (octet_missing old.base (next_of old) s o small none)

    fin : (p : ℤ) → Ends old.base (next_of old) (Some s) p → place_of new.fin ≡ Some (first_fin (place_of old.fin) p)
    fin p h = ap place_of t.fin ∙ fin_first old.base (next_of old) s old.fin p h

    far : waiting_at new (pos (old.start + length new.octets)) ≡ None
    far = (λ i. waiting_after (t.same.policy i) (t.same.base i) (t.taken i) (pos (old.start + length new.octets))) ∙ t.far

    soon : place_of new.fin ≡ Some (pos (old.start + length new.octets)) → new.ended ≡ true
    soon e = t.ended ∙ ended_soon old.ended new.fin (old.start + length new.octets) e

-- a TCP packet's segment is its fields
pub segment_is : (p : List ℕ) → ip.protocol p ≡ 6 → segment_of p ≡ Some (fields_of p)
segment_is p h = rw h refl

-- the stream took a packet by fields that were read in it
abbrev pub TakesRead : List ℕ → Fields → Bool → (old new : StreamState) → Type 0
TakesRead p f fin old new = Takes (record { next = next_of old; sequence = f.seq; octets = take (length p - f.start) (drop f.start p) }) fin old new

-- so it took the packet's segment
read_taken : (p : List ℕ) (f : Fields) (fin : Bool) (old new : StreamState) → segment_in p f ≡ fields_of p → fin ≡ tcp.has_fin f.flags.0 → TakesRead p f fin old new → Takes (taken_of (next_of old) (fields_of p)) (tcp.has_fin (fields_of p).flags) old new
read_taken p f fin old new read same_fin t =
    let all : Takes (taken_of (next_of old) (segment_in p f)) (tcp.has_fin (segment_in p f).flags) old new = subst (λ (r : List ℕ × Bool). Takes (record { next = next_of old; sequence = f.seq; octets = r.0 }) r.1 old new) (λ i. (take_rest p f.start i, same_fin i)) t in
    subst (λ s. Takes (taken_of (next_of old) s) (tcp.has_fin s.flags) old new) read all

pub read_last : (p : List ℕ) (f : Fields) (fin : Bool) (old new : StreamState) → segment_in p f ≡ fields_of p → fin ≡ tcp.has_fin f.flags.0 → TakesRead p f fin old new → new.taken ≡ old.taken ++ taken_of (next_of old) (fields_of p) ∷ []
read_last p f fin old new read same_fin t = let taken = read_taken p f fin old new read same_fin t in taken.taken

pub read_step : (p : List ℕ) (f : Fields) (fin : Bool) (old new : StreamState) → ip.protocol p ≡ 6 → segment_in p f ≡ fields_of p → fin ≡ tcp.has_fin f.flags.0 → f.seq < 2 ^ 32 → TakesRead p f fin old new → StepsWith (segment_of p) old new
read_step p f fin old new tcp read same_fin small t =
    let low : (fields_of p).sequence < 2 ^ 32 = subst (λ s. s.sequence < 2 ^ 32) read small in
    subst (λ s. StepsWith s old new) (sym (segment_is p tcp)) (takes_step (fields_of p) old new low (read_taken p f fin old new read same_fin t))

pub read_chosen : (p : List ℕ) (f : Fields) (fin : Bool) (old new : StreamState) → segment_in p f ≡ fields_of p → fin ≡ tcp.has_fin f.flags.0 → f.seq < 2 ^ 32 → length p < 2 ^ 32 → TakesRead p f fin old new → Chooses (fields_of p) old new
read_chosen p f fin old new read same_fin small short t =
    let low : (fields_of p).sequence < 2 ^ 32 = subst (λ s. s.sequence < 2 ^ 32) read small in
    let rest : length (drop f.start p) < 2 ^ 32 = omega (arith, length-drop f.start p) in
    takes_chosen (fields_of p) old new low (subst (λ s. length s.octets < 2 ^ 32) read rest) (read_taken p f fin old new read same_fin t)

pub read_stands : (p : List ℕ) (f : Fields) (fin : Bool) (old new : StreamState) → ip.protocol p ≡ 6 → segment_in p f ≡ fields_of p → fin ≡ tcp.has_fin f.flags.0 → f.seq < 2 ^ 32 → TakesRead p f fin old new → AddsFrame p old new
read_stands p f fin old new tcp read same_fin small t distance frames h = stands_push distance old new frames p t.same (read_step p f fin old new tcp read same_fin small t) h

pub on_ok : {T E P Q : Type 0} (r : Result T E) → (P → Q) → OnOk r P → OnOk r Q
on_ok (Ok x) f h = f h
on_ok (Err e) f h = tt

-- A stream that takes every frame in order is a monitor.

abbrev octet_of : Option Waiting → Option ℕ
octet_of w = option_map (λ (v : Waiting). v.octet) w

none_waits : (w : Option Waiting) → octet_of w ≡ None → w ≡ None
none_waits None e = refl
none_waits (Some w) e = absurd (cc)

stream_keeps : (distance : ℕ) (frame : List ℕ) (before after : StreamState) → ip.protocol frame ≡ 6 → Chooses (fields_of frame) before after
    → Keeps distance before.base before.start frame (segment_of frame) (receiver_of before) (receiver_of after)
stream_keeps distance frame before after six choice = record { reads = λ _. refl; octets = octets; fin = fin }
  where
    octets : (offset : ℤ) (octet : ℕ) → Carries before.base (next_of before) (segment_of frame) offset octet → pos (next_of before) ≤ℤ offset
        → octet_of (waiting_at before offset) ≡ None → octet_of (waiting_at after offset) ≡ Some octet
    octets offset octet carries from none =
        let new = waiting_of before.base (taken_of (next_of before) (fields_of frame)) octet in
        let here = subst (λ s. Carries before.base (next_of before) s offset octet) (segment_is frame six) carries in
        let set : waiting_at after offset ≡ Some new =
        choice.carried offset octet here ∙ ap (λ w. chosen before.policy w (Some new)) (none_waits (waiting_at before offset) none) in
        ap octet_of set

    fin : (offset : ℤ) → Ends before.base (next_of before) (segment_of frame) offset → place_of before.fin ≡ None → place_of after.fin ≡ Some offset
    fin offset ends none =
        let here = subst (λ s. Ends before.base (next_of before) s offset) (segment_is frame six) ends in
        choice.fin offset here ∙ ap (λ o. Some (first_fin o offset)) none

stream_gives : (s : Segment) (before after : StreamState) → Chooses s before after → HasDeliveredAll before.start (receiver_of after)
stream_gives s before after choice = record { octets = ap octet_of choice.far; end = choice.soon }

-- by induction on the frames
goes : (distance base start : ℕ) (frames : List (List ℕ)) (before after : StreamState) → before.base ≡ base → before.start ≡ start
    → TakesEach frames before after → TakesInOrder distance base start frames (receiver_of before) (receiver_of after)
goes distance base start [] before after same_base same_start takes = ap receiver_of takes
goes distance base start (frame ∷ frames) before after same_base same_start (mid, six, takes, more) = (
  receiver_of mid,
  record { segment = segment_of frame; step = step; keeps = keeps; gives = gives },
  goes distance base start frames mid after (takes.same.base ∙ same_base) (takes.same.start ∙ same_start) more,
)
  where
    step : Step base start (segment_of frame) (receiver_of before) (receiver_of mid)
    step =
        subst (λ (n : ℕ × ℕ). Step n.0 n.1 (segment_of frame) (receiver_of before) (receiver_of mid)) (λ i. (same_base i, same_start i)) takes.step

    keeps : Keeps distance base start frame (segment_of frame) (receiver_of before) (receiver_of mid)
    keeps =
        subst (λ (n : ℕ × ℕ). Keeps distance n.0 n.1 frame (segment_of frame) (receiver_of before) (receiver_of mid))
        (λ i. (same_base i, same_start i)) (stream_keeps distance frame before mid six takes.choice)

    gives : HasDeliveredAll start (receiver_of mid)
    gives = subst (λ n. HasDeliveredAll n (receiver_of mid)) same_start (stream_gives (fields_of frame) before mid takes.choice)

pub are_monitors : StreamsAreMonitors
are_monitors policy distance base start frames stream takes = goes distance base start frames (fresh policy base start) stream refl refl takes

-- The four streams of a family: how each opens, takes a frame and goes back, and that they agree.

pub fresh-stands_as : (policy : Policy) (distance base start : ℕ) (stream : StreamState) → stream ≡ fresh policy base start → StandsAs policy distance base start stream []
fresh-stands_as policy distance base start stream e = record {
  has_policy = ap (λ (s : StreamState). s.policy) e;
  has_base = ap (λ (s : StreamState). s.base) e;
  has_start = ap (λ (s : StreamState). s.start) e;
  stands = fresh_stands distance stream policy base start e;
}

stands_as-push : (policy : Policy) (distance base start : ℕ) (before after : StreamState) (frames : List (List ℕ)) (frame : List ℕ) → TakesFrame frame before after → StandsAs policy distance base start before frames
    → StandsAs policy distance base start after (frames ++ frame ∷ [])
stands_as-push policy distance base start before after frames frame takes h = record {
  has_policy = takes.same.policy ∙ h.has_policy;
  has_base = takes.same.base ∙ h.has_base;
  has_start = takes.same.start ∙ h.has_start;
  stands = stands_push distance before after frames frame takes.same takes.step h.stands;
}

pub all_stand-push : (frame : List ℕ) (before after : FamilyState) → EachTakes frame before after → (distance base start : ℕ) (frames : List (List ℕ)) → AllStandFor distance base start before frames
    → AllStandFor distance base start after (frames ++ frame ∷ [])
all_stand-push frame before after each distance base start frames h = record {
  first = stands_as-push _ distance base start before.first after.first frames frame each.first h.first;
  newest = stands_as-push _ distance base start before.newest after.newest frames frame each.newest h.newest;
  left = stands_as-push _ distance base start before.left after.left frames frame each.left h.left;
  right = stands_as-push _ distance base start before.right after.right frames frame each.right h.right;
}

-- whether a stream took a frame or not, it can go back to its earlier state
pub goes_back : {T E : Type 0} (result : Result T E) (frame : List ℕ) (before after : StreamState) → OnOk result (IsSameStream before after) → OnOk result (StepsWith (segment_of frame) before after)
    → OnOk result (after.taken ≡ before.taken ++ taken_of (next_of before) (fields_of frame) ∷ []) → OnErr result (after ≡ before) → GoesBack before after
goes_back (Ok x) frame before after same step taken err =
    let segments : take (length before.taken) after.taken ≡ before.taken = ap (take (length before.taken)) taken ∙ take-append_seam before.taken (taken_of (next_of before) (fields_of frame) ∷ []) in
    let octets : take (length before.octets) after.octets ≡ before.octets = ap (take (length before.octets)) step.stream.joined ∙ take-append_seam before.octets step.stream.more in
    λ i. record { policy = same.policy i; base = same.base i; start = same.start i; taken = segments i; octets = octets i; fin = before.fin; ended = before.ended }
goes_back (Err e) frame before after same step taken err =
    let P : StreamState → Type 0 = λ stream. GoesBack before stream in
    subst P (sym err) (λ i. record before { taken = take-length before.taken i; octets = take-length before.octets i })

-- two streams behind `distance` routers agree, whatever their policies
pub two_agree : (hops distance base start : ℕ) (places : List ℤ) (frames : List (List ℕ)) (a b : StreamState) → distance ≤ hops → TellOneStream hops base places frames
    → ComeInTime places distance base start frames a → ComeInTime places distance base start frames b → StreamsAgree a b
two_agree hops distance base start places frames a b near tells one other =
    let era = agrees hops base places frames tells in
    let schedule = places_from 0 frames in
    era.agree (record { distance = distance }) (record { distance = distance }) start schedule schedule a.octets b.octets a.ended b.ended near near one other

-- The inward packets of an era stay near Acked before the record of each, Acked never goes back,
-- and monitors are never behind acknowledgments.
use Rattle.std.proofs.Common.{◌≡◌, ⊎_elim, ℕ, zero, suc, ◌+◌, ◌<◌, ◌≤◌, Bool, true, false, ◌&&◌, Some, List, [], ◌∷◌, ◌++◌, length, map, refl, ap, sym, subst, arith, length-append, ℤ, slice_get, if◌then◌else◌, ◌⊎◌, inl, inr, ◌^◌, not, Option, None, ◌∙◌, append-nil, All, pos, ◌≤ℤ◌}
use Rattle.std.proofs.lemmas.List.{length-map}
use Rattle.std.proofs.lemmas.Option.{slice_get_within}
use Rattle.era_state.specs.Quantities.{acked}
use Rattle.receiver_model.specs.Delivery.{Receiver, beginning, Run, IsTimely, DeliversInTime}
use Rattle.receiver_model.specs.Monitors.{Covers, CoversEach}
use Rattle.receiver_model.proofs.Streams.{run_more}
use Rattle.era_agreement.specs.SentPackets.{Sent, is_era, inward_packets, written_in, place_of, inward_places, aside_packets, inward_acks, written_as, segments_in, placed_at}
use Rattle.era_agreement.specs.Agreement.{SomeHasRead, read_to, IsSilentPacket}
use Rattle.era_agreement.specs.AgreementLaws.{AcknowledgmentsAreBehind, EmittedStaysNearAcks}
use Rattle.std.proofs.lemmas.List.Elements.{All-head, All-tail}
use Rattle.wire_base.specs.Tcp as tcp
use Rattle.wire_base.specs.Segments.{Segment, Written, segment_of, written_of}
use Rattle.era_state.specs.Offsets.{off}
use Rattle.era_state.specs.QuantityLaws.{AckedNeverFalls}
use Rattle.era_state.specs.Emission.{AreEmitted}
use Rattle.era_state.specs.EmissionLaws.{WrittenRemains, InwardsAcknowledgeNothing, EmittedJoins, EmittedIsNear, HasNoOtherBase}
use Rattle.receiver_model.proofs.Places.{EachAck, each_ack_append, each_ack_long, each_ack_at, IsNearAck, StaysNear}
use Rattle.era_state.proofs.SameNumbers.{pushed}
use Rattle.era_agreement.proofs.Streams.{other_before, inward_emitted, all_before, all_behind}

-- Monitors: what was read of earlier packets is read of more.

there_before : {A : Type 0} → (xs ys : List A) (k : ℕ) (x : A) → k < length xs → slice_get (xs ++ ys) k ≡ Some x → slice_get xs k ≡ Some x
there_before [] ys k x within e = absurd (omega arith)
there_before (y ∷ xs) ys zero x within e = e
there_before (y ∷ xs) ys (suc k) x within e = there_before xs ys k x (omega arith) e

timely_more :
    (places later : List ℤ) (distance base start : ℕ) (frames more : List (List ℕ)) (before : Receiver) (schedule : List ℕ) (after : Receiver)
    (run : Run distance base start frames before schedule after) → length places ≡ length frames →
    IsTimely places distance base start frames before schedule after run →
    IsTimely (places ++ later) distance base start (frames ++ more) before schedule after
    (run_more distance base start frames more before schedule after run)
timely_more places later distance base start frames more before [] after run one_each timely = tt
timely_more places later distance base start frames more before (number ∷ schedule) after run one_each timely = (
  λ frame s place stands says placed.
      let within : number < length frames = slice_get_within frames number run.1.frame run.1.stands in
      let has : number < length places = omega (arith, one_each, within) in
      timely.0 frame s place (there_before frames more number frame within stands) says (there_before places later number place has placed),
  timely_more places later distance base start frames more run.0 schedule after run.2 one_each timely.1,
)

delivers_more :
    (places later : List ℤ) (distance base start : ℕ) (frames more : List (List ℕ)) (schedule stream : List ℕ) (ended : Bool) →
    length places ≡ length frames → DeliversInTime places distance base start frames schedule stream ended →
    DeliversInTime (places ++ later) distance base start (frames ++ more) schedule stream ended
delivers_more places later distance base start frames more schedule stream ended one_each h =
    let d = h.delivery in
    let run = run_more distance base start frames more beginning schedule d.last d.run in
    record {
      delivery = record { last = d.last; run = run; stream_is = d.stream_is; ended_is = d.ended_is };
      timely = timely_more places later distance base start frames more beginning schedule d.last d.run one_each h.timely;
    }

-- so what covers each of more covers each of those
covers_before :
    (hops base start : ℕ) (places later : List ℤ) (frames more : List (List ℕ)) (seen : List ℕ) (ended : Bool) →
    length places ≡ length frames → CoversEach hops base (places ++ later) (frames ++ more) start seen ended →
    CoversEach hops base places frames start seen ended
covers_before hops base start places later frames more seen ended one_each covers other schedule stream its_end near h =
    covers other schedule stream its_end near (delivers_more places later other.distance base start frames more schedule stream its_end one_each h)

-- the covered stream is not longer
reads_further :
    (start : ℕ) (seen stream : List ℕ) (seen_ended ended : Bool) → Covers seen seen_ended stream ended →
    read_to start stream ended ≤ read_to start seen seen_ended
reads_further start seen stream seen_ended true c =
    let same : length stream ≡ length seen = ap length (c.whole refl) in
    subst (λ b. start + length stream + 1 ≤ read_to start seen b) (sym (c.end refl)) (omega (arith, same))
reads_further start seen stream seen_ended false c =
    let long = length-append stream c.prefix.0 in
    let whole = ap length c.prefix.1 in
    omega (arith, long, whole)

one_place_each : (era base : ℕ) (sent : List Sent) → length (inward_places era base sent) ≡ length (inward_packets era sent)
one_place_each era base [] = refl
one_place_each era base (s ∷ older) = by (one_place_each era base older) (is_era era s.era && s.inward)
  where
    f : List ℕ → ℤ
    f = place_of base (acked base (written_in era older))

    zs : List ℤ
    zs = inward_places era base older

    ps : List (List ℕ)
    ps = inward_packets era older

    by :
        length zs ≡ length ps → (goes : Bool) →
        length (zs ++ (if goes then map f s.packets else [])) ≡ length (ps ++ (if goes then s.packets else []))
    by same true =
        let left = length-append zs (map f s.packets) in
        let right = length-append ps s.packets in
        let each = length-map s.packets f in
        omega (arith, same, left, right, each)
    by same false =
        let left = length-append zs [] in
        let right = length-append ps [] in
        omega (arith, same, left, right)

pub are_behind : AcknowledgmentsAreBehind
are_behind hops era base start [] seen ended covers read = omega arith
are_behind hops era base start (s ∷ older) seen ended covers read =
    ⊎_elim (same (are_behind hops era base start older seen ended before read.0)) more read.1
  where
    zs : List ℤ
    zs = inward_places era base older

    ps : List (List ℕ)
    ps = inward_packets era older

    now : ℕ
    now = acked base (written_in era (s ∷ older))

    before : CoversEach hops base zs ps start seen ended
    before = covers_before hops base start zs _ ps _ seen ended (one_place_each era base older) covers

    same : acked base (written_in era older) ≤ read_to start seen ended → now ≡ acked base (written_in era older) → now ≤ read_to start seen ended
    same least is = omega (arith, is, least)

    more : SomeHasRead hops era base start older now → now ≤ read_to start seen ended
    more r =
        let further = reads_further start seen r.stream ended r.ended (before r.member r.schedule r.stream r.ended r.near r.delivers) in
        let reads = r.reads in
        omega (arith, further, reads)

-- The packets of an era and their acks.

-- the laws of eras that are used
pub record AckLaws : Type 0 where
  pub near : EmittedIsNear
  pub joins : EmittedJoins
  pub same : InwardsAcknowledgeNothing
  pub remains : WrittenRemains
  pub grows : AckedNeverFalls

silent_is_near : (ack : ℕ) (place : ℤ) (s : Segment) → s.octets ≡ [] → tcp.has_fin s.flags ≡ false → IsNearAck ack place s
silent_is_near ack place s bare no_fin = record {
  octets = λ index within. absurd (let none = ap length bare in omega (arith, none, within));
  fin = λ has. absurd (cc (has, no_fin));
}

-- packets without octets and FIN
silent_stay :
    (base a : ℕ) (ps : List (List ℕ)) → All IsSilentPacket ps → EachAck StaysNear (map (λ _. a) ps) (map (place_of base a) ps) ps
silent_stay base a [] h = tt
silent_stay base a (p ∷ ps) h = (
  (λ s says. let quiet = All-head IsSilentPacket p ps h s says in silent_is_near a (place_of base a p) s quiet.0 quiet.2),
  silent_stay base a ps (All-tail IsSilentPacket p ps h),
)

-- the last of emitted segments
near_step :
    AckLaws → (base a : ℕ) (ws : List Written) (s : Segment) → a ≡ acked base ws →
    HasNoOtherBase base (ws ++ written_of true s ∷ []) → AreEmitted [] (ws ++ written_of true s ∷ []) → IsNearAck a (off base a s.sequence) s
near_step laws base a ws s same only emitted =
    let parts = (laws.joins [] ws (written_of true s ∷ [])).0 emitted in
    let near = laws.near base ws (written_of true s) only parts.0 (inward_emitted ws s parts.1.0) in
    subst (λ n. IsNearAck n (off base n s.sequence) s) (sym same) (record { octets = near.octets; fin = λ has. near.fin has })

-- the packets of one record that went inwards; `a` is Acked before it
inward_stay :
    AckLaws → (base a : ℕ) (ws : List Written) (ps : List (List ℕ)) → a ≡ acked base ws →
    HasNoOtherBase base (ws ++ segments_in true ps) → AreEmitted [] (ws ++ segments_in true ps) →
    EachAck StaysNear (map (λ _. a) ps) (map (place_of base a) ps) ps
inward_stay laws base a ws [] same only emitted = tt
inward_stay laws base a ws (p ∷ ps) same only emitted = by (λ vs. inward_stay laws base a vs ps) (segment_of p) refl only emitted
  where
    Holds : List Written → Type 0 → Type 0
    Holds vs T = HasNoOtherBase base vs → AreEmitted [] vs → T

    Rest : Type 0
    Rest = (vs : List Written) → a ≡ acked base vs → Holds (vs ++ segments_in true ps) (EachAck StaysNear (map (λ _. a) ps) (map (place_of base a) ps) ps)

    by :
        Rest → (o : Option Segment) → segment_of p ≡ o →
        Holds (ws ++ (written_as true o ++ segments_in true ps))
        (EachAck StaysNear (a ∷ map (λ _. a) ps) (placed_at base a o ∷ map (place_of base a) ps) (p ∷ ps))
    by go None is only emitted = ((λ s says. absurd (cc (is, says))), go ws same only emitted)
    by go (Some s) is only emitted =
        let w : Written = written_of true s in
        let vs : List Written = segments_in true ps in
        let on : HasNoOtherBase base ((ws ++ w ∷ []) ++ vs) = subst (HasNoOtherBase base) (pushed ws w vs) only in
        let all : AreEmitted [] ((ws ++ w ∷ []) ++ vs) = subst (AreEmitted []) (pushed ws w vs) emitted in
        let first : AreEmitted [] (ws ++ w ∷ []) = ((laws.joins [] (ws ++ w ∷ []) vs).0 all).0 in
        let here : IsNearAck a (off base a s.sequence) s = near_step laws base a ws s same (other_before laws.remains base (ws ++ w ∷ []) vs on) first in (
          (λ r says. let e : s ≡ r = cc (is, says) in subst (IsNearAck a (off base a s.sequence)) e here),
          go (ws ++ w ∷ []) (same ∙ sym (laws.same base ws w refl)) on all,
        )

-- all records
all_stay :
    AckLaws → (era base : ℕ) (sent : List Sent) →
    HasNoOtherBase base (written_in era sent) → AreEmitted [] (written_in era sent) → All IsSilentPacket (aside_packets era sent) →
    EachAck StaysNear (inward_acks era base sent) (inward_places era base sent) (inward_packets era sent)
all_stay laws era base [] only emitted silent = tt
all_stay laws era base (s ∷ older) only emitted silent =
    by (all_stay laws era base older) (is_era era s.era) s.inward s.written only emitted silent
  where
    ws : List Written
    ws = written_in era older

    a : ℕ
    a = acked base ws

    beside : List (List ℕ)
    beside = aside_packets era older

    -- these, if they went inwards in the era
    these : {A : Type 0} → Bool → List A → List A
    these goes xs = if goes then xs else []

    -- of the packets so far, and these
    Stay : List ℕ → List ℤ → List (List ℕ) → Type 0
    Stay bs ys qs = EachAck StaysNear (inward_acks era base older ++ bs) (inward_places era base older ++ ys) (inward_packets era older ++ qs)

    Holds : (vs : List Written) (aside : List (List ℕ)) → Type 0 → Type 0
    Holds vs aside T = HasNoOtherBase base (ws ++ vs) → AreEmitted [] (ws ++ vs) → All IsSilentPacket (beside ++ aside) → T

    Rest : Type 0
    Rest =
        HasNoOtherBase base ws → AreEmitted [] ws → All IsSilentPacket beside →
        EachAck StaysNear (inward_acks era base older) (inward_places era base older) (inward_packets era older)

    joined : Rest → (vs : List Written) (bs : List ℕ) (ys : List ℤ) (qs aside : List (List ℕ)) → EachAck StaysNear bs ys qs → Holds vs aside (Stay bs ys qs)
    joined go vs bs ys qs aside now only emitted silent =
        let quiet = all_before IsSilentPacket beside aside silent in
        let before = go (other_before laws.remains base ws vs only) ((laws.joins [] ws vs).0 emitted).0 quiet in
        each_ack_append StaysNear (inward_acks era base older) (inward_places era base older) (inward_packets era older) bs ys qs before now

    by :
        Rest → (named inward written : Bool) →
        Holds (these (named && written) (segments_in inward s.packets)) (these (named && inward && not written) s.packets)
        (Stay (these (named && inward) (map (λ _. a) s.packets)) (these (named && inward) (map (place_of base a) s.packets))
        (these (named && inward) s.packets))
    by go false inward written = joined go [] [] [] [] [] tt
    by go true false false = joined go [] [] [] [] [] tt
    by go true false true = joined go (segments_in false s.packets) [] [] [] [] tt
    by go true true false = λ only emitted silent.
        joined go [] (map (λ _. a) s.packets) (map (place_of base a) s.packets) s.packets s.packets
        (silent_stay base a s.packets (all_behind IsSilentPacket beside s.packets silent)) only emitted silent
    by go true true true = λ only emitted silent.
        joined go (segments_in true s.packets) (map (λ _. a) s.packets) (map (place_of base a) s.packets) s.packets []
        (inward_stay laws base a ws s.packets refl only emitted) only emitted silent

-- acks never go back, and none is past this offset
record GoOn (limit : ℕ) (acks : List ℕ) : Type 0 where
  below : (number one : ℕ) → slice_get acks number ≡ Some one → one ≤ limit
  on : (number later one other : ℕ) → number ≤ later → slice_get acks number ≡ Some one → slice_get acks later ≡ Some other → one ≤ other

constant : (a : ℕ) (ps : List (List ℕ)) (k x : ℕ) → slice_get (map (λ _. a) ps) k ≡ Some x → x ≡ a
constant a [] k x e = absurd (cc)
constant a (p ∷ ps) zero x e = cc e
constant a (p ∷ ps) (suc k) x e = constant a ps k x e

in_parts :
    (a : ℕ) (ws : List ℕ) (ps : List (List ℕ)) (k x : ℕ) → slice_get (ws ++ map (λ _. a) ps) k ≡ Some x →
    (slice_get ws k ≡ Some x) ⊎ ((length ws ≤ k) × (x ≡ a))
in_parts a [] ps k x e = inr (omega arith, constant a ps k x e)
in_parts a (w ∷ ws) ps zero x e = inl e
in_parts a (w ∷ ws) ps (suc k) x e = ⊎_elim inl (λ h. let past = h.0 in inr (omega (arith, past), h.1)) (in_parts a ws ps k x e)

-- after acks at the limit so far
go_on_more :
    (a limit : ℕ) (ws : List ℕ) (ps : List (List ℕ)) → a ≤ limit → GoOn a ws → GoOn limit (ws ++ map (λ _. a) ps)
go_on_more a limit ws ps grows h = record { below = below; on = on }
  where
    below : (number one : ℕ) → slice_get (ws ++ map (λ _. a) ps) number ≡ Some one → one ≤ limit
    below number one e =
        ⊎_elim (λ old. let most = h.below number one old in omega (arith, most)) (λ new. let is = new.1 in omega (arith, is))
        (in_parts a ws ps number one e)

    on :
        (number later one other : ℕ) → number ≤ later →
        slice_get (ws ++ map (λ _. a) ps) number ≡ Some one → slice_get (ws ++ map (λ _. a) ps) later ≡ Some other → one ≤ other
    on number later one other order e f = ⊎_elim old new (in_parts a ws ps later other f)
      where
        old : slice_get ws later ≡ Some other → one ≤ other
        old last =
            let within = slice_get_within ws later other last in
            ⊎_elim (λ first. h.on number later one other order first last) (λ first. let past = first.0 in absurd (omega (arith, past, within)))
            (in_parts a ws ps number one e)

        new : (length ws ≤ later) × (other ≡ a) → one ≤ other
        new last =
            let is = last.1 in
            ⊎_elim (λ first. let most = h.below number one first in omega (arith, most, is)) (λ first. let too = first.1 in omega (arith, is, too))
            (in_parts a ws ps number one e)

acked_grows : AckLaws → (base : ℕ) (ws vs : List Written) → acked base ws ≤ acked base (ws ++ vs)
acked_grows laws base ws [] = subst (λ us. acked base ws ≤ acked base us) (sym (append-nil ws)) (omega arith)
acked_grows laws base ws (v ∷ vs) =
    let one = laws.grows base ws v in
    let rest = acked_grows laws base (ws ++ v ∷ []) vs in
    subst (λ us. acked base ws ≤ acked base us) (sym (pushed ws v vs)) (omega (arith, one, rest))

acks_go_on : AckLaws → (era base : ℕ) (sent : List Sent) → GoOn (acked base (written_in era sent)) (inward_acks era base sent)
acks_go_on laws era base [] = record { below = λ number one e. absurd (cc); on = λ number later one other order e f. absurd (cc) }
acks_go_on laws era base (s ∷ older) =
    by (acks_go_on laws era base older) (if is_era era s.era && s.written then segments_in s.inward s.packets else [])
    (is_era era s.era && s.inward)
  where
    ws : List Written
    ws = written_in era older

    before : List ℕ
    before = inward_acks era base older

    a : ℕ
    a = acked base ws

    by : GoOn a before → (vs : List Written) (goes : Bool) → GoOn (acked base (ws ++ vs)) (before ++ (if goes then map (λ _. a) s.packets else []))
    by go vs true = go_on_more a (acked base (ws ++ vs)) before s.packets (acked_grows laws base ws vs) go
    by go vs false = go_on_more a (acked base (ws ++ vs)) before [] (acked_grows laws base ws vs) go

pub stays_near_acks : AckLaws → EmittedStaysNearAcks
stays_near_acks laws hops era base sent h based = record {
  one_each = each_ack_long StaysNear ws zs ps each;
  go_on = (acks_go_on laws era base sent).on;
  octets = λ offset octet ack c has.
      let stays = each_ack_at StaysNear ws zs ps c.number ack c.place c.frame each has c.placed c.stands c.segment c.says in
      let within = slice_get_within c.segment.octets c.index octet c.has in
      subst (λ z. (pos ack ≤ℤ z) × (z ≤ℤ pos (ack + 2 ^ 30))) (sym c.there) (stays.octets c.index within);
  fins = λ offset ack c has.
      let stays = each_ack_at StaysNear ws zs ps c.number ack c.place c.frame each has c.placed c.stands c.segment c.says in
      subst (λ z. (pos 0 ≤ℤ z) × (z ≤ℤ pos (ack + 2 ^ 30))) (sym c.there) (stays.fin c.has);
}
  where
    ws : List ℕ
    ws = inward_acks era base sent

    zs : List ℤ
    zs = inward_places era base sent

    ps : List (List ℕ)
    ps = inward_packets era sent

    each : EachAck StaysNear ws zs ps
    each = all_stay laws era base sent (λ number e. cc (based, e)) h.emitted h.silent

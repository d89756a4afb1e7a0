-- Emitted segments describe one stream, so all receivers agree on it and read parts of it, and a
-- monitor misses nothing.
use Rattle.std.proofs.Common.{◌≡◌, ◌⊎◌, ℕ, ◌+◌, ◌%◌, ◌^◌, List, [], ◌∷◌, ◌++◌, length, Some, None, true, false, refl, ap, sym, ◌∙◌, arith, ⊎_elim, Option, Bool, ◌&&◌, not, map, subst, append-nil, ℤ, pos, ◌+ℤ◌, IsTrue, slice_get, All, if◌then◌else◌, IfSome, ◌<ℤ◌}
use Rattle.std.proofs.lemmas.Option.{slice_get_past}
use Rattle.std.proofs.lemmas.List.Elements.{All-nil, All-cons, All-head, All-tail, All-append}
use Rattle.wire_base.specs.Tcp as tcp
use Rattle.wire_base.specs.Segments.{Segment, Written, written_of, segment_of}
use Rattle.era_state.specs.Offsets.{off, OffsetsAreRead}
use Rattle.era_state.specs.Quantities.{acked, first, end_of, base_of}
use Rattle.era_state.specs.Emission.{IsOutward, IsEmitted, AreEmitted, IsBare, IsKeptFrame}
use Rattle.era_state.specs.EmissionLaws.{WrittenRemains, InwardsAcknowledgeNothing, EmittedJoins, EmittedIsTold, HasNoOtherBase, EmittedOctetsArePlaces, OctetsArePlaces}
use Rattle.receiver_model.specs.Offsets.{IsPlace}
use Rattle.receiver_model.specs.FamilyAgreement.{OctetAt, FinAt, HasSynBefore, TellOneStream, MembersAgree}
use Rattle.receiver_model.specs.Monitors.{MonitorsMissNothing}
use Rattle.receiver_model.specs.StreamParts.{MembersReadParts}
use Rattle.receiver_model.proofs.Places.{Each, each_append, each_map, each_at, each_long}
use Rattle.wire_base.specs.Plain.{Plain}
use Rattle.era_state.proofs.SameNumbers.{pushed}
use Rattle.era_agreement.specs.SentPackets.{Sent, is_era, inward_packets, aside_packets, written_as, segments_in, written_in, placed_at, place_of, inward_places, inward_acks}
use Rattle.era_agreement.specs.Agreement.{IsSilentPacket, EraIsSound}
use Rattle.era_agreement.specs.AgreementLaws.{EmittedTellsOneStream, EmittedIsSilent, EmittedAgrees, EmittedStaysNearAcks, EmittedMissesNothing, EmittedIsOfOneStream, EmittedReadsOneStream}

-- What is known of an inward segment and its place, whatever is written later.

-- the laws of eras that are used
pub record EraLaws : Type 0 where
  pub read : OffsetsAreRead
  pub same : InwardsAcknowledgeNothing
  pub remains : WrittenRemains
  pub joins : EmittedJoins
  pub told : EmittedIsTold

-- its octets are the first at their offsets, its FIN is the end, and its SYN has the number before
-- the base
pub record IsTold (base : ℕ) (ws : List Written) (place : ℤ) (s : Segment) : Type 0 where
  pub placed : IsPlace base s.sequence place
  pub octets : (index octet : ℕ) → slice_get s.octets index ≡ Some octet → first base ws (place +ℤ pos index) ≡ Some octet
  pub fin : IsTrue (tcp.has_fin s.flags) → end_of base ws ≡ Some (place +ℤ pos (length s.octets))
  pub syn : IsTrue (tcp.has_syn s.flags) → (s.sequence + 1) % 2 ^ 32 ≡ base % 2 ^ 32

pub told_still : EraLaws → (base : ℕ) (ws later : List Written) (place : ℤ) (s : Segment) → IsTold base ws place s → IsTold base (ws ++ later) place s
told_still laws base ws later place s h = record {
  placed = h.placed;
  octets = λ index octet has. (laws.remains base ws later).octet_is (place +ℤ pos index) octet (h.octets index octet has);
  fin = λ has. (laws.remains base ws later).end_is (place +ℤ pos (length s.octets)) (h.fin has);
  syn = h.syn;
}

pub is_place : EraLaws → (base at number : ℕ) → IsPlace base number (off base at number)
is_place laws base at number = let is = (laws.read base at number (off base at number)).1 refl in record { turns = is.turns; is = is.place }

-- a segment without octets, SYN and FIN
pub silent_is_told : EraLaws → (base at : ℕ) (ws : List Written) (s : Segment) → s.octets ≡ [] → tcp.has_syn s.flags ≡ false → tcp.has_fin s.flags ≡ false → IsTold base ws (off base at s.sequence) s
silent_is_told laws base at ws s bare no_syn no_fin = record {
  placed = is_place laws base at s.sequence;
  octets = λ index octet has.
      let none : slice_get s.octets index ≡ None = ap (λ (os : List ℕ). slice_get os index) bare ∙ slice_get_past [] index (omega arith) in
      absurd (cc (has, none));
  fin = λ has. absurd (cc (has, no_fin));
  syn = λ has. absurd (cc (has, no_syn));
}

pub other_before : WrittenRemains → (base : ℕ) (ws later : List Written) → HasNoOtherBase base (ws ++ later) → HasNoOtherBase base ws
other_before remains base ws later only number e = only number ((remains base ws later).base_is number e)

-- an inward segment is emitted, since an outbound one is not inward
pub inward_emitted : (ws : List Written) (s : Segment) → IsOutward (written_of true s) ⊎ IsEmitted ws (written_of true s) → IsEmitted ws (written_of true s)
inward_emitted ws s h = ⊎_elim (λ (o : IsOutward (written_of true s)). absurd (cc o.outward)) (λ e. e) h

-- the last of emitted segments
pub step : EraLaws → (base : ℕ) (ws : List Written) (s : Segment) → HasNoOtherBase base (ws ++ written_of true s ∷ []) → AreEmitted [] (ws ++ written_of true s ∷ []) → IsTold base (ws ++ written_of true s ∷ []) (off base (acked base ws) s.sequence) s
step laws base ws s only emitted =
    let parts = (laws.joins [] ws (written_of true s ∷ [])).0 emitted in
    let told = laws.told base ws (written_of true s) only parts.0 (inward_emitted ws s parts.1.0) in
    record {
      placed = is_place laws base (acked base ws) s.sequence;
      octets = told.octets;
      fin = λ has. told.fin has;
      syn = λ has. let is = told.syn has in omega (arith, is);
    }

-- the packet's segment, if it has one, satisfies `IsTold`
abbrev pub Told : ℕ → List Written → ℤ → List ℕ → Type 0
Told base ws place p = (s : Segment) → segment_of p ≡ Some s → IsTold base ws place s

each_still : EraLaws → (base : ℕ) (ws vs : List Written) (zs : List ℤ) (ps : List (List ℕ)) → Each (Told base ws) zs ps → Each (Told base (ws ++ vs)) zs ps
each_still laws base ws vs zs ps h = each_map (Told base ws) (Told base (ws ++ vs)) zs ps (λ z p told s is. told_still laws base ws vs z s (told s is)) h

-- the packets of one record that went inwards; `a` is Acked before it
inward_told : EraLaws → (base a : ℕ) (ws : List Written) (ps : List (List ℕ)) → a ≡ acked base ws → HasNoOtherBase base (ws ++ segments_in true ps) → AreEmitted [] (ws ++ segments_in true ps) → Each (Told base (ws ++ segments_in true ps)) (map (place_of base a) ps) ps
inward_told laws base a ws [] same only emitted = tt
inward_told laws base a ws (p ∷ ps) same only emitted = by (λ vs. inward_told laws base a vs ps) (segment_of p) refl only emitted
  where
    Rest : Type 0
    Rest = (vs : List Written) → a ≡ acked base vs → HasNoOtherBase base (vs ++ segments_in true ps) → AreEmitted [] (vs ++ segments_in true ps) → Each (Told base (vs ++ segments_in true ps)) (map (place_of base a) ps) ps

    by : Rest → (o : Option Segment) → segment_of p ≡ o → HasNoOtherBase base (ws ++ (written_as true o ++ segments_in true ps)) → AreEmitted [] (ws ++ (written_as true o ++ segments_in true ps)) → Each (Told base (ws ++ (written_as true o ++ segments_in true ps))) (placed_at base a o ∷ map (place_of base a) ps) (p ∷ ps)
    by go None is only emitted = ((λ s says. absurd (cc (is, says))), go ws same only emitted)
    by go (Some s) is only emitted =
        let w : Written = written_of true s in
        let vs : List Written = segments_in true ps in
        let on : HasNoOtherBase base ((ws ++ w ∷ []) ++ vs) = subst (HasNoOtherBase base) (pushed ws w vs) only in
        let all : AreEmitted [] ((ws ++ w ∷ []) ++ vs) = subst (AreEmitted []) (pushed ws w vs) emitted in
        let first : AreEmitted [] (ws ++ w ∷ []) = ((laws.joins [] (ws ++ w ∷ []) vs).0 all).0 in
        let told : IsTold base (ws ++ w ∷ []) (off base a s.sequence) s = subst (λ n. IsTold base (ws ++ w ∷ []) (off base n s.sequence) s) (sym same) (step laws base ws s (other_before laws.remains base (ws ++ w ∷ []) vs on) first) in
        let here : IsTold base ((ws ++ w ∷ []) ++ vs) (off base a s.sequence) s = told_still laws base (ws ++ w ∷ []) vs (off base a s.sequence) s told in
        let rest = go (ws ++ w ∷ []) (same ∙ sym (laws.same base ws w refl)) on all in
        subst (λ us. Each (Told base us) (off base a s.sequence ∷ map (place_of base a) ps) (p ∷ ps)) (sym (pushed ws w vs))
        ((λ r says. let e : s ≡ r = cc (is, says) in subst (IsTold base ((ws ++ w ∷ []) ++ vs) (off base a s.sequence)) e here), rest)

-- packets without octets, SYN and FIN satisfy `Told`
silent_told : EraLaws → (base a : ℕ) (ws : List Written) (ps : List (List ℕ)) → All IsSilentPacket ps → Each (Told base ws) (map (place_of base a) ps) ps
silent_told laws base a ws [] h = tt
silent_told laws base a ws (p ∷ ps) h = (here, silent_told laws base a ws ps (All-tail IsSilentPacket p ps h))
  where
    here : Told base ws (place_of base a p) p
    here s says =
        let quiet = All-head IsSilentPacket p ps h s says in
        subst (λ z. IsTold base ws z s) (sym (ap (placed_at base a) says)) (silent_is_told laws base a ws s quiet.0 quiet.1 quiet.2)

pub all_before : (P : List ℕ → Type 0) (xs ys : List (List ℕ)) → All P (xs ++ ys) → All P xs
all_before P [] ys h = All-nil P
all_before P (x ∷ xs) ys h = All-cons P x xs (All-head P x (xs ++ ys) h) (all_before P xs ys (All-tail P x (xs ++ ys) h))

pub all_behind : (P : List ℕ → Type 0) (xs ys : List (List ℕ)) → All P (xs ++ ys) → All P ys
all_behind P [] ys h = h
all_behind P (x ∷ xs) ys h = all_behind P xs ys (All-tail P x (xs ++ ys) h)

-- all records
pub all_told : EraLaws → (era base : ℕ) (sent : List Sent) → HasNoOtherBase base (written_in era sent) → AreEmitted [] (written_in era sent) → All IsSilentPacket (aside_packets era sent) → Each (Told base (written_in era sent)) (inward_places era base sent) (inward_packets era sent)
all_told laws era base [] only emitted silent = tt
all_told laws era base (s ∷ older) only emitted silent = by (all_told laws era base older) (is_era era s.era) s.inward s.written only emitted silent
  where
    ws : List Written
    ws = written_in era older

    zs : List ℤ
    zs = inward_places era base older

    ps : List (List ℕ)
    ps = inward_packets era older

    beside : List (List ℕ)
    beside = aside_packets era older

    new : Bool → Bool → Bool → List Written
    new named inward written = if named && written then segments_in inward s.packets else []

    Rest : Type 0
    Rest = HasNoOtherBase base ws → AreEmitted [] ws → All IsSilentPacket beside → Each (Told base ws) zs ps

    -- those before, and these
    joined : Rest → (vs : List Written) (ys : List ℤ) (qs aside : List (List ℕ)) → HasNoOtherBase base (ws ++ vs) → AreEmitted [] (ws ++ vs) → All IsSilentPacket (beside ++ aside) → Each (Told base (ws ++ vs)) ys qs → Each (Told base (ws ++ vs)) (zs ++ ys) (ps ++ qs)
    joined go vs ys qs aside only emitted silent now =
        let before = go (other_before laws.remains base ws vs only) ((laws.joins [] ws vs).0 emitted).0 (all_before IsSilentPacket beside aside silent) in
        each_append (Told base (ws ++ vs)) zs ps ys qs (each_still laws base ws vs zs ps before) now

    by : Rest → (named inward written : Bool) → HasNoOtherBase base (ws ++ new named inward written) → AreEmitted [] (ws ++ new named inward written) → All IsSilentPacket (beside ++ (if named && inward && not written then s.packets else [])) → Each (Told base (ws ++ new named inward written)) (zs ++ (if named && inward then map (place_of base (acked base ws)) s.packets else [])) (ps ++ (if named && inward then s.packets else []))
    by go false inward written only emitted silent = joined go [] [] [] [] only emitted silent tt
    by go true false false only emitted silent = joined go [] [] [] [] only emitted silent tt
    by go true false true only emitted silent = joined go (segments_in false s.packets) [] [] [] only emitted silent tt
    by go true true false only emitted silent =
        joined go [] (map (place_of base (acked base ws)) s.packets) s.packets s.packets only emitted silent
        (silent_told laws base (acked base ws) (ws ++ []) s.packets (all_behind IsSilentPacket beside s.packets silent))
    by go true true true only emitted silent =
        joined go (segments_in true s.packets) (map (place_of base (acked base ws)) s.packets) s.packets [] only emitted silent
        (inward_told laws base (acked base ws) ws s.packets refl only emitted)

if_some : (P : Segment → Type 0) (o : Option Segment) → ((s : Segment) → o ≡ Some s → P s) → IfSome o P
if_some P None h = tt
if_some P (Some s) h = h s refl

all_syns : (base : ℕ) (ws : List Written) (zs : List ℤ) (ps : List (List ℕ)) → Each (Told base ws) zs ps → All (λ p. HasSynBefore base p) ps
all_syns base ws [] [] h = All-nil (λ p. HasSynBefore base p)
all_syns base ws [] (q ∷ ps) h = absurd h
all_syns base ws (y ∷ zs) [] h = absurd h
all_syns base ws (y ∷ zs) (q ∷ ps) h =
    All-cons (λ p. HasSynBefore base p) q ps
    (if_some (λ s. IsTrue (tcp.has_syn s.flags) → (s.sequence + 1) % 2 ^ 32 ≡ base % 2 ^ 32) (segment_of q) (λ s says. (h.0 s says).syn))
    (all_syns base ws zs ps h.1)

-- an octet is the first at its offset
pub octet_first : (base : ℕ) (ws : List Written) (zs : List ℤ) (ps : List (List ℕ)) (o : ℤ) (x : ℕ) → Each (Told base ws) zs ps → OctetAt zs ps o x → first base ws o ≡ Some x
octet_first base ws zs ps o x h c =
    let told : IsTold base ws c.place c.segment = each_at (Told base ws) zs ps c.number c.place c.frame h c.placed c.stands c.segment c.says in
    ap (first base ws) c.there ∙ told.octets c.index x c.has

-- a FIN is the end
pub fin_end : (base : ℕ) (ws : List Written) (zs : List ℤ) (ps : List (List ℕ)) (o : ℤ) → Each (Told base ws) zs ps → FinAt zs ps o → end_of base ws ≡ Some o
fin_end base ws zs ps o h c =
    let told : IsTold base ws c.place c.segment = each_at (Told base ws) zs ps c.number c.place c.frame h c.placed c.stands c.segment c.says in
    told.fin c.has ∙ ap (λ z. Some z) (sym c.there)

-- packets at these offsets describe one stream, if each octet is before its end
pub one_stream :
    (hops base : ℕ) (ws : List Written) (zs : List ℤ) (ps : List (List ℕ)) → All (λ p. Plain hops p) ps → Each (Told base ws) zs ps →
    ((o : ℤ) (x : ℕ) (end : ℤ) → first base ws o ≡ Some x → end_of base ws ≡ Some end → o <ℤ end) → TellOneStream hops base zs ps
one_stream hops base ws zs ps plain each ends = record {
  plain = plain;
  syns = all_syns base ws zs ps each;
  placed = record {
    one_each = each_long (Told base ws) zs ps each;
    placed = λ number frame s place stands says placed. (each_at (Told base ws) zs ps number place frame each placed stands s says).placed;
  };
  one_octet = λ o x y a b. let e = octet_first base ws zs ps o x each a in let f = octet_first base ws zs ps o y each b in cc (e, f);
  one_end = λ p q a b. let e = fin_end base ws zs ps p each a in let f = fin_end base ws zs ps q each b in cc (e, f);
  none_past = λ o x p a b. ends o x p (octet_first base ws zs ps o x each a) (fin_end base ws zs ps p each b);
}

pub tells_one_stream : EraLaws → EmittedOctetsArePlaces → EmittedTellsOneStream
tells_one_stream laws placed hops era base sent h based = record {
  stream = one_stream hops base ws zs ps h.plain each (λ o x p. places.below_end o p x);
  octets = λ o x a. octet_first base ws zs ps o x each a;
  fins = λ o a. fin_end base ws zs ps o each a;
}
  where
    ws : List Written
    ws = written_in era sent

    zs : List ℤ
    zs = inward_places era base sent

    ps : List (List ℕ)
    ps = inward_packets era sent

    each : Each (Told base ws) zs ps
    each = all_told laws era base sent (λ number e. cc (based, e)) h.emitted h.silent

    places : OctetsArePlaces base ws
    places = placed base ws based h.emitted

-- no base is fixed
abbrev Unbased : List Written → Type 0
Unbased ws = (b : ℕ) → base_of ws ≡ Some b → ⊥

unbased_before : WrittenRemains → (ws vs : List Written) → Unbased (ws ++ vs) → Unbased ws
unbased_before remains ws vs none b e = none b ((remains 0 ws vs).base_is b e)

silent_step : WrittenRemains → (ws : List Written) (s : Segment) → Unbased (ws ++ written_of true s ∷ []) → IsEmitted ws (written_of true s) → (s.octets ≡ []) × (tcp.has_syn s.flags ≡ false) × (tcp.has_fin s.flags ≡ false)
silent_step remains ws s none emitted = ⊎_elim bare kept emitted
  where
    bare : IsBare ws (written_of true s) → (s.octets ≡ []) × (tcp.has_syn s.flags ≡ false) × (tcp.has_fin s.flags ≡ false)
    bare b = (b.no_octets, mute (tcp.has_syn s.flags) refl, b.no_fin)
      where
        mute : (c : Bool) → tcp.has_syn s.flags ≡ c → c ≡ false
        mute true is = absurd (none ((s.sequence + 1) % 2 ^ 32) (b.syn is))
        mute false is = refl

    kept : IsKeptFrame ws (written_of true s) → (s.octets ≡ []) × (tcp.has_syn s.flags ≡ false) × (tcp.has_fin s.flags ≡ false)
    kept k = absurd (none k.base ((remains 0 ws (written_of true s ∷ [])).base_is k.base k.based))

silent_record : WrittenRemains → (ws : List Written) (ps : List (List ℕ)) → Unbased (ws ++ segments_in true ps) → AreEmitted ws (segments_in true ps) → All IsSilentPacket ps
silent_record remains ws [] none emitted = All-nil IsSilentPacket
silent_record remains ws (p ∷ ps) none emitted = by (λ vs. silent_record remains vs ps) (segment_of p) refl none emitted
  where
    Rest : Type 0
    Rest = (vs : List Written) → Unbased (vs ++ segments_in true ps) → AreEmitted vs (segments_in true ps) → All IsSilentPacket ps

    by : Rest → (o : Option Segment) → segment_of p ≡ o → Unbased (ws ++ (written_as true o ++ segments_in true ps)) → AreEmitted ws (written_as true o ++ segments_in true ps) → All IsSilentPacket (p ∷ ps)
    by go None is none emitted = All-cons IsSilentPacket p ps (λ s says. absurd (cc (is, says))) (go ws none emitted)
    by go (Some s) is none emitted =
        let w : Written = written_of true s in
        let on : Unbased ((ws ++ w ∷ []) ++ segments_in true ps) = subst Unbased (pushed ws w (segments_in true ps)) none in
        let here = silent_step remains ws s (unbased_before remains (ws ++ w ∷ []) (segments_in true ps) on) (inward_emitted ws s emitted.0) in
        All-cons IsSilentPacket p ps
        (λ r says. let e : s ≡ r = cc (is, says) in subst (λ (t : Segment). (t.octets ≡ []) × (tcp.has_syn t.flags ≡ false) × (tcp.has_fin t.flags ≡ false)) e here)
        (go (ws ++ w ∷ []) on emitted.1)

all_silent : WrittenRemains → EmittedJoins → (era : ℕ) (sent : List Sent) → Unbased (written_in era sent) → AreEmitted [] (written_in era sent) → All IsSilentPacket (aside_packets era sent) → All IsSilentPacket (inward_packets era sent)
all_silent remains joins era [] none emitted silent = All-nil IsSilentPacket
all_silent remains joins era (s ∷ older) none emitted silent = by (all_silent remains joins era older) (is_era era s.era) s.inward s.written none emitted silent
  where
    ws : List Written
    ws = written_in era older

    ps : List (List ℕ)
    ps = inward_packets era older

    beside : List (List ℕ)
    beside = aside_packets era older

    goal : Bool → Bool → Bool → List Written
    goal named inward written = ws ++ (if named && written then segments_in inward s.packets else [])

    Rest : Type 0
    Rest = Unbased ws → AreEmitted [] ws → All IsSilentPacket beside → All IsSilentPacket ps

    before : Rest → (vs : List Written) (qs : List (List ℕ)) → Unbased (ws ++ vs) → AreEmitted [] (ws ++ vs) → All IsSilentPacket (beside ++ qs) → All IsSilentPacket ps
    before go vs qs none emitted silent = go (unbased_before remains ws vs none) ((joins [] ws vs).0 emitted).0 (all_before IsSilentPacket beside qs silent)

    same : All IsSilentPacket ps → All IsSilentPacket (ps ++ [])
    same h = subst (All IsSilentPacket) (sym (append-nil ps)) h

    by : Rest → (named inward written : Bool) → Unbased (goal named inward written) → AreEmitted [] (goal named inward written) → All IsSilentPacket (beside ++ (if named && inward && not written then s.packets else [])) → All IsSilentPacket (ps ++ (if named && inward then s.packets else []))
    by go false inward written none emitted silent = same (before go [] [] none emitted silent)
    by go true false false none emitted silent = same (before go [] [] none emitted silent)
    by go true false true none emitted silent = same (before go (segments_in false s.packets) [] none emitted silent)
    by go true true false none emitted silent =
        All-append IsSilentPacket ps s.packets (before go [] s.packets none emitted silent) (all_behind IsSilentPacket beside s.packets silent)
    by go true true true none emitted silent =
        All-append IsSilentPacket ps s.packets (before go (segments_in true s.packets) [] none emitted silent)
        (silent_record remains ws s.packets none ((joins [] ws (segments_in true s.packets)).0 emitted).1)

pub is_silent : WrittenRemains → EmittedJoins → EmittedIsSilent
is_silent remains joins hops era sent h none = all_silent remains joins era sent (λ b e. cc (none, e)) h.emitted h.silent

pub emitted_agrees : MembersAgree → EmittedTellsOneStream → EmittedIsSilent → EmittedAgrees
emitted_agrees members tells silent hops sent h era = by (base_of (written_in era sent)) refl
  where
    by : (o : Option ℕ) → base_of (written_in era sent) ≡ o → EraIsSound hops o (λ base. inward_places era base sent) (inward_packets era sent)
    by None is = silent hops era sent (h era) is
    by (Some base) is = members hops base (inward_places era base sent) (inward_packets era sent) (tells hops era base sent (h era) is).stream

pub is_of_one_stream : EmittedTellsOneStream → EmittedOctetsArePlaces → EmittedIsOfOneStream
is_of_one_stream tells placed hops era base sent h based =
    let told = tells hops era base sent h based in
    let places = placed base (written_in era sent) based h.emitted in
    record { octets = told.octets; fins = told.fins; none_past = λ offset octet last e f. places.below_end offset last octet e f }

pub reads_one_stream : MembersReadParts → EmittedTellsOneStream → EmittedIsOfOneStream → EmittedReadsOneStream
reads_one_stream members tells of hops sent h era base based =
    let ws = written_in era sent in
    members hops base (inward_places era base sent) (inward_packets era sent) (first base ws) (end_of base ws)
    (tells hops era base sent (h era) based).stream (of hops era base sent (h era) based)

pub emitted_misses_nothing : MonitorsMissNothing → EmittedTellsOneStream → EmittedStaysNearAcks → EmittedMissesNothing
emitted_misses_nothing monitors tells stays hops sent h era base based = record {
  in_order = monitors.in_order hops base (inward_acks era base sent) zs ps stream (stays hops era base sent (h era) based);
  in_time = monitors.in_time hops base zs ps stream;
}
  where
    zs : List ℤ
    zs = inward_places era base sent

    ps : List (List ℕ)
    ps = inward_packets era sent

    stream : TellOneStream hops base zs ps
    stream = (tells hops era base sent (h era) based).stream

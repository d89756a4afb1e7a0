-- Frames without a fault describe one stream in each era, so all receivers agree and read parts of
-- it, and a monitor misses nothing.
use Rattle.std.proofs.Common.{◌≡◌, ℕ, ◌==◌, ◌&&◌, ◌||◌, List, [], ◌∷◌, ◌++◌, map, Option, Some, None, Bool, true, false, refl, sym, ap, ◌∙◌, subst, if◌then◌else◌, append-nil, eqb-true, ℤ, All}
use Rattle.std.proofs.lemmas.List.Elements.{All-nil, All-cons, All-append}
use Rattle.wire_base.specs.declared.address.Side.{Side}
use Rattle.wire_base.specs.declared.address.Side.TheVariants.{Inward, Outward}
use Rattle.wire_base.specs.Ipv4 as ip
use Rattle.wire_base.specs.Tcp as tcp
use Rattle.wire_base.specs.Plain.{Plain}
use Rattle.wire_base.specs.Segments.{Segment, Written, fields_of, segment_of, written_of}
use Rattle.era_state.specs.Offsets.{off}
use Rattle.era_state.specs.Quantities.{base_of, acked, end_of, first}
use Rattle.era_state.specs.EmissionLaws.{HasNoOtherBase}
use Rattle.era_state.specs.SilentSegments.{IsSilent, SilenceChangesNothing}
use Rattle.receiver_model.specs.Monitors.{MonitorsMissNothing}
use Rattle.receiver_model.specs.FamilyAgreement.{MembersAgree}
use Rattle.receiver_model.specs.StreamParts.{MembersReadParts}
use Rattle.era_agreement.specs.SentPackets.{is_era, inward_packets, written_as, segments_in, written_in, place_of, placed_at, inward_places}
use Rattle.era_agreement.specs.Agreement.{IsSilentPacket, EraIsSound, MissesNothingInTime}
use Rattle.era_agreement.proofs.Streams.{EraLaws, IsTold, told_still, other_before, Told, one_stream, octet_first, fin_end}
use Rattle.receiver_model.proofs.Places.{Each, each_append, each_map}
use Rattle.run_audit.specs.FrameFaults.{in_stream, lacks_base, has_other_syn, has_other_octet, has_other_fin, IsWellReadAs, IsFaultless}
use Rattle.run_audit.specs.FirstFault.{AreFaultless}
use Rattle.run_audit.specs.OwnedFrames.{Frame, is_based, is_inward, sent}
use Rattle.run_audit.specs.SoundFiles.{FaultlessAgrees, FaultlessMissesNothing, FaultlessReadsOneStream}
use Rattle.run_audit.proofs.Segments.{IsRight, EndsBehind, told, silent_unbased, ends_on, ends_silent, ends_outward}

-- the laws that are cited
pub record Laws : Type 0 where
  pub eras : EraLaws
  pub silence : SilenceChangesNothing

-- the packets of an era describe the quantities of its segments
pub record EraTells (hops base : ℕ) (ws : List Written) (zs : List ℤ) (ps : List (List ℕ)) : Type 0 where
  pub each : Each (Told base ws) zs ps
  pub ends : EndsBehind base ws
  pub plain : All (λ p. Plain hops p) ps

-- the same with more segments and packets
goes_on : EraLaws → (hops base : ℕ) (ws vs : List Written) (zs ys : List ℤ) (ps qs : List (List ℕ)) → EraTells hops base ws zs ps → Each (Told base (ws ++ vs)) ys qs → EndsBehind base (ws ++ vs) → All (λ p. Plain hops p) qs → EraTells hops base (ws ++ vs) (zs ++ ys) (ps ++ qs)
goes_on laws hops base ws vs zs ys ps qs before new ends plain = record {
  each =
      each_append (Told base (ws ++ vs)) zs ps ys qs
      (each_map (Told base ws) (Told base (ws ++ vs)) zs ps (λ z p t s is. told_still laws base ws vs z s (t s is)) before.each)
      new;
  ends = ends;
  plain = All-append (λ p. Plain hops p) ps qs before.plain plain;
}

still : (base : ℕ) (ws : List Written) → EndsBehind base ws → EndsBehind base (ws ++ [])
still base ws h = let P : List Written → Type 0 = EndsBehind base in subst P (sym (append-nil ws)) h

-- a frame without a fault that went inwards in the era has a segment without a fault
right_of : (hops era : ℕ) (older : List Frame) (f : Frame) (s : Segment) → IsFaultless hops (sent older) f → f.side ≡ Some Inward → f.era ≡ Some era → segment_of f.packet ≡ Some s → IsRight (written_in era (sent older)) (written_of true s)
right_of hops era older f s right side named is = record {
  base = sym (at lacks_base) ∙ right.base;
  syn = sym (at has_other_syn) ∙ right.syn;
  octet = sym (at has_other_octet) ∙ right.octet;
  fin = sym (at has_other_fin) ∙ right.fin;
}
  where
    at : (test : List Written → Written → Bool) → in_stream test (sent older) f ≡ test (written_in era (sent older)) (written_of true s)
    at test = (λ i. in_stream test (sent older) (record { packet = f.packet; side = side i; era = named i })) ∙ ap (λ o. elim o as (λ _. Bool) [ Some t ↦ test (written_in era (sent older)) (written_of true t) | None ↦ false ]) is

pub well_read_of : (hops era : ℕ) (f : Frame) → IsWellReadAs hops f.packet f.side f.era → f.side ≡ Some Inward → f.era ≡ Some era → Plain hops f.packet × (ip.protocol f.packet ≡ 6)
well_read_of hops era f read side named =
    let P : Option Side → Type 0 = λ s. IsWellReadAs hops f.packet s f.era in
    let Q : Option ℕ → Type 0 = λ e. IsWellReadAs hops f.packet (Some Inward) e in
    let both = subst Q named (subst P side read) in
    (both.0, both.1 refl)

inward_is : (side : Option Side) → is_inward side ≡ true → side ≡ Some Inward
inward_is (Some Inward) e = refl
inward_is (Some Outward) e = absurd (cc e)
inward_is None e = absurd (cc e)

pub named_is : (era : ℕ) (o : Option ℕ) → is_era era o ≡ true → o ≡ Some era
named_is era (Some n) e = ap (λ m. Some m) (eqb-true n era e)
named_is era None e = absurd (cc e)

-- this holds for all frames of an era
era_tells : Laws → (hops era base : ℕ) (frames : List Frame) → AreFaultless hops frames → HasNoOtherBase base (written_in era (sent frames)) → EraTells hops base (written_in era (sent frames)) (inward_places era base (sent frames)) (inward_packets era (sent frames))
era_tells laws hops era base [] h only = record { each = tt; ends = λ o x end ex ee. absurd (cc ex); plain = All-nil (λ p. Plain hops p) }
era_tells laws hops era base (f ∷ older) h only = by (era_tells laws hops era base older h.0) (is_era era f.era) refl (is_inward f.side) refl (is_based (sent older) f.era f.packet) only
  where
    ws : List Written
    ws = written_in era (sent older)

    zs : List ℤ
    zs = inward_places era base (sent older)

    ps : List (List ℕ)
    ps = inward_packets era (sent older)

    p : List ℕ
    p = f.packet

    Rest : Type 0
    Rest = HasNoOtherBase base ws → EraTells hops base ws zs ps

    -- the frame went outwards
    outward : Rest → (o : Option Segment) → HasNoOtherBase base (ws ++ (written_as false o ++ [])) → EraTells hops base (ws ++ (written_as false o ++ [])) (zs ++ []) (ps ++ [])
    outward go None only = let before = go (other_before laws.eras.remains base ws [] only) in goes_on laws.eras hops base ws [] zs [] ps [] before tt (still base ws before.ends) (All-nil (λ q. Plain hops q))
    outward go (Some s) only =
        let w : Written = written_of false s in
        let before = go (other_before laws.eras.remains base ws (w ∷ []) only) in
        goes_on laws.eras hops base ws (w ∷ []) zs [] ps [] before tt (ends_outward base ws w refl before.ends) (All-nil (λ q. Plain hops q))

    -- the frame went inwards
    inward : Rest → f.side ≡ Some Inward → f.era ≡ Some era → HasNoOtherBase base (ws ++ (written_as true (segment_of p) ++ [])) → EraTells hops base (ws ++ (written_as true (segment_of p) ++ [])) (zs ++ (placed_at base (acked base ws) (segment_of p) ∷ [])) (ps ++ p ∷ [])
    inward go side named only = subst P (sym is) (goes_on laws.eras hops base ws (w ∷ []) zs (place ∷ []) ps (p ∷ []) before (here, tt) (ends (base_of (ws ++ w ∷ [])) refl) (All-cons (λ q. Plain hops q) p [] well.0 (All-nil (λ q. Plain hops q))))
      where
        s : Segment
        s = fields_of p

        w : Written
        w = written_of true s

        place : ℤ
        place = off base (acked base ws) s.sequence

        well : Plain hops p × (ip.protocol p ≡ 6)
        well = well_read_of hops era f h.1.read side named

        is : segment_of p ≡ Some s
        is = ap (λ n. if n == 6 then Some s else None) well.1

        P : Option Segment → Type 0
        P o = EraTells hops base (ws ++ (written_as true o ++ [])) (zs ++ (placed_at base (acked base ws) o ∷ [])) (ps ++ p ∷ [])

        only_one : HasNoOtherBase base (ws ++ w ∷ [])
        only_one = let Q : Option Segment → Type 0 = λ o. HasNoOtherBase base (ws ++ (written_as true o ++ [])) in subst Q is only

        before : EraTells hops base ws zs ps
        before = go (other_before laws.eras.remains base ws (w ∷ []) only_one)

        right : IsRight ws w
        right = right_of hops era older f s h.1 side named is

        here : Told base (ws ++ w ∷ []) place p
        here t says = let same : s ≡ t = cc (is, says) in subst (IsTold base (ws ++ w ∷ []) place) same (told laws.eras base ws s only_one right)

        ends : (o : Option ℕ) → base_of (ws ++ w ∷ []) ≡ o → EndsBehind base (ws ++ w ∷ [])
        ends None e = ends_silent laws.silence base ws w (silent_unbased ws s e right) before.ends
        ends (Some b) e = ends_on base ws s (e ∙ ap (λ n. Some n) (only_one b e)) right before.ends

    by : Rest → (named : Bool) → is_era era f.era ≡ named → (inw : Bool) → is_inward f.side ≡ inw → (based : Bool) → HasNoOtherBase base (ws ++ (if named && (inw || based) then segments_in inw (p ∷ []) else [])) → EraTells hops base (ws ++ (if named && (inw || based) then segments_in inw (p ∷ []) else [])) (zs ++ (if named && inw then map (place_of base (acked base ws)) (p ∷ []) else [])) (ps ++ (if named && inw then p ∷ [] else []))
    by go false e inw i based only = outward go None only
    by go true e false i false only = outward go None only
    by go true e false i true only = outward go (segment_of p) only
    by go true e true i based only = inward go (inward_is f.side i) (named_is era f.era e) only

-- if no base is fixed, the packets have no SYN, no FIN and no octets
all_silent : Laws → (hops era : ℕ) (frames : List Frame) → AreFaultless hops frames → ((b : ℕ) → base_of (written_in era (sent frames)) ≡ Some b → ⊥) → All IsSilentPacket (inward_packets era (sent frames))
all_silent laws hops era [] h none = All-nil IsSilentPacket
all_silent laws hops era (f ∷ older) h none = by (all_silent laws hops era older h.0) (is_era era f.era) refl (is_inward f.side) refl (is_based (sent older) f.era f.packet) none
  where
    ws : List Written
    ws = written_in era (sent older)

    ps : List (List ℕ)
    ps = inward_packets era (sent older)

    p : List ℕ
    p = f.packet

    Unbased : List Written → Type 0
    Unbased vs = (b : ℕ) → base_of vs ≡ Some b → ⊥

    Rest : Type 0
    Rest = Unbased ws → All IsSilentPacket ps

    before : (vs : List Written) → Unbased (ws ++ vs) → Unbased ws
    before vs none b e = none b ((laws.eras.remains 0 ws vs).base_is b e)

    inward : Rest → f.side ≡ Some Inward → f.era ≡ Some era → Unbased (ws ++ (written_as true (segment_of p) ++ [])) → All IsSilentPacket (ps ++ p ∷ [])
    inward go side named none = All-append IsSilentPacket ps (p ∷ []) (go (before (written_as true (segment_of p) ++ []) none)) (All-cons IsSilentPacket p [] here (All-nil IsSilentPacket))
      where
        s : Segment
        s = fields_of p

        w : Written
        w = written_of true s

        is : segment_of p ≡ Some s
        is = ap (λ n. if n == 6 then Some s else None) (well_read_of hops era f h.1.read side named).1

        unbased : Unbased (ws ++ w ∷ [])
        unbased = let Q : Option Segment → Type 0 = λ o. Unbased (ws ++ (written_as true o ++ [])) in subst Q is none

        nothing : (o : Option ℕ) → base_of (ws ++ w ∷ []) ≡ o → base_of (ws ++ w ∷ []) ≡ None
        nothing None e = e
        nothing (Some b) e = absurd (unbased b e)

        silent : IsSilent w
        silent = silent_unbased ws s (nothing (base_of (ws ++ w ∷ [])) refl) (right_of hops era older f s h.1 side named is)

        here : IsSilentPacket p
        here t says =
            let same : s ≡ t = cc (is, says) in
            subst (λ (r : Segment). (r.octets ≡ []) × (tcp.has_syn r.flags ≡ false) × (tcp.has_fin r.flags ≡ false)) same (silent.no_octets, silent.no_syn, silent.no_fin)

    same : All IsSilentPacket ps → All IsSilentPacket (ps ++ [])
    same k = subst (All IsSilentPacket) (sym (append-nil ps)) k

    by : Rest → (named : Bool) → is_era era f.era ≡ named → (inw : Bool) → is_inward f.side ≡ inw → (based : Bool) → Unbased (ws ++ (if named && (inw || based) then segments_in inw (p ∷ []) else [])) → All IsSilentPacket (ps ++ (if named && inw then p ∷ [] else []))
    by go false e inw i based none = same (go (before [] none))
    by go true e false i based none = same (go (before (if based then segments_in false (p ∷ []) else []) none))
    by go true e true i based none = inward go (inward_is f.side i) (named_is era f.era e) none

pub faultless_agrees : Laws → MembersAgree → FaultlessAgrees
faultless_agrees laws members hops frames h era = by (base_of ws) refl
  where
    ws : List Written
    ws = written_in era (sent frames)

    by : (o : Option ℕ) → base_of ws ≡ o → EraIsSound hops o (λ base. inward_places era base (sent frames)) (inward_packets era (sent frames))
    by None e = all_silent laws hops era frames h (λ b f. absurd (cc (e, f)))
    by (Some base) e =
        members hops base (inward_places era base (sent frames)) (inward_packets era (sent frames))
        (let tells = era_tells laws hops era base frames h (λ number f. let same : Some number ≡ Some base = sym f ∙ e in cc same) in one_stream hops base ws (inward_places era base (sent frames)) (inward_packets era (sent frames)) tells.plain tells.each tells.ends)

pub faultless_reads : Laws → MembersReadParts → FaultlessReadsOneStream
faultless_reads laws members hops frames h era base e =
    let ws = written_in era (sent frames) in
    let places = inward_places era base (sent frames) in
    let packets = inward_packets era (sent frames) in
    let tells = era_tells laws hops era base frames h (λ number f. let same : Some number ≡ Some base = sym f ∙ e in cc same) in
    members hops base places packets (first base ws) (end_of base ws) (one_stream hops base ws places packets tells.plain tells.each tells.ends) (record {
      octets = λ offset octet o. octet_first base ws places packets offset octet tells.each o;
      fins = λ offset f. fin_end base ws places packets offset tells.each f;
      none_past = tells.ends;
    })

faultless_misses_now : Laws → MonitorsMissNothing → (hops : ℕ) (frames : List Frame) → AreFaultless hops frames → MissesNothingInTime hops (sent frames)
faultless_misses_now laws monitors hops frames h era base e =
    let ws = written_in era (sent frames) in
    let places = inward_places era base (sent frames) in
    let packets = inward_packets era (sent frames) in
    monitors.in_time hops base places packets
    (let tells = era_tells laws hops era base frames h (λ number f. let same : Some number ≡ Some base = sym f ∙ e in cc same) in one_stream hops base ws places packets tells.plain tells.each tells.ends)

pub faultless_misses : Laws → MonitorsMissNothing → FaultlessMissesNothing
faultless_misses laws monitors hops [] h = faultless_misses_now laws monitors hops [] h
faultless_misses laws monitors hops (f ∷ older) h =
    (faultless_misses laws monitors hops older h.0, faultless_misses_now laws monitors hops (f ∷ older) h)

-- The first fault of a frame is that of its segment in its era; frames whose segments are emitted
-- have none.
use Rattle.std.proofs.Common.{◌≡◌, ◌≢◌, ℕ, ◌-◌, ◌==◌, ◌&&◌, ◌||◌, List, [], ◌∷◌, ◌++◌, length, take, drop, append-nil, eq-eqb, Option, Some, None, is_some, Bool, true, false, refl, sym, ap, ◌∙◌, subst, arith, if◌then◌else◌, nat_eq, map, append_assoc, take_all, length-drop, IsSome, IfOk, Result, Ok, Err}
use Rattle.std.proofs.lemmas.Bool.{eqb-true, eqb-false, or_parts}
use Rattle.std.specs.List.{list_any}
use Rattle.indexmap.specs.IndexMap.{get}
use Rattle.edge_io.specs.declared.faults.NoMemory.{NoMemory}
use Rattle.wire_base.specs.declared.address.Side.{Side}
use Rattle.wire_base.specs.declared.address.Side.TheVariants.{Inward, Outward}
use Rattle.wire_base.specs.Ipv4 as ip
use Rattle.wire_base.specs.Plain.{Plain}
use Rattle.wire_base.specs.Segments.{Segment, Written, fields_of, segment_of, written_of}
use Rattle.era_state.specs.Quantities.{base_of}
use Rattle.receiver_model.specs.declared.segment.Segment.{Segment as Fields}
use Rattle.receiver_model.specs.SegmentFields.{segment_in}
use Rattle.tcp_codec.specs.declared.header.Tcp.{Tcp}
use Rattle.era_agreement.specs.SentPackets.{Sent, written_as, segments_in, written_in, is_era}
use Rattle.receiver_model.proofs.Streams.{segment_is}
use Rattle.era_state.specs.Emission.{AreEmitted}
use Rattle.era_state.specs.EmissionLaws.{EmittedOctetsArePlaces}
use Rattle.era_state.specs.SegmentMarks.{acknowledges}
use Rattle.era_state.specs.SilentSegments.{IsSilent, SilenceChangesNothing}
use Rattle.era_state.proofs.Quantities.{any_push}
use Rattle.era_agreement.specs.Agreement.{IsSilentPacket}
use Rattle.era_agreement.proofs.Streams.{EraLaws}
use Rattle.run_audit.specs.declared.answer.Reason.{Reason}
use Rattle.run_audit.specs.declared.answer.Reason.TheVariants as reasons
use Rattle.run_audit.specs.declared.ledger.Inward.{Inward as Came}
use Rattle.run_audit.specs.declared.ledger.Ledger.{Ledger}
use Rattle.run_audit.specs.FrameFaults.{is_segment, IsWellRead, IsWellReadAs, IsFirstReason, IsFaultless, in_stream, lacks_base, has_other_syn, has_other_octet, has_other_fin, in_stream_as}
use Rattle.run_audit.specs.OwnedFrames.{Frame, is_based, is_inward, sent}
use Rattle.run_audit.specs.working.EraLedgers.{IsInward, IsOutward, IsVerdict, StandsFor, counted, stream_reason}
use Rattle.run_audit.specs.working.EraTable.{Eras, EraStands, AllStandFor, AreThere, IsTaken, Takes, IsNoted, IsJudged}
use Rattle.run_audit.specs.working.OutwardFields.{IsSegment}
use Rattle.run_audit.specs.EmittedFrames.{Marked, IsCertain, NoneAcksUnbased, AreWritten, EmittedHasNoFault, frames_in, sent_as}
use Rattle.run_audit.specs.FirstFault.{AreFaultless}
use Rattle.run_audit.proofs.Receivers.{well_read_of, named_is}
use Rattle.run_audit.proofs.Segments.{Alike, alike_none, alike_on, alike_silent, alike_idle, right_alike, right_silent, emitted_right, IsRight}
use Rattle.run_audit.proofs.Frames.{none_of}

-- The verdict on a frame, from the verdict of its era on its segment.

-- the first of the four reasons that holds
abbrev reason_by : (a b c d : Bool) → Option Reason
reason_by a b c d = if a then Some reasons.Base else if b then Some reasons.Syn else if c then Some reasons.Octet else if d then Some reasons.Fin else None

-- this is the first reason that applies to the frame, or none holds
abbrev pub FirstOrNone : (hops : ℕ) → List Sent → Frame → Option Reason → Type 0
FirstOrNone hops older f None = IsFaultless hops older f
FirstOrNone hops older f (Some reason) = IsFirstReason hops older f reason

first_by : (hops : ℕ) (older : List Sent) (f : Frame) (a b c d : Bool) → in_stream lacks_base older f ≡ a → in_stream has_other_syn older f ≡ b → in_stream has_other_octet older f ≡ c → in_stream has_other_fin older f ≡ d → IsWellRead hops f → FirstOrNone hops older f (reason_by a b c d)
first_by hops older f true b c d ea eb ec ed read = record { holds = ea; none_before = ((λ x. x), ((λ n. n read), tt)) }
first_by hops older f false true c d ea eb ec ed read = record { holds = eb; none_before = ((λ x. x), ((λ n. n read), ((λ h. absurd (cc (h, ea))), tt))) }
first_by hops older f false false true d ea eb ec ed read = record { holds = ec; none_before = ((λ x. x), ((λ n. n read), ((λ h. absurd (cc (h, ea))), ((λ h. absurd (cc (h, eb))), tt)))) }
first_by hops older f false false false true ea eb ec ed read = record { holds = ed; none_before = ((λ x. x), ((λ n. n read), ((λ h. absurd (cc (h, ea))), ((λ h. absurd (cc (h, eb))), ((λ h. absurd (cc (h, ec))), tt))))) }
first_by hops older f false false false false ea eb ec ed read = record { read = read; base = ea; syn = eb; octet = ec; fin = ed }

-- the frame of a packet that went inwards in an era
abbrev pub inward_frame : List ℕ → ℕ → Frame
inward_frame p era = record { packet = p; side = Some Inward; era = Some era }

-- the first reason of its segment is the first reason of the frame
pub first_in_stream : (hops : ℕ) (older : List Sent) (p : List ℕ) (era : ℕ) (s : Segment) → segment_of p ≡ Some s → IsWellReadAs hops p (Some Inward) (Some era) → FirstOrNone hops older (inward_frame p era) (stream_reason (written_in era older) (written_of true s))
first_in_stream hops older p era s is read =
    first_by hops older (inward_frame p era) (lacks_base ws w) (has_other_syn ws w) (has_other_octet ws w) (has_other_fin ws w) (at lacks_base) (at has_other_syn) (at has_other_octet) (at has_other_fin) read
  where
    ws : List Written
    ws = written_in era older

    w : Written
    w = written_of true s

    at : (test : List Written → Written → Bool) → in_stream test older (inward_frame p era) ≡ test ws w
    at test = ap (λ o. elim o as (λ _. Bool) [ Some t ↦ test ws (written_of true t) | None ↦ false ]) is

-- a packet with a segment adds this segment alone
written_one : (inward : Bool) (p : List ℕ) (s : Segment) → segment_of p ≡ Some s → segments_in inward (p ∷ []) ≡ written_of inward s ∷ []
written_one inward p s is = ap (λ o. written_as inward o ++ []) is

-- a frame of an era adds its segment to that era, if it is counted, and nothing to another one
written_here : (era : ℕ) (p : List ℕ) (side : Option Side) (frames : List Frame)
    → written_in era (sent (record { packet = p; side = side; era = Some era } ∷ frames))
    ≡ written_in era (sent frames) ++ (if is_inward side || is_based (sent frames) (Some era) p then segments_in (is_inward side) (p ∷ []) else [])
written_here era p side frames =
    ap (λ (t : Bool). written_in era (sent frames) ++ (if t && (is_inward side || is_based (sent frames) (Some era) p) then segments_in (is_inward side) (p ∷ []) else [])) (eq-eqb era era refl)

written_there : (q era : ℕ) (p : List ℕ) (side : Option Side) (frames : List Frame) → (era == q) ≡ false → written_in q (sent (record { packet = p; side = side; era = Some era } ∷ frames)) ≡ written_in q (sent frames)
written_there q era p side frames other =
    ap (λ (t : Bool). written_in q (sent frames) ++ (if t && (is_inward side || is_based (sent frames) (Some era) p) then segments_in (is_inward side) (p ∷ []) else [])) other
    ∙ append-nil (written_in q (sent frames))

-- the states of the eras represent the frames with one more, if the state of its era does
all_stand : (old new : Eras) (era : ℕ) (p : List ℕ) (side : Option Side) (frames : List Frame) (ws : List Written) → written_in era (sent (record { packet = p; side = side; era = Some era } ∷ frames)) ≡ ws → AllStandFor old (sent frames) → Takes old new era ws → AllStandFor new (sent (record { packet = p; side = side; era = Some era } ∷ frames))
all_stand old new era p side frames ws here stand takes q = by (era == q) refl
  where
    all : ℕ → List Written
    all n = written_in n (sent (record { packet = p; side = side; era = Some era } ∷ frames))

    by : (b : Bool) → (era == q) ≡ b → EraStands (get nat_eq new q) (all q)
    by true e =
        let P : ℕ → Type 0 = λ n. EraStands (get nat_eq new n) (all n) in
        let Q : List Written → Type 0 = λ vs. EraStands (get nat_eq new era) vs in
        subst P (eqb-true era q e) (subst Q (sym here) takes.stands)
    by false e =
        let same : get nat_eq new q ≡ get nat_eq old q = takes.others q (λ is. eqb-false era q e (sym is)) in
        let P : Option Ledger → Type 0 = λ o. EraStands o (written_in q (sent frames)) in
        let Q : List Written → Type 0 = λ vs. EraStands (get nat_eq new q) vs in
        subst Q (sym (written_there q era p side frames e)) (subst P (sym same) (stand q))

all_there : (old new : Eras) (era : ℕ) (ws : List Written) → Takes old new era ws → AreThere old new
all_there old new era ws takes q some = by (era == q) refl
  where
    by : (b : Bool) → (era == q) ≡ b → IsSome (get nat_eq new q)
    by true e =
        let P : ℕ → Type 0 = λ n. IsSome (get nat_eq new n) in
        subst P (eqb-true era q e) takes.there
    by false e =
        let P : Option Ledger → Type 0 = λ o. IsSome o in
        subst P (sym (takes.others q (λ is. eqb-false era q e (sym is)))) some

-- a packet that went outwards has no fault if it is a segment
outward_faultless : (hops : ℕ) (older : List Sent) (p : List ℕ) (era : ℕ) → is_segment p ≡ true → IsFaultless hops older (record { packet = p; side = Some Outward; era = Some era })
outward_faultless hops older p era is = record { read = λ _. is; base = refl; syn = refl; octet = refl; fin = refl }

-- the segments of an era with an outward one
written_outward : (era : ℕ) (p : List ℕ) (s : Segment) (frames : List Frame) → segment_of p ≡ Some s
    → written_in era (sent (record { packet = p; side = Some Outward; era = Some era } ∷ frames)) ≡ counted (written_in era (sent frames)) (written_of false s)
written_outward era p s frames is =
    let ws = written_in era (sent frames) in
    let w = written_of false s in
    written_here era p (Some Outward) frames
    ∙ ap (λ vs. ws ++ (if is_some (base_of (ws ++ vs)) then vs else [])) (written_one false p s is)
    ∙ by ws w (is_some (base_of (ws ++ w ∷ [])))
  where
    by : (ws : List Written) (w : Written) (b : Bool) → ws ++ (if b then w ∷ [] else []) ≡ (if b then ws ++ w ∷ [] else ws)
    by ws w true = refl
    by ws w false = append-nil ws

pub noted_outward : (hops : ℕ) (old new : Eras) (era : ℕ) (p : List ℕ) (head : Tcp) (frames : List Frame) → IsSegment p head → AllStandFor old (sent frames) → ((ws : List Written) (w : Written) → EraStands (get nat_eq old era) ws → IsOutward head.flags.0 head.ack w → Takes old new era (counted ws w)) → IsNoted hops frames (record { packet = p; side = Some Outward; era = Some era }) old new
noted_outward hops old new era p head frames is stand takes = record {
  faultless = outward_faultless hops (sent frames) p era is.is;
  stand = all_stand old new era p (Some Outward) frames (counted (written_in era (sent frames)) w) (written_outward era p (fields_of p) frames (segment_is p is.protocol)) stand taken;
  there = all_there old new era (counted (written_in era (sent frames)) w) taken;
}
  where
    w : Written
    w = written_of false (fields_of p)

    taken : Takes old new era (counted (written_in era (sent frames)) w)
    taken = takes (written_in era (sent frames)) w (stand era) (record { inward_is = refl; flags_are = sym is.flags_are; number_is = sym is.number_is })

-- a plain TCP packet that went inwards in an era is well read
well_read : (hops : ℕ) (p : List ℕ) (era : ℕ) → Plain hops p → ip.protocol p ≡ 6 → IsWellReadAs hops p (Some Inward) (Some era)
well_read hops p era plain six = (plain, λ _. six)

judged_by : (hops : ℕ) (old new : Eras) (era : ℕ) (p : List ℕ) (frames : List Frame) (verdict : Option Reason) → Plain hops p → ip.protocol p ≡ 6 → AllStandFor old (sent frames) → IsTaken old new era (written_in era (sent frames)) (written_of true (fields_of p)) verdict → IsJudged hops frames (inward_frame p era) old new verdict
judged_by hops old new era p frames None plain six stand taken = let with_it = written_in era (sent frames) ++ written_of true (fields_of p) ∷ [] in record {
  faultless = let P : Option Reason → Type 0 = FirstOrNone hops (sent frames) (inward_frame p era) in subst P taken.0 (first_in_stream hops (sent frames) p era (fields_of p) (segment_is p six) (well_read hops p era plain six));
  stand = all_stand old new era p (Some Inward) frames with_it (written_here era p (Some Inward) frames ∙ ap (λ vs. written_in era (sent frames) ++ vs) (written_one true p (fields_of p) (segment_is p six))) stand taken.1;
  there = all_there old new era with_it taken.1;
}
judged_by hops old new era p frames (Some reason) plain six stand taken =
    let P : Option Reason → Type 0 = FirstOrNone hops (sent frames) (inward_frame p era) in
    subst P taken (first_in_stream hops (sent frames) p era (fields_of p) (segment_is p six) (well_read hops p era plain six))

pub judged_inward : (r : Result (Option Reason) NoMemory) (hops : ℕ) (old new : Eras) (era : ℕ) (p : List ℕ) (read : Fields) (s : Came) → Plain hops p → ip.protocol p ≡ 6 → segment_in p read ≡ fields_of p → s.seq ≡ read.seq → s.flags.0 ≡ read.flags.0 → s.octets.now ≡ drop read.start p
    → IfOk r (λ verdict. (ws : List Written) (w : Written) → EraStands (get nat_eq old era) ws → IsInward s w → IsTaken old new era ws w verdict)
    → IfOk r (λ verdict. (frames : List Frame) → AllStandFor old (sent frames) → IsJudged hops frames (inward_frame p era) old new verdict)
judged_inward (Err e) hops old new era p read s plain six fields seq flags octets taken = tt
judged_inward (Ok verdict) hops old new era p read s plain six fields seq flags octets taken = λ frames stand.
    judged_by hops old new era p frames verdict plain six stand
    (taken (written_in era (sent frames)) (written_of true (fields_of p)) (stand era)
    (record {
      inward_is = refl;
      seq_is = sym (seq ∙ ap (λ (t : Segment). t.sequence) fields);
      flags_are = sym (flags ∙ ap (λ (t : Segment). t.flags) fields);
      octets_are = sym (octets ∙ ap (λ (t : Segment). t.octets) fields);
    }))

-- the octets of a packet from `start` on
pub behind_place : (p : List ℕ) (start : ℕ) → take (length p - start) (drop start p) ≡ drop start p
behind_place p start = take_all (length p - start) (drop start p) (let e = length-drop start p in omega (arith, e))

-- the verdict of the state of one era is that on all eras
pub taken_in : (r : Result (Option Reason) NoMemory) (old new : Eras) (era : ℕ) (l newer : Ledger) (s : Came) → get nat_eq old era ≡ Some l → get nat_eq new era ≡ Some newer → ((other : ℕ) → other ≢ era → get nat_eq new other ≡ get nat_eq old other)
    → IfOk r (λ verdict. (ws : List Written) (w : Written) → StandsFor l ws → IsInward s w → IsVerdict newer ws w verdict)
    → IfOk r (λ verdict. (ws : List Written) (w : Written) → EraStands (get nat_eq old era) ws → IsInward s w → IsTaken old new era ws w verdict)
taken_in (Err e) old new era l newer s was is others judged = tt
taken_in (Ok None) old new era l newer s was is others judged = λ ws w stands came.
    let P : Option Ledger → Type 0 = λ o. EraStands o ws in
    let Q : Option Ledger → Type 0 = λ o. EraStands o (ws ++ w ∷ []) in
    let told = judged ws w (subst P was stands) came in
    (told.0, record { stands = subst Q (sym is) told.1; there = ap is_some is; others = others })
taken_in (Ok (Some reason)) old new era l newer s was is others judged = λ ws w stands came.
    let P : Option Ledger → Type 0 = λ o. EraStands o ws in
    judged ws w (subst P was stands) came

-- Frames whose segments are emitted have no fault.

-- the laws that are cited
pub record Laws : Type 0 where
  pub eras : EraLaws
  pub places : EmittedOctetsArePlaces
  pub silence : SilenceChangesNothing

-- the segments that a packet adds to those of an era: its own, if its entry names the era and it is
-- a written segment
abbrev added : (named written inward : Bool) → Option Segment → List Written
added named written inward o = if named && written then written_as inward o ++ [] else []

-- the segment of a silent packet is silent
silent_of : (p : List ℕ) (s : Segment) → IsSilentPacket p → segment_of p ≡ Some s → IsSilent (written_of true s)
silent_of p s silent is = let says = silent s is in record { inward = refl; no_syn = says.1; no_fin = says.2; no_octets = says.0 }

-- before a base is fixed, no segment acknowledges
abbrev AcksNone : List Written → Type 0
AcksNone ws = base_of ws ≡ None → list_any acknowledges ws ≡ false

not_there : (o : Option ℕ) → o ≡ None → IsSome o → ⊥
not_there None e some = cc some
not_there (Some n) e some = cc e

module _ (laws : Laws) (hops : ℕ) (m : Marked) (older : List Marked) (certain : IsCertain hops m) where
  abbrev f : Frame
  f = m.frame

  abbrev p : List ℕ
  p = m.frame.packet

  -- the segments of an era before the frame: the written ones, and those of all frames
  abbrev ws : (era : ℕ) → List Written
  ws era = written_in era (map sent_as older)

  abbrev vs : (era : ℕ) → List Written
  vs era = written_in era (sent (frames_in older))

  -- the two lists have the same quantities with the frame
  alike_with : (era : ℕ) → (AcksNone (ws era) → Alike (ws era) (vs era))
      → NoneAcksUnbased (ws era ++ added (is_era era f.era) m.written (is_inward f.side) (segment_of p))
      → AcksNone (ws era ++ added (is_era era f.era) m.written (is_inward f.side) (segment_of p))
      → Alike (ws era ++ added (is_era era f.era) m.written (is_inward f.side) (segment_of p))
      (vs era ++ added (is_era era f.era) (is_inward f.side || is_based (sent (frames_in older)) f.era p) (is_inward f.side) (segment_of p))
  alike_with era a early none = by (is_era era f.era) refl m.written refl (segment_of p) refl (is_inward f.side) refl early none
    where
      -- the frame adds nothing
      same : AcksNone (ws era ++ []) → Alike (ws era ++ []) (vs era ++ [])
      same none =
          let P : List Written → Type 0 = λ xs. Alike xs (vs era ++ []) in
          let Q : List Written → Type 0 = λ xs. Alike (ws era) xs in
          let N : List Written → Type 0 = λ xs. AcksNone xs in
          subst P (sym (append-nil (ws era))) (subst Q (sym (append-nil (vs era))) (a (subst N (append-nil (ws era)) none)))

      unread : (based : Bool) (inw : Bool) → AcksNone (ws era ++ []) → Alike (ws era ++ []) (vs era ++ added true (inw || based) inw None)
      unread true true none = same none
      unread true false none = same none
      unread false true none = same none
      unread false false none = same none

      -- an outward segment, which is counted exactly if a base is fixed before it or by it
      outward : (w : Written) → w.inward ≡ false → AcksNone (ws era ++ w ∷ []) → Alike (ws era) (vs era) → (based : Bool) → is_some (base_of (vs era ++ w ∷ [])) ≡ based → Alike (ws era ++ w ∷ []) (vs era ++ (if based then w ∷ [] else []))
      outward w out none before true e = alike_on (ws era) (vs era) w before
      outward w out none before false e =
          let on : Alike (ws era ++ w ∷ []) (vs era ++ w ∷ []) = alike_on (ws era) (vs era) w before in
          let unbased : base_of (ws era ++ w ∷ []) ≡ None = sym on.base_is ∙ none_of (base_of (vs era ++ w ∷ [])) e in
          let idle = or_parts (list_any acknowledges (ws era)) (acknowledges w) (sym (any_push acknowledges (ws era) w) ∙ none unbased) in
          let P : List Written → Type 0 = λ xs. Alike (ws era ++ w ∷ []) xs in
          subst P (sym (append-nil (vs era))) (alike_idle (ws era) (vs era) w out idle.1 before)

      named : is_era era f.era ≡ true → IsSome f.era
      named e = ap (λ (o : Option ℕ). elim o as (λ _. Bool) [ Some n ↦ true | None ↦ false ]) (named_is era f.era e)

      -- a frame that is no written segment goes inwards
      beside : (s : Segment) (based : Bool) (side : Option Side) → f.side ≡ side → IsSome f.era → m.written ≡ false → segment_of p ≡ Some s → AcksNone (ws era ++ [])
          → Alike (ws era ++ []) (vs era ++ added true (is_inward side || based) (is_inward side) (Some s))
      beside s based (Some Inward) is there unwritten says none =
          let P : List Written → Type 0 = λ xs. Alike xs (vs era ++ written_of true s ∷ []) in
          let N : List Written → Type 0 = λ xs. AcksNone xs in
          subst P (sym (append-nil (ws era))) (alike_silent laws.silence (ws era) (vs era) (written_of true s) (silent_of p s (certain.silent unwritten is there) says) (a (subst N (append-nil (ws era)) none)))
      beside s based (Some Outward) is there unwritten says none = absurd (certain.outward unwritten is there)
      beside s based None is there unwritten says none =
          let P : Option Side → Type 0 = λ side. IsWellReadAs hops p side f.era in
          absurd (not_there f.era (subst P is certain.read) there)

      -- whether an outward segment is counted
      counts : (x : Segment) → is_era era f.era ≡ true → segment_of p ≡ Some x → is_based (sent (frames_in older)) f.era p ≡ is_some (base_of (vs era ++ written_of false x ∷ []))
      counts x e s =
          ap (λ o. is_based (sent (frames_in older)) o p) (named_is era f.era e)
          ∙ ap (λ o. is_some (base_of (vs era ++ (written_as false o ++ [])))) s

      by : (named_era : Bool) → is_era era f.era ≡ named_era → (written : Bool) → m.written ≡ written → (o : Option Segment) → segment_of p ≡ o → (inw : Bool) → is_inward f.side ≡ inw
          → NoneAcksUnbased (ws era ++ added named_era written inw o) → AcksNone (ws era ++ added named_era written inw o)
          → Alike (ws era ++ added named_era written inw o) (vs era ++ added named_era (inw || is_based (sent (frames_in older)) f.era p) inw o)
      by false e written w o s inw i early none = same none
      by true e true w None s inw i early none = unread (is_based (sent (frames_in older)) f.era p) inw none
      by true e true w (Some x) s true i early none = alike_on (ws era) (vs era) (written_of true x) (a (early (ws era) (written_of true x) [] refl))
      by true e true w (Some x) s false i early none =
          let v : Written = written_of false x in
          subst (λ b. Alike (ws era ++ v ∷ []) (vs era ++ added true b false (Some x))) (sym (counts x e s))
          (outward v refl none (a (early (ws era) v [] refl)) (is_some (base_of (vs era ++ v ∷ []))) refl)
      by true e false w None s inw i early none = unread (is_based (sent (frames_in older)) f.era p) inw none
      by true e false w (Some x) s inw i early none =
          subst (λ b. Alike (ws era ++ []) (vs era ++ added true (b || is_based (sent (frames_in older)) f.era p) b (Some x))) i
          (beside x (is_based (sent (frames_in older)) f.era p) f.side refl (named e) w s none)

  -- a frame has no fault if none of the tests on a stream holds for it
  quiet : ((test : List Written → Written → Bool) → in_stream test (sent (frames_in older)) f ≡ false) → IsFaultless hops (sent (frames_in older)) f
  quiet h = record { read = certain.read; base = h lacks_base; syn = h has_other_syn; octet = h has_other_octet; fin = h has_other_fin }

  -- a frame that goes inwards in an era
  inward : (era : ℕ) → f.side ≡ Some Inward → f.era ≡ Some era → (AcksNone (ws era) → Alike (ws era) (vs era))
      → AreEmitted [] (ws era ++ added (is_era era f.era) m.written (is_inward f.side) (segment_of p))
      → NoneAcksUnbased (ws era ++ added (is_era era f.era) m.written (is_inward f.side) (segment_of p)) → IsFaultless hops (sent (frames_in older)) f
  inward era side named a emitted early = record {
    read = certain.read;
    base = at lacks_base ∙ right.base;
    syn = at has_other_syn ∙ right.syn;
    octet = at has_other_octet ∙ right.octet;
    fin = at has_other_fin ∙ right.fin;
  }
    where
      s : Segment
      s = fields_of p

      w : Written
      w = written_of true s

      well : Plain hops p × (ip.protocol p ≡ 6)
      well = well_read_of hops era f certain.read side named

      is : segment_of p ≡ Some s
      is = ap (λ n. if n == 6 then Some s else None) well.1

      at : (test : List Written → Written → Bool) → in_stream test (sent (frames_in older)) f ≡ test (vs era) w
      at test = λ i. in_stream_as test (sent (frames_in older)) (side i) (named i) (is i)

      one : (written : Bool) → m.written ≡ written → added (is_era era f.era) m.written (is_inward f.side) (segment_of p) ≡ added true written true (Some s)
      one written h =
          (λ i. added (is_era era (named i)) (h i) (is_inward (side i)) (is i))
          ∙ ap (λ b. added b written true (Some s)) (eq-eqb era era refl)

      by : (written : Bool) → m.written ≡ written → IsRight (vs era) w
      by true h =
          let P : List Written → Type 0 = λ xs. AreEmitted [] (ws era ++ xs) in
          let Q : List Written → Type 0 = λ xs. NoneAcksUnbased (ws era ++ xs) in
          right_alike (ws era) (vs era) w (a (subst Q (one true h) early (ws era) w [] refl)) (emitted_right laws.eras laws.places (ws era) w refl (subst P (one true h) emitted))
      by false h =
          let there : IsSome f.era = ap (λ (o : Option ℕ). elim o as (λ _. Bool) [ Some n ↦ true | None ↦ false ]) named in
          right_silent (vs era) w (silent_of p s (certain.silent h side there) is)

      right : IsRight (vs era) w
      right = by m.written refl

  faultless_here : ((era : ℕ) → AcksNone (ws era) → Alike (ws era) (vs era))
      → ((era : ℕ) → AreEmitted [] (ws era ++ added (is_era era f.era) m.written (is_inward f.side) (segment_of p)))
      → ((era : ℕ) → NoneAcksUnbased (ws era ++ added (is_era era f.era) m.written (is_inward f.side) (segment_of p))) → IsFaultless hops (sent (frames_in older)) f
  faultless_here a emitted early = by f.side refl f.era refl
    where
      by : (side : Option Side) → f.side ≡ side → (era : Option ℕ) → f.era ≡ era → IsFaultless hops (sent (frames_in older)) f
      by (Some Inward) s (Some era) e = inward era s e (a era) (emitted era) (early era)
      by (Some Inward) s None e = quiet (λ test i. in_stream_as test (sent (frames_in older)) (s i) (e i) (segment_of p))
      by (Some Outward) s era e = quiet (λ test i. in_stream_as test (sent (frames_in older)) (s i) f.era (segment_of p))
      by None s era e = quiet (λ test i. in_stream_as test (sent (frames_in older)) (s i) f.era (segment_of p))

-- the facts that hold after some frames
record Holds (hops : ℕ) (marked : List Marked) : Type 0 where
  faultless : AreFaultless hops (frames_in marked)
  alike : (era : ℕ) → AcksNone (written_in era (map sent_as marked)) → Alike (written_in era (map sent_as marked)) (written_in era (sent (frames_in marked)))

-- if no segment follows an early acknowledgment in a list, none does in its front
acks_before : (xs ys : List Written) → NoneAcksUnbased (xs ++ ys) → NoneAcksUnbased xs
acks_before xs ys h before w later e = h before w (later ++ ys) (ap (λ zs. zs ++ ys) e ∙ append_assoc before (w ∷ later) ys)

holds : Laws → (hops : ℕ) (marked : List Marked) → AreWritten hops marked → Holds hops marked
holds laws hops [] h = record { faultless = tt; alike = λ era none. alike_none }
holds laws hops (m ∷ older) h =
    let more : ℕ → List Written = λ era. added (is_era era m.frame.era) m.written (is_inward m.frame.side) (segment_of m.frame.packet) in
    let before = holds laws hops older (record {
      certain = h.certain.1;
      emitted = λ era. ((laws.eras.joins [] (written_in era (map sent_as older)) (more era)).0 (h.emitted era)).0;
      acks = λ era. acks_before (written_in era (map sent_as older)) (more era) (h.acks era);
    }) in
    record {
      faultless = (before.faultless, faultless_here laws hops m older h.certain.0 before.alike h.emitted h.acks);
      alike = λ era none. alike_with laws hops m older h.certain.0 era (before.alike era) (h.acks era) none;
    }

pub emitted_faultless : Laws → EmittedHasNoFault
emitted_faultless laws hops marked h = (holds laws hops marked h).faultless

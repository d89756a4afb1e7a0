-- What was given to the capture and the report, output by output, and which output failed.
use Rattle.std.proofs.Common.{◌≡◌, ℕ, ◌<◌, true, Bool, List, [], ◌∷◌, ◌++◌, length, Option, None, Result, Ok, Err, refl, sym, ap, ◌∙◌, subst, arith, append_assoc, append-nil, take, ap₂, is_err}
use Rattle.std.proofs.KnownBytes.{Appends-trans}
use Rattle.std.specs.Io.KnownBytes.{Appends}
use Rattle.std.proofs.Math.Seq.{take-length}
use Rattle.edge_io.specs.KnownOctets.{AppendsPart, Flushes}
use Rattle.pcap_file.specs.declared.head.Head.{Head}
use Rattle.pcap_file.specs.FileHead.{head_octets}
use Rattle.rule_book.specs.declared.last.StopKind.TheVariants as kinds
use Rattle.both_sides.specs.declared.fault.RelayFault.TheVariants as faults
use Rattle.both_sides.specs.Outputs.{Output, to_capture, to_report, capture_hands_on, report_hands_on, cut, capture_part, report_part, Given, heading, CanFail, fault_at}
use Rattle.both_sides.specs.RecordOutputs.{Put, octets_put, put_octets, text_put}
use Rattle.both_sides.specs.Sinks.{Sinks}
use Rattle.both_sides.proofs.Outputs as puts
use Rattle.both_sides.proofs.Outputs.{appended, stays}
use Rattle.pcap_file.proofs.Records.{head_size}
use Rattle.bridge_run.specs.declared.stop.Stop.{Stop}
use Rattle.bridge_run.specs.declared.stop.Stop.TheVariants as stops
use Rattle.bridge_run.specs.Outputs.{BreaksOff, outputs_of, stop_by}
use Rattle.bridge_run.specs.StatusMeanings.{GivenUpTo}

-- Outputs that are given one after another.

pub capture_part-append : (xs ys : List Output) → capture_part (xs ++ ys) ≡ capture_part xs ++ capture_part ys
capture_part-append [] ys = refl
capture_part-append (to_capture octets ∷ xs) ys = ap (λ l. octets ++ l) (capture_part-append xs ys) ∙ sym (append_assoc octets (capture_part xs) (capture_part ys))
capture_part-append (to_report octets ∷ xs) ys = capture_part-append xs ys
capture_part-append (capture_hands_on ∷ xs) ys = capture_part-append xs ys
capture_part-append (report_hands_on ∷ xs) ys = capture_part-append xs ys

pub report_part-append : (xs ys : List Output) → report_part (xs ++ ys) ≡ report_part xs ++ report_part ys
report_part-append [] ys = refl
report_part-append (to_capture octets ∷ xs) ys = report_part-append xs ys
report_part-append (capture_hands_on ∷ xs) ys = report_part-append xs ys
report_part-append (report_hands_on ∷ xs) ys = report_part-append xs ys
report_part-append (to_report octets ∷ xs) ys = ap (λ l. octets ++ l) (report_part-append xs ys) ∙ sym (append_assoc octets (report_part xs) (report_part ys))

pub given_after : (xs ys : List Output) (a b c : Sinks) → Given xs a b → Given ys b c → Given (xs ++ ys) a c
given_after xs ys a b c p q = record {
  capture = subst (Appends a.capture.octets c.capture.octets) (sym (capture_part-append xs ys)) (Appends-trans _ _ _ _ _ p.capture q.capture);
  report = subst (Appends a.report.octets c.report.octets) (sym (report_part-append xs ys)) (Appends-trans _ _ _ _ _ p.report q.report);
}

-- outputs before a failure
pub broke_behind : (behind next : List Output) (offset : ℕ) (stop : Stop) (a b c : Sinks) → Given behind a b → BreaksOff [] next offset stop b c → BreaksOff behind next offset stop a c
broke_behind behind next offset stop a b c given p = record {
  fault = p.fault;
  broke = record {
    whole = p.broke.whole;
    failed = p.broke.failed;
    others = p.broke.others;
    are = p.broke.are;
    can_fail = p.broke.can_fail;
    answered = p.broke.answered;
    count = p.broke.count;
    given = given_after behind (p.broke.whole ++ cut p.broke.count p.broke.failed ∷ []) a b c given p.broke.given;
  };
  answered = p.answered;
}

-- the capture failed at the next octets
pub capture_broke : (x : List ℕ) (others : List Output) (offset : ℕ) (a b : Sinks) → 0 < length x → AppendsPart a.capture.octets b.capture.octets x → b.report.octets ≡ a.report.octets
    → BreaksOff [] (to_capture x ∷ others) offset (stops.At kinds.Capture offset) a b
capture_broke x others offset a b some p same = record { fault = faults.Capture; broke = puts.capture_broke x others a b some p same; answered = refl }

-- the report failed at the next octets
pub first_broke : (x : List ℕ) (others : List Output) (offset : ℕ) (a b : Sinks) → b.capture.octets ≡ a.capture.octets → AppendsPart a.report.octets b.report.octets x
    → BreaksOff [] (to_report x ∷ others) offset stops.Report a b
first_broke x others offset a b same p = record {
  fault = faults.Report;
  broke = record {
    whole = [];
    failed = to_report x;
    others = others;
    are = refl;
    can_fail = tt;
    answered = refl;
    count = p.count;
    given = record {
      capture = stays a.capture.octets b.capture.octets same;
      report = appended _ _ _ p.part;
    };
  };
  answered = refl;
}

-- octets for the report alone
pub given_first : (x : List ℕ) (a b : Sinks) → b.capture.octets ≡ a.capture.octets → Appends a.report.octets b.report.octets x → Given (to_report x ∷ []) a b
given_first x a b same p = record {
  capture = stays a.capture.octets b.capture.octets same;
  report = appended _ _ _ p;
}

-- what was written of the capture, the head and the frames
pub capture_is : (both : Bool) (head : Head) (puts : List Put) → capture_part (outputs_of both head puts) ≡ head_octets head ++ octets_put head.order puts
capture_is both head [] = refl
capture_is both head (put ∷ older) =
    capture_part-append (outputs_of both head older) _
    ∙ ap (λ l. l ++ (put_octets head.order put ++ [])) (capture_is both head older)
    ∙ ap (λ l. (head_octets head ++ octets_put head.order older) ++ l) (append-nil (put_octets head.order put))
    ∙ append_assoc (head_octets head) (octets_put head.order older) (put_octets head.order put)

-- what was written of the report, the first line and the others
pub report_is : (both : Bool) (head : Head) (puts : List Put) → report_part (outputs_of both head puts) ≡ heading both ++ text_put puts
report_is both head [] = refl
report_is both head (put ∷ older) =
    report_part-append (outputs_of both head older) _
    ∙ ap (λ l. l ++ (put.text ++ [])) (report_is both head older)
    ∙ ap (λ l. (heading both ++ text_put older) ++ l) (append-nil put.text)
    ∙ append_assoc (heading both) (text_put older) put.text

-- the octets of a sink that could not be flushed are not known
pub untold : {T E : Type 0} (result : Result T E) (a b : Option (List ℕ)) → true ≡ is_err result → Flushes a b result → b ≡ None
untold (Ok v) a b failed p = absurd cc
untold (Err e) a b failed p = p.1

-- a flush gives a sink no octets
pub flush_keeps : {T E : Type 0} (result : Result T E) (a b : Option (List ℕ)) → Flushes a b result → b ≡ a
flush_keeps (Ok x) a b kept = kept
flush_keeps (Err e) a b none = none.1 ∙ sym none.0

-- the capture could not be flushed
pub handing_broke : (others : List Output) (offset : ℕ) (a b : Sinks) → b.capture.octets ≡ None → b.capture.octets ≡ a.capture.octets → b.report.octets ≡ a.report.octets
    → BreaksOff [] (capture_hands_on ∷ others) offset (stops.At kinds.Capture offset) a b
handing_broke others offset a b untold same_capture same_report = record {
  fault = faults.Capture;
  broke = record {
    whole = [];
    failed = capture_hands_on;
    others = others;
    are = refl;
    can_fail = untold;
    answered = refl;
    count = 0;
    given = record { capture = stays a.capture.octets b.capture.octets same_capture; report = stays a.report.octets b.report.octets same_report };
  };
  answered = refl;
}

-- the report could not be flushed, after the capture
pub report_handing_broke : (offset : ℕ) (a b : Sinks) → b.report.octets ≡ None → b.capture.octets ≡ a.capture.octets → b.report.octets ≡ a.report.octets
    → BreaksOff [] (capture_hands_on ∷ report_hands_on ∷ []) offset stops.Report a b
report_handing_broke offset a b untold same_capture same_report = record {
  fault = faults.Report;
  broke = record {
    whole = capture_hands_on ∷ [];
    failed = report_hands_on;
    others = [];
    are = refl;
    can_fail = untold;
    answered = refl;
    count = 0;
    given = record { capture = stays a.capture.octets b.capture.octets same_capture; report = stays a.report.octets b.report.octets same_report };
  };
  answered = refl;
}

-- the report failed at octets after the capture was flushed
pub last_broke : (y : List ℕ) (others : List Output) (offset : ℕ) (a b : Sinks) → b.capture.octets ≡ a.capture.octets → AppendsPart a.report.octets b.report.octets y
    → BreaksOff [] (capture_hands_on ∷ to_report y ∷ others) offset stops.Report a b
last_broke y others offset a b same q = record {
  fault = faults.Report;
  broke = record {
    whole = capture_hands_on ∷ [];
    failed = to_report y;
    others = others;
    are = refl;
    can_fail = tt;
    answered = refl;
    count = q.count;
    given = record { capture = stays a.capture.octets b.capture.octets same; report = appended _ _ _ q.part };
  };
  answered = refl;
}

-- the report could not be flushed, after octets for it
pub flush_broke : (y : List ℕ) (offset : ℕ) (a b : Sinks) (mid : Option (List ℕ)) → b.report.octets ≡ None → b.capture.octets ≡ a.capture.octets → Appends a.report.octets mid y → b.report.octets ≡ mid
    → BreaksOff [] (capture_hands_on ∷ to_report y ∷ report_hands_on ∷ []) offset stops.Report a b
flush_broke y offset a b mid untold same p kept = record {
  fault = faults.Report;
  broke = record {
    whole = capture_hands_on ∷ to_report y ∷ [];
    failed = report_hands_on;
    others = [];
    are = refl;
    can_fail = untold;
    answered = refl;
    count = 0;
    given = record {
      capture = stays a.capture.octets b.capture.octets same;
      report = subst (λ s. Appends a.report.octets s (y ++ [])) (sym kept) (appended _ _ _ p);
    };
  };
  answered = refl;
}

-- some octets are written for a head
pub head_some : (head : Head) → 0 < length (head_octets head)
head_some head = omega (arith, head_size head.order head.nano head.link)

-- Which output failed, and what was given before it.

-- the stop of a run if this output failed, at this offset
abbrev pub stop_at : Output → (offset : ℕ) → Stop
stop_at output offset = stop_by (fault_at output) offset

answered : (behind next : List Output) (offset : ℕ) (stop : Stop) (a c : Sinks) (p : BreaksOff behind next offset stop a c) → stop ≡ stop_at p.broke.failed offset
answered behind next offset stop a c p = p.answered ∙ ap (λ f. stop_by f offset) p.broke.answered

-- the first of these outputs failed, or it was given and a later one failed
pub data Fails (x : Output) (next whole : List Output) (failed : Output) (others : List Output) : Type 0 where
  now : whole ≡ [] → failed ≡ x → Fails x next whole failed others
  later : (more : List Output) → whole ≡ x ∷ more → next ≡ more ++ failed ∷ others → Fails x next whole failed others

pub fails : (x : Output) (next whole : List Output) (failed : Output) (others : List Output) → x ∷ next ≡ whole ++ failed ∷ others → Fails x next whole failed others
fails x next [] failed others e = now refl cc
fails x next (w ∷ more) failed others e = let same : w ≡ x = cc in later more (ap (λ y. y ∷ more) same) cc

pub none_fails : (whole : List Output) (failed : Output) (others : List Output) → [] ≡ whole ++ failed ∷ others → ⊥
none_fails [] failed others e = cc
none_fails (w ∷ whole) failed others e = cc

-- what was given, in two parts
given_at : (behind mid : List Output) (a c : Sinks) → Given (behind ++ mid) a c
    → Appends a.capture.octets c.capture.octets (capture_part behind ++ capture_part mid) × Appends a.report.octets c.report.octets (report_part behind ++ report_part mid)
given_at behind mid a c g = (
  subst (Appends a.capture.octets c.capture.octets) (capture_part-append behind mid) g.capture,
  subst (Appends a.report.octets c.report.octets) (report_part-append behind mid) g.report,
)

-- what was given up to the failure, if it is known which output failed
given_up_to : (behind whole known : List Output) (failed x : Output) (count : ℕ) (a c : Sinks) → whole ≡ known → failed ≡ x → Given (behind ++ (whole ++ cut count failed ∷ [])) a c
    → Appends a.capture.octets c.capture.octets (capture_part behind ++ capture_part (known ++ cut count x ∷ []))
    × Appends a.report.octets c.report.octets (report_part behind ++ report_part (known ++ cut count x ∷ []))
given_up_to behind whole known failed x count a c w f g =
    given_at behind (known ++ cut count x ∷ []) a c (subst (λ mid. Given (behind ++ mid) a c) (ap₂ (λ w f. w ++ cut count f ∷ []) w f) g)

-- outputs for the report alone
abbrev pub ForReport : List Output → Type 0
ForReport [] = Unit {0}
ForReport (to_report octets ∷ outputs) = ForReport outputs
ForReport (report_hands_on ∷ outputs) = ForReport outputs
ForReport (_ ∷ outputs) = ⊥

-- if one of them fails, the run stops by a fault of the report
report_fails : (next : List Output) → ForReport next → (whole : List Output) (failed : Output) (others : List Output) (offset : ℕ) → next ≡ whole ++ failed ∷ others → stop_at failed offset ≡ stops.Report
report_fails [] only whole failed others offset e = absurd (none_fails whole failed others e)
report_fails (to_capture x ∷ next) only whole failed others offset e = absurd only
report_fails (capture_hands_on ∷ next) only whole failed others offset e = absurd only
report_fails (to_report y ∷ next) only whole failed others offset e =
    elim (fails (to_report y) next whole failed others e) [
      | now w f ↦ ap (λ o. stop_at o offset) f
      | later more w e' ↦ report_fails next only more failed others offset e'
    ]
report_fails (report_hands_on ∷ next) only whole failed others offset e =
    elim (fails report_hands_on next whole failed others e) [
      | now w f ↦ ap (λ o. stop_at o offset) f
      | later more w e' ↦ report_fails next only more failed others offset e'
    ]

apart : (offset : ℕ) → stops.At kinds.Capture offset ≡ stops.Report → ⊥
apart offset e = cc

same_place : (offset place : ℕ) → stops.At kinds.Capture place ≡ stops.At kinds.Capture offset → place ≡ offset
same_place offset place e = cc

-- outputs for the report alone do not stop a run by a fault of the capture
pub no_capture : (behind next : List Output) → ForReport next → (offset place : ℕ) (a c : Sinks) → BreaksOff behind next offset (stops.At kinds.Capture place) a c → ⊥
no_capture behind next only offset place a c p = apart place (answered _ _ offset _ a c p ∙ report_fails next only p.broke.whole p.broke.failed p.broke.others offset p.broke.are)

-- the capture failed at the next octets
pub record CaptureFails (behind : List Output) (x : List ℕ) (offset place : ℕ) (a c : Sinks) : Type 0 where
  pub here : place ≡ offset
  pub some : 0 < length x
  pub capture : GivenUpTo (capture_part behind) x a.capture.octets c.capture.octets
  pub report : Appends a.report.octets c.report.octets (report_part behind)

pub capture_fails : (behind : List Output) (x : List ℕ) (next : List Output) → ForReport next → (offset place : ℕ) (a c : Sinks) → BreaksOff behind (to_capture x ∷ next) offset (stops.At kinds.Capture place) a c
    → CaptureFails behind x offset place a c
capture_fails behind x next only offset place a c p =
    elim (fails (to_capture x) next p.broke.whole p.broke.failed p.broke.others p.broke.are) [
      | now w f ↦
          let g = given_up_to behind p.broke.whole [] p.broke.failed (to_capture x) p.broke.count a c w f p.broke.given in
          record {
            here = same_place offset place (answered _ _ offset _ a c p ∙ ap (λ o. stop_at o offset) f);
            some = subst (λ o. CanFail o c) f p.broke.can_fail;
            capture = record { count = p.broke.count; given = subst (λ l. Appends a.capture.octets c.capture.octets (capture_part behind ++ l)) (append-nil (take p.broke.count x)) g.0 };
            report = subst (Appends a.report.octets c.report.octets) (append-nil (report_part behind)) g.1;
          }
      | later more w e ↦ absurd (apart place (answered _ _ offset _ a c p ∙ report_fails next only more p.broke.failed p.broke.others offset e))
    ]

-- the capture could not be flushed
pub record HandingFails (behind : List Output) (offset place : ℕ) (a c : Sinks) : Type 0 where
  pub here : place ≡ offset
  pub untold : c.capture.octets ≡ None
  pub report : Appends a.report.octets c.report.octets (report_part behind)

pub handing_fails : (behind next : List Output) → ForReport next → (offset place : ℕ) (a c : Sinks) → BreaksOff behind (capture_hands_on ∷ next) offset (stops.At kinds.Capture place) a c → HandingFails behind offset place a c
handing_fails behind next only offset place a c p =
    elim (fails capture_hands_on next p.broke.whole p.broke.failed p.broke.others p.broke.are) [
      | now w f ↦
          let g = given_up_to behind p.broke.whole [] p.broke.failed capture_hands_on p.broke.count a c w f p.broke.given in
          record {
            here = same_place offset place (answered _ _ offset _ a c p ∙ ap (λ o. stop_at o offset) f);
            untold = subst (λ o. CanFail o c) f p.broke.can_fail;
            report = subst (Appends a.report.octets c.report.octets) (append-nil (report_part behind)) g.1;
          }
      | later more w e ↦ absurd (apart place (answered _ _ offset _ a c p ∙ report_fails next only more p.broke.failed p.broke.others offset e))
    ]

-- the report failed at the next octets
pub first_fails : (behind : List Output) (y : List ℕ) (offset : ℕ) (a c : Sinks) → BreaksOff behind (to_report y ∷ []) offset stops.Report a c
    → Appends a.capture.octets c.capture.octets (capture_part behind) × GivenUpTo (report_part behind) y a.report.octets c.report.octets
first_fails behind y offset a c p =
    elim (fails (to_report y) [] p.broke.whole p.broke.failed p.broke.others p.broke.are) [
      | now w f ↦
          let g = given_up_to behind p.broke.whole [] p.broke.failed (to_report y) p.broke.count a c w f p.broke.given in (
            subst (Appends a.capture.octets c.capture.octets) (append-nil (capture_part behind)) g.0,
            record { count = p.broke.count; given = subst (λ l. Appends a.report.octets c.report.octets (report_part behind ++ l)) (append-nil (take p.broke.count y)) g.1 },
          )
      | later more w e ↦ absurd (none_fails more p.broke.failed p.broke.others e)
    ]

-- octets for the capture alone do not stop a run by a fault of the report
pub no_report : (behind : List Output) (x : List ℕ) (offset : ℕ) (a c : Sinks) → BreaksOff behind (to_capture x ∷ []) offset stops.Report a c → ⊥
no_report behind x offset a c p =
    elim (fails (to_capture x) [] p.broke.whole p.broke.failed p.broke.others p.broke.are) [
      | now w f ↦ apart offset (sym (answered _ _ offset _ a c p ∙ ap (λ o. stop_at o offset) f))
      | later more w e ↦ none_fails more p.broke.failed p.broke.others e
    ]

-- at most the report is flushed
abbrev pub HandsOn : List Output → Type 0
HandsOn next = (whole : List Output) (failed : Output) (others : List Output) → next ≡ whole ++ failed ∷ others → (whole ≡ []) × (failed ≡ report_hands_on)

pub nothing : HandsOn []
nothing whole failed others e = absurd (none_fails whole failed others e)

pub handing : HandsOn (report_hands_on ∷ [])
handing whole failed others e =
    elim (fails report_hands_on [] whole failed others e) [
      | now w f ↦ (w, f)
      | later more w e' ↦ absurd (none_fails more failed others e')
    ]

-- the report could not be flushed, after the capture
pub report_handing_fails : (behind : List Output) (offset : ℕ) (a c : Sinks) → BreaksOff behind (capture_hands_on ∷ report_hands_on ∷ []) offset stops.Report a c
    → Appends a.capture.octets c.capture.octets (capture_part behind) × (c.report.octets ≡ None)
report_handing_fails behind offset a c p =
    elim (fails capture_hands_on (report_hands_on ∷ []) p.broke.whole p.broke.failed p.broke.others p.broke.are) [
      | now w f ↦ absurd (apart offset (sym (answered _ _ offset _ a c p ∙ ap (λ o. stop_at o offset) f)))
      | later more w e ↦
          let last = handing more p.broke.failed p.broke.others e in
          let g = given_up_to behind p.broke.whole (capture_hands_on ∷ []) p.broke.failed report_hands_on p.broke.count a c (w ∙ ap (λ m. capture_hands_on ∷ m) last.0) last.1 p.broke.given in (
            subst (Appends a.capture.octets c.capture.octets) (append-nil (capture_part behind)) g.0,
            subst (λ o. CanFail o c) last.1 p.broke.can_fail,
          )
    ]

-- the report failed at octets after an output for the capture, or when it was flushed
module _ (behind next : List Output) (first : Output) (x y : List ℕ) (offset : ℕ) (a c : Sinks)
    (gives : (more : List Output) → capture_part (first ∷ more) ≡ x ++ capture_part more) (says : (more : List Output) → report_part (first ∷ more) ≡ report_part more)
    (stopped : stop_at first offset ≡ stops.At kinds.Capture offset) (hands : HandsOn next) where
  pub line_fails : BreaksOff behind (first ∷ to_report y ∷ next) offset stops.Report a c
      → Appends a.capture.octets c.capture.octets (capture_part behind ++ x) × GivenUpTo (report_part behind) y a.report.octets c.report.octets
  line_fails p =
      elim (fails first (to_report y ∷ next) p.broke.whole p.broke.failed p.broke.others p.broke.are) [
        | now w f ↦ absurd (apart offset (sym (answered _ _ offset _ a c p ∙ ap (λ o. stop_at o offset) f ∙ stopped)))
        | later more w e ↦
            elim (fails (to_report y) next more p.broke.failed p.broke.others e) [
              | now w' f ↦
                  let known : List Output = to_report (take p.broke.count y) ∷ [] in
                  let g = given_up_to behind p.broke.whole (first ∷ []) p.broke.failed (to_report y) p.broke.count a c (w ∙ ap (λ m. first ∷ m) w') f p.broke.given in (
                    subst (λ l. Appends a.capture.octets c.capture.octets (capture_part behind ++ l)) (gives known ∙ append-nil x) g.0,
                    record { count = p.broke.count; given = subst (λ l. Appends a.report.octets c.report.octets (report_part behind ++ l)) (says known ∙ append-nil (take p.broke.count y)) g.1 },
                  )
              | later rest w' e' ↦
                  let last = hands rest p.broke.failed p.broke.others e' in
                  let known : List Output = to_report y ∷ report_hands_on ∷ [] in
                  let g = given_up_to behind p.broke.whole (first ∷ to_report y ∷ []) p.broke.failed report_hands_on p.broke.count a c (w ∙ ap (λ m. first ∷ m) (w' ∙ ap (λ m. to_report y ∷ m) last.0)) last.1 p.broke.given in (
                    subst (λ l. Appends a.capture.octets c.capture.octets (capture_part behind ++ l)) (gives known ∙ append-nil x) g.0,
                    record {
                      count = length y;
                      given = subst (λ l. Appends a.report.octets c.report.octets (report_part behind ++ l)) (says known ∙ append-nil y ∙ sym (take-length y)) g.1;
                    },
                  )
            ]
      ]

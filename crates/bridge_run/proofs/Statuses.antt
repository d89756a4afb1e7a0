-- The status of a stop: which fault, failed sink or record too many it means, what the source had
-- left, and the line that is given of it.
use Rattle.std.proofs.Common.{◌≡◌, ◌==◌, ℕ, ◌≤◌, true, false, List, length, Option, Some, None, refl, sym, ap, subst, ◌∙◌, arith, ◌⊎◌, inl, inr, [], Result, Ok, Err}
use Rattle.edge_io.specs.FaultCounts.{Rose, HasCause}
use Rattle.capture_input.specs.declared.fault.InputFault.{InputFault}
use Rattle.capture_input.specs.declared.fault.InputFault.TheVariants as faults
use Rattle.capture_input.specs.Faults.{is_read_fault}
use Rattle.capture_input.specs.Inputs.{FailsAt, HasFaultAt, Took, TookAll}
use Rattle.capture_input.specs.InputLaws.{FaultExcludesEnd, FaultIsOne, HeadStopsAreFaults, HeadStopsLeaveNone, InputHasAll, StopsAreFaults, StopsLeaveNone}
use Rattle.capture_input.specs.RecordReading.{StopsInHead}
use Rattle.rule_book.specs.declared.last.StopKind.TheVariants as kinds
use Rattle.norm_settings.specs.SettingValues.{PlainSettings}
use Rattle.both_sides.specs.RunTraces.{packets_of}
use Rattle.both_sides.specs.declared.fault.RelayFault.{RelayFault}
use Rattle.both_sides.specs.declared.fault.RelayFault.TheVariants as sinks
use Rattle.both_sides.specs.Sinks.{OnlyRose}
use Rattle.bridge_run.specs.declared.stop.Stop.{Stop}
use Rattle.bridge_run.specs.declared.stop.Stop.TheVariants as stops
use Rattle.bridge_run.specs.RunMoments.{Moment, NoneRose}
use Rattle.bridge_run.specs.StopReasons.{AreFew, BeginsTooMany, Faulted, FirstFault, fault_kind, kind_status, status_of, is_faulty, IsFaulty, IsCutShort, IsWhole, WasFaulty, WasCut, WasTooMany, WereFew, Kept, Told}
use Rattle.bridge_run.specs.working.FaultStops.{stop_at_fault}
use Rattle.bridge_run.specs.Theorem.{Normalized}
use Rattle.bridge_run.specs.StoppedRun.{Faulty, Stands, StopsAtTooMany, Unwritten}
use Rattle.bridge_run.specs.Outputs.{stop_by}
use Rattle.std.proofs.KnownBytes.{Appends-nil}
use Rattle.std.specs.Io.KnownBytes.{Appends}
use Rattle.edge_io.specs.KnownOctets.{AppendsPart, Flushes}
use Rattle.edge_io.specs.SeenEnds.{Seen}

-- The status of a stop, and its consequences.

-- the status of a fault of the input
abbrev fault_status : InputFault → ℕ
fault_status fault = kind_status (fault_kind fault)

-- this fault of the octets is the first, and has this status
record HasFaultOf (inside source : Option (List ℕ)) (status : ℕ) : Type 0 where
  fault : InputFault
  offset : ℕ
  first : HasFaultAt inside source fault offset
  answered : status ≡ fault_status fault
  lasts : is_read_fault fault ≡ false

-- there is one record more than allowed
record HasTooMany (settings : PlainSettings) (source : Option (List ℕ)) (status : ℕ) : Type 0 where
  offset : ℕ
  was : WasTooMany settings source offset
  answered : status ≡ 3

-- a stop before the end has a status from 3 to 7
pub known_of : (settings : PlainSettings) (stop : Stop) (a b : Moment) → Stands settings stop a b → (3 ≤ status_of stop) × (status_of stop ≤ 7)
known_of settings (stops.At kinds.Magic offset) a b p = (omega arith, omega arith)
known_of settings (stops.At kinds.Version offset) a b p = (omega arith, omega arith)
known_of settings (stops.At kinds.Link offset) a b p = (omega arith, omega arith)
known_of settings (stops.At kinds.Block offset) a b p = (omega arith, omega arith)
known_of settings (stops.At kinds.Long offset) a b p = (omega arith, omega arith)
known_of settings (stops.At kinds.Many offset) a b p = (omega arith, omega arith)
known_of settings (stops.At kinds.Cut offset) a b p = (omega arith, omega arith)
known_of settings (stops.At kinds.ReadFault offset) a b p = (omega arith, omega arith)
known_of settings (stops.At kinds.Capture offset) a b p = (omega arith, omega arith)
known_of settings (stops.At kinds.Memory offset) a b p = absurd p
known_of settings stops.Report a b p = (omega arith, omega arith)

is_3 : (fault : InputFault) (status : ℕ) → status ≡ fault_status fault → status ≡ 3 → is_faulty fault ≡ true
is_3 faults.Cut status e f = absurd (omega (arith, e, f))
is_3 faults.ReadFault status e f = absurd (omega (arith, e, f))
is_3 faults.Magic status e f = refl
is_3 faults.Version status e f = refl
is_3 faults.Link status e f = refl
is_3 faults.Block status e f = refl
is_3 faults.Long status e f = refl
is_3 faults.Many status e f = refl

faulty_status : (fault : InputFault) → is_faulty fault ≡ true → fault_status fault ≡ 3
faulty_status faults.Cut other = absurd cc
faulty_status faults.ReadFault other = absurd cc
faulty_status faults.Magic other = refl
faulty_status faults.Version other = refl
faulty_status faults.Link other = refl
faulty_status faults.Block other = refl
faulty_status faults.Long other = refl
faulty_status faults.Many other = refl

-- the octets of the source are known
here : (inside source : Option (List ℕ)) (octets : List ℕ) (fault : InputFault) (offset : ℕ) → source ≡ Some octets → HasFaultAt inside source fault offset → FailsAt inside octets fault offset
here inside source octets fault offset told first = subst (λ s. HasFaultAt inside s fault offset) told first

-- no octet is left after the end or a fault
pub record LeavesNone : Type 0 where
  pub input : InputHasAll
  pub head : HeadStopsLeaveNone
  pub stops : StopsLeaveNone

-- the consequences of a stop for the octets that the source had left
module _ (in_head : HeadStopsAreFaults) (behind : StopsAreFaults) (settings : PlainSettings) where
  fault_at : (fault : InputFault) (offset : ℕ) (a b : Moment) → is_read_fault fault ≡ false → Faulty settings fault offset a b → HasFaultAt settings.inside a.source.octets fault offset
  fault_at fault offset a b lasts (inl p) = in_head settings.inside a.source.octets b.source.octets fault offset lasts p.found
  fault_at fault offset a b lasts (inr p) =
      subst (HasFaultAt settings.inside a.source.octets fault) (sym p.place)
      (behind settings.inside a.source.octets p.left b.source.octets p.head p.walk fault lasts p.took p.found)

  has_fault : (fault : InputFault) (offset : ℕ) (a b : Moment) → is_read_fault fault ≡ false → Faulty settings fault offset a b → HasFaultOf settings.inside a.source.octets (fault_status fault)
  has_fault fault offset a b lasts p = record { fault = fault; offset = offset; first = fault_at fault offset a b lasts p; answered = refl; lasts = lasts }

  -- the octets begin with one record more than allowed
  too_many : (offset : ℕ) (a b : Moment) → StopsAtTooMany settings offset a b → WasTooMany settings a.source.octets offset
  too_many offset a b p = by a.source.octets b.source.octets p.took where
    by : (old new : Option (List ℕ)) → Took settings.inside old new p.head p.walk → WasTooMany settings old offset
    by None new took = p.both
    by (Some octets) None took = absurd took
    by (Some octets) (Some rest) took = record {
      both = p.both;
      head = p.head;
      walk = p.walk;
      rest = rest;
      begins = took;
      ends = p.ends;
      count = let count = ap length p.packets_are in omega (arith, count, p.full);
      place = p.place;
    }

  -- a stop is one at a fault of the octets, at one record too many, or at a fault of an object
  sorts : (stop : Stop) (a b : Moment) → Stands settings stop a b
      → HasFaultOf settings.inside a.source.octets (status_of stop) ⊎ (HasTooMany settings a.source.octets (status_of stop) ⊎ (5 ≤ status_of stop))
  sorts (stops.At kinds.Magic offset) a b p = inl (has_fault faults.Magic offset a b refl p)
  sorts (stops.At kinds.Version offset) a b p = inl (has_fault faults.Version offset a b refl p)
  sorts (stops.At kinds.Link offset) a b p = inl (has_fault faults.Link offset a b refl p)
  sorts (stops.At kinds.Block offset) a b p = inl (has_fault faults.Block offset a b refl p)
  sorts (stops.At kinds.Long offset) a b p = inl (has_fault faults.Long offset a b refl p)
  sorts (stops.At kinds.Many offset) a b (inl p) = inl (has_fault faults.Many offset a b refl p)
  sorts (stops.At kinds.Many offset) a b (inr p) = inr (inl (record { offset = offset; was = too_many offset a b p; answered = refl }))
  sorts (stops.At kinds.Cut offset) a b p = inl (has_fault faults.Cut offset a b refl p)
  sorts (stops.At kinds.ReadFault offset) a b p = inr (inr (omega arith))
  sorts (stops.At kinds.Capture offset) a b p = inr (inr (omega arith))
  sorts (stops.At kinds.Memory offset) a b p = absurd p
  sorts stops.Report a b p = inr (inr (omega arith))

  pub faulty_of : (stop : Stop) (a b : Moment) → Stands settings stop a b → status_of stop ≡ 3 → WasFaulty settings a.source.octets
  faulty_of stop a b p s =
      elim (sorts stop a b p) [
        | inl q ↦ inl (q.fault, q.offset, is_3 q.fault (status_of stop) q.answered s, q.first)
        | inr (inl q) ↦ inr (q.offset, q.was)
        | inr (inr least) ↦ absurd (omega (arith, least, s))
      ]

  -- if reading stops at a cut, there are no more records than allowed
  cut_is_few : LeavesNone → (octets : List ℕ) (place : ℕ) (a b : Moment) → a.source.octets ≡ Some octets → Faulty settings faults.Cut place a b → AreFew settings octets
  cut_is_few left octets place a b told (inl p) offset more =
      left.head settings.inside b.source.octets octets faults.Cut place more.head more.walk more.rest refl
      (subst (λ s. StopsInHead settings.inside s b.source.octets faults.Cut place) told p.found) more.begins
  cut_is_few left octets place a b told (inr p) offset more =
      let least = left.stops settings.inside p.left b.source.octets octets faults.Cut p.head more.head p.walk more.walk more.rest refl
      (subst (λ s. Took settings.inside s p.left p.head p.walk) told p.took) p.found more.begins in
      let count = ap length p.packets_are in
      omega (arith, least, count, more.count, p.few more.both)

  were_few : (source : Option (List ℕ)) → ((octets : List ℕ) → source ≡ Some octets → AreFew settings octets) → WereFew settings source
  were_few None few = tt
  were_few (Some octets) few = few octets refl

  pub cut_of : LeavesNone → (stop : Stop) (a b : Moment) → Stands settings stop a b → status_of stop ≡ 4 → WasCut settings a.source.octets
  cut_of left (stops.At kinds.Magic place) a b p s = absurd (omega (arith, s))
  cut_of left (stops.At kinds.Version place) a b p s = absurd (omega (arith, s))
  cut_of left (stops.At kinds.Link place) a b p s = absurd (omega (arith, s))
  cut_of left (stops.At kinds.Block place) a b p s = absurd (omega (arith, s))
  cut_of left (stops.At kinds.Long place) a b p s = absurd (omega (arith, s))
  cut_of left (stops.At kinds.Many place) a b p s = absurd (omega (arith, s))
  cut_of left (stops.At kinds.ReadFault place) a b p s = absurd (omega (arith, s))
  cut_of left (stops.At kinds.Capture place) a b p s = absurd (omega (arith, s))
  cut_of left (stops.At kinds.Cut place) a b p s = record {
    offset = place;
    fails = fault_at faults.Cut place a b refl p;
    few = were_few a.source.octets (λ octets told. cut_is_few left octets place a b told p);
  }
  cut_of left (stops.At kinds.Memory place) a b p s = absurd p
  cut_of left stops.Report a b p s = absurd (omega (arith, s))

  -- if the octets begin with one record more than allowed, the run stops there, or before
  too_many_is_3 : LeavesNone → (octets : List ℕ) (offset : ℕ) → BeginsTooMany settings octets offset → (stop : Stop) (a b : Moment) → a.source.octets ≡ Some octets → Stands settings stop a b
      → (status_of stop ≡ 3) ⊎ (5 ≤ status_of stop)
  too_many_is_3 left octets offset more (stops.At kinds.Magic place) a b told p = inl refl
  too_many_is_3 left octets offset more (stops.At kinds.Version place) a b told p = inl refl
  too_many_is_3 left octets offset more (stops.At kinds.Link place) a b told p = inl refl
  too_many_is_3 left octets offset more (stops.At kinds.Block place) a b told p = inl refl
  too_many_is_3 left octets offset more (stops.At kinds.Long place) a b told p = inl refl
  too_many_is_3 left octets offset more (stops.At kinds.Many place) a b told p = inl refl
  too_many_is_3 left octets offset more (stops.At kinds.Cut place) a b told p = absurd (cut_is_few left octets place a b told p offset more)
  too_many_is_3 left octets offset more (stops.At kinds.ReadFault place) a b told p = inr (omega arith)
  too_many_is_3 left octets offset more (stops.At kinds.Capture place) a b told p = inr (omega arith)
  too_many_is_3 left octets offset more (stops.At kinds.Memory place) a b told p = absurd p
  too_many_is_3 left octets offset more stops.Report a b told p = inr (omega arith)

  pub faulty_is_3 : FaultIsOne → LeavesNone → (stop : Stop) (a b : Moment) → Stands settings stop a b → IsFaulty settings a.source.octets → (status_of stop ≡ 3) ⊎ (5 ≤ status_of stop)
  faulty_is_3 one left stop a b p f =
      elim (sorts stop a b p) [
        | inl q ↦
            elim f.faulty [
              | inl found ↦
                  let same : q.fault ≡ found.0 = (one settings.inside f.octets q.fault found.0 q.offset found.1 (here settings.inside _ f.octets q.fault q.offset f.told q.first) found.3).0 in
                  inl (q.answered ∙ ap fault_status same ∙ faulty_status found.0 found.2)
              | inr more ↦ too_many_is_3 left f.octets more.0 more.1 stop a b f.told p
            ]
        | inr (inl q) ↦ inl q.answered
        | inr (inr outside) ↦ inr outside
      ]

  pub cut_is_4 : FaultIsOne → (stop : Stop) (a b : Moment) → Stands settings stop a b → IsCutShort settings a.source.octets → (status_of stop ≡ 4) ⊎ (5 ≤ status_of stop)
  cut_is_4 one stop a b p f =
      elim (sorts stop a b p) [
        | inl q ↦
            let same : q.fault ≡ faults.Cut = (one settings.inside f.octets q.fault faults.Cut q.offset f.offset (here settings.inside _ f.octets q.fault q.offset f.told q.first) f.fails).0 in
            inl (q.answered ∙ ap fault_status same)
        | inr (inl q) ↦ absurd (f.few q.offset (subst (λ s. WasTooMany settings s q.offset) f.told q.was))
        | inr (inr outside) ↦ inr outside
      ]

  pub whole_goes_on : FaultExcludesEnd → (stop : Stop) (a b : Moment) → Stands settings stop a b → IsWhole settings a.source.octets → 5 ≤ status_of stop
  whole_goes_on none stop a b p f =
      elim (sorts stop a b p) [
        | inl q ↦ absurd (none settings.inside f.octets f.head f.packets q.fault q.offset f.input (here settings.inside _ f.octets q.fault q.offset f.told q.first))
        | inr (inl q) ↦ absurd (f.few q.offset (subst (λ s. WasTooMany settings s q.offset) f.told q.was))
        | inr (inr outside) ↦ outside
      ]

-- the fault count of the status rose

pub read_of : (stop : Stop) (a b : Moment) → FirstFault stop a b → status_of stop ≡ 5 → Rose a.source.faults b.source.faults
read_of stop a b p s = subst (λ n. Faulted (n == 5) a.source b.source) s p.source

pub capture_of : (stop : Stop) (a b : Moment) → FirstFault stop a b → status_of stop ≡ 6 → Rose a.sinks.capture.faults b.sinks.capture.faults
capture_of stop a b p s = subst (λ n. Faulted (n == 6) a.sinks.capture b.sinks.capture) s p.sinks.capture

pub report_of : (stop : Stop) (a b : Moment) → FirstFault stop a b → status_of stop ≡ 7 → Rose a.sinks.report.faults b.sinks.report.faults
report_of stop a b p s = subst (λ n. Faulted (n == 7) a.sinks.report b.sinks.report) s p.sinks.report

-- 7 is not the status of a fault of the input
pub input_is_not_7 : (fault : InputFault) (offset : ℕ) → status_of (stop_at_fault fault offset) ≡ 7 → ⊥
input_is_not_7 faults.Cut offset seven = omega (arith, seven)
input_is_not_7 faults.Magic offset seven = omega (arith, seven)
input_is_not_7 faults.Version offset seven = omega (arith, seven)
input_is_not_7 faults.Link offset seven = omega (arith, seven)
input_is_not_7 faults.Block offset seven = omega (arith, seven)
input_is_not_7 faults.Long offset seven = omega (arith, seven)
input_is_not_7 faults.Many offset seven = omega (arith, seven)
input_is_not_7 faults.ReadFault offset seven = omega (arith, seven)

-- a finished run excludes faults

finished_input : (settings : PlainSettings) (source source' c c' r r' : Option (List ℕ)) (octets : List ℕ) (n : Normalized settings source source' c c' r r') → source ≡ Some octets
    → TookAll settings.inside (Some octets) n.head (packets_of n.run)
finished_input settings source source' c c' r r' octets n told = subst (λ s. TookAll settings.inside s n.head (packets_of n.run)) told n.whole

pub finished_or_faulty : FaultExcludesEnd → InputHasAll → (settings : PlainSettings) (source source' c c' r r' : Option (List ℕ)) → Normalized settings source source' c c' r r' → IsFaulty settings source → ⊥
finished_or_faulty none all settings source source' c c' r r' n f =
    let input = finished_input settings source source' c c' r r' f.octets n f.told in
    elim f.faulty [
      | inl found ↦ none settings.inside f.octets n.head _ found.0 found.1 input found.3
      | inr more ↦
          let least = all settings.inside f.octets n.head more.1.head (packets_of n.run) more.1.walk more.1.rest input more.1.begins in
          let count = more.1.count in
          omega (arith, least, count, n.few more.1.both)
    ]

pub finished_or_cut : FaultExcludesEnd → (settings : PlainSettings) (source source' c c' r r' : Option (List ℕ)) → Normalized settings source source' c c' r r' → IsCutShort settings source → ⊥
finished_or_cut none settings source source' c c' r r' n f =
    none settings.inside f.octets n.head _ faults.Cut f.offset (finished_input settings source source' c c' r r' f.octets n f.told) f.fails

-- The stop at a fault of the input or a sink, and the state at it.

-- the sinks

pub stands_unwritten : (settings : PlainSettings) (stop : Stop) (fault : RelayFault) (offset : ℕ) (a c : Moment) → stop ≡ stop_by fault offset → Unwritten settings stop a c → Stands settings stop a c
stands_unwritten settings stop sinks.Capture offset a c is p = subst (λ (s : Stop). Stands settings s a c) (sym is) (subst (λ (s : Stop). Unwritten settings s a c) is p)
stands_unwritten settings stop sinks.Report offset a c is p = subst (λ (s : Stop). Stands settings s a c) (sym is) (subst (λ (s : Stop). Unwritten settings s a c) is p)

-- the first fault is that of the sink that failed
pub first_at_sink : (fault : RelayFault) (offset : ℕ) (a b c : Moment) → NoneRose a b → c.source.faults ≡ b.source.faults → OnlyRose fault b.sinks c.sinks → FirstFault (stop_by fault offset) a c
first_at_sink sinks.Capture offset a b c none kept rose = record {
  source = kept ∙ none.source;
  sinks = record { capture = subst (λ n. Rose n c.sinks.capture.faults) none.sinks.capture rose.0; report = rose.1 ∙ none.sinks.report };
}
first_at_sink sinks.Report offset a b c none kept rose = record {
  source = kept ∙ none.source;
  sinks = record { capture = rose.0 ∙ none.sinks.capture; report = subst (λ n. Rose n c.sinks.report.faults) none.sinks.report rose.1 };
}

-- the input

pub stands_faulty : (settings : PlainSettings) (fault : InputFault) (offset : ℕ) (a c : Moment) → Faulty settings fault offset a c → Stands settings (stop_at_fault fault offset) a c
stands_faulty settings faults.Cut offset a c p = p
stands_faulty settings faults.Magic offset a c p = p
stands_faulty settings faults.Version offset a c p = p
stands_faulty settings faults.Link offset a c p = p
stands_faulty settings faults.Block offset a c p = p
stands_faulty settings faults.Long offset a c p = p
stands_faulty settings faults.Many offset a c p = inl p
stands_faulty settings faults.ReadFault offset a c p = p

-- Lines that are given after the sink was flushed.

-- a line that was given after the sink was flushed
pub told_behind : {T E : Type 0} (result : Result T E) (a b c : Option (List ℕ)) (before mid now : ℕ) (line : List ℕ) → Flushes a b result → before ≤ mid → Told b c mid now line → Told a c before now line
told_behind (Ok x) a b c before mid now line kept later told =
    elim told [
      | inl whole ↦ inl (subst (λ s. Appends s c line) kept whole)
      | inr part ↦ inr (omega (arith, part.0, later), subst (λ s. AppendsPart s c line) kept part.1)
    ]
told_behind (Err e) a b c before mid now line none later told = inl (subst (λ s. Appends s c line) (sym none.0) tt)

-- if no line is given, the sink is only flushed
pub told_after : {T E : Type 0} (result : Result T E) (a b : Option (List ℕ)) (before now : ℕ) → Flushes a b result → Told a b before now []
told_after (Ok x) a b before now kept = inl (subst (λ s. Appends a s []) (sym kept) (Appends-nil a))
told_after (Err e) a b before now none = inl (subst (λ s. Appends s b []) (sym none.0) tt)

-- a sink that was flushed
pub kept_by : {T E : Type 0} (result : Result T E) (a b : Seen) → Flushes a.octets b.octets result → HasCause a.faults b.faults result → Kept a b
kept_by (Ok x) a b kept cause = record { octets = kept; faults = λ octets told. cause.kept }
kept_by (Err e) a b none cause = record { octets = none.1 ∙ sym none.0; faults = λ octets told. absurd (apart octets (sym none.0 ∙ told)) } where
  apart : (octets : List ℕ) → ◌≡◌ {A = Option (List ℕ)} None (Some octets) → ⊥
  apart octets e = cc

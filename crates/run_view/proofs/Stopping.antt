-- What a call returned, and what a stop says, by what another function returned or said.
use Rattle.std.proofs.Common.{Result, Ok, Err, IfErr, IfOk, OnOk, ◌≡◌, ◌⊎◌, ◌≤◌, ℕ, ◌==◌, if◌then◌else◌, ◌||◌, Bool, true, false, List, inl, inr, refl, sym, ap, subst, ◌∙◌, arith}
use Rattle.edge_io.specs.FaultCounts.{Rose}
use Rattle.capture_input.specs.declared.fault.InputFault.{InputFault}
use Rattle.capture_input.specs.declared.fault.InputFault.TheVariants as faults
use Rattle.run_view.specs.declared.form.Form.{Form}
use Rattle.run_view.specs.declared.stop.Stop.{Stop}
use Rattle.run_view.specs.declared.stop.Stop.TheVariants as stops
use Rattle.run_view.specs.working.RestOfRun.{AreNoRest}
use Rattle.run_view.specs.RunFiles.{FaultCounts, Moment, SourceRose, Sources, faults_of, sources_at}
use Rattle.run_view.specs.working.StopCauses.{FilesStop, RestStop}
use Rattle.run_view.specs.StopMeanings.{Meaning, Says, fault_status, status_of}
use Rattle.run_view.specs.StatusMeanings.{Cause, IsStatusOf, IsToItsEnd, Stopped}
use Rattle.run_view.specs.working.StopLines.{Tells}

-- A fact of what a call returned, from another.

pub on_ok : {T E : Type 0} {P Q : Type 0} (r : Result T E) → OnOk r P → (P → Q) → OnOk r Q
on_ok (Ok x) p f = f p
on_ok (Err e) p f = tt

pub if_ok : {T E : Type 0} {P Q : T → Type 0} (r : Result T E) → IfOk r P → ((t : T) → P t → Q t) → IfOk r Q
if_ok (Ok x) p f = f x p
if_ok (Err e) p f = tt

pub both_ok : {T E : Type 0} (P : Type 0) (Q : T → Type 0) (r : Result T E) → OnOk r P → IfOk r Q → IfOk r (λ t. P × Q t)
both_ok P Q (Ok x) p q = (p, q)
both_ok P Q (Err e) p q = tt

pub if_err : {T E : Type 0} {P Q : E → Type 0} (r : Result T E) → IfErr r P → ((e : E) → P e → Q e) → IfErr r Q
if_err (Ok x) p f = tt
if_err (Err e) p f = f e p

-- What a stop says.

pub rose_within : (a b c d : ℕ) → a ≤ b → c ≤ d → Rose b c → Rose a d
rose_within a b c d ab cd rose = omega arith

-- what each part of it implies
pub says_more : {A B C D E F K L M N O P : Type 0} → (A → K) → (B → L) → (C → M) → (D → N) → (E → O) → (F → P) → (stop : Stop)
    → Says A B C D E F stop → Says K L M N O P stop
says_more {A} {B} {C} {D} {E} {F} {K} {L} {M} {N} {O} {P} a b c d e f stop says = record { is = by stop says.is } where
  by : (stop : Stop) → Meaning A B C D E F stop → Meaning K L M N O P stop
  by stops.Words is = a is
  by (stops.Record n) is = b is
  by (stops.Frame n) is = b is
  by (stops.Report n) is = b is
  by (stops.Input fault offset) is = (is.0, c is.1)
  by (stops.Output fault offset) is = (is.0, d is.1)
  by stops.Unread is = e is
  by stops.Unwritten is = f is
  by stops.Memory is = tt

-- the same of a view by another name of its form, where no count rose before
pub rest_more : (form other : Form) (s : Sources) (first now wide : FaultCounts) (stop : Stop) → form ≡ other → first ≡ wide
    → RestStop form s first now stop → RestStop other s wide now stop
rest_more form other s first now wide stop same kept =
    says_more (λ x. x) (λ none. subst (λ f. AreNoRest f s) same none) (λ x. x) (λ x. x) (subst (λ (c : FaultCounts). SourceRose c now) kept)
    (subst (λ (c : FaultCounts). Rose c.out now.out) kept) stop

-- ---- the status

-- a view that ends with this status was shown to its end
abbrev is_end : (status : ℕ) → Bool
is_end status = (status == 0) || (status == 10) || (status == 11)

ends_so : (status : ℕ) → IsToItsEnd status → is_end status ≡ true
ends_so status (inl is) = rw is refl
ends_so status (inr (inl is)) = rw is refl
ends_so status (inr (inr is)) = rw is refl

-- each status of a view to its end is one of these
pub to_its_end : (evidence : Bool) (chosen status : ℕ) → IsStatusOf evidence chosen status → IsToItsEnd status
to_its_end true chosen status is = by (chosen == 0) is where
  by : (none : Bool) → status ≡ (if none then 0 else 11) → IsToItsEnd status
  by true same = inl same
  by false same = inr (inr same)
to_its_end false chosen status (inl is) = inl is
to_its_end false chosen status (inr is) = inr (inl is)

fault_no_end : (fault : InputFault) → is_end (fault_status fault) ≡ false
fault_no_end faults.Cut = refl
fault_no_end faults.Magic = refl
fault_no_end faults.Version = refl
fault_no_end faults.Link = refl
fault_no_end faults.Block = refl
fault_no_end faults.Long = refl
fault_no_end faults.Many = refl
fault_no_end faults.ReadFault = refl

no_end : (stop : Stop) → is_end (status_of stop) ≡ false
no_end stops.Words = refl
no_end (stops.Record number) = refl
no_end (stops.Frame number) = refl
no_end (stops.Input fault offset) = fault_no_end fault
no_end (stops.Output fault offset) = fault_no_end fault
no_end stops.Unread = refl
no_end stops.Unwritten = refl
no_end stops.Memory = refl
no_end (stops.Report line) = refl

-- a stop does not have the status of a view that was shown to its end
pub told_no_end : (stop : Stop) (before now status : ℕ) → Tells stop before now status → IsToItsEnd status → ⊥
told_no_end stop before now status (inl told) is = let e = sym (no_end stop) ∙ sym (ap is_end told) ∙ ends_so status is in cc
told_no_end stop before now status (inr (inl told)) is = let e = sym (ap is_end told.0) ∙ ends_so status is in cc
told_no_end stop before now status (inr (inr told)) is = let e = sym (ap is_end told) ∙ ends_so status is in cc

-- the statuses that are returned
abbrev IsStatus : ℕ → Type 0
IsStatus status = (status ≤ 5) ⊎ ((7 ≤ status) × (status ≤ 11))

fault_known : (fault : InputFault) → IsStatus (fault_status fault)
fault_known faults.Cut = inl (omega arith)
fault_known faults.Magic = inl (omega arith)
fault_known faults.Version = inl (omega arith)
fault_known faults.Link = inl (omega arith)
fault_known faults.Block = inl (omega arith)
fault_known faults.Long = inl (omega arith)
fault_known faults.Many = inl (omega arith)
fault_known faults.ReadFault = inl (omega arith)

status_known : (stop : Stop) → IsStatus (status_of stop)
status_known stops.Words = inl (omega arith)
status_known (stops.Record number) = inl (omega arith)
status_known (stops.Frame number) = inl (omega arith)
status_known (stops.Input fault offset) = fault_known fault
status_known (stops.Output fault offset) = fault_known fault
status_known stops.Unread = inl (omega arith)
status_known stops.Unwritten = inr (omega arith, omega arith)
status_known stops.Memory = inr (omega arith, omega arith)
status_known (stops.Report line) = inr (omega arith, omega arith)

pub told_known : (stop : Stop) (before now status : ℕ) → Tells stop before now status → (status ≤ 5) ⊎ ((7 ≤ status) × (status ≤ 11))
told_known stop before now status (inl told) = subst IsStatus (sym told) (status_known stop)
told_known stop before now status (inr (inl told)) = inr (omega (arith, told.0), omega (arith, told.0))
told_known stop before now status (inr (inr told)) = inr (omega (arith, told), omega (arith, told))

-- a stop whose cause holds is known
pub stopped_by : (words : List (List ℕ)) (before : Moment) (now : FaultCounts) (stop : Stop) (mid status : ℕ) → (Rose mid now.out → Rose before.out now.out)
    → Cause words before now stop → Tells stop mid now.out status → Stopped words before now status
stopped_by words before now stop mid status wider cause (inl told) = record { stop = stop; cause = cause; status_is = told }
stopped_by words before now stop mid status wider cause (inr (inl told)) = record { stop = stops.Unwritten; cause = record { is = wider told.1 }; status_is = told.0 }
stopped_by words before now stop mid status wider cause (inr (inr told)) = record { stop = stops.Memory; cause = record { is = tt }; status_is = told }

-- the cause of a stop of a view whose words were accepted
pub cause_of : (words : List (List ℕ)) (before : Moment) (mid now : FaultCounts) (stop : Stop) → mid.input ≡ now.input → mid.output ≡ now.output
    → mid.report ≡ now.report → mid.out ≤ now.out → FilesStop (sources_at before) (faults_of before) mid stop → Cause words before now stop
cause_of words before mid now stop input output report out =
    says_more (λ none. absurd none) (λ x. x) (λ x. x) (λ x. x)
    (λ rose. elim rose [
      | inl i ↦ inl (rose_within _ _ _ _ (omega arith) (omega (arith, input)) i)
      | inr more ↦ elim more [
        | inl o ↦ inr (inl (rose_within _ _ _ _ (omega arith) (omega (arith, output)) o))
        | inr r ↦ inr (inr (rose_within _ _ _ _ (omega arith) (omega (arith, report)) r))
      ]
    ])
    (λ rose. rose_within _ _ _ _ (omega arith) out rose) stop

-- what is returned for invalid arguments
pub refused_told : (status before now : ℕ) → Tells stops.Words before now status → (status ≡ 2) ⊎ (status ≡ 7) ⊎ (status ≡ 8)
refused_told status before now (inl told) = inl told
refused_told status before now (inr (inl told)) = inr (inl told.0)
refused_told status before now (inr (inr told)) = inr (inr told)

-- Laws of cleaned areas.
use Rattle.std.proofs.Common.{◌≡◌, ℕ, zero, suc, ◌-◌, ◌≤◌, ◌<◌, ◌⊎◌, ◌==◌, ◌&&◌, inl, inr, Bool, true, false, List, [], ◌∷◌, length, get_or, replicate, not, min, Some, None, refl, sym, subst, ap, ◌∙◌, ⊎_elim, arith}
use Rattle.std.proofs.lemmas.Bool.{cases_lt, cases_Bool}
use Rattle.std.proofs.lemmas.Bool.Decides.{nat_tests}
use Rattle.std.proofs.lemmas.List.{length-replicate}
use Rattle.std.specs.List.{list_any}
use Rattle.wire_base.specs.Options.{cleaned, end_of}
use Rattle.wire_base.proofs.OptionWalk.{formed_from, formed_from-size, formed_from-small, scale_from, scale_from-size}
use Rattle.wire_base.proofs.OptionLists.{are_well_formed-walk, has-first, scale_of-walk, scale_from-first}
use Rattle.tcp_codec.specs.CleanedOptions.{CleansOctets, CleansOnce, KeepsScale, LosesScale, StaysWellFormed}
use Rattle.tcp_codec.specs.working.CleaningState.{is_kept_after}
use Rattle.tcp_codec.proofs.Walks.{cleaned_from, cleaned_from-first, cleaned_from-other, cleaned-walk, end_from, end_from-sized, end_of-walk}

-- the number of octets that still belong to the option before in a walk over the cleaned area: 0 if
-- that option was not kept
abbrev pub again : Bool → ℕ → ℕ
again true left = left
again false left = 0

again-zero : (keep : Bool) → again keep zero ≡ zero
again-zero true = refl
again-zero false = refl

-- a kept option has a length of at least 2
kept-size : (syn : Bool) (before : List ℕ) (kind size : ℕ) → is_kept_after syn before kind size ≡ true → 2 ≤ size
kept-size syn before kind size keep = grind (arith, nat_tests)

-- and its length octet is kept
first-octet : (syn : Bool) (before : List ℕ) (left : ℕ) (octets : List ℕ) → 1 ≤ left → get_or (cleaned_from syn before true left octets) 0 0 ≡ get_or octets 0 0
first-octet syn before zero octets some = absurd (omega arith)
first-octet syn before (suc left) [] some = refl
first-octet syn before (suc left) (x ∷ octets) some = refl

-- cleaning a cleaned area changes nothing
once : (syn : Bool) (before : List ℕ) (keep : Bool) (left : ℕ) (octets : List ℕ) → cleaned_from syn before true (again keep left) (cleaned_from syn before keep left octets) ≡ cleaned_from syn before keep left octets
once syn before keep left [] = refl
once syn before true (suc left) (x ∷ octets) = ap (λ xs. x ∷ xs) (once syn before true left octets)
once syn before false (suc left) (x ∷ octets) = ap (λ xs. 1 ∷ xs) (once syn before false left octets)
once syn before keep zero (zero ∷ octets) = rw (again-zero keep) (ap (λ n. 0 ∷ replicate n 0) (length-replicate (length octets) 0))
once syn before keep zero (suc zero ∷ octets) = rw (again-zero keep) (ap (λ xs. 1 ∷ xs) (once syn before true 0 octets))
once syn before keep zero (suc (suc k) ∷ octets) =
    let kind = suc (suc k) in
    let other : 2 ≤ kind = omega arith in
    let size = get_or octets 0 0 in
    rw (again-zero keep) (⊎_elim (λ kept.
    let e = cleaned_from-first syn before kind octets other kept in
    let left = cleaned_from syn (kind ∷ before) true (size - 1) octets in
    let first : get_or left 0 0 ≡ size = let two = kept-size syn before kind size kept in first-octet syn (kind ∷ before) (size - 1) octets (omega arith) in
    ap (cleaned_from syn before true 0) e
    ∙ cleaned_from-first syn before kind left other (ap (is_kept_after syn before kind) first ∙ kept)
    ∙ ap (λ n. kind ∷ cleaned_from syn (kind ∷ before) true (n - 1) left) first
    ∙ ap (λ xs. kind ∷ xs) (once syn (kind ∷ before) true (size - 1) octets)
    ∙ sym e)
    (λ blank.
    let e = cleaned_from-other syn before kind octets other blank in
    ap (cleaned_from syn before true 0) e ∙ ap (λ xs. 1 ∷ xs) (once syn before false (size - 1) octets) ∙ sym e)
    (cases_Bool (is_kept_after syn before kind size)))

pub cleans_once : CleansOnce
cleans_once syn area =
    let e = cleaned-walk syn area in
    ap (cleaned syn) e ∙ cleaned-walk syn (cleaned_from syn [] true 0 area) ∙ once syn [] true 0 area ∙ sym e

-- an option at the front of a well-formed list has a length of at least 2
sized-some : (kind : ℕ) (octets : List ℕ) → 2 ≤ kind → formed_from 0 (kind ∷ octets) ≡ true → 2 ≤ get_or octets 0 0
sized-some kind octets other formed =
    ⊎_elim (λ small. let bad = formed_from-small kind octets other small in cc)
    (λ some. some)
    (cases_lt (get_or octets 0 0) 2)

-- well-formed options stay well formed when they are cleaned
formed : (syn : Bool) (before : List ℕ) (keep : Bool) (left : ℕ) (octets : List ℕ) → formed_from left octets ≡ true → formed_from (again keep left) (cleaned_from syn before keep left octets) ≡ true
formed syn before true left [] h = h
formed syn before false left [] h = refl
formed syn before true (suc left) (x ∷ octets) h = formed syn before true left octets h
formed syn before false (suc left) (x ∷ octets) h = formed syn before false left octets h
formed syn before keep zero (zero ∷ octets) h = rw (again-zero keep) refl
formed syn before keep zero (suc zero ∷ octets) h = rw (again-zero keep) (formed syn before true 0 octets h)
formed syn before keep zero (suc (suc k) ∷ octets) h =
    let kind = suc (suc k) in
    let other : 2 ≤ kind = omega arith in
    let size = get_or octets 0 0 in
    let two = sized-some kind octets other h in
    let left : formed_from (size - 1) octets ≡ true = sym (formed_from-size kind octets other (has-first octets two) two) ∙ h in
    rw (again-zero keep) (⊎_elim (λ kept.
    let behind = cleaned_from syn (kind ∷ before) true (size - 1) octets in
    let first : get_or behind 0 0 ≡ size = first-octet syn (kind ∷ before) (size - 1) octets (omega arith) in
    let some : 2 ≤ get_or behind 0 0 = omega arith in
    ap (formed_from 0) (cleaned_from-first syn before kind octets other kept)
    ∙ formed_from-size kind behind other (has-first behind some) some
    ∙ ap (λ n. formed_from (n - 1) behind) first
    ∙ formed syn (kind ∷ before) true (size - 1) octets left)
    (λ blank. ap (formed_from 0) (cleaned_from-other syn before kind octets other blank) ∙ formed syn before false (size - 1) octets left)
    (cases_Bool (is_kept_after syn before kind size)))

pub stays_well_formed : StaysWellFormed
stays_well_formed syn area h =
    are_well_formed-walk (cleaned syn area) ∙ ap (formed_from 0) (cleaned-walk syn area) ∙ formed syn [] true 0 area (sym (are_well_formed-walk area) ∙ h)

-- an octet at the offset `place`: it is unchanged or a no-operation before the end option, and it
-- is 0 from there on
abbrev pub IsOctet : (end : ℕ) (area new : List ℕ) (place : ℕ) → Type 0
IsOctet end area new place = (place < end → (get_or new place 0 ≡ get_or area place 0) ⊎ (get_or new place 0 ≡ 1)) × (end ≤ place → get_or new place 0 ≡ 0)

one_more : (end : ℕ) (x y : ℕ) (area new : List ℕ) → (y ≡ x) ⊎ (y ≡ 1) → ((place : ℕ) → IsOctet end area new place) → (place : ℕ) → IsOctet (suc end) (x ∷ area) (y ∷ new) place
one_more end x y area new first rest zero = (λ inside. first, λ past. absurd (omega arith))
one_more end x y area new first rest (suc place) = (λ inside. (rest place).0 (omega arith), λ past. (rest place).1 (omega arith))

zeros-at : (n place : ℕ) → get_or {A = ℕ} (replicate n 0) place 0 ≡ 0
zeros-at zero place = refl
zeros-at (suc n) zero = refl
zeros-at (suc n) (suc place) = zeros-at n place

octets_are : (syn : Bool) (before : List ℕ) (keep : Bool) (left : ℕ) (octets : List ℕ) (place : ℕ) → IsOctet (end_from left octets) octets (cleaned_from syn before keep left octets) place
octets_are syn before keep left [] place = (λ inside. absurd (omega arith), λ past. refl)
octets_are syn before true (suc left) (x ∷ octets) place = one_more _ x x octets _ (inl refl) (octets_are syn before true left octets) place
octets_are syn before false (suc left) (x ∷ octets) place = one_more _ x 1 octets _ (inr refl) (octets_are syn before false left octets) place
octets_are syn before keep zero (zero ∷ octets) place = (λ inside. absurd (omega arith), λ past. zeros-at (suc (length octets)) place)
octets_are syn before keep zero (suc zero ∷ octets) place = one_more _ 1 1 octets _ (inl refl) (octets_are syn before true 0 octets) place
octets_are syn before keep zero (suc (suc k) ∷ octets) place =
    let kind = suc (suc k) in
    let other : 2 ≤ kind = omega arith in
    let size = get_or octets 0 0 in
    let end = end_from-sized kind octets other in
    ⊎_elim (λ kept.
    let e = cleaned_from-first syn before kind octets other kept in
    rw (end, e) (one_more _ kind kind octets _ (inl refl) (octets_are syn (kind ∷ before) true (size - 1) octets) place))
    (λ blank.
    let e = cleaned_from-other syn before kind octets other blank in
    rw (end, e) (one_more _ kind 1 octets _ (inr refl) (octets_are syn before false (size - 1) octets) place))
    (cases_Bool (is_kept_after syn before kind size))

-- cleaning keeps the number of octets
cleaned_from-length : (syn : Bool) (before : List ℕ) (keep : Bool) (left : ℕ) (octets : List ℕ) → length (cleaned_from syn before keep left octets) ≡ length octets
cleaned_from-length syn before keep left [] = refl
cleaned_from-length syn before keep (suc left) (x ∷ octets) = ap suc (cleaned_from-length syn before keep left octets)
cleaned_from-length syn before keep zero (zero ∷ octets) = ap suc (length-replicate (length octets) 0)
cleaned_from-length syn before keep zero (suc zero ∷ octets) = ap suc (cleaned_from-length syn before true 0 octets)
cleaned_from-length syn before keep zero (suc (suc k) ∷ octets) =
    let kind = suc (suc k) in
    let other : 2 ≤ kind = omega arith in
    let size = get_or octets 0 0 in
    ⊎_elim (λ kept. ap length (cleaned_from-first syn before kind octets other kept) ∙ ap suc (cleaned_from-length syn (kind ∷ before) true (size - 1) octets))
    (λ blank. ap length (cleaned_from-other syn before kind octets other blank) ∙ ap suc (cleaned_from-length syn before false (size - 1) octets))
    (cases_Bool (is_kept_after syn before kind size))

pub cleans_octets : CleansOctets
cleans_octets syn area = record {
  size = ap length (cleaned-walk syn area) ∙ cleaned_from-length syn [] true 0 area;
  options = λ place. (here place).0;
  behind = λ place. (here place).1;
}
  where
    here : (place : ℕ) → IsOctet (end_of area) area (cleaned syn area) place
    here place = subst (λ end. IsOctet end area (cleaned syn area) place) (sym (end_of-walk area)) (subst (λ new. IsOctet (end_from 0 area) area new place) (sym (cleaned-walk syn area)) (octets_are syn [] true 0 area place))

-- the second octet of a kept option of at least two
second-octet : (syn : Bool) (before : List ℕ) (left : ℕ) (octets : List ℕ) → 2 ≤ left → get_or (cleaned_from syn before true left octets) 1 0 ≡ get_or octets 1 0
second-octet syn before zero octets some = absurd (omega arith)
second-octet syn before (suc zero) octets some = absurd (omega arith)
second-octet syn before (suc (suc left)) [] some = refl
second-octet syn before (suc (suc left)) (x ∷ []) some = refl
second-octet syn before (suc (suc left)) (x ∷ y ∷ octets) some = refl

-- the first window scale option of a SYN is kept, and another option of its kind before it is not
first-scale : (before : List ℕ) (kind size : ℕ) → list_any (λ other. other == 3) before ≡ false → ((kind == 3) && (size == 3)) ≡ true → is_kept_after true before kind size ≡ true
first-scale before kind size none e =
    let k : kind ≡ 3 = grind (arith, nat_tests) in
    let s : size ≡ 3 = grind (arith, nat_tests) in
    (λ i. is_kept_after true before (k i) (s i)) ∙ ap not none

other-kind : (before : List ℕ) (kind size : ℕ) → is_kept_after true before kind size ≡ true → ((kind == 3) && (size == 3)) ≡ false → (kind == 3) ≡ false
other-kind before kind size kept another = grind (arith, nat_tests)

-- the window scale after a kept option, or in it
kept-scale : (before : List ℕ) (kind : ℕ) (octets : List ℕ) → list_any (λ other. other == 3) before ≡ false → 2 ≤ kind → is_kept_after true before kind (get_or octets 0 0) ≡ true
    → (list_any (λ other. other == 3) (kind ∷ before) ≡ false → scale_from (get_or octets 0 0 - 1) (cleaned_from true (kind ∷ before) true (get_or octets 0 0 - 1) octets) ≡ scale_from (get_or octets 0 0 - 1) octets)
    → scale_from 0 (kind ∷ cleaned_from true (kind ∷ before) true (get_or octets 0 0 - 1) octets) ≡ scale_from 0 (kind ∷ octets)
kept-scale before kind octets none other kept behind =
    let size = get_or octets 0 0 in
    let left = cleaned_from true (kind ∷ before) true (size - 1) octets in
    let first : get_or left 0 0 ≡ size = let two = kept-size true before kind size kept in first-octet true (kind ∷ before) (size - 1) octets (omega arith) in
    let here = ap (λ n. (kind == 3) && (n == 3)) first in
    ⊎_elim (λ scale.
    let three : size ≡ 3 = grind (arith, nat_tests) in
    scale_from-first kind left other (here ∙ scale)
    ∙ ap (λ n. Some (min 14 n)) (second-octet true (kind ∷ before) (size - 1) octets (omega arith))
    ∙ sym (scale_from-first kind octets other scale))
    (λ another.
    let others : list_any (λ other. other == 3) (kind ∷ before) ≡ false = rw (other-kind before kind size kept another) none in
    scale_from-size kind left other (here ∙ another) ∙ ap (λ n. scale_from (n - 1) left) first ∙ behind others ∙ sym (scale_from-size kind octets other another))
    (cases_Bool ((kind == 3) && (size == 3)))

-- the octets not yet read have the same window scale when they are cleaned
same-scale : (before : List ℕ) (keep : Bool) (left : ℕ) (octets : List ℕ) → list_any (λ other. other == 3) before ≡ false → scale_from (again keep left) (cleaned_from true before keep left octets) ≡ scale_from left octets
same-scale before keep left [] none = refl
same-scale before true (suc left) (x ∷ octets) none = same-scale before true left octets none
same-scale before false (suc left) (x ∷ octets) none = same-scale before false left octets none
same-scale before keep zero (zero ∷ octets) none = rw (again-zero keep) refl
same-scale before keep zero (suc zero ∷ octets) none = rw (again-zero keep) (same-scale before true 0 octets none)
same-scale before keep zero (suc (suc k) ∷ octets) none =
    let kind = suc (suc k) in
    let other : 2 ≤ kind = omega arith in
    let size = get_or octets 0 0 in
    rw (again-zero keep) (⊎_elim (λ kept. ap (scale_from 0) (cleaned_from-first true before kind octets other kept) ∙ kept-scale before kind octets none other kept (same-scale (kind ∷ before) true (size - 1) octets))
    (λ blank.
    let another : ((kind == 3) && (size == 3)) ≡ false = ⊎_elim (λ scale. let keeps = first-scale before kind size none scale in cc) (λ another. another) (cases_Bool ((kind == 3) && (size == 3))) in
    ap (scale_from 0) (cleaned_from-other true before kind octets other blank) ∙ same-scale before false (size - 1) octets none ∙ sym (scale_from-size kind octets other another))
    (cases_Bool (is_kept_after true before kind size)))

pub keeps_scale : KeepsScale
keeps_scale area =
    scale_of-walk (cleaned true area) ∙ ap (scale_from 0) (cleaned-walk true area) ∙ same-scale [] true 0 area refl ∙ sym (scale_of-walk area)

none-kept : (before : List ℕ) (kind size : ℕ) → is_kept_after false before kind size ≡ true → ((kind == 3) && (size == 3)) ≡ false
none-kept before kind size kept = grind (arith, nat_tests)

-- without SYN no window scale option is kept
no-scale : (before : List ℕ) (keep : Bool) (left : ℕ) (octets : List ℕ) → scale_from (again keep left) (cleaned_from false before keep left octets) ≡ None
no-scale before keep left [] = refl
no-scale before true (suc left) (x ∷ octets) = no-scale before true left octets
no-scale before false (suc left) (x ∷ octets) = no-scale before false left octets
no-scale before keep zero (zero ∷ octets) = rw (again-zero keep) refl
no-scale before keep zero (suc zero ∷ octets) = rw (again-zero keep) (no-scale before true 0 octets)
no-scale before keep zero (suc (suc k) ∷ octets) =
    let kind = suc (suc k) in
    let other : 2 ≤ kind = omega arith in
    let size = get_or octets 0 0 in
    rw (again-zero keep) (⊎_elim (λ kept.
    let behind = cleaned_from false (kind ∷ before) true (size - 1) octets in
    let first : get_or behind 0 0 ≡ size = let two = kept-size false before kind size kept in first-octet false (kind ∷ before) (size - 1) octets (omega arith) in
    let another : ((kind == 3) && (get_or behind 0 0 == 3)) ≡ false = ap (λ n. (kind == 3) && (n == 3)) first ∙ none-kept before kind size kept in
    ap (scale_from 0) (cleaned_from-first false before kind octets other kept)
    ∙ scale_from-size kind behind other another
    ∙ ap (λ n. scale_from (n - 1) behind) first
    ∙ no-scale (kind ∷ before) true (size - 1) octets)
    (λ blank. ap (scale_from 0) (cleaned_from-other false before kind octets other blank) ∙ no-scale before false (size - 1) octets)
    (cases_Bool (is_kept_after false before kind size)))

pub loses_scale : LosesScale
loses_scale area = scale_of-walk (cleaned false area) ∙ ap (scale_from 0) (cleaned-walk false area) ∙ no-scale [] true 0 area

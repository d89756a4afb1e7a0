-- One walk over a list of options, octet by octet: `left` is the number of octets that still belong
-- to the option before. Its steps are stated by the offset `at` reached: the octets of the area
-- from there on are still to be read.
use Rattle.std.proofs.Common.{◌≡◌, length-drop, ℕ, zero, suc, ◌+◌, ◌-◌, ◌≤◌, ◌<◌, ◌&&◌, ◌||◌, ◌==◌, nat_le, min, Bool, true, false, Option, Some, None, List, [], ◌∷◌, length, get_or, drop, refl, ap, ◌∙◌, arith, ◌⊎◌, not, nat_lt, sym, ⊎_elim}
use Rattle.std.proofs.Math.Bool.{and-false}
use Rattle.std.proofs.Math.Dec.{eqb-suc-zero}
use Rattle.std.proofs.lemmas.Bool.{ne_eqb, le-leb, lt-leb, cases_lt}
use Rattle.std.proofs.lemmas.List.{drop_more, drop-drop, get_or-drop}
use Rattle.std.proofs.lemmas.Bool.Decides.{nat_tests}
use Rattle.wire_base.specs.Options.{is_route}

-- before the end option or the end of the area every option has a length octet of at least 2 and
-- lies inside the area
abbrev pub formed_from : (left : ℕ) → List ℕ → Bool
formed_from left [] = left == 0
formed_from (suc left) (x ∷ octets) = formed_from left octets
formed_from zero (kind ∷ octets) =
    elim (kind == 0) [
      | true ↦ true
      | false ↦ elim (kind == 1) [
        | true ↦ formed_from 0 octets
        | false ↦ elim (nat_le 1 (length octets) && nat_le 2 (get_or octets 0 0)) [
          | true ↦ formed_from (get_or octets 0 0 - 1) octets
          | false ↦ false
        ]
      ]
    ]

-- before the end option there is an option, other than a no-operation, of a kind that passes the
-- test
abbrev pub has_from : (test : ℕ → Bool) → (left : ℕ) → List ℕ → Bool
has_from test left [] = false
has_from test (suc left) (x ∷ octets) = has_from test left octets
has_from test zero (kind ∷ octets) =
    elim (kind == 0) [
      | true ↦ false
      | false ↦ elim (kind == 1) [
        | true ↦ has_from test 0 octets
        | false ↦ test kind || has_from test (get_or octets 0 0 - 1) octets
      ]
    ]

-- the shift count of the first window scale option before the end option
abbrev pub scale_from : (left : ℕ) → List ℕ → Option ℕ
scale_from left [] = None
scale_from (suc left) (x ∷ octets) = scale_from left octets
scale_from zero (kind ∷ octets) =
    elim (kind == 0) [
      | true ↦ None
      | false ↦ elim (kind == 1) [
        | true ↦ scale_from 0 octets
        | false ↦ elim ((kind == 3) && (get_or octets 0 0 == 3)) [
          | true ↦ Some (min 14 (get_or octets 1 0))
          | false ↦ scale_from (get_or octets 0 0 - 1) octets
        ]
      ]
    ]

-- the walk skips octets that still belong to the option before
pub formed_from-skip : (n : ℕ) (octets : List ℕ) → n ≤ length octets → formed_from n octets ≡ formed_from 0 (drop n octets)
formed_from-skip zero octets inside = refl
formed_from-skip (suc n) [] inside = absurd (omega arith)
formed_from-skip (suc n) (x ∷ octets) inside = formed_from-skip n octets (omega arith)

-- an option that reaches past the area
pub formed_from-past : (n : ℕ) (octets : List ℕ) → length octets < n → formed_from n octets ≡ false
formed_from-past zero octets past = absurd (omega arith)
formed_from-past (suc n) [] past = eqb-suc-zero n
formed_from-past (suc n) (x ∷ octets) past = formed_from-past n octets (omega arith)

pub has_from-skip : (test : ℕ → Bool) (n : ℕ) (octets : List ℕ) → n ≤ length octets → has_from test n octets ≡ has_from test 0 (drop n octets)
has_from-skip test zero octets inside = refl
has_from-skip test (suc n) [] inside = absurd (omega arith)
has_from-skip test (suc n) (x ∷ octets) inside = has_from-skip test n octets (omega arith)

pub scale_from-skip : (n : ℕ) (octets : List ℕ) → n ≤ length octets → scale_from n octets ≡ scale_from 0 (drop n octets)
scale_from-skip zero octets inside = refl
scale_from-skip (suc n) [] inside = absurd (omega arith)
scale_from-skip (suc n) (x ∷ octets) inside = scale_from-skip n octets (omega arith)

-- the octets from `at` on begin with the kind of the next option
pub drop-kind : (area : List ℕ) (at kind : ℕ) → at < length area → get_or area at 0 ≡ kind → drop at area ≡ kind ∷ drop (at + 1) area
drop-kind area at kind inside e = drop_more area at 0 inside ∙ ap (λ x. x ∷ drop (at + 1) area) e

-- skipping an option of this size after its kind leads to the offset after the option
pub drop-option : (area : List ℕ) (at size : ℕ) → 1 ≤ size → drop (size - 1) (drop (at + 1) area) ≡ drop (at + size) area
drop-option area at size some =
    let e : at + 1 + (size - 1) ≡ at + size = omega arith in
    drop-drop (size - 1) (at + 1) area ∙ ap (λ n. drop n area) e

-- the size of the option at the offset `at` is the octet after its kind
pub size-at : (area : List ℕ) (at size : ℕ) → get_or area (at + 1) 0 ≡ size → get_or (drop (at + 1) area) 0 0 ≡ size
size-at area at size e =
    let same : at + 1 + 0 ≡ at + 1 = omega arith in
    get_or-drop (at + 1) area 0 0 ∙ ap (λ n. get_or area n 0) same ∙ e

-- an option other than the end and a no-operation ends where its length octet says
pub formed_from-size : (kind : ℕ) (octets : List ℕ) → 2 ≤ kind → 1 ≤ length octets → 2 ≤ get_or octets 0 0 → formed_from 0 (kind ∷ octets) ≡ formed_from (get_or octets 0 0 - 1) octets
formed_from-size kind octets other some two =
    let a : (kind == 0) ≡ false = ne_eqb kind 0 (omega arith) in
    let b : (kind == 1) ≡ false = ne_eqb kind 1 (omega arith) in
    let c : nat_le 1 (length octets) ≡ true = le-leb 1 (length octets) some in
    let d : nat_le 2 (get_or octets 0 0) ≡ true = le-leb 2 (get_or octets 0 0) two in
    rw (a, b, c, d, formed_from) refl

-- a length below 2 does not count the option's kind and length octets
pub formed_from-small : (kind : ℕ) (octets : List ℕ) → 2 ≤ kind → get_or octets 0 0 < 2 → formed_from 0 (kind ∷ octets) ≡ false
formed_from-small kind octets other small =
    let a : (kind == 0) ≡ false = ne_eqb kind 0 (omega arith) in
    let b : (kind == 1) ≡ false = ne_eqb kind 1 (omega arith) in
    let d : nat_le 2 (get_or octets 0 0) ≡ false = lt-leb 2 (get_or octets 0 0) small in
    let none : (nat_le 1 (length octets) && nat_le 2 (get_or octets 0 0)) ≡ false = rw d (and-false (nat_le 1 (length octets))) in
    rw (a, b, none, formed_from) refl

pub has_from-size : (test : ℕ → Bool) (kind : ℕ) (octets : List ℕ) → 2 ≤ kind → has_from test 0 (kind ∷ octets) ≡ (test kind || has_from test (get_or octets 0 0 - 1) octets)
has_from-size test kind octets other =
    let a : (kind == 0) ≡ false = ne_eqb kind 0 (omega arith) in
    let b : (kind == 1) ≡ false = ne_eqb kind 1 (omega arith) in
    rw (a, b, has_from) refl

pub scale_from-size : (kind : ℕ) (octets : List ℕ) → 2 ≤ kind → ((kind == 3) && (get_or octets 0 0 == 3)) ≡ false → scale_from 0 (kind ∷ octets) ≡ scale_from (get_or octets 0 0 - 1) octets
scale_from-size kind octets other another =
    let a : (kind == 0) ≡ false = ne_eqb kind 0 (omega arith) in
    let b : (kind == 1) ≡ false = ne_eqb kind 1 (omega arith) in
    rw (a, b, another, scale_from) refl

-- the walk at the offset `at`: at a no-operation, and at an option with its size
pub formed_from-none : (area : List ℕ) (at : ℕ) → at < length area → get_or area at 0 ≡ 1 → formed_from 0 (drop at area) ≡ formed_from 0 (drop (at + 1) area)
formed_from-none area at inside kind = ap (formed_from 0) (drop-kind area at 1 inside kind)

pub formed_from-option : (area : List ℕ) (at size : ℕ) → get_or area (at + 1) 0 ≡ size → 2 ≤ size → at + size ≤ length area → 2 ≤ get_or area at 0 → formed_from 0 (drop at area) ≡ formed_from 0 (drop (at + size) area)
formed_from-option area at size e two inside other =
    let octets = drop (at + 1) area in
    let count : length octets ≡ length area - (at + 1) = length-drop (at + 1) area in
    let known : get_or octets 0 0 ≡ size = size-at area at size e in
    ap (formed_from 0) (drop-kind area at _ (omega arith) refl)
    ∙ formed_from-size _ octets other (omega arith) (omega arith)
    ∙ ap (λ n. formed_from (n - 1) octets) known
    ∙ formed_from-skip (size - 1) octets (omega arith)
    ∙ ap (formed_from 0) (drop-option area at size (omega arith))

-- an option with a length octet below 2, or without one, which reads as 0
pub formed_from-bad : (area : List ℕ) (at size : ℕ) → at < length area → get_or area (at + 1) 0 ≡ size → size < 2 → 2 ≤ get_or area at 0 → formed_from 0 (drop at area) ≡ false
formed_from-bad area at size inside e small other =
    let known : get_or (drop (at + 1) area) 0 0 ≡ size = size-at area at size e in
    ap (formed_from 0) (drop-kind area at _ inside refl) ∙ formed_from-small _ (drop (at + 1) area) other (omega arith)

-- an option that reaches past the area
pub formed_from-outside : (area : List ℕ) (at size : ℕ) → at + 2 ≤ length area → get_or area (at + 1) 0 ≡ size → 2 ≤ size → length area < at + size → 2 ≤ get_or area at 0 → formed_from 0 (drop at area) ≡ false
formed_from-outside area at size inside e two past other =
    let octets = drop (at + 1) area in
    let count : length octets ≡ length area - (at + 1) = length-drop (at + 1) area in
    let known : get_or octets 0 0 ≡ size = size-at area at size e in
    ap (formed_from 0) (drop-kind area at _ (omega arith) refl)
    ∙ formed_from-size _ octets other (omega arith) (omega arith)
    ∙ formed_from-past _ octets (omega arith)

-- a test of kinds at an option, and the scale at a no-operation and at an option
pub has_from-option : (test : ℕ → Bool) (area : List ℕ) (at size : ℕ) → get_or area (at + 1) 0 ≡ size → 2 ≤ size → at + size ≤ length area → 2 ≤ get_or area at 0 → has_from test 0 (drop at area) ≡ (test (get_or area at 0) || has_from test 0 (drop (at + size) area))
has_from-option test area at size e two inside other =
    let octets = drop (at + 1) area in
    let count : length octets ≡ length area - (at + 1) = length-drop (at + 1) area in
    let known : get_or octets 0 0 ≡ size = size-at area at size e in
    ap (has_from test 0) (drop-kind area at _ (omega arith) refl)
    ∙ has_from-size test _ octets other
    ∙ ap (λ t. test (get_or area at 0) || t) (ap (λ n. has_from test (n - 1) octets) known
    ∙ has_from-skip test (size - 1) octets (omega arith)
    ∙ ap (has_from test 0) (drop-option area at size (omega arith)))

pub scale_from-none : (area : List ℕ) (at : ℕ) → at < length area → get_or area at 0 ≡ 1 → scale_from 0 (drop at area) ≡ scale_from 0 (drop (at + 1) area)
scale_from-none area at inside kind = ap (scale_from 0) (drop-kind area at 1 inside kind)

pub scale_from-option : (area : List ℕ) (at size : ℕ) → get_or area (at + 1) 0 ≡ size → 2 ≤ size → at + size ≤ length area → 2 ≤ get_or area at 0 → ((get_or area at 0 == 3) && (size == 3)) ≡ false → scale_from 0 (drop at area) ≡ scale_from 0 (drop (at + size) area)
scale_from-option area at size e two inside other another =
    let octets = drop (at + 1) area in
    let count : length octets ≡ length area - (at + 1) = length-drop (at + 1) area in
    let known : get_or octets 0 0 ≡ size = size-at area at size e in
    ap (scale_from 0) (drop-kind area at _ (omega arith) refl)
    ∙ scale_from-size _ octets other (ap (λ n. (get_or area at 0 == 3) && (n == 3)) known ∙ another)
    ∙ ap (λ n. scale_from (n - 1) octets) known
    ∙ scale_from-skip (size - 1) octets (omega arith)
    ∙ ap (scale_from 0) (drop-option area at size (omega arith))

-- the size of an option where at least two octets are left: 1 for a no-operation, and else its
-- length
pub record IsSize (area : List ℕ) (at size : ℕ) : Type 0 where
  pub begins : at + 2 ≤ length area
  pub some : 1 ≤ get_or area at 0
  pub none : get_or area at 0 ≡ 1 → size ≡ 1
  pub option : 2 ≤ get_or area at 0 → size ≡ get_or area (at + 1) 0

-- an option that lies inside the area, and one that is refused
pub formed-step : (area : List ℕ) (at size : ℕ) → IsSize area at size → (2 ≤ get_or area at 0 → 2 ≤ size) → at + size ≤ length area → formed_from 0 (drop at area) ≡ formed_from 0 (drop (at + size) area)
formed-step area at size is long inside =
    let begins = is.begins in
    let kinds = is.some in
    ⊎_elim (λ bare.
    let e : get_or area at 0 ≡ 1 = omega arith in
    formed_from-none area at (omega arith) e ∙ ap (λ n. formed_from 0 (drop (at + n) area)) (sym (is.none e)))
    (λ other. formed_from-option area at size (sym (is.option other)) (long other) inside other)
    (cases_lt (get_or area at 0) 2)

pub formed-refused : (area : List ℕ) (at size : ℕ) → IsSize area at size → ((2 ≤ get_or area at 0) × (size < 2)) ⊎ (length area < at + size) → formed_from 0 (drop at area) ≡ false
formed-refused area at size is refused =
    let begins = is.begins in
    let kinds = is.some in
    ⊎_elim (λ bare.
    let e : get_or area at 0 ≡ 1 = omega arith in
    let one = is.none e in
    absurd (⊎_elim (λ small. omega (arith, small.0)) (λ past. omega arith) refused))
    (λ other.
    let e = is.option other in
    ⊎_elim (λ small. formed_from-bad area at size (omega arith) (sym e) small other)
    (λ two.
    let past : length area < at + size = ⊎_elim (λ small. absurd (omega (arith, small.1))) (λ past. past) refused in
    formed_from-outside area at size begins (sym e) two past other)
    (cases_lt size 2))
    (cases_lt (get_or area at 0) 2)

-- an option is a source route or not, and the walk goes on after it
pub route-step : (area : List ℕ) (at size : ℕ) → IsSize area at size → (2 ≤ get_or area at 0 → 2 ≤ size) → at + size ≤ length area → has_from is_route 0 (drop at area) ≡ (is_route (get_or area at 0) || has_from is_route 0 (drop (at + size) area))
route-step area at size is long inside =
    let begins = is.begins in
    let kinds = is.some in
    ⊎_elim (λ bare.
    let e : get_or area at 0 ≡ 1 = omega arith in
    ap (has_from is_route 0) (drop-kind area at 1 (omega arith) e) ∙ ap (λ n. has_from is_route 0 (drop (at + n) area)) (sym (is.none e)) ∙ ap (λ kind. is_route kind || has_from is_route 0 (drop (at + size) area)) (sym e))
    (λ other. has_from-option is_route area at size (sym (is.option other)) (long other) inside other)
    (cases_lt (get_or area at 0) 2)

-- an option that is not refused is not short, and one that is refused for its length is
pub option_long : (kind size : ℕ) → (not (kind == 1) && nat_lt size 2) ≡ false → 2 ≤ kind → 2 ≤ size
option_long kind size e other = grind (arith, nat_tests)

pub option_short : (kind size : ℕ) → (not (kind == 1) && nat_lt size 2) ≡ true → 1 ≤ kind → (2 ≤ kind) × (size < 2)
option_short kind size e some = (grind (arith, nat_tests), grind (arith, nat_tests))

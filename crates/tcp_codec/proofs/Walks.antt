-- Walks over the options of an area: their steps, and cleaning as one walk, which is cleaning by
-- the list of options.
use Rattle.std.proofs.Common.{◌≡◌, ℕ, zero, suc, ◌+◌, ◌≤◌, ◌<◌, ◌⊎◌, ◌==◌, ◌&&◌, true, false, None, List, [], ◌∷◌, length, get_or, drop, refl, sym, ap, ◌∙◌, ⊎_elim, arith, ◌-◌, ◌||◌, nat_lt, not, Bool, ◌++◌, take, replicate, if◌then◌else◌}
use Rattle.std.proofs.Math.Bool.{and-false, or-false}
use Rattle.std.proofs.lemmas.Bool.{cases_lt, ne_eqb, cases_Bool, and_parts}
use Rattle.std.proofs.lemmas.List.{drop_all, get_or_past, append_assoc, length-take-le}
use Rattle.std.specs.List.{flat_map, list_any}
use Rattle.std.proofs.lemmas.Bool.Decides.{nat_tests}
use Rattle.std.proofs.lemmas.List.Folds.{list_any-append}
use Rattle.wire_base.specs.Options.{are_well_formed, Listed, OptionList, options_from, may_be_kept, may_stay, is_kept, cleaned_option, cleaned, end_of}
use Rattle.wire_base.proofs.OptionWalk.{IsSize, formed_from-none, formed_from-option, formed_from-bad, formed_from-outside, scale_from, scale_from-none, scale_from-option, scale_from-size, drop-kind}
use Rattle.wire_base.proofs.OptionLists.{are_well_formed-walk, at_front, options_from-size, front-size}
use Rattle.tcp_codec.specs.working.CleaningState.{is_kept_after}

-- Steps of walks over a well-formed list of options, by the offset reached.

-- an option in a well-formed list has a length of at least 2
pub option_some : (area : List ℕ) (at : ℕ) → are_well_formed (drop at area) ≡ true → at < length area → 2 ≤ get_or area at 0 → 2 ≤ get_or area (at + 1) 0
option_some area at formed begins sized =
    ⊎_elim (λ small. let bad = are_well_formed-walk (drop at area) ∙ formed_from-bad area at _ begins refl small sized in cc)
    (λ some. some)
    (cases_lt (get_or area (at + 1) 0) 2)

-- and lies inside the area
pub option_inside : (area : List ℕ) (at : ℕ) → are_well_formed (drop at area) ≡ true → at < length area → 2 ≤ get_or area at 0 → at + get_or area (at + 1) 0 ≤ length area
option_inside area at formed begins sized =
    let some = option_some area at formed begins sized in
    let two : at + 2 ≤ length area =
    ⊎_elim (λ bare. let none : get_or area (at + 1) 0 ≡ 0 = get_or_past area (at + 1) 0 (omega arith) in absurd (omega arith))
    (λ two. two)
    (cases_lt (length area) (at + 2)) in
    ⊎_elim (λ past. let bad = are_well_formed-walk (drop at area) ∙ formed_from-outside area at _ two refl some past sized in cc)
    (λ inside. inside)
    (cases_lt (length area) (at + get_or area (at + 1) 0))

-- the octets after a no-operation, and after an option, are well formed exactly if those from it on
-- are
pub formed-none : (area : List ℕ) (at : ℕ) → at < length area → get_or area at 0 ≡ 1 → are_well_formed (drop at area) ≡ are_well_formed (drop (at + 1) area)
formed-none area at inside kind = are_well_formed-walk (drop at area) ∙ formed_from-none area at inside kind ∙ sym (are_well_formed-walk (drop (at + 1) area))

pub formed-option : (area : List ℕ) (at size : ℕ) → get_or area (at + 1) 0 ≡ size → 2 ≤ size → at + size ≤ length area → 2 ≤ get_or area at 0 → are_well_formed (drop at area) ≡ are_well_formed (drop (at + size) area)
formed-option area at size e two inside other =
    are_well_formed-walk (drop at area) ∙ formed_from-option area at size e two inside other ∙ sym (are_well_formed-walk (drop (at + size) area))

scale_from-one : (kind : ℕ) → scale_from 0 (kind ∷ []) ≡ None
scale_from-one zero = refl
scale_from-one (suc zero) = refl
scale_from-one (suc (suc k)) = scale_from-size (suc (suc k)) [] (omega arith) (and-false (suc (suc k) == 3))

-- no window scale is at the end option, in the last octet of the area, or past it
pub scale-last : (area : List ℕ) (at : ℕ) → (at + 2 ≤ length area → get_or area at 0 ≡ 0) → scale_from 0 (drop at area) ≡ None
scale-last area at ends =
    ⊎_elim (λ inside.
    ⊎_elim (λ bare. ap (scale_from 0) (drop-kind area at _ inside refl ∙ ap (λ xs. get_or area at 0 ∷ xs) (drop_all (at + 1) area (omega arith))) ∙ scale_from-one (get_or area at 0))
    (λ two. ap (scale_from 0) (drop-kind area at 0 inside (ends two)))
    (cases_lt (length area) (at + 2)))
    (λ past. ap (scale_from 0) (drop_all at area past))
    (cases_lt at (length area))

-- in a well-formed list the next option has at least one octet and lies inside the area, and the
-- octets after it are well formed
pub record Steps (area : List ℕ) (at size : ℕ) : Type 0 where
  pub least : 1 ≤ size
  pub inside : at + size ≤ length area
  pub formed : are_well_formed (drop (at + size) area) ≡ true

pub steps : (area : List ℕ) (at size : ℕ) → are_well_formed (drop at area) ≡ true → IsSize area at size → Steps area at size
steps area at size formed is =
    let begins = is.begins in
    let kinds = is.some in
    ⊎_elim (λ bare.
    let e : get_or area at 0 ≡ 1 = omega arith in
    let one = is.none e in
    record {
      least = omega arith;
      inside = omega arith;
      formed = ap (λ n. are_well_formed (drop (at + n) area)) one ∙ sym (formed-none area at (omega arith) e) ∙ formed;
    })
    (λ other.
    let two = option_some area at formed (omega arith) other in
    let inside = option_inside area at formed (omega arith) other in
    let e = is.option other in
    record {
      least = omega arith;
      inside = omega arith;
      formed = sym (formed-option area at size (sym e) (omega arith) (omega arith) other) ∙ formed;
    })
    (cases_lt (get_or area at 0) 2)

-- the window scale of the area is not in a no-operation, nor in another option
pub scale-step : (area : List ℕ) (at size : ℕ) → are_well_formed (drop at area) ≡ true → at + 2 ≤ length area → 1 ≤ get_or area at 0 → (get_or area at 0 ≡ 1 → size ≡ 1) → (2 ≤ get_or area at 0 → size ≡ get_or area (at + 1) 0) → ((get_or area at 0 == 3) && (size == 3)) ≡ false → scale_from 0 (drop at area) ≡ scale_from 0 (drop (at + size) area)
scale-step area at size formed begins some none option another =
    ⊎_elim (λ bare.
    let e : get_or area at 0 ≡ 1 = omega arith in
    scale_from-none area at (omega arith) e ∙ ap (λ n. scale_from 0 (drop (at + n) area)) (sym (none e)))
    (λ other.
    let two = option_some area at formed (omega arith) other in
    let inside = option_inside area at formed (omega arith) other in
    let e = option other in
    scale_from-option area at size (sym e) (omega arith) (omega arith) other another)
    (cases_lt (get_or area at 0) 2)

-- the last octet of a well-formed area, if it is not the end option, is a no-operation
pub last-kind : (area : List ℕ) (at : ℕ) → are_well_formed (drop at area) ≡ true → at < length area → length area ≤ at + 1 → (get_or area at 0 ≡ 0 → ⊥) → get_or area at 0 ≡ 1
last-kind area at formed begins last some =
    ⊎_elim (λ bare. ⊎_elim (λ zero. absurd (some (omega arith))) (λ one. omega arith) (cases_lt (get_or area at 0) 1))
    (λ other. let inside = option_inside area at formed begins other in let two = option_some area at formed begins other in absurd (omega arith))
    (cases_lt (get_or area at 0) 2)

-- Cleaning as one walk over the octets, and that it is equal to cleaning by the list of options.

-- The cleaned area: the octets of an option that is not kept are 1, those from the end option on
-- are 0. Arguments: the kinds kept before, whether the option before is kept, and the number of
-- octets that still belong to it.
abbrev pub cleaned_from : (syn : Bool) (before : List ℕ) (keep : Bool) → (left : ℕ) → List ℕ → List ℕ
cleaned_from syn before keep left [] = []
cleaned_from syn before keep (suc left) (x ∷ octets) = (if keep then x else 1) ∷ cleaned_from syn before keep left octets
cleaned_from syn before keep zero (kind ∷ octets) =
    elim (kind == 0) [
      | true ↦ 0 ∷ replicate (length octets) 0
      | false ↦ elim (kind == 1) [
        | true ↦ 1 ∷ cleaned_from syn before true 0 octets
        | false ↦ elim (is_kept_after syn before kind (get_or octets 0 0)) [
          | true ↦ kind ∷ cleaned_from syn (kind ∷ before) true (get_or octets 0 0 - 1) octets
          | false ↦ 1 ∷ cleaned_from syn before false (get_or octets 0 0 - 1) octets
        ]
      ]
    ]

-- the walk keeps the octets of a kept option
pub cleaned_from-kept : (syn : Bool) (before : List ℕ) (n : ℕ) (octets : List ℕ) → cleaned_from syn before true n octets ≡ take n octets ++ cleaned_from syn before true 0 (drop n octets)
cleaned_from-kept syn before zero octets = refl
cleaned_from-kept syn before (suc n) [] = refl
cleaned_from-kept syn before (suc n) (x ∷ octets) = ap (λ xs. x ∷ xs) (cleaned_from-kept syn before n octets)

-- where an option begins, it does not matter whether the option before was kept
cleaned_from-next : (syn : Bool) (before octets : List ℕ) → cleaned_from syn before false 0 octets ≡ cleaned_from syn before true 0 octets
cleaned_from-next syn before [] = refl
cleaned_from-next syn before (x ∷ octets) = refl

-- the walk replaces the octets of an option that is not kept with no-operations
blanked-octets : (syn : Bool) (before : List ℕ) (n : ℕ) (octets : List ℕ) → cleaned_from syn before false n octets ≡ replicate (length (take n octets)) 1 ++ cleaned_from syn before true 0 (drop n octets)
blanked-octets syn before zero octets = cleaned_from-next syn before octets
blanked-octets syn before (suc n) [] = refl
blanked-octets syn before (suc n) (x ∷ octets) = ap (λ xs. 1 ∷ xs) (blanked-octets syn before n octets)

pub cleaned_from-blank : (syn : Bool) (before : List ℕ) (n : ℕ) (octets : List ℕ) → n ≤ length octets → cleaned_from syn before false n octets ≡ replicate n 1 ++ cleaned_from syn before true 0 (drop n octets)
cleaned_from-blank syn before n octets inside =
    blanked-octets syn before n octets ∙ ap (λ count. replicate count 1 ++ cleaned_from syn before true 0 (drop n octets)) (length-take-le n octets inside)

-- a kept option, and one that is not kept, at the front of the octets
pub cleaned_from-first : (syn : Bool) (before : List ℕ) (kind : ℕ) (octets : List ℕ) → 2 ≤ kind → is_kept_after syn before kind (get_or octets 0 0) ≡ true → cleaned_from syn before true 0 (kind ∷ octets) ≡ kind ∷ cleaned_from syn (kind ∷ before) true (get_or octets 0 0 - 1) octets
cleaned_from-first syn before kind octets other e =
    let a : (kind == 0) ≡ false = ne_eqb kind 0 (omega arith) in
    let b : (kind == 1) ≡ false = ne_eqb kind 1 (omega arith) in
    rw (a, b, e, cleaned_from) refl

pub cleaned_from-other : (syn : Bool) (before : List ℕ) (kind : ℕ) (octets : List ℕ) → 2 ≤ kind → is_kept_after syn before kind (get_or octets 0 0) ≡ false → cleaned_from syn before true 0 (kind ∷ octets) ≡ 1 ∷ cleaned_from syn before false (get_or octets 0 0 - 1) octets
cleaned_from-other syn before kind octets other e =
    let a : (kind == 0) ≡ false = ne_eqb kind 0 (omega arith) in
    let b : (kind == 1) ≡ false = ne_eqb kind 1 (omega arith) in
    rw (a, b, e, cleaned_from) refl

-- all options of a list begin before the offset `place`
abbrev Earlier : (place : ℕ) → List Listed → Type 0
Earlier place [] = Unit
Earlier place (option ∷ options) = (option.place < place) × Earlier place options

earlier-more : (place : ℕ) (front : List Listed) → Earlier place front → Earlier (suc place) front
earlier-more place [] h = tt
earlier-more place (option ∷ front) h = (omega (arith, h.0), earlier-more place front h.1)

earlier-append : (place : ℕ) (front : List Listed) (option : Listed) → Earlier place front → option.place < place → Earlier place (front ++ option ∷ [])
earlier-append place [] option h here = (here, tt)
earlier-append place (first ∷ front) option h here = (h.0, earlier-append place front option h.1 here)

-- options that all begin before `place` pass a test restricted to offsets below it exactly if they
-- pass it, and options from there on never
earlier-any : (test : Listed → Bool) (place : ℕ) (front : List Listed) → Earlier place front → list_any (λ other. nat_lt other.place place && test other) front ≡ list_any test front
earlier-any test place [] h = refl
earlier-any test place (option ∷ front) h =
    let first = h.0 in
    let e : nat_lt option.place place ≡ true = grind (arith, nat_tests) in
    rw e (ap (λ b. test option || b) (earlier-any test place front h.1))

later-any : (test : Listed → Bool) (place next left : ℕ) (octets : List ℕ) → place ≤ next → list_any (λ other. nat_lt other.place place && test other) (options_from next left octets).options ≡ false
later-any test place next left [] past = refl
later-any test place next (suc left) (x ∷ octets) past = later-any test place (suc next) left octets (omega arith)
later-any test place next zero (zero ∷ octets) past = refl
later-any test place next zero (suc zero ∷ octets) past =
    let e : nat_lt next place ≡ false = grind (arith, nat_tests) in
    rw e (later-any test place (suc next) 0 octets (omega arith))
later-any test place next zero (suc (suc k) ∷ octets) past =
    let e : nat_lt next place ≡ false = grind (arith, nat_tests) in
    ap (λ (list : OptionList). list_any (λ other. nat_lt other.place place && test other) list.options) (options_from-size next (suc (suc k)) octets (omega arith))
    ∙ rw e (later-any test place (suc next) (get_or octets 0 0 - 1) octets (omega arith))

-- an option of this kind that may be kept
abbrev of_kind : (syn : Bool) (kind : ℕ) → Listed → Bool
of_kind syn kind other = (other.kind == kind) && may_stay syn other

-- the kinds `kinds` are exactly those of the options in `front` that may be kept
abbrev SameKinds : (syn : Bool) → List Listed → (kinds : List ℕ) → Type 0
SameKinds syn front kinds = (kind : ℕ) → list_any (of_kind syn kind) front ≡ list_any (λ other. other == kind) kinds

-- no option with a length below 2 may be kept
may-small : (syn : Bool) (kind size : ℕ) → size < 2 → may_be_kept syn kind size ≡ false
may-small syn kind size small = grind (arith, nat_tests)

front-may : (syn : Bool) (place kind : ℕ) (octets : List ℕ) → may_stay syn (at_front place kind octets) ≡ may_be_kept syn kind (get_or octets 0 0)
front-may syn place kind octets =
    ⊎_elim (λ e. ap (may_be_kept syn kind) e)
    (λ s. ap (may_be_kept syn kind) s.0 ∙ may-small syn kind 0 (omega arith) ∙ sym (may-small syn kind (get_or octets 0 0) s.1))
    (front-size octets)

-- the option at the front of the octets is kept exactly if the walk keeps it
front-kept : (syn : Bool) (front : List Listed) (kinds : List ℕ) (place kind : ℕ) (octets : List ℕ) → Earlier place front → SameKinds syn front kinds
    → is_kept syn (front ++ at_front place kind octets ∷ (options_from (suc place) (get_or octets 0 0 - 1) octets).options) (at_front place kind octets) ≡ is_kept_after syn kinds kind (get_or octets 0 0)
front-kept syn front kinds place kind octets earlier same =
    let first = at_front place kind octets in
    let rest = (options_from (suc place) (get_or octets 0 0 - 1) octets).options in
    let test = λ (other : Listed). nat_lt other.place place && of_kind syn kind other in
    let none : nat_lt place place ≡ false = grind (arith, nat_tests) in
    let behind : list_any test (first ∷ rest) ≡ false = rw none (later-any (of_kind syn kind) place (suc place) (get_or octets 0 0 - 1) octets (omega arith)) in
    let before : list_any test (front ++ first ∷ rest) ≡ list_any (λ other. other == kind) kinds =
    list_any-append test front (first ∷ rest) ∙ ap (λ b. list_any test front || b) behind ∙ or-false (list_any test front) ∙ earlier-any (of_kind syn kind) place front earlier ∙ same kind in
    let may = front-may syn place kind octets in
    λ i. may i && not (before i)

-- the kinds with one more option in `front`: it is kept, or it is not
more-kept : (a b m : Bool) → m ≡ true → (a || ((b && m) || false)) ≡ (b || a)
more-kept true true true e = refl
more-kept true false true e = refl
more-kept false true true e = refl
more-kept false false true e = refl
more-kept a b false e = cc

more-other : (a m : Bool) → (m && not a) ≡ false → (a || (m || false)) ≡ a
more-other true m e = refl
more-other false true e = cc
more-other false false e = refl

same-kept : (syn : Bool) (front : List Listed) (kinds : List ℕ) (place kind : ℕ) (octets : List ℕ) → SameKinds syn front kinds → is_kept_after syn kinds kind (get_or octets 0 0) ≡ true
    → SameKinds syn (front ++ at_front place kind octets ∷ []) (kind ∷ kinds)
same-kept syn front kinds place kind octets same kept other =
    let may = front-may syn place kind octets ∙ (and_parts _ _ kept).0 in
    list_any-append (of_kind syn other) front (at_front place kind octets ∷ [])
    ∙ ap (λ b. b || list_any (of_kind syn other) (at_front place kind octets ∷ [])) (same other)
    ∙ more-kept (list_any (λ k. k == other) kinds) (kind == other) (may_stay syn (at_front place kind octets)) may

same-other : (syn : Bool) (front : List Listed) (kinds : List ℕ) (option : Listed) → SameKinds syn front kinds → is_kept_after syn kinds option.kind (get_or option.octets 1 0) ≡ false
    → SameKinds syn (front ++ option ∷ []) kinds
same-other syn front kinds option same blank other =
    list_any-append (of_kind syn other) front (option ∷ [])
    ∙ ap (λ b. b || list_any (of_kind syn other) (option ∷ [])) (same other)
    ∙ ⊎_elim (λ here.
    let is : option.kind ≡ other = grind (arith, nat_tests) in
    let not_kept = ap (λ k. may_stay syn option && not (list_any (λ x. x == k) kinds)) (sym is) ∙ blank in
    rw here (more-other (list_any (λ k. k == other) kinds) (may_stay syn option) not_kept))
    (λ elsewhere. rw elsewhere (or-false (list_any (λ k. k == other) kinds)))
    (cases_Bool (option.kind == other))

-- the rest of the list, cleaned as part of the list `all`
abbrev rest_cleaned : (syn : Bool) (all : List Listed) → OptionList → List ℕ
rest_cleaned syn all list = flat_map (cleaned_option syn all) list.options ++ replicate (length list.behind) 0

-- one more option before the rest
rest-more : (syn : Bool) (front : List Listed) (option : Listed) (list : OptionList) → rest_cleaned syn (front ++ option ∷ list.options) (record { options = option ∷ list.options; behind = list.behind })
    ≡ cleaned_option syn (front ++ option ∷ list.options) option ++ rest_cleaned syn ((front ++ option ∷ []) ++ list.options) list
rest-more syn front option list =
    append_assoc (cleaned_option syn (front ++ option ∷ list.options) option) (flat_map (cleaned_option syn (front ++ option ∷ list.options)) list.options) (replicate (length list.behind) 0)
    ∙ ap (λ all. cleaned_option syn (front ++ option ∷ list.options) option ++ rest_cleaned syn all list) (sym (append_assoc front (option ∷ []) list.options))

one-octet : (b : Bool) → if◌then◌else◌ {A = List ℕ} b (1 ∷ []) (1 ∷ []) ≡ 1 ∷ []
one-octet true = refl
one-octet false = refl

none-kept : (syn : Bool) (kinds : List ℕ) → is_kept_after syn kinds 1 0 ≡ false
none-kept syn kinds = ap (λ b. b && not (list_any (λ other. other == 1) kinds)) (may-small syn 1 0 (omega arith))

cleaned_rest : (syn : Bool) (front : List Listed) (kinds : List ℕ) (place left : ℕ) (octets : List ℕ) → Earlier place front → SameKinds syn front kinds
    → rest_cleaned syn (front ++ (options_from place left octets).options) (options_from place left octets) ≡ cleaned_from syn kinds true 0 (drop left octets)
cleaned_rest syn front kinds place zero [] earlier same = refl
cleaned_rest syn front kinds place (suc left) [] earlier same = refl
cleaned_rest syn front kinds place (suc left) (x ∷ octets) earlier same = cleaned_rest syn front kinds (suc place) left octets (earlier-more place front earlier) same
cleaned_rest syn front kinds place zero (zero ∷ octets) earlier same = refl
cleaned_rest syn front kinds place zero (suc zero ∷ octets) earlier same =
    let option : Listed = record { kind = 1; octets = 1 ∷ []; place = place } in
    let rest = options_from (suc place) 0 octets in
    rest-more syn front option rest
    ∙ ap (λ xs. xs ++ rest_cleaned syn ((front ++ option ∷ []) ++ rest.options) rest) (one-octet (is_kept syn (front ++ option ∷ rest.options) option))
    ∙ ap (λ xs. 1 ∷ xs) (cleaned_rest syn (front ++ option ∷ []) kinds (suc place) 0 octets (earlier-append (suc place) front option (earlier-more place front earlier) (omega arith)) (same-other syn front kinds option same (none-kept syn kinds)))
cleaned_rest syn front kinds place zero (suc (suc k) ∷ octets) earlier same =
    let kind = suc (suc k) in
    let other : 2 ≤ kind = omega arith in
    let more = get_or octets 0 0 - 1 in
    let option = at_front place kind octets in
    let rest = options_from (suc place) more octets in
    let all = front ++ option ∷ rest.options in
    let before = earlier-append (suc place) front option (earlier-more place front earlier) (omega arith) in
    let kept_is = front-kept syn front kinds place kind octets earlier same in
    ap (λ (list : OptionList). rest_cleaned syn (front ++ list.options) list) (options_from-size place kind octets other)
    ∙ rest-more syn front option rest
    ∙ ⊎_elim (λ kept.
    ap (λ b. (if b then option.octets else replicate (length option.octets) 1) ++ rest_cleaned syn ((front ++ option ∷ []) ++ rest.options) rest) (kept_is ∙ kept)
    ∙ ap (λ xs. option.octets ++ xs) (cleaned_rest syn (front ++ option ∷ []) (kind ∷ kinds) (suc place) more octets before (same-kept syn front kinds place kind octets same kept))
    ∙ sym (cleaned_from-first syn kinds kind octets other kept ∙ ap (λ xs. kind ∷ xs) (cleaned_from-kept syn (kind ∷ kinds) more octets)))
    (λ blank.
    let none = ap (λ b. b && not (list_any (λ x. x == kind) kinds)) (front-may syn place kind octets) ∙ blank in
    ap (λ b. (if b then option.octets else replicate (length option.octets) 1) ++ rest_cleaned syn ((front ++ option ∷ []) ++ rest.options) rest) (kept_is ∙ blank)
    ∙ ap (λ xs. replicate (length option.octets) 1 ++ xs) (cleaned_rest syn (front ++ option ∷ []) kinds (suc place) more octets before (same-other syn front kinds option same none))
    ∙ sym (cleaned_from-other syn kinds kind octets other blank ∙ ap (λ xs. 1 ∷ xs) (blanked-octets syn kinds more octets)))
    (cases_Bool (is_kept_after syn kinds kind (get_or octets 0 0)))

pub cleaned-walk : (syn : Bool) (area : List ℕ) → cleaned syn area ≡ cleaned_from syn [] true 0 area
cleaned-walk syn area = cleaned_rest syn [] [] 0 0 area tt (λ kind. refl)

-- the offset of the end option, or the area's length if there is none
abbrev pub end_from : (left : ℕ) → List ℕ → ℕ
end_from left [] = 0
end_from (suc left) (x ∷ octets) = suc (end_from left octets)
end_from zero (kind ∷ octets) =
    elim (kind == 0) [
      | true ↦ 0
      | false ↦ elim (kind == 1) [
        | true ↦ suc (end_from 0 octets)
        | false ↦ suc (end_from (get_or octets 0 0 - 1) octets)
      ]
    ]

pub end_from-sized : (kind : ℕ) (octets : List ℕ) → 2 ≤ kind → end_from 0 (kind ∷ octets) ≡ suc (end_from (get_or octets 0 0 - 1) octets)
end_from-sized kind octets other =
    let a : (kind == 0) ≡ false = ne_eqb kind 0 (omega arith) in
    let b : (kind == 1) ≡ false = ne_eqb kind 1 (omega arith) in
    rw (a, b, end_from) refl

end_list : (place left : ℕ) (octets : List ℕ) → end_from left octets + length (options_from place left octets).behind ≡ length octets
end_list place left [] = refl
end_list place (suc left) (x ∷ octets) = let rest = end_list (suc place) left octets in omega (arith, rest)
end_list place zero (zero ∷ octets) = omega arith
end_list place zero (suc zero ∷ octets) = let rest = end_list (suc place) 0 octets in omega (arith, rest)
end_list place zero (suc (suc k) ∷ octets) =
    let kind = suc (suc k) in
    let rest = end_list (suc place) (get_or octets 0 0 - 1) octets in
    let end = end_from-sized kind octets (omega arith) in
    let behind = ap (λ (list : OptionList). length list.behind) (options_from-size place kind octets (omega arith)) in
    omega (arith, rest, end, behind)

pub end_of-walk : (area : List ℕ) → end_of area ≡ end_from 0 area
end_of-walk area = let all = end_list 0 0 area in omega (arith, all)

-- The definitions over the list of options are equal to those by one walk over the octets.
use Rattle.std.proofs.Common.{◌≡◌, ℕ, zero, suc, ◌+◌, ◌-◌, ◌≤◌, ◌<◌, ◌⊎◌, ◌==◌, ◌&&◌, ◌||◌, nat_le, min, inl, inr, Bool, true, false, List, [], ◌∷◌, ◌++◌, length, get_or, take, drop, Some, option_map, refl, sym, ap, ◌∙◌, ⊎_elim, arith, length-take, length-take-le, get_or-take, take-append-drop, append_assoc}
use Rattle.std.specs.List.{find, flat_map, list_all, list_any}
use Rattle.std.proofs.Math.Dec.{eqb-suc-zero}
use Rattle.std.proofs.lemmas.Bool.{cases_lt, ne_eqb, eq-eqb, le-leb, lt-leb, cases_Bool}
use Rattle.std.proofs.lemmas.Bool.Decides.{nat_tests}
use Rattle.wire_base.specs.Options.{Listed, OptionList, with_first, options_from, is_whole, are_well_formed, is_route, has_route, is_scale, shift_of, scale_of}
use Rattle.wire_base.specs.OptionLaws.{AreTheArea, FollowEachOther, WorkedAreas, follow_from}
use Rattle.wire_base.proofs.OptionWalk.{formed_from, formed_from-size, formed_from-small, has_from, has_from-size, scale_from, scale_from-size}

-- the option at the front of the octets
abbrev pub at_front : (place kind : ℕ) → List ℕ → Listed
at_front place kind octets = record { kind = kind; octets = kind ∷ take (get_or octets 0 0 - 1) octets; place = place }

pub options_from-size : (place kind : ℕ) (octets : List ℕ) → 2 ≤ kind → options_from place 0 (kind ∷ octets) ≡ with_first (at_front place kind octets) (options_from (suc place) (get_or octets 0 0 - 1) octets)
options_from-size place kind octets other =
    let a : (kind == 0) ≡ false = ne_eqb kind 0 (omega arith) in
    let b : (kind == 1) ≡ false = ne_eqb kind 1 (omega arith) in
    rw (a, b, options_from) refl

-- the length octet is that of the octets, or it reads as 0 where that is below 2 or missing
pub front-size : (octets : List ℕ) → (get_or (take (get_or octets 0 0 - 1) octets) 0 0 ≡ get_or octets 0 0) ⊎ ((get_or (take (get_or octets 0 0 - 1) octets) 0 0 ≡ 0) × (get_or octets 0 0 < 2))
front-size [] = inl refl
front-size (zero ∷ octets) = inl refl
front-size (suc zero ∷ octets) = inr (refl, omega arith)
front-size (suc (suc n) ∷ octets) = inl (get_or-take (suc (suc n) - 1) (suc (suc n) ∷ octets) 0 0 (omega arith))

-- the option has as many octets as its length says exactly if it lies inside the area
whole-size : (n : ℕ) (octets : List ℕ) → 2 ≤ n → (suc (length (take (n - 1) octets)) == n) ≡ nat_le (n - 1) (length octets)
whole-size n octets two =
    let count : length (take (n - 1) octets) ≡ min (n - 1) (length octets) = length-take (n - 1) octets in
    ⊎_elim (λ past.
    let short : min (n - 1) (length octets) < n - 1 = grind (arith, nat_tests) in
    ne_eqb (suc (length (take (n - 1) octets))) n (λ e. absurd (omega (arith, e, count, short))) ∙ sym (lt-leb (n - 1) (length octets) past))
    (λ inside.
    let all : length (take (n - 1) octets) ≡ n - 1 = length-take-le (n - 1) octets inside in
    eq-eqb (suc (length (take (n - 1) octets))) n (omega (arith, all)) ∙ sym (le-leb (n - 1) (length octets) inside))
    (cases_lt (length octets) (n - 1))

-- an option at the front is whole exactly if the walk finds it inside the area
front-whole : (place kind : ℕ) (octets : List ℕ) (rest : Bool) → 2 ≤ kind → 2 ≤ get_or octets 0 0 → (is_whole (at_front place kind octets) && rest) ≡ (nat_le (get_or octets 0 0 - 1) (length octets) && rest)
front-whole place kind octets rest other two =
    let b : (kind == 1) ≡ false = ne_eqb kind 1 (omega arith) in
    let size : get_or (take (get_or octets 0 0 - 1) octets) 0 0 ≡ get_or octets 0 0 = ⊎_elim (λ e. e) (λ small. absurd (omega (arith, small.1))) (front-size octets) in
    let some : nat_le 2 (get_or octets 0 0) ≡ true = le-leb 2 (get_or octets 0 0) two in
    rw (b, size, some, whole-size (get_or octets 0 0) octets two) refl

front-small : (place kind : ℕ) (octets : List ℕ) → 2 ≤ kind → get_or octets 0 0 < 2 → is_whole (at_front place kind octets) ≡ false
front-small place kind octets other small =
    let b : (kind == 1) ≡ false = ne_eqb kind 1 (omega arith) in
    let none : nat_le 2 (get_or (take (get_or octets 0 0 - 1) octets) 0 0) ≡ false =
    ⊎_elim (λ e. ap (nat_le 2) e ∙ lt-leb 2 (get_or octets 0 0) small) (λ s. ap (nat_le 2) s.0) (front-size octets) in
    rw (b, none) refl

-- a length octet that reads as at least 2 is present
pub has-first : (octets : List ℕ) → 2 ≤ get_or octets 0 0 → 1 ≤ length octets
has-first [] some = absurd (omega arith)
has-first (x ∷ octets) some = omega arith

-- whether each option is whole
formed_list : (place left : ℕ) (octets : List ℕ) → (nat_le left (length octets) && list_all is_whole (options_from place left octets).options) ≡ formed_from left octets
formed_list place zero [] = refl
formed_list place (suc left) [] = rw (lt-leb (suc left) 0 (omega arith), eqb-suc-zero left) refl
formed_list place (suc left) (x ∷ octets) =
    let more : nat_le (suc left) (suc (length octets)) ≡ nat_le left (length octets) = grind (arith, nat_tests) in
    rw more (formed_list (suc place) left octets)
formed_list place zero (zero ∷ octets) =
    let a = le-leb 0 (suc (length octets)) (omega arith) in
    rw a refl
formed_list place zero (suc zero ∷ octets) =
    let a = le-leb 0 (suc (length octets)) (omega arith) in
    let b = le-leb 0 (length octets) (omega arith) in
    rw a (sym (rw b refl) ∙ formed_list (suc place) 0 octets)
formed_list place zero (suc (suc k) ∷ octets) =
    let kind = suc (suc k) in
    let other : 2 ≤ kind = omega arith in
    let size = get_or octets 0 0 in
    let a = le-leb 0 (suc (length octets)) (omega arith) in
    let rest = list_all is_whole (options_from (suc place) (size - 1) octets).options in
    rw a (ap (λ (list : OptionList). list_all is_whole list.options) (options_from-size place kind octets other) ∙ ⊎_elim (λ small.
    ap (λ b. b && rest) (front-small place kind octets other small) ∙ sym (formed_from-small kind octets other small))
    (λ two. front-whole place kind octets rest other two ∙ formed_list (suc place) (size - 1) octets ∙ sym (formed_from-size kind octets other (has-first octets two) two))
    (cases_lt size 2))

pub are_well_formed-walk : (area : List ℕ) → are_well_formed area ≡ formed_from 0 area
are_well_formed-walk area =
    let a = le-leb 0 (length area) (omega arith) in
    sym (ap (λ b. b && are_well_formed area) a) ∙ formed_list 0 0 area

-- whether an option is of a kind
has_list : (test : ℕ → Bool) → test 1 ≡ false → (place left : ℕ) (octets : List ℕ) → list_any (λ (option : Listed). test option.kind) (options_from place left octets).options ≡ has_from test left octets
has_list test none place left [] = refl
has_list test none place (suc left) (x ∷ octets) = has_list test none (suc place) left octets
has_list test none place zero (zero ∷ octets) = refl
has_list test none place zero (suc zero ∷ octets) = rw none (has_list test none (suc place) 0 octets)
has_list test none place zero (suc (suc k) ∷ octets) =
    let kind = suc (suc k) in
    let other : 2 ≤ kind = omega arith in
    ap (λ (list : OptionList). list_any (λ (option : Listed). test option.kind) list.options) (options_from-size place kind octets other)
    ∙ ap (λ b. test kind || b) (has_list test none (suc place) (get_or octets 0 0 - 1) octets)
    ∙ sym (has_from-size test kind octets other)

pub has_route-walk : (area : List ℕ) → has_route area ≡ has_from is_route 0 area
has_route-walk area = has_list is_route refl 0 0 area

-- the first window scale option
front-scale : (place kind : ℕ) (octets : List ℕ) → is_scale (at_front place kind octets) ≡ ((kind == 3) && (get_or octets 0 0 == 3))
front-scale place kind octets =
    ⊎_elim (λ e. ap (λ n. (kind == 3) && (n == 3)) e)
    (λ s.
    let other : (get_or octets 0 0 == 3) ≡ false = ne_eqb (get_or octets 0 0) 3 (λ e. absurd (omega (arith, e, s.1))) in
    ap (λ n. (kind == 3) && (n == 3)) s.0 ∙ sym (ap (λ b. (kind == 3) && b) other))
    (front-size octets)

front-shift : (place kind : ℕ) (octets : List ℕ) → ((kind == 3) && (get_or octets 0 0 == 3)) ≡ true → shift_of (at_front place kind octets) ≡ min 14 (get_or octets 1 0)
front-shift place kind octets e =
    let three : get_or octets 0 0 ≡ 3 = grind (arith, nat_tests) in
    ap (min 14) (get_or-take (get_or octets 0 0 - 1) octets 1 0 (omega arith))

pub scale_from-first : (kind : ℕ) (octets : List ℕ) → 2 ≤ kind → ((kind == 3) && (get_or octets 0 0 == 3)) ≡ true → scale_from 0 (kind ∷ octets) ≡ Some (min 14 (get_or octets 1 0))
scale_from-first kind octets other e =
    let a : (kind == 0) ≡ false = ne_eqb kind 0 (omega arith) in
    let b : (kind == 1) ≡ false = ne_eqb kind 1 (omega arith) in
    rw (a, b, e, scale_from) refl

scale_list : (place left : ℕ) (octets : List ℕ) → option_map shift_of (find is_scale (options_from place left octets).options) ≡ scale_from left octets
scale_list place left [] = refl
scale_list place (suc left) (x ∷ octets) = scale_list (suc place) left octets
scale_list place zero (zero ∷ octets) = refl
scale_list place zero (suc zero ∷ octets) = scale_list (suc place) 0 octets
scale_list place zero (suc (suc k) ∷ octets) =
    let kind = suc (suc k) in
    let other : 2 ≤ kind = omega arith in
    let size = get_or octets 0 0 in
    ap (λ (list : OptionList). option_map shift_of (find is_scale list.options)) (options_from-size place kind octets other)
    ∙ rw (front-scale place kind octets) (⊎_elim (λ scale.
    rw scale (ap Some (front-shift place kind octets scale) ∙ sym (scale_from-first kind octets other scale)))
    (λ another. rw another (scale_list (suc place) (size - 1) octets ∙ sym (scale_from-size kind octets other another)))
    (cases_Bool ((kind == 3) && (size == 3))))

pub scale_of-walk : (area : List ℕ) → scale_of area ≡ scale_from 0 area
scale_of-walk area = scale_list 0 0 area

-- the octets of the options and those after them are the octets that were walked
nothing_left : (place left : ℕ) (octets : List ℕ) → length octets < left → options_from place left octets ≡ record { options = []; behind = [] }
nothing_left place left [] past = refl
nothing_left place zero (x ∷ octets) past = absurd (omega arith)
nothing_left place (suc left) (x ∷ octets) past = nothing_left (suc place) left octets (omega arith)

abbrev octets_in : OptionList → List ℕ
octets_in list = flat_map (λ (option : Listed). option.octets) list.options ++ list.behind

octets_list : (place left : ℕ) (octets : List ℕ) → octets_in (options_from place left octets) ≡ drop left octets
octets_list place zero [] = refl
octets_list place (suc left) [] = refl
octets_list place (suc left) (x ∷ octets) = octets_list (suc place) left octets
octets_list place zero (zero ∷ octets) = refl
octets_list place zero (suc zero ∷ octets) = ap (λ xs. 1 ∷ xs) (octets_list (suc place) 0 octets)
octets_list place zero (suc (suc k) ∷ octets) =
    let kind = suc (suc k) in
    let more = get_or octets 0 0 - 1 in
    let rest = options_from (suc place) more octets in
    ap octets_in (options_from-size place kind octets (omega arith))
    ∙ append_assoc (kind ∷ take more octets) (flat_map (λ (option : Listed). option.octets) rest.options) rest.behind
    ∙ ap (λ xs. kind ∷ take more octets ++ xs) (octets_list (suc place) more octets)
    ∙ ap (λ xs. kind ∷ xs) (take-append-drop more octets)

pub are_the_area : AreTheArea
are_the_area area = octets_list 0 0 area

-- each option begins where the one before it ends
follow_list : (place left : ℕ) (octets : List ℕ) → follow_from (place + left) (options_from place left octets).options ≡ true
follow_list place left [] = refl
follow_list place (suc left) (x ∷ octets) =
    let e : place + suc left ≡ suc place + left = omega arith in
    ap (λ n. follow_from n (options_from (suc place) left octets).options) e ∙ follow_list (suc place) left octets
follow_list place zero (zero ∷ octets) = refl
follow_list place zero (suc zero ∷ octets) =
    let here : (place == (place + 0)) ≡ true = eq-eqb place (place + 0) (omega arith) in
    let next : place + 0 + 1 ≡ suc place + 0 = omega arith in
    rw here (ap (λ n. follow_from n (options_from (suc place) 0 octets).options) next ∙ follow_list (suc place) 0 octets)
follow_list place zero (suc (suc k) ∷ octets) =
    let kind = suc (suc k) in
    let more = get_or octets 0 0 - 1 in
    let rest = options_from (suc place) more octets in
    let here : (place == (place + 0)) ≡ true = eq-eqb place (place + 0) (omega arith) in
    ap (λ (list : OptionList). follow_from (place + 0) list.options) (options_from-size place kind octets (omega arith))
    ∙ ap (λ b. b && follow_from (place + 0 + suc (length (take more octets))) rest.options) here
    ∙ ⊎_elim (λ past. ap (λ (list : OptionList). follow_from (place + 0 + suc (length (take more octets))) list.options) (nothing_left (suc place) more octets past))
    (λ inside.
    let count : length (take more octets) ≡ more = length-take-le more octets inside in
    let next : place + 0 + suc (length (take more octets)) ≡ suc place + more = omega (arith, count) in
    ap (λ n. follow_from n rest.options) next ∙ follow_list (suc place) more octets)
    (cases_lt (length octets) more)

pub follow_each_other : FollowEachOther
follow_each_other area = follow_list 0 0 area

pub worked_areas : WorkedAreas
worked_areas = record { routes_are = refl; scales_are = refl; cleanings_are = refl }

-- Octets kept of an era, run by run: which ones differ from those before, and that each is below
-- the offset after the last.
use Rattle.std.proofs.Common.{◌≡◌, ℕ, ◌+◌, ◌≤◌, ◌&&◌, List, [], ◌∷◌, ◌++◌, length, Option, Some, None, Bool, true, false, refl, sym, ap, ◌∙◌, subst, arith, inl, inr, zero, suc, ◌-◌, ◌/◌, ◌%◌, ◌==◌, ◌||◌, nat_le, not, ◌<◌, drop, drop-cons, get_or, add-one, ap₂, slice_get, if◌then◌else◌, ℤ, pos, negsuc, ◌+ℤ◌, ◌-ℤ◌, ◌<ℤ◌, ◌≤ℤ◌, max, nat_lt}
use Rattle.std.specs.Int.{int_max}
use Rattle.std.specs.Option.{option_or}
use Rattle.std.proofs.lemmas.Int.{ints, int_max_is}
use Rattle.std.proofs.lemmas.Option.{slice_get_past}
use Rattle.std.proofs.lemmas.Bool.{ltb-false, cases_eq, cases_lt, or_right, eqb-true, eqb-false, ne_eqb, leb-true, leb-false, le-leb, lt-leb, not-false}
use Rattle.std.proofs.lemmas.Bool.Decides.{nat_tests}
use Rattle.wire_base.specs.Segments.{Written}
use Rattle.era_state.specs.ListElements.{first_of, greatest, Moment, moments}
use Rattle.era_state.specs.Offsets.{off, natural, nat_of}
use Rattle.era_state.specs.SegmentMarks.{has_octets, get_at, octet_at, top_place}
use Rattle.era_state.specs.Quantities.{acked, first}
use Rattle.era_state.specs.Quantities as era
use Rattle.era_state.proofs.Quantities.{moments_push, or_none}
use Rattle.run_audit.specs.EraTops.{octets_end, greater, furthest, last_end, place_in, top}
use Rattle.run_audit.specs.FrameFaults.{is_other}
use Rattle.run_audit.specs.working.KeptOctets.{AreKeptWith, brought, is_at_end, block_at, kept_at, kept_with, octet_in_some, some_stray}
use Rattle.run_audit.specs.declared.octets.Octets.{Octets}
use Rattle.run_audit.specs.declared.offset.Offset.{Offset}

-- The offset after the last octet, with one more segment; all octets are below it.

pub greater_none : (o : Option ℤ) → greater o None ≡ o
greater_none None = refl
greater_none (Some p) = refl

greater_assoc : (a b c : Option ℤ) → greater a (greater b c) ≡ greater (greater a b) c
greater_assoc None b c = refl
greater_assoc (Some p) None c = refl
greater_assoc (Some p) (Some q) None = refl
greater_assoc (Some p) (Some q) (Some r) =
    let e : int_max p (int_max q r) ≡ int_max (int_max p q) r = omega (arith, ints, int_max_is p q, int_max_is q r, int_max_is p (int_max q r), int_max_is (int_max p q) r) in
    ap (λ n. Some n) e

furthest_push : {A : Type 0} (f : A → Option ℤ) (xs : List A) (x : A) → furthest f (xs ++ x ∷ []) ≡ greater (furthest f xs) (f x)
furthest_push f [] x = greater_none (f x)
furthest_push f (y ∷ ys) x = ap (greater (f y)) (furthest_push f ys x) ∙ greater_assoc (f y) (furthest f ys) (f x)

pub last_push : (base : ℕ) (ws : List Written) (w : Written) → last_end base (ws ++ w ∷ []) ≡ greater (last_end base ws) (octets_end base (acked base ws) w)
last_push base ws w =
    let f : Moment Written → Option ℤ = λ m. octets_end base (acked base m.before) m.now in
    ap (furthest f) (moments_push ws w) ∙ furthest_push f (moments ws) (record { before = ws; now = w })

-- a segment without inward octets does not change it
pub last_same : (base : ℕ) (ws : List Written) (w : Written) → octets_end base (acked base ws) w ≡ None → last_end base (ws ++ w ∷ []) ≡ last_end base ws
last_same base ws w none = last_push base ws w ∙ ap (greater (last_end base ws)) none ∙ greater_none (last_end base ws)

pub outward_end : (base a : ℕ) (w : Written) → w.inward ≡ false → octets_end base a w ≡ None
outward_end base a w out = ap (λ (i : Bool). if i && has_octets w then Some (off base a w.seq +ℤ pos (length w.octets)) else None) out

no_octets : (i : Bool) (z : ℤ) → (if i && false then Some z else None) ≡ None
no_octets true z = refl
no_octets false z = refl

pub bare_end : (base a : ℕ) (w : Written) → w.octets ≡ [] → octets_end base a w ≡ None
bare_end base a w bare =
    ap (λ (os : List ℕ). if w.inward && nat_lt 0 (length os) then Some (off base a w.seq +ℤ pos (length os)) else None) bare
    ∙ no_octets w.inward (off base a w.seq +ℤ pos 0)

-- an offset is below an optional one, which is present
abbrev IsBefore : ℤ → Option ℤ → Type 0
IsBefore o None = ⊥
IsBefore o (Some end) = o <ℤ end

before_one : (o : ℤ) (p q : Option ℤ) → IsBefore o p → IsBefore o (greater p q)
before_one o None q h = absurd h
before_one o (Some p) None h = h
before_one o (Some p) (Some q) h = omega (arith, ints, h, int_max_is p q)

before_other : (o : ℤ) (p q : Option ℤ) → IsBefore o q → IsBefore o (greater p q)
before_other o None q h = h
before_other o (Some p) None h = absurd h
before_other o (Some p) (Some q) h = omega (arith, ints, h, int_max_is p q)

-- the offset is below the greatest end, if each element with a value has an end above the offset
first_before : {A B : Type 0} (f : A → Option B) (g : A → Option ℤ) (o : ℤ) → ((x : A) (y : B) → f x ≡ Some y → IsBefore o (g x)) → (xs : List A) (y : B) → first_of f xs ≡ Some y → IsBefore o (furthest g xs)
first_before f g o each [] y e = absurd (cc e)
first_before {B = B} f g o each (x ∷ xs) y e = by (first_before f g o each xs y) (f x) refl e
  where
    by : (first_of f xs ≡ Some y → IsBefore o (furthest g xs)) → (p : Option B) → f x ≡ p → option_or p (first_of f xs) ≡ Some y → IsBefore o (greater (g x) (furthest g xs))
    by go (Some z) is e = before_one o (g x) (furthest g xs) (each x z is)
    by go None is e = before_other o (g x) (furthest g xs) (go e)

octet_before : (base a : ℕ) (o : ℤ) (w : Written) (x : ℕ) → octet_at base a o w ≡ Some x → IsBefore o (octets_end base a w)
octet_before base a o w x = by w.inward w.octets
  where
    z : ℤ
    z = off base a w.seq

    at : (os : List ℕ) (d : ℤ) → (o -ℤ z) ≡ d → get_at os (natural d) ≡ Some x → o <ℤ (z +ℤ pos (length os))
    at os (negsuc i) is e = absurd (cc e)
    at os (pos i) is e = inside (nat_lt i (length os)) refl
      where
        inside : (b : Bool) → nat_lt i (length os) ≡ b → o <ℤ (z +ℤ pos (length os))
        inside true less = grind (arith, ints, is, less)
        inside false less = let none = slice_get_past os i (ltb-false i (length os) less) in absurd (cc (e, none))

    by : (i : Bool) (os : List ℕ) → (if i then get_at os (natural (o -ℤ z)) else None) ≡ Some x → IsBefore o (if i && nat_lt 0 (length os) then Some (z +ℤ pos (length os)) else None)
    by false os e = absurd (cc e)
    by true [] e = absurd (nothing (natural (o -ℤ z)) e)
      where
        nothing : (n : Option ℕ) → get_at [] n ≡ Some x → ⊥
        nothing None e = cc e
        nothing (Some n) e = cc e
    by true (y ∷ os) e =
        let some : nat_lt 0 (length (y ∷ os)) ≡ true = grind (arith, nat_tests) in
        subst (λ b. IsBefore o (if b then Some (z +ℤ pos (length (y ∷ os))) else None)) (sym some) (at (y ∷ os) (o -ℤ z) refl e)

-- each octet is below Top
pub below_top : (base : ℕ) (ws : List Written) (o : ℤ) (x : ℕ) → first base ws o ≡ Some x → o <ℤ top base ws
below_top base ws o x e =
    by (last_end base ws)
    (first_before (λ (m : Moment Written). octet_at base (acked base m.before) o m.now) (λ (m : Moment Written). octets_end base (acked base m.before) m.now) o
    (λ m y. octet_before base (acked base m.before) o m.now y) (moments ws) x e)
  where
    by : (p : Option ℤ) → IsBefore o p → o <ℤ place_in p
    by None h = absurd h
    by (Some end) h = h

-- an optional offset is at most this number, if there is one
abbrev IsAtMost : Option ℤ → ℕ → Type 0
IsAtMost None n = Unit {0}
IsAtMost (Some end) n = end ≤ℤ pos n

most_of : (p q : Option ℤ) (m n : ℕ) → IsAtMost p m → IsAtMost q n → IsAtMost (greater p q) (max m n)
most_of None None m n h k = tt
most_of None (Some q) m n h k = omega (arith, ints, k)
most_of (Some p) None m n h k = omega (arith, ints, h)
most_of (Some p) (Some q) m n h k = omega (arith, ints, h, k, int_max_is p q)

furthest_most : {A : Type 0} (f : A → Option ℤ) (g : A → ℕ) → ((x : A) → IsAtMost (f x) (g x)) → (xs : List A) → IsAtMost (furthest f xs) (greatest g xs)
furthest_most f g each [] = tt
furthest_most f g each (x ∷ xs) = most_of (f x) (furthest f xs) (g x) (greatest g xs) (each x) (furthest_most f g each xs)

end_most : (base a : ℕ) (w : Written) → IsAtMost (octets_end base a w) (top_place base a w)
end_most base a w = by (w.inward && has_octets w) (off base a w.seq +ℤ pos (length w.octets))
  where
    nat_most : (z : ℤ) → z ≤ℤ pos (nat_of z)
    nat_most (pos n) = omega (arith, ints)
    nat_most (negsuc n) = omega (arith, ints)

    by : (b : Bool) (z : ℤ) → IsAtMost (if b then Some z else None) (if b then nat_of z else 0)
    by true z = nat_most z
    by false z = tt

pub top_most : (base : ℕ) (ws : List Written) → top base ws ≤ℤ pos (era.top base ws)
top_most base ws =
    by (last_end base ws) (era.top base ws)
    (furthest_most (λ (m : Moment Written). octets_end base (acked base m.before) m.now) (λ (m : Moment Written). top_place base (acked base m.before) m.now)
    (λ m. end_most base (acked base m.before) m.now) (moments ws))
  where
    by : (p : Option ℤ) (n : ℕ) → IsAtMost p n → place_in p ≤ℤ pos n
    by None n h = omega (arith, ints)
    by (Some end) n h = h

-- Octets that are added run by run.

-- the test for strays reads only what is kept at the offsets of the list
stray_same : (f g : ℕ → Option ℕ) (p q : ℕ) (octets : List ℕ) → ((m n : ℕ) → p ≤ m → m < p + length octets → n + p ≡ m + q → g n ≡ f m) → some_stray g None q octets ≡ some_stray f None p octets
stray_same f g p q [] same = refl
stray_same f g p q (x ∷ xs) same =
    ap₂ (λ (a b : Bool). (a || false) || b)
    (ap (λ (o : Option ℕ). is_other o x) (same p q (omega arith) (omega arith) (omega arith)))
    (stray_same f g (p + 1) (q + 1) xs (λ m n low high e. same m n (omega (arith, low)) (omega (arith, high)) (omega (arith, e))))

-- an octet of two lists, one after the other, strays if one of either does
or_assoc : (a b c : Bool) → (a || (b || c)) ≡ ((a || b) || c)
or_assoc true b c = refl
or_assoc false b c = refl

stray_append : (f : ℕ → Option ℕ) (place : ℕ) (xs ys : List ℕ) → some_stray f None place (xs ++ ys) ≡ (some_stray f None place xs || some_stray f None (place + length xs) ys)
stray_append f place [] ys = let e : place ≡ place + 0 = omega arith in ap (λ n. some_stray f None n ys) e
stray_append f place (x ∷ xs) ys =
    let next : place + 1 + length xs ≡ place + length (x ∷ xs) = omega arith in
    let this : Bool = is_other (f place) x || false in
    ap (λ (b : Bool). this || b) (stray_append f (place + 1) xs ys)
    ∙ or_assoc this (some_stray f None (place + 1) xs) (some_stray f None (place + 1 + length xs) ys)
    ∙ ap (λ n. (this || some_stray f None (place + 1) xs) || some_stray f None n ys) next

-- an octet of a front strays, so one of the whole does
pub stray_front : (f : ℕ → Option ℕ) (place : ℕ) (xs ys : List ℕ) → some_stray f None place xs ≡ true → some_stray f None place (xs ++ ys) ≡ true
stray_front f place xs ys h = stray_append f place xs ys ∙ ap (λ (b : Bool). b || some_stray f None (place + length xs) ys) h

-- what a list brings from its first offset on, before it, and after it
brought_at : (place raised : ℕ) (octets : List ℕ) → place ≤ raised → brought place octets raised ≡ slice_get octets (raised - place)
brought_at place raised octets h = ap (λ (b : Bool). if b then slice_get octets (raised - place) else None) (le-leb place raised h)

brought_before : (place raised : ℕ) (octets : List ℕ) → raised < place → brought place octets raised ≡ None
brought_before place raised octets h = ap (λ (b : Bool). if b then slice_get octets (raised - place) else None) (lt-leb place raised h)

brought_behind : (place raised : ℕ) (octets : List ℕ) → place + length octets ≤ raised → brought place octets raised ≡ None
brought_behind place raised octets h =
    brought_at place raised octets (omega (arith, h)) ∙ slice_get_past octets (raised - place) (omega (arith, h))

-- a list brings the same octets at another offset
brought_shift : (p q m n : ℕ) (octets : List ℕ) → n + p ≡ m + q → brought q octets n ≡ brought p octets m
brought_shift p q m n octets e =
    ap₂ (λ (b : Bool) (k : ℕ). if b then slice_get octets k else None) (tests (nat_le p m) refl) (omega (arith, e))
  where
    tests : (b : Bool) → nat_le p m ≡ b → nat_le q n ≡ nat_le p m
    tests true h = let low = leb-true p m h in le-leb q n (omega (arith, low, e)) ∙ sym h
    tests false h = let low = leb-false p m h in lt-leb q n (omega (arith, low, e)) ∙ sym h

or_twice : (a b c : Option ℕ) → option_or (option_or a b) c ≡ option_or a (option_or b c)
or_twice None b c = refl
or_twice (Some x) b c = refl

-- two lists, one after the other, bring the octets of both
get_append : (xs ys : List ℕ) (k : ℕ) → slice_get (xs ++ ys) k ≡ option_or (slice_get xs k) (brought (length xs) ys k)
get_append [] ys k = ap₂ (λ (b : Bool) (n : ℕ). if b then slice_get ys n else None) (sym (le-leb 0 k (omega arith))) (omega arith)
get_append (x ∷ xs) ys zero = refl
get_append (x ∷ xs) ys (suc k) =
    get_append xs ys k ∙ ap (option_or (slice_get xs k)) (sym (brought_shift (length xs) (suc (length xs)) k (suc k) ys (omega arith)))

brought_append : (place : ℕ) (xs ys : List ℕ) (raised : ℕ) → brought place (xs ++ ys) raised ≡ option_or (brought place xs raised) (brought (place + length xs) ys raised)
brought_append place xs ys raised = by (nat_le place raised) refl
  where
    by : (b : Bool) → nat_le place raised ≡ b → brought place (xs ++ ys) raised ≡ option_or (brought place xs raised) (brought (place + length xs) ys raised)
    by true e =
        let low = leb-true place raised e in
        let shift : brought (place + length xs) ys raised ≡ brought (length xs) ys (raised - place) = brought_shift (length xs) (place + length xs) (raised - place) raised ys (omega (arith, low)) in
        brought_at place raised (xs ++ ys) low ∙ get_append xs ys (raised - place) ∙ sym (ap₂ option_or (brought_at place raised xs low) shift)
    by false e =
        let low = leb-false place raised e in
        brought_before place raised (xs ++ ys) low
        ∙ sym (ap₂ option_or (brought_before place raised xs low) (brought_before (place + length xs) raised ys (omega (arith, low))))

kept_behind : (f : ℕ → Option ℕ) (place : ℕ) (octets : List ℕ) (raised : ℕ) → place + length octets ≤ raised → kept_with f place octets raised ≡ f raised
kept_behind f place octets raised h = ap (option_or (f raised)) (brought_behind place raised octets h) ∙ or_none (f raised)

-- octets that do not stray are added: whether those after them stray stays the same
pub stray_on : (f g : ℕ → Option ℕ) (place : ℕ) (xs ys : List ℕ) → ((raised : ℕ) → g raised ≡ kept_with f place xs raised) → some_stray f None place xs ≡ false → some_stray g None (place + length xs) ys ≡ some_stray f None place (xs ++ ys)
stray_on f g place xs ys new none =
    stray_same f g (place + length xs) (place + length xs) ys
    (λ m n low high e.
    let same : m ≡ n = omega (arith, e) in new n ∙ kept_behind f place xs n (omega (arith, low, same)) ∙ ap f (sym same))
    ∙ sym (stray_append f place xs ys ∙ ap (λ (b : Bool). b || some_stray f None (place + length xs) ys) none)

-- octets are added, and those after them: all of them are added
pub kept_on : (f g : ℕ → Option ℕ) (place : ℕ) (xs ys : List ℕ) → ((raised : ℕ) → g raised ≡ kept_with f place xs raised) → (raised : ℕ) → kept_with g (place + length xs) ys raised ≡ kept_with f place (xs ++ ys) raised
kept_on f g place xs ys new raised =
    ap (λ (o : Option ℕ). option_or o (brought (place + length xs) ys raised)) (new raised)
    ∙ or_twice (f raised) (brought place xs raised) (brought (place + length xs) ys raised)
    ∙ ap (option_or (f raised)) (sym (brought_append place xs ys raised))

-- the kept octets with one more
abbrev pub with_one : (ℕ → Option ℕ) → ℕ → ℕ → ℕ → Option ℕ
with_one f place octet raised = if place == raised then Some octet else f raised

-- an octet that does not differ from the kept one
one_kept : (f : ℕ → Option ℕ) (place octet raised : ℕ) → is_other (f place) octet ≡ false → with_one f place octet raised ≡ kept_with f place (octet ∷ []) raised
one_kept f place octet raised same = by (place == raised) refl
  where
    first : (o : Option ℕ) → is_other o octet ≡ false → Some octet ≡ option_or o (Some octet)
    first None h = refl
    first (Some x) h = ap (λ n. Some n) (sym (eqb-true x octet (not-false (x == octet) h)))

    elsewhere : (place ≡ raised → ⊥) → brought place (octet ∷ []) raised ≡ None
    elsewhere apart = elim (cases_lt raised place) [
      | inl low ↦ brought_before place raised (octet ∷ []) low
      | inr high ↦ brought_behind place raised (octet ∷ []) (omega (arith, high, apart))
    ]

    by : (b : Bool) → (place == raised) ≡ b → with_one f place octet raised ≡ kept_with f place (octet ∷ []) raised
    by true e =
        let is : place ≡ raised = eqb-true place raised e in
        let none : raised - place ≡ 0 = omega (arith, is) in
        let here : brought place (octet ∷ []) raised ≡ Some octet = brought_at place raised (octet ∷ []) (omega (arith, is)) ∙ ap (slice_get (octet ∷ [])) none in
        ap (λ (b : Bool). if b then Some octet else f raised) e ∙ first (f raised) (ap (λ (n : ℕ). is_other (f n) octet) (sym is) ∙ same) ∙ ap (option_or (f raised)) (sym here)
    by false e =
        ap (λ (b : Bool). if b then Some octet else f raised) e
        ∙ sym (ap (option_or (f raised)) (elsewhere (eqb-false place raised e)) ∙ or_none (f raised))

-- the octets from an index on: the one at the index and the others
unrolled : (octets : List ℕ) (index : ℕ) → index < length octets → drop index octets ≡ get_or octets index 0 ∷ drop (index + 1) octets
unrolled octets index h = drop-cons octets index 0 h ∙ ap (λ n. get_or octets index 0 ∷ drop n octets) (sym (add-one index))

further : (place index : ℕ) → place + (index + 1) ≡ place + index + 1
further place index = omega arith

-- one octet more is put into a block: `right` says whether those before it were right
pub put_strays : (f g : ℕ → Option ℕ) (place index : ℕ) (octets : List ℕ) (right : Bool) → index < length octets → ((at : ℕ) → g at ≡ with_one f (place + index) (get_or octets index 0) at)
    → (not (right && not (is_other (f (place + index)) (get_or octets index 0))) || some_stray g None (place + (index + 1)) (drop (index + 1) octets)) ≡ (not right || some_stray f None (place + index) (drop index octets))
put_strays f g place index octets right h new =
    ap (λ n. not (right && not other) || some_stray g None n behind) (further place index)
    ∙ ap (λ (b : Bool). not (right && not other) || b) (stray_same f g (place + index + 1) (place + index + 1) behind same)
    ∙ by right other (some_stray f None (place + index + 1) behind)
    ∙ ap (λ xs. not right || some_stray f None (place + index) xs) (sym (unrolled octets index h))
  where
    other : Bool
    other = is_other (f (place + index)) (get_or octets index 0)

    behind : List ℕ
    behind = drop (index + 1) octets

    same : (m n : ℕ) → place + index + 1 ≤ m → m < place + index + 1 + length behind → n + (place + index + 1) ≡ m + (place + index + 1) → g n ≡ f m
    same m n low high e =
        let is : n ≡ m = omega (arith, e) in
        new n ∙ ap (λ (b : Bool). if b then Some (get_or octets index 0) else f n) (ne_eqb (place + index) n (λ x. omega (arith, x, low, is))) ∙ ap f is

    by : (r o s : Bool) → (not (r && not o) || s) ≡ (not r || ((o || false) || s))
    by true true s = refl
    by true false s = refl
    by false o s = refl

pub put_kept : (f g : ℕ → Option ℕ) (place index : ℕ) (octets : List ℕ) → index < length octets → ((at : ℕ) → g at ≡ with_one f (place + index) (get_or octets index 0) at) → is_other (f (place + index)) (get_or octets index 0) ≡ false
    → (at : ℕ) → kept_with g (place + (index + 1)) (drop (index + 1) octets) at ≡ kept_with f (place + index) (drop index octets) at
put_kept f g place index octets h new same at =
    ap (λ n. kept_with g n (drop (index + 1) octets) at) (further place index)
    ∙ kept_on f g (place + index) (get_or octets index 0 ∷ []) (drop (index + 1) octets) (λ n. new n ∙ one_kept f (place + index) (get_or octets index 0) n same) at
    ∙ ap (λ xs. kept_with f (place + index) xs at) (sym (unrolled octets index h))

-- octets that begin at `place` are put into their block: it had the octets `f` and has the octets
-- `g`, and other blocks stay
pub record IsPut (a n : Octets) (f g : ℕ → Option ℕ) (place : ℕ) (octets : List ℕ) : Type 0 where
  pub fits : place % 256 + length octets ≤ 256
  pub had : (at : ℕ) → octet_in_some (block_at a (place / 256)) at ≡ f at
  pub has : (at : ℕ) → octet_in_some (block_at n (place / 256)) at ≡ g at
  pub others : (number : ℕ) → (place / 256 ≡ number → ⊥) → block_at n number ≡ block_at a number

-- octets stray exactly if they do in their block
pub run_strays : (a n : Octets) (f g : ℕ → Option ℕ) (place : ℕ) (octets : List ℕ) → IsPut a n f g place octets → some_stray f None (place % 256) octets ≡ some_stray (kept_at a) None place octets
run_strays a n f g place octets put =
    sym (stray_same f (kept_at a) (place % 256) place octets (λ m raised low high e. here m raised low high (omega (arith, e)) (number m raised low high e)))
  where
    number : (m raised : ℕ) → place % 256 ≤ m → m < place % 256 + length octets → raised + place % 256 ≡ m + place → place / 256 ≡ raised / 256
    number m raised low high e = omega (arith, put.fits)

    here : (m raised : ℕ) → place % 256 ≤ m → m < place % 256 + length octets → raised + place % 256 ≡ m + place → place / 256 ≡ raised / 256 → kept_at a raised ≡ f m
    here m raised low high e same =
        let at : raised % 256 ≡ m = omega (arith, put.fits) in
        ap₂ (λ k i. octet_in_some (block_at a k) i) (sym same) at ∙ put.had m

-- octets that are put into their block are added
pub run_kept : (a n : Octets) (f g : ℕ → Option ℕ) (place : ℕ) (octets : List ℕ) → IsPut a n f g place octets → ((at : ℕ) → g at ≡ kept_with f (place % 256) octets at) → AreKeptWith a n place octets
run_kept a n f g place octets put new raised = by (place / 256 == raised / 256) refl
  where
    shift : place / 256 ≡ raised / 256 → raised % 256 + place ≡ raised + place % 256
    shift same = omega (arith, same)

    elsewhere : (place / 256 ≡ raised / 256 → ⊥) → brought place octets raised ≡ None
    elsewhere apart = elim (cases_lt raised place) [
      | inl low ↦ brought_before place raised octets low
      | inr high ↦ brought_behind place raised octets (omega (arith, high, apart, put.fits))
    ]

    by : (t : Bool) → (place / 256 == raised / 256) ≡ t → kept_at n raised ≡ kept_with (kept_at a) place octets raised
    by true e =
        let same : place / 256 ≡ raised / 256 = eqb-true (place / 256) (raised / 256) e in
        ap (λ k. octet_in_some (block_at n k) (raised % 256)) (sym same)
        ∙ put.has (raised % 256)
        ∙ new (raised % 256)
        ∙ ap₂ option_or (sym (put.had (raised % 256)) ∙ ap (λ k. octet_in_some (block_at a k) (raised % 256)) same) (brought_shift place (place % 256) raised (raised % 256) octets (shift same))
    by false e =
        let apart = eqb-false (place / 256) (raised / 256) e in
        ap (λ b. octet_in_some b (raised % 256)) (put.others (raised / 256) apart)
        ∙ sym (ap (option_or (kept_at a raised)) (elsewhere apart) ∙ or_none (kept_at a raised))

-- an offset before one that is not at or past the end is not either
before_end : (end : Option Offset) (place last : ℕ) → place ≤ last → is_at_end end last ≡ false → is_at_end end place ≡ false
before_end None place last h before = refl
before_end (Some end) place last h before = let low = leb-false end.raised last before in lt-leb end.raised place (omega (arith, h, low))

-- the last octet is not at or past the end: no octet is
ends_behind : (f : ℕ → Option ℕ) (end : Option Offset) (place last : ℕ) (octets : List ℕ) → place + length octets ≤ last + 1 → is_at_end end last ≡ false → some_stray f end place octets ≡ some_stray f None place octets
ends_behind f end place last [] h before = refl
ends_behind f end place last (x ∷ xs) h before =
    ap₂ (λ (a b : Bool). (is_other (f place) x || a) || b) (before_end end place last (omega (arith, h)) before) (ends_behind f end (place + 1) last xs (omega (arith, h)) before)

-- the last octet is at or past the end
ends_before : (f : ℕ → Option ℕ) (end : Option Offset) (place last : ℕ) (octets : List ℕ) → place ≤ last → last < place + length octets → is_at_end end last ≡ true → some_stray f end place octets ≡ true
ends_before f end place last [] low high past = absurd (omega (arith, low, high))
ends_before f end place last (x ∷ xs) low high past = elim (cases_eq place last) [
  | inl here ↦ ap (λ (b : Bool). b || some_stray f end (place + 1) xs) (or_right (is_other (f place) x) (is_at_end end place) (ap (is_at_end end) here ∙ past))
  | inr apart ↦ or_right (is_other (f place) x || is_at_end end place) (some_stray f end (place + 1) xs) (ends_before f end (place + 1) last xs (omega (arith, low, apart)) (omega (arith, high)) past)
]

-- the last octet decides whether one is at or past the end
pub last_decides : (f : ℕ → Option ℕ) (end : Option Offset) (place last : ℕ) (octets : List ℕ) → place ≤ last → place + length octets ≡ last + 1 → some_stray f end place octets ≡ (is_at_end end last || some_stray f None place octets)
last_decides f end place last octets low is = by (is_at_end end last) refl
  where
    by : (b : Bool) → is_at_end end last ≡ b → some_stray f end place octets ≡ (b || some_stray f None place octets)
    by true e = ends_before f end place last octets low (omega (arith, is)) e
    by false e = ends_behind f end place last octets (omega (arith, is)) e

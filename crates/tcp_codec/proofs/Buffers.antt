-- An area that is cleaned option by option: in its buffer, and into another buffer.
use Rattle.std.proofs.Common.{◌≡◌, ◌↔◌, ℕ, zero, suc, ◌+◌, ◌-◌, ◌≤◌, ◌<◌, ◌==◌, ◌||◌, not, Bool, true, false, List, [], ◌∷◌, ◌++◌, length, get_or, take, drop, replicate, refl, sym, ap, ◌∙◌, ⊎_elim, arith}
use Rattle.std.proofs.Math.Seq.{take-add}
use Rattle.std.proofs.Math.Dec.{eqb-suc-zero}
use Rattle.std.proofs.lemmas.Bool.{cases_lt}
use Rattle.std.proofs.lemmas.List.{append_assoc, append-nil, drop_all, drop-drop, drop_at, take_at, take_more, take_rest, length-drop, length-take-le, length-replicate, length-append, get_or-append_right, take-append-drop}
use Rattle.std.specs.List.{list_any}
use Rattle.std.proofs.lemmas.Bool.Decides.{nat_tests}
use Rattle.wire_base.specs.Options.{are_well_formed, cleaned}
use Rattle.wire_base.proofs.OptionWalk.{drop-kind, drop-option, size-at}
use Rattle.tcp_codec.specs.declared.write.Kept.{Kept}
use Rattle.tcp_codec.specs.working.CleaningState.{StandsFor, is_kept_after}
use Rattle.tcp_codec.proofs.Walks.{formed-none, formed-option, cleaned_from, cleaned_from-first, cleaned_from-other, cleaned_from-kept, cleaned_from-blank, cleaned-walk, option_some}

-- Cleaning of an area in its buffer, option by option.

-- the octets of an option begin with its kind
take-option : (area : List ℕ) (at size : ℕ) → at < length area → 1 ≤ size → take size (drop at area) ≡ get_or area at 0 ∷ take (size - 1) (drop (at + 1) area)
take-option area at size begins some =
    let e : size ≡ suc (size - 1) = omega arith in
    ap (take size) (drop-kind area at _ begins refl) ∙ ap (λ n. take n (get_or area at 0 ∷ drop (at + 1) area)) e

-- cleaning at the offset `at`: an option that is kept, one that is not, a no-operation, and the end
-- option
pub cleaned_from-keep : (syn : Bool) (before area : List ℕ) (at size : ℕ) → get_or area (at + 1) 0 ≡ size → 2 ≤ size → at + size ≤ length area → 2 ≤ get_or area at 0 → is_kept_after syn before (get_or area at 0) size ≡ true → cleaned_from syn before true 0 (drop at area) ≡ take size (drop at area) ++ cleaned_from syn (get_or area at 0 ∷ before) true 0 (drop (at + size) area)
cleaned_from-keep syn before area at size e two inside other keep =
    let kind = get_or area at 0 in
    let octets = drop (at + 1) area in
    let count : length octets ≡ length area - (at + 1) = length-drop (at + 1) area in
    let known : get_or octets 0 0 ≡ size = size-at area at size e in
    ap (cleaned_from syn before true 0) (drop-kind area at _ (omega arith) refl)
    ∙ cleaned_from-first syn before kind octets other (ap (is_kept_after syn before kind) known ∙ keep)
    ∙ ap (λ n. kind ∷ cleaned_from syn (kind ∷ before) true (n - 1) octets) known
    ∙ ap (λ xs. kind ∷ xs) (cleaned_from-kept syn (kind ∷ before) (size - 1) octets)
    ∙ ap (λ rest. kind ∷ take (size - 1) octets ++ cleaned_from syn (kind ∷ before) true 0 rest) (drop-option area at size (omega arith))
    ∙ ap (λ xs. xs ++ cleaned_from syn (kind ∷ before) true 0 (drop (at + size) area)) (sym (take-option area at size (omega arith) (omega arith)))

pub cleaned_from-drop : (syn : Bool) (before area : List ℕ) (at size : ℕ) → get_or area (at + 1) 0 ≡ size → 2 ≤ size → at + size ≤ length area → 2 ≤ get_or area at 0 → is_kept_after syn before (get_or area at 0) size ≡ false → cleaned_from syn before true 0 (drop at area) ≡ replicate size 1 ++ cleaned_from syn before true 0 (drop (at + size) area)
cleaned_from-drop syn before area at size e two inside other keep =
    let kind = get_or area at 0 in
    let octets = drop (at + 1) area in
    let count : length octets ≡ length area - (at + 1) = length-drop (at + 1) area in
    let known : get_or octets 0 0 ≡ size = size-at area at size e in
    let more : suc (size - 1) ≡ size = omega arith in
    ap (cleaned_from syn before true 0) (drop-kind area at _ (omega arith) refl)
    ∙ cleaned_from-other syn before kind octets other (ap (is_kept_after syn before kind) known ∙ keep)
    ∙ ap (λ n. 1 ∷ cleaned_from syn before false (n - 1) octets) known
    ∙ ap (λ xs. 1 ∷ xs) (cleaned_from-blank syn before (size - 1) octets (omega arith))
    ∙ ap (λ rest. 1 ∷ replicate (size - 1) 1 ++ cleaned_from syn before true 0 rest) (drop-option area at size (omega arith))
    ∙ ap (λ n. replicate n 1 ++ cleaned_from syn before true 0 (drop (at + size) area)) more

pub cleaned_from-none : (syn : Bool) (before area : List ℕ) (at : ℕ) → at < length area → get_or area at 0 ≡ 1 → cleaned_from syn before true 0 (drop at area) ≡ get_or area at 0 ∷ cleaned_from syn before true 0 (drop (at + 1) area)
cleaned_from-none syn before area at begins kind =
    ap (cleaned_from syn before true 0) (drop-kind area at 1 begins kind) ∙ ap (λ x. x ∷ cleaned_from syn before true 0 (drop (at + 1) area)) (sym kind)

pub cleaned_from-end : (syn : Bool) (before area : List ℕ) (at : ℕ) → (at < length area → get_or area at 0 ≡ 0) → cleaned_from syn before true 0 (drop at area) ≡ replicate (length (drop at area)) 0
cleaned_from-end syn before area at ends =
    ⊎_elim (λ begins. let e = drop-kind area at 0 begins (ends begins) in ap (cleaned_from syn before true 0) e ∙ ap (λ xs. replicate (length xs) 0) (sym e))
    (λ past. let e = drop_all at area past in ap (cleaned_from syn before true 0) e ∙ ap (λ xs. replicate (length xs) 0) (sym e))
    (cases_lt at (length area))

-- an area cleaned up to the offset `at` where an option begins; `before` are the kinds kept there
pub record SoFar (syn : Bool) (old now : List ℕ) (at : ℕ) (kept : Kept) (changed : Bool) : Type 0 where
  pub before : List ℕ
  pub stands : StandsFor kept before
  pub inside : at ≤ length now
  pub formed : are_well_formed (drop at now) ≡ true
  pub front : cleaned syn old ≡ take at now ++ cleaned_from syn before true 0 (drop at now)
  pub untouched : drop at now ≡ drop at old
  pub same : (changed ≡ false) ↔ (now ≡ old)

-- octets unchanged from an offset on are unchanged from a later offset on
passed : (at n : ℕ) (old now : List ℕ) → drop at now ≡ drop at old → drop (at + n) now ≡ drop (at + n) old
passed at n old now e = sym (drop-drop n at now) ∙ ap (drop n) e ∙ drop-drop n at old

-- nothing is cleaned yet
pub SoFar-start : (syn : Bool) (area : List ℕ) (kept : Kept) → StandsFor kept [] → are_well_formed area ≡ true → SoFar syn area area 0 kept false
SoFar-start syn area kept stands formed = record {
  before = [];
  stands = stands;
  inside = omega arith;
  formed = formed;
  front = cleaned-walk syn area;
  untouched = refl;
  same = (λ none. refl, λ same. refl);
}

pub SoFar-none : (syn : Bool) (old now : List ℕ) (at : ℕ) (kept : Kept) (changed : Bool) → SoFar syn old now at kept changed → at < length now → get_or now at 0 ≡ 1 → SoFar syn old now (at + 1) kept changed
SoFar-none syn old now at kept changed s begins kind = record {
  before = s.before;
  stands = s.stands;
  inside = omega arith;
  formed = sym (formed-none now at begins kind) ∙ s.formed;
  front = s.front ∙ ap (λ xs. take at now ++ xs) (cleaned_from-none syn s.before now at begins kind) ∙ sym (append_assoc (take at now) (get_or now at 0 ∷ []) _) ∙ ap (λ xs. xs ++ cleaned_from syn s.before true 0 (drop (at + 1) now)) (sym (take_more now at 0 begins));
  untouched = passed at 1 old now s.untouched;
  same = s.same;
}

pub SoFar-kept : (syn : Bool) (old now : List ℕ) (at size : ℕ) (kept new : Kept) (changed : Bool) (s : SoFar syn old now at kept changed) → get_or now (at + 1) 0 ≡ size → 2 ≤ size → at + size ≤ length now → 2 ≤ get_or now at 0 → is_kept_after syn s.before (get_or now at 0) size ≡ true → StandsFor new (get_or now at 0 ∷ s.before) → SoFar syn old now (at + size) new changed
SoFar-kept syn old now at size kept new changed s e two inside other keep stands = record {
  before = get_or now at 0 ∷ s.before;
  stands = stands;
  inside = inside;
  formed = sym (formed-option now at size e two inside other) ∙ s.formed;
  front = s.front ∙ ap (λ xs. take at now ++ xs) (cleaned_from-keep syn s.before now at size e two inside other keep) ∙ sym (append_assoc (take at now) (take size (drop at now)) _) ∙ ap (λ xs. xs ++ cleaned_from syn (get_or now at 0 ∷ s.before) true 0 (drop (at + size) now)) (sym (take-add at size now));
  untouched = passed at size old now s.untouched;
  same = s.same;
}

-- the first octet of an option overwritten with no-operations
blanked-first : (now new : List ℕ) (at size : ℕ) → new ≡ take at now ++ (replicate size 1 ++ drop (at + size) now) → 2 ≤ size → at + size ≤ length now → get_or new at 0 ≡ 1
blanked-first now new at size e two inside =
    let front : length (take at now) ≡ at = length-take-le at now (omega arith) in
    let none : at - at ≡ 0 = omega arith in
    let some : size ≡ suc (size - 1) = omega arith in
    ap (λ xs. get_or xs at 0) e ∙ get_or-append_right (take at now) _ at at 0 front (omega arith) ∙ ap (λ n. get_or (replicate size 1 ++ drop (at + size) now) n 0) none ∙ ap (λ n. get_or (replicate n 1 ++ drop (at + size) now) 0 0) some

same-first : (old now : List ℕ) (at : ℕ) → drop at now ≡ drop at old → get_or now at 0 ≡ get_or old at 0
same-first old now at e = from_drop now at ∙ ap (λ xs. get_or xs 0 0) e ∙ sym (from_drop old at)
  where
    from_drop : (xs : List ℕ) (at : ℕ) → get_or xs at 0 ≡ get_or (drop at xs) 0 0
    from_drop xs zero = refl
    from_drop [] (suc at) = refl
    from_drop (x ∷ xs) (suc at) = from_drop xs at

pub SoFar-blanked : (syn : Bool) (old now new : List ℕ) (at size : ℕ) (kept noted : Kept) (changed : Bool) (s : SoFar syn old now at kept changed) → get_or now (at + 1) 0 ≡ size → 2 ≤ size → at + size ≤ length now → 2 ≤ get_or now at 0 → is_kept_after syn s.before (get_or now at 0) size ≡ false → StandsFor noted s.before → new ≡ take at now ++ (replicate size 1 ++ drop (at + size) now) → SoFar syn old new (at + size) noted true
SoFar-blanked syn old now new at size kept noted changed s e two inside other keep stands written =
    let taken : length (take at now) ≡ at = length-take-le at now (omega arith) in
    let blank : List ℕ = replicate size 1 in
    let ones : length blank ≡ size = length-replicate size 1 in
    let front : length (take at now ++ blank) ≡ at + size = length-append (take at now) (replicate size 1) ∙ (λ i. taken i + ones i) in
    let split : new ≡ (take at now ++ replicate size 1) ++ drop (at + size) now = written ∙ sym (append_assoc (take at now) (replicate size 1) (drop (at + size) now)) in
    let done : take (at + size) new ≡ take at now ++ replicate size 1 = ap (take (at + size)) split ∙ take_at (take at now ++ replicate size 1) (drop (at + size) now) (at + size) front in
    let left : drop (at + size) new ≡ drop (at + size) now = ap (drop (at + size)) split ∙ drop_at (take at now ++ replicate size 1) (drop (at + size) now) (at + size) front in
    let count : length new ≡ at + size + length (drop (at + size) now) = ap length split ∙ length-append (take at now ++ replicate size 1) (drop (at + size) now) ∙ ap (λ n. n + length (drop (at + size) now)) front in
    record {
      before = s.before;
      stands = stands;
      inside = omega arith;
      formed = ap are_well_formed left ∙ sym (formed-option now at size e two inside other) ∙ s.formed;
      front = s.front ∙ ap (λ xs. take at now ++ xs) (cleaned_from-drop syn s.before now at size e two inside other keep) ∙ sym (append_assoc (take at now) (replicate size 1) _) ∙ (λ i. sym done i ++ cleaned_from syn s.before true 0 (sym left i));
      untouched = left ∙ passed at size old now s.untouched;
      same = (λ no. cc, λ same. let one = blanked-first now new at size written two inside in let first = same-first old now at s.untouched in let there = ap (λ xs. get_or xs at 0) same in absurd (omega (arith, one, first, there)));
    }

-- if no octet differs from 0, all are 0
zeros : (xs : List ℕ) → list_any (λ octet. not (octet == 0)) xs ≡ false → xs ≡ replicate (length xs) 0
zeros [] none = refl
zeros (zero ∷ xs) none = ap (λ ys. 0 ∷ ys) (zeros xs none)
zeros (suc x ∷ xs) none =
    let other = rw (eqb-suc-zero x) at none in
    cc

no_others : (n : ℕ) → list_any (λ octet. not (octet == 0)) (replicate n 0) ≡ false
no_others zero = refl
no_others (suc n) = no_others n

-- the octets written over an option, and those after them
pub blanked : (now ones : List ℕ) (at size : ℕ) → at + size ≤ length now → ones ≡ replicate (length (take (at + size - at) (drop at now))) 1 → take at now ++ (ones ++ drop (at + size - at) (drop at now)) ≡ take at now ++ (replicate size 1 ++ drop (at + size) now)
blanked now ones at size inside e =
    let k : at + size - at ≡ size = omega arith in
    let left : length (drop at now) ≡ length now - at = length-drop at now in
    let count : length (take (at + size - at) (drop at now)) ≡ size = length-take-le (at + size - at) (drop at now) (omega arith) ∙ k in
    let behind : drop (at + size - at) (drop at now) ≡ drop (at + size) now = ap (λ n. drop n (drop at now)) k ∙ drop-drop size at now in
    let all : ones ≡ replicate size 1 = e ∙ ap (λ n. replicate n 1) count in
    λ i. take at now ++ (all i ++ behind i)

-- octets written from an offset on, and none after them
pub filled : (now zeros : List ℕ) (at : ℕ) → zeros ≡ replicate (length (take (length now - at) (drop at now))) 0 → take at now ++ (zeros ++ drop (length now - at) (drop at now)) ≡ take at now ++ replicate (length (drop at now)) 0
filled now zeros at e =
    let past : drop (length now - at) (drop at now) ≡ [] = drop-drop (length now - at) at now ∙ drop_all _ now (omega arith) in
    let all : zeros ≡ replicate (length (drop at now)) 0 = e ∙ ap (λ xs. replicate (length xs) 0) (take_rest now at) in
    (λ i. take at now ++ (all i ++ past i)) ∙ ap (λ xs. take at now ++ xs) (append-nil (replicate (length (drop at now)) 0))

-- when all octets from the end option on are set to 0, the area is cleaned
pub SoFar-end : (syn : Bool) (old now new : List ℕ) (at : ℕ) (kept : Kept) (changed : Bool) → SoFar syn old now at kept changed → (at < length now → get_or now at 0 ≡ 0) → new ≡ take at now ++ replicate (length (drop at now)) 0 → new ≡ cleaned syn old
SoFar-end syn old now new at kept changed s ends e =
    e ∙ ap (λ xs. take at now ++ xs) (sym (cleaned_from-end syn s.before now at ends)) ∙ sym s.front

-- setting the octets from an offset on to 0 leaves as many octets of 0 there; it changes nothing
-- exactly if they were 0
cleared : (now new : List ℕ) (at : ℕ) → at ≤ length now → new ≡ take at now ++ replicate (length (drop at now)) 0 → drop at new ≡ replicate (length (drop at now)) 0
cleared now new at inside e = ap (drop at) e ∙ drop_at (take at now) _ at (length-take-le at now inside)

pub SoFar-changed : (syn : Bool) (old now new : List ℕ) (at : ℕ) (kept : Kept) (changed some : Bool) → SoFar syn old now at kept changed → new ≡ take at now ++ replicate (length (drop at now)) 0 → some ≡ list_any (λ octet. not (octet == 0)) (take (length now - at) (drop at now)) → ((changed || some) ≡ false) ↔ (new ≡ old)
SoFar-changed syn old now new at kept changed some s e g =
    let f = g ∙ ap (list_any (λ octet. not (octet == 0))) (take_rest now at) in (
      λ none. e ∙ ap (λ xs. take at now ++ xs) (sym (zeros (drop at now) (sym f ∙ or_right changed some none))) ∙ take-append-drop at now ∙ s.same.0 (or_left changed some none),
      λ same.
          let left : drop at now ≡ replicate (length (drop at now)) 0 = s.untouched ∙ sym (ap (drop at) same) ∙ cleared now new at s.inside e in
          let before : now ≡ old = sym (take-append-drop at now) ∙ ap (λ xs. take at now ++ xs) left ∙ sym e ∙ same in
          let kept = s.same.1 before in
          let none = f ∙ ap (list_any (λ octet. not (octet == 0))) left ∙ no_others (length (drop at now)) in
          λ i. kept i || none i,
    )
  where
    or_left : (a b : Bool) → (a || b) ≡ false → a ≡ false
    or_left true b e = e
    or_left false b e = refl

    or_right : (a b : Bool) → (a || b) ≡ false → b ≡ false
    or_right true b e = cc
    or_right false b e = e

-- an area is not what it is cleaned to where an option is not kept
pub SoFar-other : (syn : Bool) (area : List ℕ) (at size : ℕ) (kept : Kept) (s : SoFar syn area area at kept false) → get_or area (at + 1) 0 ≡ size → 2 ≤ size → at + size ≤ length area → 2 ≤ get_or area at 0 → is_kept_after syn s.before (get_or area at 0) size ≡ false → cleaned syn area ≡ area → ⊥
SoFar-other syn area at size kept s e two inside other keep same =
    let blank : List ℕ = replicate size 1 in
    let front : length (take at area) ≡ at = length-take-le at area (omega arith) in
    let none : at - at ≡ 0 = omega arith in
    let some : size ≡ suc (size - 1) = omega arith in
    let new = s.front ∙ ap (λ xs. take at area ++ xs) (cleaned_from-drop syn s.before area at size e two inside other keep) in
    let one = ap (λ xs. get_or xs at 0) new ∙ get_or-append_right (take at area) _ at at 0 front (omega arith) ∙ ap (λ n. get_or (replicate size 1 ++ cleaned_from syn s.before true 0 (drop (at + size) area)) n 0) none ∙ ap (λ n. get_or (replicate n 1 ++ cleaned_from syn s.before true 0 (drop (at + size) area)) 0 0) some in
    let there = ap (λ xs. get_or xs at 0) same in
    absurd (omega (arith, one, there))

-- an area whose options are all kept is what it is cleaned to exactly if all octets from its end
-- option on are 0
pub SoFar-whole : (syn : Bool) (area : List ℕ) (at : ℕ) (kept : Kept) (some : Bool) → SoFar syn area area at kept false → (at < length area → get_or area at 0 ≡ 0) → some ≡ list_any (λ octet. not (octet == 0)) (take (length area - at) (drop at area)) → (some ≡ false) ↔ (cleaned syn area ≡ area)
SoFar-whole syn area at kept some s ends e =
    let new = take at area ++ replicate (length (drop at area)) 0 in
    let is = SoFar-end syn area area new at kept false s ends refl in
    let test = SoFar-changed syn area area new at kept false some s refl e in
    (λ none. sym is ∙ test.0 none, λ same. test.1 (is ∙ same))

-- Cleaning of an area into another buffer, which has no-operations where nothing was written yet.

-- `target` has the cleaned octets of `area` up to the offset `at` where an option begins, and
-- no-operations from there on; `before` are the kinds kept
pub record CopiedTo (syn : Bool) (area target : List ℕ) (at : ℕ) (kept : Kept) : Type 0 where
  pub before : List ℕ
  pub stands : StandsFor kept before
  pub inside : at ≤ length area
  pub size : length target ≡ length area
  pub formed : are_well_formed (drop at area) ≡ true
  pub front : cleaned syn area ≡ take at target ++ cleaned_from syn before true 0 (drop at area)
  pub left : (n : ℕ) → at + n ≡ length area → drop at target ≡ replicate n 1

pub CopiedTo-start : (syn : Bool) (area target : List ℕ) (kept : Kept) → StandsFor kept [] → are_well_formed area ≡ true → target ≡ replicate (length area) 1 → CopiedTo syn area target 0 kept
CopiedTo-start syn area target kept stands formed ones = record {
  before = [];
  stands = stands;
  inside = omega arith;
  size = ap length ones ∙ length-replicate (length area) 1;
  formed = formed;
  front = cleaned-walk syn area;
  left = λ n all. ones ∙ ap (λ m. replicate m 1) (omega (arith, all));
}

abbrev ones : ℕ → List ℕ
ones n = replicate n 1

drop-ones : (n rest : ℕ) → drop n (ones (n + rest)) ≡ ones rest
drop-ones zero rest = let e : zero + rest ≡ rest = omega arith in ap ones e
drop-ones (suc n) rest = let e : suc n + rest ≡ suc (n + rest) = omega arith in ap (λ m. drop (suc n) (ones m)) e ∙ drop-ones n rest

take-ones : (n rest : ℕ) → take n (ones (n + rest)) ≡ ones n
take-ones zero rest = refl
take-ones (suc n) rest = let e : suc n + rest ≡ suc (n + rest) = omega arith in ap (λ m. take (suc n) (ones m)) e ∙ ap (λ xs. 1 ∷ xs) (take-ones n rest)

-- octets that are cleaned to no-operations
pub CopiedTo-blank : (syn : Bool) (area target : List ℕ) (at size : ℕ) (kept new : Kept) (s : CopiedTo syn area target at kept) → at + size ≤ length area → StandsFor new s.before → are_well_formed (drop (at + size) area) ≡ true
    → cleaned_from syn s.before true 0 (drop at area) ≡ replicate size 1 ++ cleaned_from syn s.before true 0 (drop (at + size) area) → CopiedTo syn area target (at + size) new
CopiedTo-blank syn area target at size kept new s inside stands formed blank =
    let rest = length area - (at + size) in
    let blanks : take size (drop at target) ≡ replicate size 1 = ap (take size) (s.left (size + rest) (omega arith)) ∙ take-ones size rest in
    record {
      before = s.before;
      stands = stands;
      inside = inside;
      size = s.size;
      formed = formed;
      front = s.front ∙ ap (λ xs. take at target ++ xs) blank ∙ sym (append_assoc (take at target) (replicate size 1) _) ∙ ap (λ xs. (take at target ++ xs) ++ cleaned_from syn s.before true 0 (drop (at + size) area)) (sym blanks) ∙ ap (λ xs. xs ++ cleaned_from syn s.before true 0 (drop (at + size) area)) (sym (take-add at size target));
      left = λ n all. sym (drop-drop size at target) ∙ ap (drop size) (s.left (size + n) (omega (arith, all))) ∙ drop-ones size n;
    }

-- an option that is copied
pub CopiedTo-kept : (syn : Bool) (area target new : List ℕ) (at size : ℕ) (kept noted : Kept) (s : CopiedTo syn area target at kept) → get_or area (at + 1) 0 ≡ size → 2 ≤ size → at + size ≤ length area → 2 ≤ get_or area at 0 → is_kept_after syn s.before (get_or area at 0) size ≡ true
    → StandsFor noted (get_or area at 0 ∷ s.before) → are_well_formed (drop (at + size) area) ≡ true → new ≡ take at target ++ (take size (drop at area) ++ drop (at + size) target) → CopiedTo syn area new (at + size) noted
CopiedTo-kept syn area target new at size kept noted s e two inside other keep stands formed written =
    let octets = take size (drop at area) in
    let taken : length (take at target) ≡ at = let count = s.size in length-take-le at target (omega arith) in
    let rest : length (drop at area) ≡ length area - at = length-drop at area in
    let long : length octets ≡ size = length-take-le size (drop at area) (omega arith) in
    let front : length (take at target ++ octets) ≡ at + size = length-append (take at target) octets ∙ (λ i. taken i + long i) in
    let split : new ≡ (take at target ++ octets) ++ drop (at + size) target = written ∙ sym (append_assoc (take at target) octets (drop (at + size) target)) in
    let done : take (at + size) new ≡ take at target ++ octets = ap (take (at + size)) split ∙ take_at (take at target ++ octets) (drop (at + size) target) (at + size) front in
    let left : drop (at + size) new ≡ drop (at + size) target = ap (drop (at + size)) split ∙ drop_at (take at target ++ octets) (drop (at + size) target) (at + size) front in
    let count : length (drop (at + size) target) ≡ length target - (at + size) = length-drop (at + size) target in
    let known : length target ≡ length area = s.size in
    let all : length new ≡ at + size + length (drop (at + size) target) = ap length split ∙ length-append (take at target ++ octets) (drop (at + size) target) ∙ ap (λ n. n + length (drop (at + size) target)) front in
    record {
      before = get_or area at 0 ∷ s.before;
      stands = stands;
      inside = inside;
      size = omega arith;
      formed = formed;
      front = s.front ∙ ap (λ xs. take at target ++ xs) (cleaned_from-keep syn s.before area at size e two inside other keep) ∙ sym (append_assoc (take at target) octets _) ∙ ap (λ xs. xs ++ cleaned_from syn (get_or area at 0 ∷ s.before) true 0 (drop (at + size) area)) (sym done);
      left = λ n all. left ∙ sym (drop-drop size at target) ∙ ap (drop size) (s.left (size + n) (omega (arith, all))) ∙ drop-ones size n;
    }

-- at the end option 0 is written from there on
pub CopiedTo-end : (syn : Bool) (area target new : List ℕ) (at : ℕ) (kept : Kept) → CopiedTo syn area target at kept → (at < length area → get_or area at 0 ≡ 0) → new ≡ take at target ++ replicate (length (drop at target)) 0 → new ≡ cleaned syn area
CopiedTo-end syn area target new at kept s ends e =
    let count : length (drop at target) ≡ length (drop at area) = length-drop at target ∙ ap (λ n. n - at) s.size ∙ sym (length-drop at area) in
    e ∙ ap (λ n. take at target ++ replicate n 0) count ∙ ap (λ xs. take at target ++ xs) (sym (cleaned_from-end syn s.before area at ends)) ∙ sym s.front

-- without an end option there is at most a no-operation left
pub CopiedTo-whole : (syn : Bool) (area target : List ℕ) (at : ℕ) (kept : Kept) → CopiedTo syn area target at kept → length area ≤ at + 1 → (at < length area → get_or area at 0 ≡ 1) → target ≡ cleaned syn area
CopiedTo-whole syn area target at kept s last none =
    ⊎_elim (λ inside.
    let past : drop (at + 1) area ≡ [] = drop_all (at + 1) area last in
    let rest : drop at target ≡ 1 ∷ [] = s.left 1 (omega arith) in
    let blank = cleaned_from-none syn s.before area at inside (none inside) ∙ (λ i. none inside i ∷ cleaned_from syn s.before true 0 (past i)) in
    sym (take-append-drop at target) ∙ ap (λ xs. take at target ++ xs) (rest ∙ sym blank) ∙ sym s.front)
    (λ past.
    let here = s.inside in
    let rest : drop at target ≡ [] = s.left 0 (omega arith) in
    sym (take-append-drop at target) ∙ ap (λ xs. take at target ++ xs) (rest ∙ ap (cleaned_from syn s.before true 0) (sym (drop_all at area past))) ∙ sym s.front)
    (cases_lt at (length area))

-- a no-operation, or an option that is not kept
pub CopiedTo-other : (syn : Bool) (area target : List ℕ) (at size : ℕ) (kept new : Kept) (s : CopiedTo syn area target at kept) → at + 2 ≤ length area → 1 ≤ get_or area at 0 → (get_or area at 0 ≡ 1 → size ≡ 1) → (2 ≤ get_or area at 0 → size ≡ get_or area (at + 1) 0) → at + size ≤ length area
    → is_kept_after syn s.before (get_or area at 0) size ≡ false → StandsFor new s.before → are_well_formed (drop (at + size) area) ≡ true → CopiedTo syn area target (at + size) new
CopiedTo-other syn area target at size kept new s begins some none option inside blank stands formed =
    CopiedTo-blank syn area target at size kept new s inside stands formed (⊎_elim (λ bare.
    let e : get_or area at 0 ≡ 1 = omega arith in
    cleaned_from-none syn s.before area at (omega arith) e ∙ ap (λ n. n ∷ cleaned_from syn s.before true 0 (drop (at + 1) area)) e ∙ ap (λ n. replicate n 1 ++ cleaned_from syn s.before true 0 (drop (at + n) area)) (sym (none e)))
    (λ other.
    let two = option_some area at s.formed (omega arith) other in
    let e = option other in
    cleaned_from-drop syn s.before area at size (sym e) (omega arith) inside other blank)
    (cases_lt (get_or area at 0) 2))

-- only an option is kept
pub kept-kind : (syn : Bool) (before : List ℕ) (kind size : ℕ) → is_kept_after syn before kind size ≡ true → 2 ≤ kind
kept-kind syn before kind size keep = grind (arith, nat_tests)

-- the octets of an option copied over those at its offset
pub copied : (area target octets : List ℕ) (at size : ℕ) → octets ≡ take (at + size - at) (drop at area) → take at target ++ (octets ++ drop (at + size - at) (drop at target)) ≡ take at target ++ (take size (drop at area) ++ drop (at + size) target)
copied area target octets at size e =
    let n : at + size - at ≡ size = omega arith in
    let front : octets ≡ take size (drop at area) = e ∙ ap (λ m. take m (drop at area)) n in
    let behind : drop (at + size - at) (drop at target) ≡ drop (at + size) target = ap (λ m. drop m (drop at target)) n ∙ drop-drop size at target in
    λ i. take at target ++ (front i ++ behind i)

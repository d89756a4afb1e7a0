-- The lines of octets that are read ahead.
use Rattle.std.proofs.Common.{◌≡◌, ◌⊎◌, ℕ, zero, suc, ◌+◌, ◌-◌, ◌<◌, ◌≤◌, nat_eq, cond, ltb, min, not, unwrap_or, Bool, true, false, List, [], ◌∷◌, ◌++◌, length, take, drop, slice_range, Option, Some, None, IfSome, refl, sym, ap, subst, ◌∙◌, inl, inr, arith, append-nil, append_assoc}
use Rattle.std.specs.List.{copy_within, position_or_len}
use Rattle.std.proofs.lemmas.Bool.Decides.{nat_tests}
use Rattle.std.proofs.lemmas.Bool.{ltb-false, ltb-true}
use Rattle.std.specs.Io.KnownBytes.{Consumes, IsAtEnd, Keeps, prepend_known}
use Rattle.std.proofs.lemmas.List.{drop-drop, length-append, length-drop, length-take, length-take-le, take-append-le, take-take, take_at, take_min}
use Rattle.std.proofs.Math.Seq.{take-add, take-append-add}
use Rattle.edge_io.specs.KnownOctets.{TakesFewer}
use Rattle.run_view.specs.working.LinesAhead.{GoesOn, TookLine}
use Rattle.run_view.specs.working.SourceContents.{IsSomeOctet}
use Rattle.run_view.specs.working.FrontLine.{front_line}

-- the octet is a line feed
abbrev pub is_feed : ℕ → Bool
is_feed octet = nat_eq octet 10

-- the front line is among the first octets that it may have
front_cut : (room : ℕ) (octets : List ℕ) → front_line room octets ≡ front_line room (take room octets)
front_cut zero octets = refl
front_cut (suc room) [] = refl
front_cut (suc room) (octet ∷ octets) = ap (λ l. cond (is_feed octet) (octet ∷ []) (octet ∷ l)) (front_cut room octets)

-- it ends with the first line feed
front_fed : (octets : List ℕ) (room : ℕ) → length octets ≤ room → position_or_len is_feed octets < length octets
    → front_line room octets ≡ take (position_or_len is_feed octets + 1) octets
front_fed [] room short feed = absurd (omega arith)
front_fed (octet ∷ octets) zero short feed = absurd (omega arith)
front_fed (octet ∷ octets) (suc room) short feed = by (is_feed octet) feed (λ less. front_fed octets room (omega arith) less) where
  by : (b : Bool) → cond (not b) (1 + position_or_len is_feed octets) 0 < length (octet ∷ octets)
      → (position_or_len is_feed octets < length octets → front_line room octets ≡ take (position_or_len is_feed octets + 1) octets)
      → cond b (octet ∷ []) (octet ∷ front_line room octets) ≡ take (cond (not b) (1 + position_or_len is_feed octets) 0 + 1) (octet ∷ octets)
  by true feed rest = refl
  by false feed rest =
      let on : 1 + position_or_len is_feed octets + 1 ≡ suc (position_or_len is_feed octets + 1) = omega arith in
      ap (λ l. octet ∷ l) (rest (omega arith)) ∙ ap (λ n. take n (octet ∷ octets)) (sym on)

-- it is all of them where there is none
front_whole : (octets : List ℕ) (room : ℕ) → length octets ≤ room → length octets ≤ position_or_len is_feed octets → front_line room octets ≡ octets
front_whole [] zero short feed = refl
front_whole [] (suc room) short feed = refl
front_whole (octet ∷ octets) zero short feed = absurd (omega arith)
front_whole (octet ∷ octets) (suc room) short feed = by (is_feed octet) feed (λ none. front_whole octets room (omega arith) none) where
  by : (b : Bool) → length (octet ∷ octets) ≤ cond (not b) (1 + position_or_len is_feed octets) 0
      → (length octets ≤ position_or_len is_feed octets → front_line room octets ≡ octets)
      → cond b (octet ∷ []) (octet ∷ front_line room octets) ≡ octet ∷ octets
  by true feed rest = absurd (omega arith)
  by false feed rest = ap (λ l. octet ∷ l) (rest (omega arith))

-- the same of the first octets that it may have
fed : (octets front : List ℕ) (room place : ℕ) → room ≡ min 400 (length octets) → front ≡ take room octets → place ≡ position_or_len is_feed front
    → place < length front → take (place + 1) octets ≡ front_line 400 octets
fed octets front room place is front_is at within =
    let all : front ≡ take 400 octets = front_is ∙ ap (λ n. take n octets) is ∙ take_min 400 octets in
    let long : length front ≡ room = ap length front_is ∙ length-take-le room octets (omega arith) in
    let less : length front ≤ 400 = omega arith in
    let some : position_or_len is_feed front < length front = omega arith in
    let parts : take (place + 1) octets ≡ take (place + 1) front =
    sym (ap (take (place + 1)) front_is ∙ take-take (place + 1) room octets (omega arith)) in
    parts ∙ ap (λ n. take (n + 1) front) at ∙ sym (front_fed front 400 less some) ∙ ap (front_line 400) all ∙ sym (front_cut 400 octets)

unfed : (octets front : List ℕ) (room : ℕ) → room ≡ min 400 (length octets) → front ≡ take room octets → length front ≤ position_or_len is_feed front
    → take room octets ≡ front_line 400 octets
unfed octets front room is front_is none =
    let all : front ≡ take 400 octets = front_is ∙ ap (λ n. take n octets) is ∙ take_min 400 octets in
    let long : length front ≡ room = ap length front_is ∙ length-take-le room octets (omega arith) in
    sym front_is ∙ sym (front_whole front 400 (omega arith) none) ∙ ap (front_line 400) all ∙ sym (front_cut 400 octets)

pub line_cut : (octets front : List ℕ) (room place count : ℕ) → room ≡ min 400 (length octets) → front ≡ take room octets
    → place ≡ position_or_len is_feed front → count ≡ min (place + 1) room → take count octets ≡ front_line 400 octets
line_cut octets front room place count is front_is at counted = by (ltb place room) refl where
  long : length front ≡ room
  long = ap length front_is ∙ length-take-le room octets (omega (arith, is))

  by : (b : Bool) → ltb place room ≡ b → take count octets ≡ front_line 400 octets
  by true less =
      let some : place < length front = omega (arith, ltb-true place room less, long) in
      let count_is : count ≡ place + 1 = omega (arith, counted, ltb-true place room less) in
      ap (λ n. take n octets) count_is ∙ fed octets front room place is front_is at some
  by false less =
      let none : length front ≤ position_or_len is_feed front = omega (arith, ltb-false place room less, long, at) in
      let count_is : count ≡ room = omega (arith, counted, ltb-false place room less) in
      ap (λ n. take n octets) count_is ∙ unfed octets front room is front_is none

-- the place of the first line feed, or the number of octets
pub place_or : (place len : ℕ) → place ≤ len → unwrap_or (cond (ltb place len) (Some place) None) len ≡ place
place_or place len within = by (ltb place len) refl where
  by : (b : Bool) → ltb place len ≡ b → unwrap_or (cond b (Some place) None) len ≡ place
  by true less = refl
  by false less = omega (arith, ltb-false place len less)

-- where enough octets are present, the front line is among them
front_enough : (room : ℕ) (octets more : List ℕ) → room ≤ length octets → front_line room (octets ++ more) ≡ front_line room octets
front_enough zero octets more enough = refl
front_enough (suc room) [] more enough = absurd (omega arith)
front_enough (suc room) (octet ∷ octets) more enough =
    ap (λ l. cond (is_feed octet) (octet ∷ []) (octet ∷ l)) (front_enough room octets more (omega arith))

-- the front line of octets of which some were read ahead, and all or enough
pub front_ahead : (ahead line : List ℕ) (left : Option (List ℕ)) → line ≡ front_line 400 ahead → (400 ≤ length ahead) ⊎ IsAtEnd left
    → IfSome (prepend_known ahead left) (λ octets. line ≡ front_line 400 octets)
front_ahead ahead line None is enough = tt
front_ahead ahead line (Some left) is (inl enough) = is ∙ sym (front_enough 400 ahead left enough)
front_ahead ahead line (Some left) is (inr end) = is ∙ ap (front_line 400) (sym (append-nil ahead) ∙ ap (λ l. ahead ++ l) (sym end))

enough_ahead : (start filled ahead : ℕ) (left : Option (List ℕ)) → filled - start ≤ ahead → (start + 400 ≤ filled) ⊎ IsAtEnd left
    → (400 ≤ ahead) ⊎ IsAtEnd left
enough_ahead start filled ahead left long (inl many) = inl (omega arith)
enough_ahead start filled ahead left long (inr end) = inr end

-- the first octets of a range, and those after them
range_parts : (xs : List ℕ) (start end count : ℕ) → start + count ≤ end
    → slice_range xs start end ≡ take count (drop start xs) ++ slice_range xs (start + count) end
range_parts xs start end count fits =
    let e : end - start ≡ count + (end - (start + count)) = omega arith in
    ap (λ k. take k (drop start xs)) e
    ∙ take-add count (end - (start + count)) (drop start xs)
    ∙ ap (λ l. take count (drop start xs) ++ take (end - (start + count)) l) (drop-drop count start xs)

-- a line is taken of the octets that were read ahead
pub taken_ahead : (buffer : List ℕ) (start filled count : ℕ) (left : Option (List ℕ)) → start + count ≤ filled
    → Consumes (prepend_known (slice_range buffer start filled) left) (prepend_known (slice_range buffer (start + count) filled) left) (slice_range buffer start (start + count))
taken_ahead buffer start filled count None fits = tt
taken_ahead buffer start filled count (Some left) fits =
    let few : count ≡ start + count - start = omega arith in
    ap (λ l. l ++ left) (range_parts buffer start filled count fits ∙ ap (λ n. take n (drop start buffer) ++ slice_range buffer (start + count) filled) few)
    ∙ append_assoc (slice_range buffer start (start + count)) (slice_range buffer (start + count) filled) left

-- octets that were kept, and then taken
pub kept_taken : (a b c : Option (List ℕ)) (line : List ℕ) → Keeps a b → Consumes b c line → Consumes a c line
kept_taken None b c line kept taken = tt
kept_taken (Some x) None c line kept taken = absurd kept
kept_taken (Some x) (Some y) None line kept taken = absurd taken
kept_taken (Some x) (Some y) (Some z) line kept taken = sym kept ∙ taken

pub kept_front : (a b : Option (List ℕ)) (line : List ℕ) → Keeps a b → IfSome b (λ octets. line ≡ front_line 400 octets)
    → IfSome a (λ octets. line ≡ front_line 400 octets)
kept_front None b line kept is = tt
kept_front (Some x) None line kept is = absurd kept
kept_front (Some x) (Some y) line kept is = is ∙ ap (front_line 400) kept

-- whether octets are left
some_left : (a b : Option (List ℕ)) → Keeps a b → IfSome b IsSomeOctet → IfSome a IsSomeOctet
some_left None b kept some = tt
some_left (Some x) None kept some = absurd kept
some_left (Some x) (Some y) kept some = record { octet = some.octet; rest = some.rest; is = sym kept ∙ some.is }

none_left : (a b : Option (List ℕ)) → Keeps a b → IsAtEnd b → IsAtEnd a
none_left None b kept none = tt
none_left (Some x) None kept none = absurd kept
none_left (Some x) (Some y) kept none = sym kept ∙ none

some_ahead : (ahead : List ℕ) (left : Option (List ℕ)) → 0 < length ahead → IfSome (prepend_known ahead left) IsSomeOctet
some_ahead ahead None some = tt
some_ahead [] (Some left) some = absurd (omega arith)
some_ahead (octet ∷ ahead) (Some left) some = record { octet = octet; rest = ahead ++ left; is = refl }

none_ahead : (ahead : List ℕ) (left : Option (List ℕ)) → ahead ≡ [] → IsAtEnd left → IsAtEnd (prepend_known ahead left)
none_ahead ahead None none end = tt
none_ahead ahead (Some left) none end = (λ i. none i ++ end i)

pub goes_by : (ahead : List ℕ) (start filled : ℕ) (before left : Option (List ℕ)) → length ahead ≡ filled - start
    → Keeps before (prepend_known ahead left) → (start + 400 ≤ filled) ⊎ IsAtEnd left → GoesOn (not (nat_eq (length ahead) 0)) before
goes_by [] start filled before left long kept (inl many) = absurd (omega arith)
goes_by [] start filled before left long kept (inr end) = none_left before _ kept (none_ahead [] left refl end)
goes_by (octet ∷ ahead) start filled before left long kept enough =
    let B : Bool → Type 0 = λ b. GoesOn (not b) before in
    let some : nat_eq (length (octet ∷ ahead)) 0 ≡ false = grind (arith, nat_tests) in
    subst B (sym some) (some_left before _ kept (some_ahead (octet ∷ ahead) left (omega arith)))

-- octets that were read after those that were read ahead, which moved to the front
front_grows : (old got post : List ℕ) (count more : ℕ) → count ≤ length old → more ≤ length got
    → take (count + more) (take count old ++ (got ++ post)) ≡ take count old ++ take more got
front_grows old got post count more a b =
    let e : length (take count old) ≡ count = length-take-le count old a in
    ap (λ k. take (k + more) (take count old ++ (got ++ post))) (sym e) ∙ take-append-add (take count old) (got ++ post) more
    ∙ ap (λ l. take count old ++ l) (take-append-le more got post b)

pub refilled : (before after : Option (List ℕ)) (ahead old got post : List ℕ) (count more : ℕ) → ahead ≡ take count old → count ≤ length old
    → more ≤ length got → Consumes before after (take more got)
    → Keeps (prepend_known ahead before) (prepend_known (slice_range (take count old ++ (got ++ post)) 0 (count + more)) after)
refilled None after ahead old got post count more same a b taken = tt
refilled (Some x) None ahead old got post count more same a b taken = absurd taken
refilled (Some x) (Some y) ahead old got post count more same a b taken =
    let none : count + more - 0 ≡ count + more = omega arith in
    ap (λ n. take n (take count old ++ (got ++ post)) ++ y) none
    ∙ ap (λ l. l ++ y) (front_grows old got post count more a b)
    ∙ append_assoc (take count old) (take more got) y
    ∙ ap (λ l. take count old ++ l) (sym taken)
    ∙ ap (λ l. l ++ x) (sym same)

-- what moved to the front
pub moved_front : (buffer moved : List ℕ) (start filled : ℕ) → start ≤ filled → filled ≤ length buffer → moved ≡ copy_within buffer start filled 0
    → slice_range buffer start filled ≡ take (filled - start) moved
moved_front buffer moved start filled ordered within is =
    let long : length (take (filled - start) (drop start buffer)) ≡ filled - start =
    length-take-le (filled - start) (drop start buffer) (omega (arith, length-drop start buffer)) in
    sym (ap (take (filled - start)) is ∙ take_at (take (filled - start) (drop start buffer)) _ (filled - start) long)

-- the front line was taken of the octets that were read ahead
pub line_taken : (buffer : List ℕ) (start filled count : ℕ) (before left : Option (List ℕ)) → start ≤ filled
    → length (slice_range buffer start filled) ≡ filled - start → Keeps before (prepend_known (slice_range buffer start filled) left)
    → (start + 400 ≤ filled) ⊎ IsAtEnd left → take count (slice_range buffer start filled) ≡ front_line 400 (slice_range buffer start filled)
    → count ≤ length (slice_range buffer start filled)
    → TookLine before (prepend_known (slice_range buffer (start + count) filled) left) (slice_range buffer start (start + count))
line_taken buffer start filled count before left ordered long kept enough is fits =
    let ahead = slice_range buffer start filled in
    let few : start + count - start ≡ count = omega arith in
    let line : slice_range buffer start (start + count) ≡ take count ahead =
    ap (λ n. take n (drop start buffer)) few ∙ sym (take-take count (filled - start) (drop start buffer) (omega (arith, long, fits))) in
    record {
      taken = kept_taken before _ _ _ kept (taken_ahead buffer start filled count left (omega (arith, long, fits)));
      is =
          kept_front before _ _ kept
          (front_ahead ahead _ left (line ∙ is) (enough_ahead start filled (length ahead) left (omega (arith, long)) enough));
    }

-- octets that were read ahead, and those that a read which failed took
pub took_few : (buffer : List ℕ) (start filled : ℕ) (before after : Option (List ℕ)) (room : ℕ) → (filled - start) + room ≤ 4096
    → TakesFewer before after room → TakesFewer (prepend_known (slice_range buffer start filled) before) after 4096
took_few buffer start filled None after room fits took = let few = took.2 in ([], tt, omega arith)
took_few buffer start filled (Some x) None room fits took = absurd took.1
took_few buffer start filled (Some x) (Some y) room fits took =
    let ahead = slice_range buffer start filled in
    let short : length ahead ≤ filled - start = omega (arith, length-take (filled - start) (drop start buffer)) in (
      ahead ++ took.0,
      ap (λ l. ahead ++ l) took.1 ∙ sym (append_assoc ahead took.0 y),
      (let few = took.2 in let long = length-append ahead took.0 in omega (arith, short, few, long, fits)),
    )

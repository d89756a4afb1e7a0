-- A load from record to record, what was made, judged and tallied, and the lines of its result: the
-- tally counts each rule, and at most 63.
use Rattle.std.proofs.Common.{◌≡◌, ◌==◌, ◌||◌, not, ℕ, zero, suc, ◌+◌, ◌<◌, ◌≤◌, nat_lt, Bool, true, false, cond, All, List, [], ◌∷◌, ◌++◌, length, get_or, map, take, drop, set, refl, sym, ap, ap₂, ◌∙◌, arith, add-one, if◌then◌else◌, ◌-◌, ◌^◌, reverse, Option, Some, None, subst, length-append, inl, inr, slice_get}
use Rattle.std.specs.List.{AllByRecursion, IsDistinct, count_by, filter, list_any, refill}
use Rattle.std.proofs.lemmas.Bool.Decides.{nat_tests}
use Rattle.std.proofs.lemmas.Grind.{common_steps}
use Rattle.std.proofs.lemmas.List.{append-nil, map-append, length-map, take_more, reverse-append, take_all}
use Rattle.std.proofs.lemmas.List.Elements.{filter-append, All-map}
use Rattle.std.proofs.lemmas.List.Folds.{list_any-append}
use Rattle.std.proofs.lemmas.List.Sums.{sum_by-append, sum_by-cons, count_by-le-length}
use Rattle.std.proofs.lemmas.Map.Steps.{length-le_from_distinct_below}
use Rattle.rule_book.specs.declared.rule.Rule.{Rule}
use Rattle.rule_book.specs.declared.rule.Rule.TheVariants.{LSnap}
use Rattle.rule_book.specs.Rules.{rule_number}
use Rattle.bridge_run.specs.declared.tally.RuleCount.{RuleCount}
use Rattle.bridge_run.specs.Summary.{is_same, first_uses, rule_counts, load_settings, eras_of, rules_named}
use Rattle.bridge_run.specs.working.RuleCounts.{counted_once}
use Rattle.std.proofs.lemmas.List.FromFn.{length-map-range_with_len}
use Rattle.std.proofs.lemmas.Option.{slice_get_cases, slice_get_within, get_or_from_slice_get}
use Rattle.wire_base.specs.declared.address.Link.TheVariants.{Raw}
use Rattle.pcap_file.specs.Records.{Packet}
use Rattle.rule_book.specs.Entries.{PlainEntry}
use Rattle.norm_engine.specs.Items.{Item, packets}
use Rattle.norm_engine.specs.Trace.{Lawful, item_of}
use Rattle.norm_engine.specs.TraceLaws.{ItemsAreCounted, IsCounted}
use Rattle.norm_engine.specs.EngineState.{Engaged, StandsFor}
use Rattle.load_make.specs.LoadRecords.{Generated, record_at}
use Rattle.load_make.specs.LoadState.{Making}
use Rattle.bridge_run.specs.declared.tally.Tally.{Tally}
use Rattle.bridge_run.specs.working.LoadTally.{Counts, IsTallied}

-- The tally of rules: how one use more changes the counts.

-- the rule is in the list
abbrev pub is_in : Rule → List Rule → Bool
is_in rule rules = list_any (λ other. is_same other rule) rules

-- the rule, if it is not in the list
abbrev fresh : Bool → Rule → List Rule
fresh b rule = if b then [] else rule ∷ []

-- ---- the rules, each at its first use

kept : (b c : Bool) (x rule : Rule) (rest : List Rule) → is_same x rule ≡ b → is_in rule rest ≡ c
    → filter (λ later. not (is_same x later)) (fresh c rule) ≡ fresh (b || c) rule
kept true true x rule rest e f = refl
kept true false x rule rest e f = ap (λ b. cond (not b) (rule ∷ []) []) e
kept false true x rule rest e f = refl
kept false false x rule rest e f = ap (λ b. cond (not b) (rule ∷ []) []) e

first_more : (rules : List Rule) (rule : Rule) → first_uses (rules ++ rule ∷ []) ≡ first_uses rules ++ fresh (is_in rule rules) rule
first_more [] rule = refl
first_more (x ∷ rules) rule =
    let passes = λ (later : Rule). not (is_same x later) in
    ap (λ l. x ∷ filter passes l) (first_more rules rule)
    ∙ ap (λ l. x ∷ l) (filter-append passes (first_uses rules) (fresh (is_in rule rules) rule)
    ∙ ap (λ l. filter passes (first_uses rules) ++ l) (kept (is_same x rule) (is_in rule rules) x rule rules refl refl))

-- ---- a rule is among them if it is in the list

other_than : (x y rule : Rule) → is_same x rule ≡ false → is_same y rule ≡ true → not (is_same x y) ≡ true
other_than x y rule e f = grind (arith, nat_tests)

step_in : (b : Bool) (x y rule : Rule) (rest : List Rule) → not (is_same x y) ≡ b → is_same x rule ≡ false
    → is_in rule (filter (λ later. not (is_same x later)) rest) ≡ is_in rule rest
    → is_in rule (cond b (y ∷ filter (λ later. not (is_same x later)) rest) (filter (λ later. not (is_same x later)) rest)) ≡ (is_same y rule || is_in rule rest)
step_in true x y rule rest e f ih = ap (λ b. is_same y rule || b) ih
step_in false x y rule rest e f ih = passed (is_same y rule) refl
  where
    passed : (c : Bool) → is_same y rule ≡ c → is_in rule (filter (λ later. not (is_same x later)) rest) ≡ (c || is_in rule rest)
    passed true g = absurd (let h = sym e ∙ other_than x y rule f g in cc)
    passed false g = ih

in_filtered : (x rule : Rule) (ys : List Rule) → is_same x rule ≡ false → is_in rule (filter (λ later. not (is_same x later)) ys) ≡ is_in rule ys
in_filtered x rule [] e = refl
in_filtered x rule (y ∷ ys) e = step_in (not (is_same x y)) x y rule ys refl e (in_filtered x rule ys e)

among : (b : Bool) (x rule : Rule) (ys rules : List Rule) → is_same x rule ≡ b → is_in rule ys ≡ is_in rule rules
    → (b || is_in rule (filter (λ later. not (is_same x later)) ys)) ≡ (b || is_in rule rules)
among true x rule ys rules e ih = refl
among false x rule ys rules e ih = in_filtered x rule ys e ∙ ih

in_first : (rules : List Rule) (rule : Rule) → is_in rule (first_uses rules) ≡ is_in rule rules
in_first [] rule = refl
in_first (x ∷ rules) rule = among (is_same x rule) x rule (first_uses rules) rules refl (in_first rules rule)

-- the count of a rule over a list
abbrev row_over : List Rule → Rule → RuleCount
row_over rules rule = record { rule = rule; count = count_by (is_same rule) rules }

any-map : (rules over : List Rule) (rule : Rule) → list_any (λ row. is_same row.rule rule) (map (row_over over) rules) ≡ is_in rule rules
any-map [] over rule = refl
any-map (x ∷ rules) over rule = ap (λ b. is_same x rule || b) (any-map rules over rule)

-- a count is found if the rule was named
pub row_found : (named : List Rule) (rule : Rule) → list_any (λ row. is_same row.rule rule) (rule_counts named) ≡ is_in rule named
row_found named rule = any-map (first_uses named) named rule ∙ in_first named rule

-- ---- the counts

one_more : (b : Bool) (x rule : Rule) (count : ℕ) → is_same x rule ≡ b
    → ◌≡◌ {A = RuleCount} (record { rule = x; count = count + (0 + cond b 1 0) }) (if b then record { rule = x; count = count + 1 } else record { rule = x; count = count })
one_more true x rule count e = refl
one_more false x rule count e = ap (λ n. record { rule = x; count = n }) (omega arith)

row_more : (rules : List Rule) (rule x : Rule) → row_over (rules ++ rule ∷ []) x ≡ counted_once rule (row_over rules x)
row_more rules rule x =
    ap (λ n. record { rule = x; count = n }) (sum_by-append (λ y. cond (is_same x y) 1 0) rules (rule ∷ []))
    ∙ one_more (is_same x rule) x rule (count_by (is_same x) rules) refl

rows_more : (rules : List Rule) (rule : Rule) (xs : List Rule) → map (row_over (rules ++ rule ∷ [])) xs ≡ map (counted_once rule) (map (row_over rules) xs)
rows_more rules rule [] = refl
rows_more rules rule (x ∷ xs) = ap₂ (λ a l. a ∷ l) (row_more rules rule x) (rows_more rules rule xs)

none_counted : (rules : List Rule) (rule : Rule) → is_in rule rules ≡ false → count_by (is_same rule) rules ≡ 0
none_counted [] rule e = refl
none_counted (x ∷ rules) rule e =
    sum_by-cons (λ y. cond (is_same rule y) 1 0) x rules ∙ not_counted (rule_number x) (rule_number rule) (is_in rule rules) (count_by (is_same rule) rules) e (none_counted rules rule)
  where
    not_counted : (a b : ℕ) (more : Bool) (count : ℕ) → (a == b || more) ≡ false → (more ≡ false → count ≡ 0) → cond (b == a) 1 0 + count ≡ 0
    not_counted a b more count e ih = grind (arith, nat_tests)

-- the count of a rule that was not named before
abbrev fresh_row : Bool → Rule → List RuleCount
fresh_row b rule = if b then [] else record { rule = rule; count = 1 } ∷ []

last_row : (b : Bool) (rules : List Rule) (rule : Rule) → is_in rule rules ≡ b → map (row_over (rules ++ rule ∷ [])) (fresh b rule) ≡ fresh_row b rule
last_row true rules rule e = refl
last_row false rules rule e =
    ap (λ n. record { rule = rule; count = n } ∷ [])
    (sum_by-append (λ y. cond (is_same rule y) 1 0) rules (rule ∷ []) ∙ ap (λ m. m + (0 + cond (is_same rule rule) 1 0)) (none_counted rules rule e) ∙ itself (rule_number rule))
  where
    itself : (n : ℕ) → 0 + (0 + cond (n == n) 1 0) ≡ 1
    itself n = grind (arith, nat_tests)

-- the counts with one use more
pub counts_more : (rules : List Rule) (rule : Rule) → rule_counts (rules ++ rule ∷ []) ≡ map (counted_once rule) (rule_counts rules) ++ fresh_row (is_in rule rules) rule
counts_more rules rule =
    let rows = row_over (rules ++ rule ∷ []) in
    ap (map rows) (first_more rules rule)
    ∙ map-append rows (first_uses rules) (fresh (is_in rule rules) rule)
    ∙ ap₂ (λ l m. l ++ m) (rows_more rules rule (first_uses rules)) (last_row (is_in rule rules) rules rule refl)

-- no count exceeds the number of uses
pub counts_few : (rules : List Rule) (most : ℕ) → length rules + 1 < most → All (λ row. row.count + 1 < most) (rule_counts rules)
counts_few rules most h =
    All-map (λ (row : RuleCount). row.count + 1 < most) (row_over rules) (first_uses rules)
    (λ k d l. let few = count_by-le-length (is_same (get_or (first_uses rules) k d)) rules in omega (arith, few, h))

-- ---- one pass over the counts

here : {X : Type 0} (f : X → X) (xs : List X) (i : ℕ) (d : X) → i < length xs → get_or (map f (take i xs) ++ drop i xs) i d ≡ get_or xs i d
here f [] i d h = absurd (omega arith)
here f (x ∷ xs) zero d h = refl
here f (x ∷ xs) (suc i) d h = here f xs i d (omega arith)

changed : {X : Type 0} (f : X → X) (xs : List X) (i : ℕ) (d : X) → i < length xs
    → set (map f (take i xs) ++ drop i xs) i (f (get_or xs i d)) ≡ map f (take (suc i) xs) ++ drop (suc i) xs
changed f [] i d h = absurd (omega arith)
changed f (x ∷ xs) zero d h = refl
changed f (x ∷ xs) (suc i) d h = ap (λ l. f x ∷ l) (changed f xs i d (omega arith))

-- the counts after one more was updated
pub passed : {X : Type 0} (f : X → X) (xs rows : List X) (i : ℕ) (d y : X) → i < length xs → rows ≡ map f (take i xs) ++ drop i xs → y ≡ f (get_or rows i d)
    → set rows i y ≡ map f (take (i + 1) xs) ++ drop (i + 1) xs
passed f xs rows i d y h is e =
    let item : y ≡ f (get_or xs i d) = e ∙ ap (λ l. f (get_or l i d)) is ∙ ap f (here f xs i d h) in
    ap₂ (λ l z. set l i z) is item ∙ changed f xs i d h ∙ ap (λ n. map f (take n xs) ++ drop n xs) (sym (add-one i))

-- an element passes, or one before it
pub any_more : {X : Type 0} (f : X → X) (test : X → Bool) (xs rows : List X) (i : ℕ) (d : X) (found b : Bool) → i < length xs → rows ≡ map f (take i xs) ++ drop i xs
    → found ≡ list_any test (take i xs) → b ≡ test (get_or rows i d) → (found || b) ≡ list_any test (take (i + 1) xs)
any_more f test xs rows i d found b h is before now =
    let item : b ≡ test (get_or xs i d) = now ∙ ap (λ l. test (get_or l i d)) is ∙ ap test (here f xs i d h) in
    ap₂ (λ x y. x || y) before item ∙ sym (ap (list_any test) (take_more xs i d h) ∙ list_any-append test (take i xs) (get_or xs i d ∷ []) ∙ ap (λ c. list_any test (take i xs) || c) (or_false (test (get_or xs i d))))
  where
    or_false : (c : Bool) → (c || false) ≡ c
    or_false true = refl
    or_false false = refl

pub refilled : {X : Type 0} (xs ws : List X) → length ws ≡ length xs → refill (length xs) xs ws ≡ ws
refilled xs ws e = grind (arith, common_steps)

-- ---- there are at most 63 different rule numbers

all_by : (P : ℕ → Type 0) (b : Bool) (y : Rule) (rest : List Rule) → P (rule_number y) → AllByRecursion P (map rule_number rest) → AllByRecursion P (map rule_number (cond b (y ∷ rest) rest))
all_by P true y rest p all = (p, all)
all_by P false y rest p all = all

all_filtered : (P : ℕ → Type 0) (test : Rule → Bool) (ys : List Rule) → AllByRecursion P (map rule_number ys) → AllByRecursion P (map rule_number (filter test ys))
all_filtered P test [] h = tt
all_filtered P test (y ∷ ys) h = all_by P (test y) y (filter test ys) h.0 (all_filtered P test ys h.1)

all_apart : (x : Rule) (ys : List Rule) → AllByRecursion (λ n. (rule_number x == n) ≡ false) (map rule_number (filter (λ later. not (is_same x later)) ys))
all_apart x [] = tt
all_apart x (y ∷ ys) = apart (is_same x y) y (filter (λ later. not (is_same x later)) ys) refl (all_apart x ys)
  where
    apart : (b : Bool) (y : Rule) (rest : List Rule) → is_same x y ≡ b → AllByRecursion (λ n. (rule_number x == n) ≡ false) (map rule_number rest)
        → AllByRecursion (λ n. (rule_number x == n) ≡ false) (map rule_number (cond (not b) (y ∷ rest) rest))
    apart true y rest e all = all
    apart false y rest e all = (e, all)

distinct_by : (b : Bool) (y : Rule) (rest : List Rule) → AllByRecursion (λ n. (rule_number y == n) ≡ false) (map rule_number rest)
    → IsDistinct ◌==◌ (map rule_number rest) → IsDistinct ◌==◌ (map rule_number (cond b (y ∷ rest) rest))
unfolding IsDistinct
distinct_by true y rest apart all = (apart, all)
distinct_by false y rest apart all = all

distinct_filtered : (test : Rule → Bool) (ys : List Rule) → IsDistinct ◌==◌ (map rule_number ys) → IsDistinct ◌==◌ (map rule_number (filter test ys))
unfolding IsDistinct
distinct_filtered test [] h = tt
distinct_filtered test (y ∷ ys) h =
    distinct_by (test y) y (filter test ys) (all_filtered (λ n. (rule_number y == n) ≡ false) test ys h.0) (distinct_filtered test ys h.1)

distinct : (rules : List Rule) → IsDistinct ◌==◌ (map rule_number (first_uses rules))
unfolding IsDistinct
distinct [] = tt
distinct (x ∷ rules) = (all_apart x (first_uses rules), distinct_filtered (λ later. not (is_same x later)) (first_uses rules) (distinct rules))

below : (rule : Rule) → nat_lt (rule_number rule) 63 ≡ true
below LSnap = refl
below _ = refl

all_below : (rules : List Rule) (n : ℕ) → list_any (λ m. n == m) (map rule_number rules) ≡ true → n < 63
all_below [] n e = cc
all_below (x ∷ rules) n e = grind (arith, nat_tests, below x, all_below rules n)

pub rules_few : (rules : List Rule) → length (rule_counts rules) ≤ 63
rules_few rules =
    let numbers = map rule_number (first_uses rules) in
    let few : length numbers ≤ 63 = length-le_from_distinct_below numbers 63 (distinct rules) (λ n h. all_below (first_uses rules) n h) in
    let rows : length (rule_counts rules) ≡ length (first_uses rules) = length-map (first_uses rules) (row_over rules) in
    let same : length numbers ≡ length (first_uses rules) = length-map (first_uses rules) rule_number in
    omega (arith, few, rows, same)

-- ---- one use more, as the code counts it

module _ (named : List Rule) (rule : Rule) (items lent rows : List RuleCount) (is : items ≡ rule_counts named) (same : lent ≡ items) (passed_over : rows ≡ map (counted_once rule) lent) where
  lent_is : lent ≡ rule_counts named
  lent_is = same ∙ is

  rows_are : refill (length items) items rows ≡ map (counted_once rule) (rule_counts named)
  rows_are =
      let counted : length rows ≡ length lent = ap length passed_over ∙ length-map lent (counted_once rule) in
      refilled items rows (counted ∙ ap length same) ∙ passed_over ∙ ap (map (counted_once rule)) lent_is

  was_in : (b : Bool) → b ≡ list_any (λ row. is_same row.rule rule) lent → is_in rule named ≡ b
  was_in b found = sym (row_found named rule) ∙ ap (list_any (λ (row : RuleCount). is_same row.rule rule)) (sym lent_is) ∙ sym found

  pub counted_new : false ≡ list_any (λ row. is_same row.rule rule) lent → refill (length items) items rows ++ record { rule = rule; count = 1 } ∷ [] ≡ rule_counts (named ++ rule ∷ [])
  counted_new found =
      ap (λ l. l ++ record { rule = rule; count = 1 } ∷ []) rows_are ∙ ap (λ b. map (counted_once rule) (rule_counts named) ++ fresh_row b rule) (sym (was_in false found)) ∙ sym (counts_more named rule)

  pub counted_again : true ≡ list_any (λ row. is_same row.rule rule) lent → refill (length items) items rows ≡ rule_counts (named ++ rule ∷ [])
  counted_again found =
      rows_are ∙ sym (append-nil (map (counted_once rule) (rule_counts named))) ∙ ap (λ b. map (counted_once rule) (rule_counts named) ++ fresh_row b rule) (sym (was_in true found)) ∙ sym (counts_more named rule)

  pub has_room : length (refill (length items) items rows) < 64
  has_room =
      let few = rules_few named in
      let same_length : length (refill (length items) items rows) ≡ length (rule_counts named) = ap length rows_are ∙ length-map (rule_counts named) (counted_once rule) in
      omega (arith, few, same_length)

-- A load.

-- So far: a lawful trace of the records that were made, which the engine represents, and which the
-- tally counts.
pub record Going (seed count : ℕ) (load : Making) (engine : Engaged) (tally : Tally) : Type 0 where
  pub trace : List Item
  pub lawful : Lawful load_settings Raw trace
  pub made : load ≡ record { seed = seed; count = count; made = length trace }
  pub records : packets trace ≡ reverse (take (length trace) (Generated seed count))
  pub settings : engine.settings ≡ load_settings
  pub link : engine.link ≡ Raw
  pub stands : StandsFor engine trace
  pub counts : Counts tally trace

-- one more of the first records
taken_more : (xs : List Packet) (i : ℕ) (p : Packet) → slice_get xs i ≡ Some p → reverse (take (i + 1) xs) ≡ p ∷ reverse (take i xs)
taken_more xs i p h =
    let within = slice_get_within xs i p h in
    ap reverse (take_more xs i p within) ∙ reverse-append (take i xs) _ ∙ ap (λ x. x ∷ reverse (take i xs)) (get_or_from_slice_get xs i p p h)

-- there is no further record
taken_whole : (xs : List Packet) (i : ℕ) → slice_get xs i ≡ None → take i xs ≡ xs
taken_whole xs i h =
    elim (slice_get_cases xs i).1 [
      | inl there ↦ absurd (let e = sym h ∙ there.2 in cc)
      | inr past ↦ take_all i xs past.0
    ]

length_generated : (seed count : ℕ) → length (Generated seed count) ≡ count
unfolding Generated
length_generated seed count = length-map-range_with_len (record_at seed) 0 count

at_most_one : (begun : Option ℕ) (e : PlainEntry) → e.begun ≡ begun → eras_of e ≤ 1
at_most_one (Some era) e is = rw is (omega arith)
at_most_one None e is = rw is (omega arith)

-- one more item is counted
counted_more : (tally tally' : Tally) (trace : List Item) (item : Item) → Counts tally trace → IsCounted item
    → tally'.packets ≡ tally.packets + item.entry.packets → tally'.eras ≡ tally.eras + eras_of item.entry
    → ((named : List Rule) → tally.rules.items ≡ rule_counts named → tally'.rules.items ≡ rule_counts (named ++ item.entry.rules))
    → length item.entry.rules ≤ 16 → Counts tally' (item ∷ trace)
counted_more tally tally' trace item counts counted packets eras rules few =
    let one = at_most_one item.entry.begun item.entry refl in
    let all = length-append (rules_named trace) item.entry.rules in
    record {
      packets = packets ∙ ap₂ (λ m n. m + n) counts.packets counted.packets;
      eras = eras ∙ ap (λ n. n + eras_of item.entry) counts.eras;
      rules = rules (rules_named trace) counts.rules;
      few_packets = omega (arith, counts.few_packets, counted.few);
      few_eras = omega (arith, counts.few_eras, one);
      few_rules = omega (arith, counts.few_rules, all, few);
    }

module _ (seed count : ℕ) (load : Making) (engine : Engaged) (tally : Tally) (going : Going seed count load engine tally) where
  made_at : (q : Option Packet) → q ≡ slice_get (Generated load.seed load.count) load.made → slice_get (Generated seed count) (length going.trace) ≡ q
  made_at q found = sym (found ∙ ap (λ (l : Making). slice_get (Generated l.seed l.count) l.made) going.made)

  -- another record was made, judged and counted
  pub goes_on : (load' : Making) (engine' : Engaged) (tally' : Tally) (p : Packet) (e : PlainEntry) → ItemsAreCounted
      → Some p ≡ slice_get (Generated load.seed load.count) load.made → load' ≡ record load { made = load.made + 1 }
      → engine'.settings ≡ engine.settings → engine'.link ≡ engine.link
      → ((history : List Item) → StandsFor engine history → e ≡ (item_of engine.settings engine.link history p).entry)
      → ((history : List Item) → StandsFor engine history → StandsFor engine' (item_of engine.settings engine.link history p ∷ history))
      → tally'.packets ≡ tally.packets + e.packets → tally'.eras ≡ tally.eras + eras_of e
      → ((named : List Rule) → tally.rules.items ≡ rule_counts named → tally'.rules.items ≡ rule_counts (named ++ e.rules)) → length e.rules ≤ 16
      → Going seed count load' engine' tally'
  goes_on load' engine' tally' p e counted found next settled linked told stands packets eras rules few =
      let trace = going.trace in
      let item = item_of load_settings Raw trace p in
      let is : item_of engine.settings engine.link trace p ≡ item = ap₂ (λ s l. item_of s l trace p) going.settings going.link in
      let entry : e ≡ item.entry = told trace going.stands ∙ ap (λ (i : Item). i.entry) is in
      record {
        trace = item ∷ trace;
        lawful = (going.lawful, refl);
        made = next ∙ ap (λ (l : Making). record l { made = l.made + 1 }) going.made ∙ ap (λ n. record { seed = seed; count = count; made = n }) (add-one (length trace));
        records = ap (λ l. p ∷ l) going.records ∙ sym (taken_more (Generated seed count) (length trace) p (made_at (Some p) found))
            ∙ ap (λ n. reverse (take n (Generated seed count))) (add-one (length trace));
        settings = settled ∙ going.settings;
        link = linked ∙ going.link;
        stands = subst (λ (i : Item). StandsFor engine' (i ∷ trace)) is (stands trace going.stands);
        counts = counted_more tally tally' trace item going.counts (counted load_settings Raw trace p)
            (packets ∙ ap (λ (x : PlainEntry). tally.packets + x.packets) entry) (eras ∙ ap (λ (x : PlainEntry). tally.eras + eras_of x) entry)
            (λ named h. rules named h ∙ ap (λ (x : PlainEntry). rule_counts (named ++ x.rules)) entry) (subst (λ (x : PlainEntry). length x.rules ≤ 16) entry few);
      }

  -- more records are left
  pub made_few : (p : Packet) → Some p ≡ slice_get (Generated load.seed load.count) load.made → length going.trace < count
  made_few p found =
      let within = slice_get_within (Generated seed count) (length going.trace) p (made_at (Some p) found) in
      omega (arith, within, length_generated seed count)

  -- the engine has counted the records
  pub counted_few : (p : Packet) → Some p ≡ slice_get (Generated load.seed load.count) load.made → count < 2 ^ 32 → engine.records < 2 ^ 32 - 1
  counted_few p found most = let few = made_few p found in omega (arith, few, going.stands.counted, most)

  -- fewer are left after another one
  pub falls : (load' : Making) (p : Packet) → Some p ≡ slice_get (Generated load.seed load.count) load.made → load' ≡ record load { made = load.made + 1 }
      → count - load'.made < count - load.made
  falls load' p found next =
      let few = made_few p found in
      let one : load'.made ≡ load.made + 1 = ap (λ (l : Making). l.made) next in
      let here : load.made ≡ length going.trace = ap (λ (l : Making). l.made) going.made in
      omega (arith, few, one, here)

  -- all records were made
  pub tallied : None ≡ slice_get (Generated load.seed load.count) load.made → IsTallied seed count engine.records tally
  tallied found = record {
    trace = going.trace;
    of_load = record {
      lawful = going.lawful;
      records = going.records ∙ ap reverse (taken_whole (Generated seed count) (length going.trace) (made_at None found));
    };
    records_are = going.stands.counted;
    counts = going.counts;
  }

-- nothing was made yet
pub begins : (seed count : ℕ) (load : Making) (engine : Engaged) (tally : Tally) → load ≡ record { seed = seed; count = count; made = 0 }
    → engine.settings ≡ load_settings → engine.link ≡ Raw → StandsFor engine [] → tally.packets ≡ 0 → tally.eras ≡ 0 → tally.rules.items ≡ [] → Going seed count load engine tally
begins seed count load engine tally made settings link stands packets eras rules = record {
  trace = [];
  lawful = tt;
  made = made;
  records = refl;
  settings = settings;
  link = link;
  stands = stands;
  counts = record { packets = packets; eras = eras; rules = rules; few_packets = omega arith; few_eras = omega arith; few_rules = omega arith };
}

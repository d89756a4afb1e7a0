-- The names of options, no two of which are the same, and the steps of clap's walk over the options
-- and the names of a line.
use Rattle.std.proofs.Common.{◌≡◌, List, [], ◌∷◌, Some, None, refl, sym, ap, ◌∙◌, if◌then◌else◌, ◌==◌, not, ◌++◌, Bool, true, false, Option, bytes_eq, ℕ, codes}
use Rattle.std.proofs.lemmas.Slice.Eq.{bytes_eq-Decides}
use Rattle.std.proofs.lemmas.List.Folds.{list_any_at}
use Rattle.clap.specs.Lexer.{has_byte, long_of_rest}
use Rattle.clap.proofs.CutLemmas.{Lacks, list_any-Lacks, list_any-at, before_first-Lacks, before_first-at, after_first-at}
use Rattle.norm_settings.specs.OptionTable.{Text, name_of, all_choices, kind_of, takes_value}
use Rattle.norm_settings.specs.declared.options.Choice.{Choice}
use Rattle.norm_settings.specs.declared.options.Choice.TheVariants.{Hops}
use Rattle.std.proofs.Math.Bool.{or-true, and-false}
use Rattle.clap.specs.Walk.{Row, Rule, Walk, Waiting, idle, option, walked, settled_rows, used, arg_by_long, arg_by_id, positional}
use Rattle.clap.specs.Simple.{Shape, built, filled}
use Rattle.clap.specs.Takes.{turn_passes, settle_passes}
use Rattle.clap.proofs.OnLiterals.{clap_on_literals}
use Rattle.norm_settings.specs.working.ClapCommands.{run_command, rule_by, rule_for}
use Rattle.norm_settings.specs.declared.options.Kind.{Kind}
use Rattle.norm_settings.specs.declared.options.Kind.TheVariants.{Alone}

-- The names of options, and how clap reads them in words.

-- the first option of this name
abbrev named : List Choice → Text → Option Choice
named [] text = None
named (c ∷ cs) text = if bytes_eq (name_of c) text then Some c else named cs text

is_named : (c : Choice) → named all_choices (name_of c) ≡ Some c
is_named Hops = refl
is_named _ = refl

pub one_name : (a b : Choice) → name_of a ≡ name_of b → a ≡ b
one_name a b e = let both : Some a ≡ Some b = sym (is_named a) ∙ ap (named all_choices) e ∙ is_named b in cc

pub same_bytes : (a b : Text) → bytes_eq a b ≡ true → a ≡ b
same_bytes a b t = (bytes_eq-Decides a b).0 t

pub bytes_self : (a : Text) → bytes_eq a a ≡ true
bytes_self a = (bytes_eq-Decides a a).1 refl

-- the name of an option: not empty, and without `=` (61)
abbrev pub is_word : Text → Bool
is_word [] = false
is_word (x ∷ xs) = not (has_byte 61 (x ∷ xs))

lacks : (n : Text) → has_byte 61 n ≡ false → Lacks 61 n
lacks n e i h is =
    let has : has_byte 61 n ≡ true = list_any_at (λ x. x == 61) n i 0 h (rw is refl) in
    let clash : true ≡ false = sym has ∙ e in
    cc

word_lacks : (n : Text) → is_word n ≡ true → Lacks 61 n
word_lacks [] e = cc
word_lacks (x ∷ xs) e = lacks (x ∷ xs) (by_test (has_byte 61 (x ∷ xs)) e)
  where
    by_test : (b : Bool) → not b ≡ true → b ≡ false
    by_test true e = cc
    by_test false e = refl

pub cut_joined : (n v : Text) → is_word n ≡ true → long_of_rest (n ++ 61 ∷ v) ≡ Some (n, Some v)
cut_joined [] v w = cc
cut_joined (x ∷ xs) v w =
    let h = word_lacks (x ∷ xs) w in
    rw (before_first-at 61 (x ∷ xs) v h, list_any-at 61 (x ∷ xs) v, after_first-at 61 (x ∷ xs) v h) refl

pub cut_alone : (n : Text) → is_word n ≡ true → long_of_rest n ≡ Some (n, None)
cut_alone [] w = cc
cut_alone (x ∷ xs) w =
    let h = word_lacks (x ∷ xs) w in
    rw (before_first-Lacks 61 (x ∷ xs) h, list_any-Lacks 61 (x ∷ xs) h) refl

pub not_dashes : (n v : Text) → is_word n ≡ true → bytes_eq (45 ∷ 45 ∷ (n ++ v)) (45 ∷ 45 ∷ []) ≡ false
not_dashes [] v w = cc
not_dashes (x ∷ xs) v w = refl

pub name_not_dashes : (n : Text) → is_word n ≡ true → bytes_eq (45 ∷ 45 ∷ n) (45 ∷ 45 ∷ []) ≡ false
name_not_dashes [] w = cc
name_not_dashes (x ∷ xs) w = refl

-- The steps over options, for any command that takes a repeated option, by the name and the kind of
-- one.

abbrev pub shape : Shape
shape = (built run_command).top

abbrev pub run_rules : List Rule
run_rules = shape.rules

-- the state between two words: the entries and the pending value, the option that waits for its
-- value, and the position
abbrev pub at : List Row → Option (Text × List Text) → Waiting → ℕ → Walk
at rows pending waiting position = record { held = record { rows = rows; pending = pending; skip = 0 }; waiting = waiting; position = position; is_trailing = false; stopped = None }

abbrev pub rule : Choice → Rule
rule choice = filled (rule_for choice)

-- the word neither is empty nor begins with `-`
abbrev pub IsPlain : Text → Type 0
IsPlain [] = ⊥
IsPlain (x ∷ xs) = (x == 45) ≡ false

-- the command has the argument of an option of this kind and name, and the name is a word
pub record Has (s : Shape) (k : Kind) (n : Text) : Type 0 where
  pub again : s.args_override_self ≡ true
  pub by_long : arg_by_long s.rules n ≡ Some (filled (rule_by k n))
  pub by_id : arg_by_id s.rules n ≡ Some (filled (rule_by k n))
  pub word : is_word n ≡ true

-- such an option, after these entries and this pending value
module _ (s : Shape) (n : Text) (rows : List Row) (p : Option (Text × List Text)) where
  pub joined_walk : (k : Kind) (v : Text) → Has s k n → takes_value k ≡ true
      → walked s.rules [] (at rows p idle 1) (45 ∷ 45 ∷ (n ++ 61 ∷ v)) ≡ at (used (filled (rule_by k n)) (v ∷ []) (settled_rows s.rules p rows)) None idle 1
  unfolding clap_on_literals
  joined_walk Alone v h t = cc
  joined_walk k v h t = rw (not_dashes n (61 ∷ v) h.word, cut_joined n v h.word, h.by_long) refl

  pub joined_turn : (k : Kind) (v : Text) → Has s k n → takes_value k ≡ true
      → settle_passes s.rules true (at rows p idle 1).held ≡ true → turn_passes s [] (at rows p idle 1) (45 ∷ 45 ∷ (n ++ 61 ∷ v)) ≡ true
  unfolding clap_on_literals
  joined_turn Alone v h t e = cc
  joined_turn k v h t e = rw (not_dashes n (61 ∷ v) h.word, cut_joined n v h.word, h.by_long, h.again, e, or-true) refl

  pub name_walk : (k : Kind) → Has s k n → takes_value k ≡ true
      → walked s.rules [] (at rows p idle 1) (45 ∷ 45 ∷ n) ≡ at (settled_rows s.rules p rows) (Some (n, [])) (option n) 1
  unfolding clap_on_literals
  name_walk Alone h t = cc
  name_walk k h t = rw (name_not_dashes n h.word, cut_alone n h.word, h.by_long) refl

  pub name_turn : (k : Kind) → Has s k n → takes_value k ≡ true
      → settle_passes s.rules true (at rows p idle 1).held ≡ true → turn_passes s [] (at rows p idle 1) (45 ∷ 45 ∷ n) ≡ true
  unfolding clap_on_literals
  name_turn Alone h t e = cc
  name_turn k h t e = rw (name_not_dashes n h.word, cut_alone n h.word, h.by_long, h.again, e) refl

  pub alone_walk : (k : Kind) → Has s k n → takes_value k ≡ false
      → walked s.rules [] (at rows p idle 1) (45 ∷ 45 ∷ n) ≡ at (used (filled (rule_by k n)) [] (settled_rows s.rules p rows)) None idle 1
  unfolding clap_on_literals
  alone_walk Alone h t = rw (name_not_dashes n h.word, cut_alone n h.word, h.by_long) refl
  alone_walk k h t = cc

  pub alone_turn : (k : Kind) → Has s k n → takes_value k ≡ false
      → settle_passes s.rules true (at rows p idle 1).held ≡ true → turn_passes s [] (at rows p idle 1) (45 ∷ 45 ∷ n) ≡ true
  unfolding clap_on_literals
  alone_turn Alone h t e = rw (name_not_dashes n h.word, cut_alone n h.word, h.by_long, h.again, e, or-true) refl
  alone_turn k h t e = cc

  pub value_walk : (k : Kind) (v : Text) → Has s k n → takes_value k ≡ true → IsPlain v
      → walked s.rules [] (at rows (Some (n, [])) (option n) 1) v ≡ at rows (Some (n, v ∷ [])) idle 1
  unfolding clap_on_literals
  value_walk k [] h t e = absurd e
  value_walk Alone (x ∷ xs) h t e = cc
  value_walk k (x ∷ xs) h t e = simp (e, h.by_id, bytes_self n)

  pub value_turn : (k : Kind) (v : Text) → Has s k n → takes_value k ≡ true → IsPlain v
      → turn_passes s [] (at rows (Some (n, [])) (option n) 1) v ≡ true
  unfolding clap_on_literals
  value_turn k [] h t e = absurd e
  value_turn Alone (x ∷ xs) h t e = cc
  value_turn k (x ∷ xs) h t e = simp e

  -- a pending value is accepted
  pub value_settles : (k : Kind) (v : Text) → Has s k n → takes_value k ≡ true → settle_passes s.rules true (at rows (Some (n, v ∷ [])) idle 1).held ≡ true
  value_settles Alone v h t = cc
  value_settles k v h t = rw (h.by_id, or-true) refl

-- each line of the table is such an option; `_` is checked for each option but the first
pub has : (c : Choice) → Has shape (kind_of c) (name_of c)
has Hops = record { again = refl; by_long = refl; by_id = refl; word = refl }
has _ = record { again = refl; by_long = refl; by_id = refl; word = refl }

-- The steps over names.

pub input_step : (rows : List Row) (p : Option (Text × List Text)) (v : Text) → IsPlain v → walked run_rules [] (at rows p idle 1) v ≡ at (settled_rows run_rules p rows) (Some (codes "in", v ∷ [])) idle 2
unfolding clap_on_literals
input_step rows p [] e = absurd e
input_step rows p (x ∷ xs) e = simp (e, and-false)

pub output_step : (rows : List Row) (p : Option (Text × List Text)) (v : Text) → IsPlain v → walked run_rules [] (at rows p idle 2) v ≡ at (settled_rows run_rules p rows) (Some (codes "out", v ∷ [])) idle 3
unfolding clap_on_literals
output_step rows p [] e = absurd e
output_step rows p (x ∷ xs) e = simp (e, and-false)

pub prefix_step : (rows : List Row) (p : Option (Text × List Text)) (v : Text) → IsPlain v → walked run_rules [] (at rows p idle 3) v ≡ at (settled_rows run_rules p rows) (Some (codes "prefix", v ∷ [])) positional 3
unfolding clap_on_literals
prefix_step rows p [] e = absurd e
prefix_step rows p (x ∷ xs) e = simp (e, and-false)

pub prefix_more_step : (rows : List Row) (p : Option (Text × List Text)) (v : Text) → IsPlain v → walked run_rules [] (at rows p positional 3) v ≡ at (settled_rows run_rules p rows) (Some (codes "prefix", v ∷ [])) positional 3
unfolding clap_on_literals
prefix_more_step rows p [] e = absurd e
prefix_more_step rows p (x ∷ xs) e = simp (e, and-false)

pub input_passes : (rows : List Row) (p : Option (Text × List Text)) (v : Text) → IsPlain v → settle_passes run_rules true (at rows p idle 1).held ≡ true → turn_passes shape [] (at rows p idle 1) v ≡ true
unfolding clap_on_literals
input_passes rows p [] e h = absurd e
input_passes rows p (x ∷ xs) e h = simp (e, and-false, h)

pub output_passes : (rows : List Row) (p : Option (Text × List Text)) (v : Text) → IsPlain v → settle_passes run_rules true (at rows p idle 1).held ≡ true → turn_passes shape [] (at rows p idle 2) v ≡ true
unfolding clap_on_literals
output_passes rows p [] e h = absurd e
output_passes rows p (x ∷ xs) e h = simp (e, and-false, h)

pub prefix_passes : (rows : List Row) (p : Option (Text × List Text)) (v : Text) → IsPlain v → settle_passes run_rules true (at rows p idle 1).held ≡ true → turn_passes shape [] (at rows p idle 3) v ≡ true
unfolding clap_on_literals
prefix_passes rows p [] e h = absurd e
prefix_passes rows p (x ∷ xs) e h = simp (e, and-false, h)

pub prefix_more_passes : (rows : List Row) (p : Option (Text × List Text)) (v : Text) → IsPlain v → settle_passes run_rules true (at rows p idle 1).held ≡ true → turn_passes shape [] (at rows p positional 3) v ≡ true
unfolding clap_on_literals
prefix_more_passes rows p [] e h = absurd e
prefix_more_passes rows p (x ∷ xs) e h = simp (e, and-false, h)

pub input_settles : (rows : List Row) (v : Text) → settle_passes run_rules true (at rows (Some (codes "in", v ∷ [])) idle 1).held ≡ true
input_settles rows v = rw or-true refl

pub output_settles : (rows : List Row) (v : Text) → settle_passes run_rules true (at rows (Some (codes "out", v ∷ [])) idle 1).held ≡ true
output_settles rows v = rw or-true refl

pub prefix_settles : (rows : List Row) (v : Text) → settle_passes run_rules true (at rows (Some (codes "prefix", v ∷ [])) idle 1).held ≡ true
prefix_settles rows v = refl

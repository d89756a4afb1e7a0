-- clap's walk over the words of a run or a load: they are accepted, and at its end each option and
-- name has its value.
use Rattle.std.proofs.Common.{◌≡◌, ℕ, ◌==◌, ◌&&◌, not, List, [], ◌∷◌, ◌++◌, Bool, true, false, Some, None, refl, sym, ap, ◌∙◌, codes, length, nat_le, is_some, if◌then◌else◌, arith, subst, append-nil, append_assoc, fold, Option}
use Rattle.std.specs.List.{list_all}
use Rattle.std.proofs.Math.Bool.{or-true}
use Rattle.std.proofs.lemmas.Bool.{and_parts}
use Rattle.clap.specs.Walk.{Row, Walk, idle, option, positional, walked, settled_rows, used, without, Rule, walk, walk_from, nothing_held, rows_of, first_of, finished}
use Rattle.clap.specs.Takes.{turn_passes, walk_passes, settle_passes, takes}
use Rattle.clap.specs.declared.parser.matches.ValueSource.TheVariants.{CommandLine}
use Rattle.wire_base.specs.Prefixes.{is_number, is_digit}
use Rattle.clap.specs.Simple.{filled, Shape, built, matches_of}
use Rattle.clap.specs.Matches.{found_of}
use Rattle.clap.specs.declared.parser.matches.ArgMatches.{ArgMatches}
use Rattle.clap.proofs.OnLiterals.{clap_on_literals}
use Rattle.clap.proofs.WalkLemmas.{first_value-rows}
use Rattle.norm_settings.specs.OptionTable.{Text, name_of, kind_of, takes_value, is_name, is_value}
use Rattle.norm_settings.specs.AskedCommand.{is_whole, go_together}
use Rattle.norm_settings.specs.working.ClapCommands.{rule_by, load_command, is_pair, ReadsPair}
use Rattle.norm_settings.specs.RunWords.{PlainUse, PlainLine, given, may_use, are_fit}
use Rattle.norm_settings.specs.declared.options.Kind.{Kind}
use Rattle.norm_settings.specs.declared.options.Kind.TheVariants.{Number, Limit, Name, Alone}
use Rattle.norm_settings.specs.Grammar.{IsWritten, by_sign, by_word, by_name, IsLine, IsWrittenAs}
use Rattle.norm_settings.proofs.OptionSteps.{shape, run_rules, at, rule, IsPlain, has, joined_walk, joined_turn, name_walk, name_turn, alone_walk, alone_turn, value_walk, value_turn, value_settles, input_step, output_step, prefix_step, prefix_more_step, input_passes, output_passes, prefix_passes, prefix_more_passes, input_settles, output_settles, prefix_settles}
use Rattle.norm_settings.proofs.Rows.{found, Agrees, agrees_added, settled_use, values_other, without_other, apart, Fresh, fresh_use, values_here, values_new, values_more}

-- The walk over a whole line: it is accepted, and at its end each option has the value that the
-- line gives it.

-- the pending value is accepted
abbrev pub Settles : List Row → Option (Text × List Text) → Type 0
Settles rows p = settle_passes run_rules true (at rows p idle 1).held ≡ true

-- IN, OUT and the prefixes are found
abbrev pub HasNames : List Text → List Row → Type 0
HasNames (input ∷ output ∷ prefixes) rows = (found (codes "in") rows ≡ Some (input ∷ [])) × (found (codes "out") rows ≡ Some (output ∷ [])) × (found (codes "prefix") rows ≡ Some prefixes)
HasNames _ rows = Unit {0}

-- the words from here on are accepted, and at their end each option and each name has its value
pub record Ends (w : Walk) (words : List Text) (uses : List PlainUse) (line : List Text) : Type 0 where
  pub rows : List Row
  pub pending : Option (Text × List Text)
  pub passes : walk_passes shape [] w words ≡ true
  pub ends : fold (walked run_rules []) w words ≡ at rows pending positional 3
  pub settles : Settles rows pending
  pub agrees : Agrees uses (settled_rows run_rules pending rows)
  pub has_names : HasNames line (settled_rows run_rules pending rows)

-- one more word is accepted
pass_more : (w after : Walk) (word : Text) (rest : List Text) → turn_passes shape [] w word ≡ true → walked run_rules [] w word ≡ after → walk_passes shape [] after rest ≡ true → walk_passes shape [] w (word ∷ rest) ≡ true
unfolding walk_passes
pass_more w after word rest p e q = rw (p, e) q

pass_none : (w : Walk) → walk_passes shape [] w [] ≡ true
unfolding walk_passes
pass_none w = refl

more : (w after : Walk) (word : Text) (rest : List Text) (uses : List PlainUse) (line : List Text) → turn_passes shape [] w word ≡ true → walked run_rules [] w word ≡ after → Ends after rest uses line → Ends w (word ∷ rest) uses line
more w after word rest uses line p e h = record {
  rows = h.rows;
  pending = h.pending;
  passes = pass_more w after word rest p e h.passes;
  ends = ap (λ v. fold (walked run_rules []) v rest) e ∙ h.ends;
  settles = h.settles;
  agrees = h.agrees;
  has_names = h.has_names;
}

-- ---- the names

pub plain_name : (v : Text) → is_name v ≡ true → IsPlain v
plain_name [] e = cc
plain_name (x ∷ xs) e = by_test (x == 45) e
  where
    by_test : (b : Bool) → (if b then false else true) ≡ true → b ≡ false
    by_test true e = cc
    by_test false e = refl

in_agrees : (v : Text) (uses : List PlainUse) (rows : List Row) → Agrees uses rows → Agrees uses (settled_rows run_rules (Some (codes "in", v ∷ [])) rows)
in_agrees v uses rows h c =
    values_other (name_of c) (codes "in") _ CommandLine (v ∷ []) (without (codes "in") rows) (apart c).0 ∙ without_other (name_of c) (codes "in") rows (apart c).0 ∙ h c

out_agrees : (v : Text) (uses : List PlainUse) (rows : List Row) → Agrees uses rows → Agrees uses (settled_rows run_rules (Some (codes "out", v ∷ [])) rows)
out_agrees v uses rows h c =
    values_other (name_of c) (codes "out") _ CommandLine (v ∷ []) (without (codes "out") rows) (apart c).1 ∙ without_other (name_of c) (codes "out") rows (apart c).1 ∙ h c

prefix_agrees : (v : Text) (uses : List PlainUse) (rows : List Row) → Agrees uses rows → Agrees uses (settled_rows run_rules (Some (codes "prefix", v ∷ [])) rows)
prefix_agrees v uses rows h c = values_other (name_of c) (codes "prefix") _ CommandLine (v ∷ []) rows (apart c).2 ∙ h c

-- the prefixes found so far are `done`
abbrev Named : Text → Text → List Text → List Row → Type 0
Named a b done rows = HasNames (a ∷ b ∷ done) rows

prefix_named : (a b v : Text) (done : List Text) (rows : List Row) → Named a b done rows → Named a b (done ++ v ∷ []) (settled_rows run_rules (Some (codes "prefix", v ∷ [])) rows)
prefix_named a b v done rows h =
    (values_other (codes "in") (codes "prefix") _ CommandLine (v ∷ []) rows refl ∙ h.0, values_other (codes "out") (codes "prefix") _ CommandLine (v ∷ []) rows refl ∙ h.1, values_more (codes "prefix") _ (v ∷ []) done rows h.2)

prefixes_end : (words done : List Text) (a b : Text) (uses : List PlainUse) (rows : List Row) (p : Option (Text × List Text)) → list_all is_name words ≡ true → Settles rows p → Agrees uses (settled_rows run_rules p rows) → Named a b done (settled_rows run_rules p rows)
    → Ends (at rows p positional 3) words uses (a ∷ b ∷ (done ++ words))
prefixes_end [] done a b uses rows p n s h m = record { rows = rows; pending = p; passes = pass_none _; ends = refl; settles = s; agrees = h; has_names = (m.0, m.1, m.2 ∙ ap Some (sym (append-nil done))) }
prefixes_end (v ∷ words) done a b uses rows p n s h m =
    let t = and_parts (is_name v) (list_all is_name words) n in
    let first = settled_rows run_rules p rows in
    subst (λ l. Ends (at rows p positional 3) (v ∷ words) uses (a ∷ b ∷ l)) (append_assoc done (v ∷ []) words)
    (more (at rows p positional 3) (at first (Some (codes "prefix", v ∷ [])) positional 3) v words uses (a ∷ b ∷ ((done ++ v ∷ []) ++ words))
    (prefix_more_passes rows p v (plain_name v t.0) s) (prefix_more_step rows p v (plain_name v t.0))
    (prefixes_end words (done ++ v ∷ []) a b uses first (Some (codes "prefix", v ∷ [])) t.1 (prefix_settles first v) (prefix_agrees v uses first h) (prefix_named a b v done first m)))

names_end : (words : List Text) (uses : List PlainUse) (rows : List Row) (p : Option (Text × List Text)) → nat_le 3 (length words) ≡ true → list_all is_name words ≡ true → Settles rows p → Agrees uses (settled_rows run_rules p rows) → Fresh (settled_rows run_rules p rows)
    → Ends (at rows p idle 1) words uses words
names_end [] uses rows p l n s h f = cc
names_end (a ∷ []) uses rows p l n s h f = cc
names_end (a ∷ b ∷ []) uses rows p l n s h f = cc
names_end (a ∷ b ∷ v ∷ words) uses rows p l n s h f =
    let t = and_parts (is_name a) _ n in
    let u = and_parts (is_name b) _ t.1 in
    let w = and_parts (is_name v) (list_all is_name words) u.1 in
    let line : List Text = a ∷ b ∷ v ∷ words in
    let first = settled_rows run_rules p rows in
    let second = settled_rows run_rules (Some (codes "in", a ∷ [])) first in
    let third = settled_rows run_rules (Some (codes "out", b ∷ [])) second in
    let fourth = settled_rows run_rules (Some (codes "prefix", v ∷ [])) third in
    let h_in = in_agrees a uses first h in
    let h_out = out_agrees b uses second h_in in
    let in_second : found (codes "in") second ≡ Some (a ∷ []) = values_here (codes "in") _ (a ∷ []) first f.0 in
    let out_second : found (codes "out") second ≡ None = values_other (codes "out") (codes "in") _ CommandLine (a ∷ []) (without (codes "in") first) refl ∙ without_other (codes "out") (codes "in") first refl ∙ f.1 in
    let prefix_second : found (codes "prefix") second ≡ None = values_other (codes "prefix") (codes "in") _ CommandLine (a ∷ []) (without (codes "in") first) refl ∙ without_other (codes "prefix") (codes "in") first refl ∙ f.2 in
    let in_third : found (codes "in") third ≡ Some (a ∷ []) = values_other (codes "in") (codes "out") _ CommandLine (b ∷ []) (without (codes "out") second) refl ∙ without_other (codes "in") (codes "out") second refl ∙ in_second in
    let out_third : found (codes "out") third ≡ Some (b ∷ []) = values_here (codes "out") _ (b ∷ []) second out_second in
    let prefix_third : found (codes "prefix") third ≡ None = values_other (codes "prefix") (codes "out") _ CommandLine (b ∷ []) (without (codes "out") second) refl ∙ without_other (codes "prefix") (codes "out") second refl ∙ prefix_second in
    let named : Named a b (v ∷ []) fourth =
    (values_other (codes "in") (codes "prefix") _ CommandLine (v ∷ []) third refl ∙ in_third, values_other (codes "out") (codes "prefix") _ CommandLine (v ∷ []) third refl ∙ out_third, values_new (codes "prefix") _ (v ∷ []) third prefix_third) in
    more _ _ a _ uses line (input_passes rows p a (plain_name a t.0) s) (input_step rows p a (plain_name a t.0))
    (more _ _ b _ uses line (output_passes first (Some (codes "in", a ∷ [])) b (plain_name b u.0) (input_settles first a)) (output_step first (Some (codes "in", a ∷ [])) b (plain_name b u.0))
    (more _ _ v words uses line (prefix_passes second (Some (codes "out", b ∷ [])) v (plain_name v w.0) (output_settles second b)) (prefix_step second (Some (codes "out", b ∷ [])) v (plain_name v w.0))
    (prefixes_end words (v ∷ []) a b uses third (Some (codes "prefix", v ∷ [])) w.1 (prefix_settles third v) (prefix_agrees v uses third h_out) named)))

-- ---- the options

number_plain : (v : Text) → is_number 20 v ≡ true → IsPlain v
number_plain [] e = cc
number_plain (x ∷ xs) e =
    let t = and_parts _ (list_all is_digit (x ∷ xs)) e in
    let u = and_parts (is_digit x) (list_all is_digit xs) t.1 in
    let w = and_parts (nat_le 48 x) (nat_le x 57) u.0 in
    not_dash x w.0
  where
    not_dash : (x : ℕ) → nat_le 48 x ≡ true → (x == 45) ≡ false
    not_dash x h = grind (arith, h)

there : (b : Bool) (n : ℕ) → is_some (if b then Some n else None) ≡ true → b ≡ true
there true n e = refl
there false n e = cc

in_range_plain : (a b : Bool) (n : ℕ) (v : Text) → is_some (if is_number 20 v && a && b then Some n else None) ≡ true → IsPlain v
in_range_plain a b n v e = number_plain v (and_parts (is_number 20 v) a (and_parts (is_number 20 v && a) b (there (is_number 20 v && a && b) n e)).0).0

value_plain : (k : Kind) (v : Text) → takes_value k ≡ true → is_value k v ≡ true → IsPlain v
value_plain (Number least greatest standard) v t e = in_range_plain _ _ _ v e
value_plain (Limit least greatest) v t e = in_range_plain _ _ _ v e
value_plain Name v t e = plain_name v (and_parts (is_name v) (nat_le (length v) 64) e).0
value_plain Alone v t e = cc

not_given : (g : Option Text) → not (is_some g) ≡ true → g ≡ None
not_given None e = refl
not_given (Some v) e = cc

alone_use : (k : Kind) (n : Text) (rows : List Row) → takes_value k ≡ false → used (filled (rule_by k n)) [] rows ≡ used (filled (rule_by k n)) (codes "true" ∷ []) rows
alone_use Alone n rows e = refl
alone_use k n rows e = cc

-- the names of a line: at least three, each a name
abbrev Good : List Text → Type 0
Good line = (nat_le 3 (length line) ≡ true) × (list_all is_name line ≡ true)

-- after these uses: the pending value is accepted, each option has the value that they give it, and
-- no name is found yet
abbrev Ready : List Row → Option (Text × List Text) → List PlainUse → Type 0
Ready rows p uses = Settles rows p × Agrees uses (settled_rows run_rules p rows) × Fresh (settled_rows run_rules p rows)

abbrev with_use : List PlainUse → PlainUse → List PlainUse
with_use uses u = uses ++ u ∷ []

-- one more use
one_use : (u : PlainUse) (front rest line : List Text) (done all : List PlainUse) → IsWritten u front → may_use u.choice u.value done ≡ true
    → ((rows : List Row) (p : Option (Text × List Text)) → Ready rows p (with_use done u) → Ends (at rows p idle 1) rest all line)
    → (rows : List Row) (p : Option (Text × List Text)) → Ready rows p done → Ends (at rows p idle 1) (front ++ rest) all line
one_use u front rest line done all (by_sign t e) m ih rows p r =
    let c = u.choice in
    let fits = and_parts (is_value (kind_of c) u.value) _ m in
    let before = settled_rows run_rules p rows in
    subst (λ ws. Ends (at rows p idle 1) (ws ++ rest) all line) (sym e)
    (more (at rows p idle 1) (at (used (rule c) (u.value ∷ []) before) None idle 1) (45 ∷ 45 ∷ (name_of c ++ 61 ∷ u.value)) rest all line
    (joined_turn shape (name_of c) rows p (kind_of c) u.value (has c) t r.0) (joined_walk shape (name_of c) rows p (kind_of c) u.value (has c) t)
    (ih (used (rule c) (u.value ∷ []) before) None (refl, agrees_added c u.value done before (not_given (given c done) fits.1) r.1, fresh_use c u.value before r.2)))
one_use u front rest line done all (by_word t e) m ih rows p r =
    let c = u.choice in
    let fits = and_parts (is_value (kind_of c) u.value) _ m in
    let plain = value_plain (kind_of c) u.value t fits.0 in
    let before = settled_rows run_rules p rows in
    let agrees = agrees_added c u.value done before (not_given (given c done) fits.1) r.1 in
    subst (λ ws. Ends (at rows p idle 1) (ws ++ rest) all line) (sym e)
    (more (at rows p idle 1) (at before (Some (name_of c, [])) (option (name_of c)) 1) (45 ∷ 45 ∷ name_of c) (u.value ∷ rest) all line
    (name_turn shape (name_of c) rows p (kind_of c) (has c) t r.0) (name_walk shape (name_of c) rows p (kind_of c) (has c) t)
    (more (at before (Some (name_of c, [])) (option (name_of c)) 1) (at before (Some (name_of c, u.value ∷ [])) idle 1) u.value rest all line
    (value_turn shape (name_of c) before None (kind_of c) u.value (has c) t plain) (value_walk shape (name_of c) before None (kind_of c) u.value (has c) t plain)
    (ih before (Some (name_of c, u.value ∷ [])) (value_settles shape (name_of c) before None (kind_of c) u.value (has c) t, subst (Agrees (with_use done u)) (sym (settled_use c (u.value ∷ []) before)) agrees, subst Fresh (sym (settled_use c (u.value ∷ []) before)) (fresh_use c u.value before r.2)))))
one_use u front rest line done all (by_name t v e) m ih rows p r =
    let c = u.choice in
    let fits = and_parts (is_value (kind_of c) u.value) _ m in
    let before = settled_rows run_rules p rows in
    let same : used (rule c) [] before ≡ used (rule c) (u.value ∷ []) before = alone_use (kind_of c) (name_of c) before t ∙ ap (λ x. used (rule c) (x ∷ []) before) (sym v) in
    let agrees = agrees_added c u.value done before (not_given (given c done) fits.1) r.1 in
    subst (λ ws. Ends (at rows p idle 1) (ws ++ rest) all line) (sym e)
    (more (at rows p idle 1) (at (used (rule c) [] before) None idle 1) (45 ∷ 45 ∷ name_of c) rest all line
    (alone_turn shape (name_of c) rows p (kind_of c) (has c) t r.0) (alone_walk shape (name_of c) rows p (kind_of c) (has c) t)
    (ih (used (rule c) [] before) None (refl, subst (Agrees (with_use done u)) (sym same) agrees, subst Fresh (sym same) (fresh_use c u.value before r.2))))

go : (uses done : List PlainUse) (words line : List Text) → IsLine uses words line → are_fit done uses ≡ true → Good line
    → (rows : List Row) (p : Option (Text × List Text)) → Ready rows p done → Ends (at rows p idle 1) words (done ++ uses) line
go [] done words line e f g rows p r =
    subst (λ us. Ends (at rows p idle 1) words us line) (sym (append-nil done))
    (subst (λ ws. Ends (at rows p idle 1) ws done line) (sym e) (names_end line done rows p g.0 g.1 r.0 r.1 r.2))
go (u ∷ uses) done words line (front, rest, e, w, h) f g rows p r =
    let t = and_parts (may_use u.choice u.value done) (are_fit (with_use done u) uses) f in
    subst (λ us. Ends (at rows p idle 1) words us line) (append_assoc done (u ∷ []) uses)
    (subst (λ ws. Ends (at rows p idle 1) ws (with_use done u ++ uses) line) (sym e)
    (one_use u front rest line done (with_use done u ++ uses) w t.0 (go uses (with_use done u) rest line h t.1 g) rows p r))

-- a whole line is accepted
pub whole_ends : (words : List Text) (line : PlainLine) → IsWrittenAs words line → is_whole line ≡ true → Ends (at [] None idle 1) words line.uses line.names
whole_ends words line h w =
    let t = and_parts (nat_le 3 (length line.names) && list_all is_name line.names) (go_together line.uses) w in
    let u = and_parts (nat_le 3 (length line.names)) (list_all is_name line.names) t.0 in
    go line.uses [] words line.names h.written h.fits (u.0, u.1) [] None (refl, λ c. refl, (refl, refl, refl))

-- The words of a load: clap accepts two names, and finds them.

abbrev load_shape : Shape
load_shape = (built load_command).top

abbrev load_rules : List Rule
load_rules = load_shape.rules

-- the state after SEED, and after COUNT
abbrev seeded : Text → Walk
seeded seed = at [] (Some (codes "seed", seed ∷ [])) idle 2

abbrev counted : Text → Text → Walk
counted seed count = at (settled_rows load_rules (Some (codes "seed", seed ∷ [])) []) (Some (codes "count", count ∷ [])) idle 3

seed_step : (seed : Text) → IsPlain seed → walked load_rules [] (walk_from nothing_held) seed ≡ seeded seed
unfolding clap_on_literals
seed_step [] e = absurd e
seed_step (x ∷ xs) e = simp e

count_step : (seed count : Text) → IsPlain count → walked load_rules [] (seeded seed) count ≡ counted seed count
unfolding clap_on_literals
count_step seed [] e = absurd e
count_step seed (x ∷ xs) e = simp e

seed_passes : (seed : Text) → IsPlain seed → turn_passes load_shape [] (walk_from nothing_held) seed ≡ true
unfolding clap_on_literals
seed_passes [] e = absurd e
seed_passes (x ∷ xs) e = simp e

count_passes : (seed count : Text) → IsPlain count → turn_passes load_shape [] (seeded seed) count ≡ true
unfolding clap_on_literals
count_passes seed [] e = absurd e
count_passes seed (x ∷ xs) e = simp (e, or-true)

last_settles : (seed count : Text) → settle_passes load_rules true (counted seed count).held ≡ true
last_settles seed count = refl

load_ends : (seed count : Text) → IsPlain seed → IsPlain count → walk load_rules [] nothing_held (seed ∷ count ∷ []) ≡ counted seed count
load_ends seed count first second = ap (λ w. walked load_rules [] w count) (seed_step seed first) ∙ count_step seed count second

load_passes : (seed count : Text) → IsPlain seed → IsPlain count → walk_passes load_shape [] (walk_from nothing_held) (seed ∷ count ∷ []) ≡ true
unfolding walk_passes
load_passes seed count first second = rw (seed_passes seed first, seed_step seed first, count_passes seed count second) refl

-- two names are accepted
pub pair_is_taken : (words : List Text) → is_pair words ≡ true → takes load_command words ≡ true
pair_is_taken [] e = cc
pair_is_taken (seed ∷ []) e = cc
pair_is_taken (seed ∷ count ∷ []) e =
    let names = and_parts (is_name seed) (is_name count) e in
    let first = plain_name seed names.0 in
    let second = plain_name count names.1 in
    let whole : walk load_rules [] nothing_held (seed ∷ count ∷ []) ≡ counted seed count = load_ends seed count first second in
    let load_passes : walk_passes load_shape [] (walk_from nothing_held) (seed ∷ count ∷ []) ≡ true = load_passes seed count first second in
    let last : settle_passes load_rules true (counted seed count).held ≡ true = last_settles seed count in
    simp (whole, load_passes, last)
pair_is_taken (seed ∷ count ∷ more ∷ words) e = cc

-- and found
pub pair_reads : (m : ArgMatches) (words : List Text) → is_pair words ≡ true → rows_of (found_of m) ≡ matches_of load_command words → ReadsPair m words
pair_reads m [] e rows_are = cc
pair_reads m (seed ∷ []) e rows_are = cc
pair_reads m (seed ∷ count ∷ []) e rows_are =
    let names = and_parts (is_name seed) (is_name count) e in
    let whole = rows_are ∙ ap (λ w. finished load_rules w.held) (load_ends seed count (plain_name seed names.0) (plain_name count names.1)) in
    (first_value-rows (found_of m) (codes "seed") ∙ ap (first_of (codes "seed")) whole, first_value-rows (found_of m) (codes "count") ∙ ap (first_of (codes "count")) whole)
pair_reads m (seed ∷ count ∷ more ∷ words) e rows_are = cc

-- The run of a line: the values that clap finds give its settings, and these do not conflict.
use Rattle.std.proofs.Common.{◌≡◌, ◌<◌, ◌+◌, ℕ, All, arith, map, drop, List, [], ◌∷◌, ◌++◌, Ok, Err, sym, ap, ◌∙◌, add-one, get_or, length, drop-cons, ◌≤◌, true, false, Some, refl, nat_lt, rules, if◌then◌else◌, codes, option_map, ◌&&◌, ◌||◌, not, Bool, subst, None, is_some, unwrap_or, nat_le, find, fold, slice_get, option_and_then, Result, bytes_eq, Option}
use Rattle.std.proofs.lemmas.List.Elements.{All-cons}
use Rattle.std.proofs.lemmas.List.{length-map}
use Rattle.std.specs.List.{list_all, list_any}
use Rattle.std.proofs.Math.Bool.{or-true, or-false}
use Rattle.std.proofs.lemmas.Option.{same_Some}
use Rattle.std.proofs.lemmas.Bool.{and_parts}
use Rattle.wire_base.specs.declared.address.Prefix as wire
use Rattle.wire_base.specs.Prefixes.{prefix_of}
use Rattle.clap.specs.Matches.{found_of, first_value, matched_of, raw_values}
use Rattle.clap.specs.declared.parser.matches.ArgMatches.{ArgMatches}
use Rattle.clap.specs.Simple.{matches_of}
use Rattle.clap.specs.Takes.{takes, walk_passes, settle_passes}
use Rattle.clap.specs.Walk.{Row, Rule, walk, walk_from, nothing_held, positional, settled_rows, with_default, default_rows, has_row, reading_by, rows_of, first_of, all_of, finished, more_values}
use Rattle.clap.specs.declared.parser.matches.ValueSource.TheVariants.{DefaultValue}
use Rattle.clap.specs.declared.builder.value_parser.Reading.{Reading}
use Rattle.clap.proofs.WalkLemmas.{first_value-rows, raw_values-rows}
use Rattle.norm_settings.specs.AskedCommand.{prefixes_from, run, run_of, asked_run, is_whole, PlainNames, run_by, plain_command, go_together, SettingsGoTogether}
use Rattle.norm_settings.specs.SettingValues.{PlainSettings, settings_of, plain_settings, name_told, limit_told, is_told, GoTogether}
use Rattle.norm_settings.specs.OptionTable.{Text, name_of, kind_of, takes_value, is_name}
use Rattle.norm_settings.specs.RunWords.{PlainUse, PlainLine, given, line_of}
use Rattle.norm_settings.specs.FoundValues.{NamesAre, value_in, TellsAs, ReadsAs}
use Rattle.norm_settings.specs.working.ClapCommands.{run_command}
use Rattle.norm_settings.specs.declared.fault.WordFault.TheVariants.{Refused, TooMany, Same}
use Rattle.norm_settings.specs.declared.options.Choice.TheVariants.{Inside, Mtu, Both, Hops}
use Rattle.norm_settings.specs.declared.command.Command.{Command}
use Rattle.norm_settings.specs.declared.command.Command.TheVariants.{Run, Load}
use Rattle.norm_settings.specs.Grammar.{IsWrittenAs}
use Rattle.norm_settings.specs.declared.options.Choice.{Choice}
use Rattle.norm_settings.proofs.OptionSteps.{same_bytes, bytes_self, shape, run_rules, at}
use Rattle.norm_settings.proofs.Rows.{found, found_same, at_absent, values_other}
use Rattle.norm_settings.proofs.Walks.{HasNames, whole_ends}

-- One more word among prefixes.

pub one : {X : Type 0} (P : X → Type 0) (x : X) → P x → All P (x ∷ [])
one P x p = All-cons P x [] p (λ k d h. absurd (omega (arith, h)))

pub one_more : {X : Type 0} (octets : X → List ℕ) (done : List wire.Prefix) (words : List X) (place : ℕ) (d : X) (prefix : wire.Prefix)
    → place < length words → prefix_of (octets (get_or words place d)) ≡ Ok prefix
    → prefixes_from done (map octets (drop place words)) ≡ prefixes_from (done ++ prefix ∷ []) (map octets (drop (place + 1) words))
one_more octets done words place d prefix h p =
    let front : drop place words ≡ get_or words place d ∷ drop (place + 1) words = drop-cons words place d h ∙ ap (λ n. get_or words place d ∷ drop n words) (sym (add-one place)) in
    ap (λ ws. prefixes_from done (map octets ws)) front
    ∙ ap (λ r. elim r as (λ _. Result (List wire.Prefix) ℕ) [ Ok q ↦ prefixes_from (done ++ q ∷ []) (map octets (drop (place + 1) words)) | Err _ ↦ Err (length done + 1) ]) p

-- The run of a whole line.

run_is : (uses : List PlainUse) (input output : Text) (words : List Text) (prefixes : List wire.Prefix) (settings : PlainSettings)
    → bytes_eq input output ≡ false → nat_lt 16 (length words) ≡ false → prefixes_from [] words ≡ Ok prefixes → settings ≡ settings_of (λ choice. given choice uses) prefixes
    → run_of (record { uses = uses; names = input ∷ output ∷ words }) ≡ Ok (run (record { input = input; output = output }) settings)
run_is uses input output words prefixes settings apart few read told = rw (apart, few, read, told) refl

pub few_enough : {X : Type 0} (octets : X → Text) (words : List X) → length words ≤ 16 → nat_lt 16 (length (map octets words)) ≡ false
few_enough octets words h = let same : length (map octets words) ≡ length words = search (rules, length-map) in grind (arith, same, h)

-- the names of the line are those found
pub names_are : (m : ArgMatches) (names : List Text) (input output : Text) (words : List Text) → NamesAre m names
    → first_value (found_of m) (codes "in") ≡ Some input → first_value (found_of m) (codes "out") ≡ Some output → option_map raw_values (matched_of (found_of m) (codes "prefix")) ≡ Some words
    → names ≡ input ∷ output ∷ words
names_are m [] input output words h i o p = absurd h
names_are m (a ∷ []) input output words h i o p = absurd h
names_are m (a ∷ b ∷ ws) input output words h i o p =
    let first : a ≡ input = same_Some a input (sym h.0 ∙ i) in
    let second : b ≡ output = same_Some b output (sym h.1 ∙ o) in
    let rest : ws ≡ words = same_Some ws words (sym h.2 ∙ p) in
    cc

pub run_reads : (line : PlainLine) (input output : Text) (words : List Text) (prefixes : List wire.Prefix) (settings : PlainSettings)
    → line.names ≡ input ∷ output ∷ words
    → bytes_eq input output ≡ false → nat_lt 16 (length words) ≡ false → prefixes_from [] words ≡ Ok prefixes → settings ≡ settings_of (λ choice. given choice line.uses) prefixes
    → run_of line ≡ Ok (run (record { input = input; output = output }) settings)
run_reads line input output words prefixes settings names apart few read told =
    let whole : line ≡ record { uses = line.uses; names = input ∷ output ∷ words } = ap (λ ns. record { uses = line.uses; names = ns }) names in
    ap run_of whole ∙ run_is line.uses input output words prefixes settings apart few read told

-- the result for a whole line is its run
pub asked_is : (words : List Text) (line : PlainLine) → line_of words ≡ Some line → is_whole line ≡ true → asked_run (line_of words) ≡ run_of line
asked_is words line e w = ap asked_run e ∙ ap (λ b. if b then run_of line else Err Refused) w

-- The settings of a run do not conflict.

-- with `--both` neither `--inside` nor `--mtu` is given
inside_unset : (both inside mtu : Option Text) → not (is_some both && (is_some inside || is_some mtu)) ≡ true → is_told both ≡ true → name_told inside ≡ None
inside_unset None inside mtu h t = absurd (cc)
inside_unset (Some value) None mtu h t = refl
inside_unset (Some value) (Some name) mtu h t = absurd (cc)

mtu_unset : (both inside mtu : Option Text) → not (is_some both && (is_some inside || is_some mtu)) ≡ true → is_told both ≡ true → limit_told Mtu mtu ≡ None
mtu_unset None inside mtu h t = absurd (cc)
mtu_unset (Some value) inside None h t = refl
mtu_unset (Some value) None (Some number) h t = absurd (cc)
mtu_unset (Some value) (Some name) (Some number) h t = absurd (cc)

told_together : (uses : List PlainUse) (prefixes : List wire.Prefix) → go_together uses ≡ true → GoTogether (settings_of (λ choice. given choice uses) prefixes)
told_together uses prefixes h = record {
  mirror = λ _. refl;
  inside = λ t. inside_unset (given Both uses) (given Inside uses) (given Mtu uses) h t;
  mtu = λ t. mtu_unset (given Both uses) (given Inside uses) (given Mtu uses) h t;
}

run_goes : (names : PlainNames) (uses : List PlainUse) (prefixes : List wire.Prefix) (command : Command) → go_together uses ≡ true → run names (settings_of (λ choice. given choice uses) prefixes) ≡ plain_command command → SettingsGoTogether command
run_goes names uses prefixes (Load seed count) h e = tt
run_goes names uses prefixes (Run own settings) h e =
    let same : settings_of (λ choice. given choice uses) prefixes ≡ plain_settings settings = cc in
    subst GoTogether same (told_together uses prefixes h)

read_goes : (names : PlainNames) (uses : List PlainUse) (read : Result (List wire.Prefix) ℕ) (command : Command) → go_together uses ≡ true → run_by names uses read ≡ Ok (plain_command command) → SettingsGoTogether command
read_goes names uses (Err place) command h e = absurd (cc)
read_goes names uses (Ok prefixes) command h e = run_goes names uses prefixes command h (let same : run names (settings_of (λ choice. given choice uses) prefixes) ≡ plain_command command = cc in same)

tested_goes : (same many : Bool) (names : PlainNames) (uses : List PlainUse) (read : Result (List wire.Prefix) ℕ) (command : Command) → go_together uses ≡ true
    → (if same then Err Same else if many then Err TooMany else run_by names uses read) ≡ Ok (plain_command command) → SettingsGoTogether command
tested_goes true many names uses read command h e = absurd (cc)
tested_goes false true names uses read command h e = absurd (cc)
tested_goes false false names uses read command h e = read_goes names uses read command h e

named_goes : (uses : List PlainUse) (names : List Text) (command : Command) → go_together uses ≡ true → run_of (record { uses = uses; names = names }) ≡ Ok (plain_command command) → SettingsGoTogether command
named_goes uses [] command h e = absurd (cc)
named_goes uses (input ∷ []) command h e = absurd (cc)
named_goes uses (input ∷ output ∷ prefixes) command h e =
    tested_goes (bytes_eq input output) (nat_lt 16 (length prefixes)) (record { input = input; output = output }) uses (prefixes_from [] prefixes) command h e

pub line_goes : (line : PlainLine) (command : Command) → go_together line.uses ≡ true → run_of line ≡ Ok (plain_command command) → SettingsGoTogether command
line_goes line command h e = named_goes line.uses line.names command h e

-- A whole line is accepted, and the values found give the settings of its uses.

-- a whole line is accepted
pub line_is_taken : (words : List Text) (line : PlainLine) → IsWrittenAs words line → is_whole line ≡ true → takes run_command words ≡ true
line_is_taken words line e w =
    let h = whole_ends words line e w in
    let whole : walk run_rules [] nothing_held words ≡ at h.rows h.pending positional 3 = h.ends in
    let passes : walk_passes shape [] (walk_from nothing_held) words ≡ true = h.passes in
    let last : settle_passes run_rules true (at h.rows h.pending positional 3).held ≡ true = h.settles in
    simp (whole, passes, last)

-- ---- defaults

some_if : (b : Bool) (r : Row) (x : Option Row) (c : Bool) → is_some (option_map (λ r. r.values) x) ≡ c → is_some (option_map (λ r. r.values) (if b then Some r else x)) ≡ (b || c)
some_if true r x c e = refl
some_if false r x c e = e

found_if_row : (id : Text) (rows : List Row) → is_some (found id rows) ≡ has_row id rows
found_if_row id [] = refl
found_if_row id (r ∷ rs) = some_if (bytes_eq r.id id) r (find (λ r. bytes_eq r.id id) rs) (has_row id rs) (found_if_row id rs)

abbrev or_default : Option (List Text) → Option (List Text)
or_default f = Some (unwrap_or f (codes "false" ∷ []))

kept : (f : Option (List Text)) → is_some f ≡ true → f ≡ or_default f
kept None e = cc
kept (Some vs) e = refl

absent : (f : Option (List Text)) → is_some f ≡ false → f ≡ None
absent None e = refl
absent (Some vs) e = cc

abbrev or_absent : Bool → Option (List Text) → Option (List Text)
or_absent true f = f
or_absent false f = or_default f

-- these are the default values of an option that takes a value, or of one that takes none
abbrev is_default : Bool → List Text → Bool
is_default true [] = true
is_default false (d ∷ []) = bytes_eq d (codes "false")
is_default _ _ = false

default_here : (b t : Bool) (id : Text) (how : Reading) (ds : List Text) (rows : List Row) → is_default t ds ≡ true → has_row id rows ≡ b → found id (if b then rows else default_rows id how ds rows) ≡ or_absent t (found id rows)
default_here true true id how [] rows d e = refl
default_here false true id how [] rows d e = refl
default_here b true id how (x ∷ xs) rows d e = cc
default_here b false id how [] rows d e = cc
default_here b false id how (x ∷ y ∷ xs) rows d e = cc
default_here true false id how (x ∷ []) rows d e = kept (found id rows) (found_if_row id rows ∙ e)
default_here false false id how (x ∷ []) rows d e =
    let none : found id rows ≡ None = absent (found id rows) (found_if_row id rows ∙ e) in
    ap (found id) (at_absent id (more_values DefaultValue (x ∷ [])) _ rows none)
    ∙ found_same id rows _ (bytes_self id) none ∙ ap (λ v. Some (v ∷ [])) (same_bytes x (codes "false") d) ∙ ap or_default (sym none)

default_past : (b : Bool) (id other : Text) (how : Reading) (ds : List Text) (rows : List Row) → bytes_eq other id ≡ false → found id (if b then rows else default_rows other how ds rows) ≡ found id rows
default_past true id other how ds rows e = refl
default_past false id other how [] rows e = refl
default_past false id other how (d ∷ ds) rows e = values_other id other how DefaultValue (d ∷ ds) rows e

-- each argument of this id has these default values
abbrev all_default : Bool → Text → List Rule → Bool
all_default t id = list_all (λ r. not (bytes_eq r.id id) || is_default t r.defaults)

abbrev is_rule : Text → List Rule → Bool
is_rule id = list_any (λ r. bytes_eq r.id id)

or_absent_twice : (t b : Bool) (f : Option (List Text)) → or_absent (t || not b) (or_absent t f) ≡ or_absent t f
or_absent_twice true b f = refl
or_absent_twice false true None = refl
or_absent_twice false true (Some vs) = refl
or_absent_twice false false f = refl

defaults_of : (t : Bool) (id : Text) (rs : List Rule) (rows : List Row) → all_default t id rs ≡ true → found id (fold with_default rows rs) ≡ or_absent (t || not (is_rule id rs)) (found id rows)
defaults_of t id [] rows e = ap (λ b. or_absent b (found id rows)) (sym (or-true t))
defaults_of t id (r ∷ rs) rows e =
    let each = and_parts (not (bytes_eq r.id id) || is_default t r.defaults) (all_default t id rs) e in
    defaults_of t id rs (with_default rows r) each.1 ∙ by_id (bytes_eq r.id id) refl each.0
  where
    by_id : (b : Bool) → bytes_eq r.id id ≡ b → (not b || is_default t r.defaults) ≡ true → or_absent (t || not (is_rule id rs)) (found id (with_default rows r)) ≡ or_absent (t || not (b || is_rule id rs)) (found id rows)
    by_id true same d =
        ap (or_absent (t || not (is_rule id rs)))
        (ap (λ x. found id (if has_row x rows then rows else default_rows x (reading_by r) r.defaults rows)) (same_bytes r.id id same)
        ∙ default_here (has_row id rows) t id (reading_by r) r.defaults rows d refl)
        ∙ or_absent_twice t (is_rule id rs) (found id rows) ∙ ap (λ b. or_absent b (found id rows)) (sym (or-false t))
    by_id false other d = ap (or_absent (t || not (is_rule id rs))) (default_past (has_row r.id rows) id r.id (reading_by r) r.defaults rows other)

-- the default values of each option and each name
option_defaults : (c : Choice) → (all_default (takes_value (kind_of c)) (name_of c) run_rules ≡ true) × (is_rule (name_of c) run_rules ≡ true)
option_defaults Hops = (refl, refl)
option_defaults _ = (refl, refl)

defaults_found : (c : Choice) (rows : List Row) → found (name_of c) (fold with_default rows run_rules) ≡ or_absent (takes_value (kind_of c)) (found (name_of c) rows)
defaults_found c rows =
    let takes = takes_value (kind_of c) in
    defaults_of takes (name_of c) run_rules rows (option_defaults c).0
    ∙ ap (λ b. or_absent (takes || not b) (found (name_of c) rows)) (option_defaults c).1 ∙ ap (λ b. or_absent b (found (name_of c) rows)) (or-false takes)

-- ---- values

abbrev head_of : Option (List Text) → Option Text
head_of = option_and_then (λ vs. slice_get vs 0)

first_found : (r : Option Row) → option_and_then (λ (r : Row). slice_get r.values 0) r ≡ head_of (option_map (λ r. r.values) r)
first_found None = refl
first_found (Some r) = refl

-- the value found under an option with this value given
abbrev told : Bool → Option Text → Option Text
told takes given = head_of (or_absent takes (option_map (λ v. v ∷ []) given))

told_value : (g : Option Text) → told true g ≡ g
told_value None = refl
told_value (Some v) = refl

told_alone : (g : Option Text) → is_told (told false g) ≡ is_told g
told_alone None = refl
told_alone (Some v) = refl

value_found : (m : ArgMatches) (words : List Text) (line : PlainLine) → IsWrittenAs words line → is_whole line ≡ true → rows_of (found_of m) ≡ matches_of run_command words
    → (c : Choice) → value_in m c ≡ told (takes_value (kind_of c)) (given c line.uses)
value_found m words line e w rows_are c =
    let h = whole_ends words line e w in
    first_value-rows (found_of m) (name_of c)
    ∙ ap (first_of (name_of c)) rows_are
    ∙ first_found (find (λ r. bytes_eq r.id (name_of c)) (matches_of run_command words))
    ∙ ap (λ w. head_of (found (name_of c) (finished run_rules w.held))) h.ends
    ∙ ap head_of (defaults_found c (settled_rows run_rules h.pending h.rows))
    ∙ ap (λ f. head_of (or_absent (takes_value (kind_of c)) f)) (h.agrees c)

-- the values found and those given describe the same settings
same_told : (given : Choice → Option Text) (prefixes : List wire.Prefix) → settings_of (λ c. told (takes_value (kind_of c)) (given c)) prefixes ≡ settings_of given prefixes
same_told given prefixes = simp (told_value, told_alone)

line_tells : (m : ArgMatches) (words : List Text) (line : PlainLine) → IsWrittenAs words line → is_whole line ≡ true → rows_of (found_of m) ≡ matches_of run_command words → TellsAs m line.uses
line_tells m words line e w rows_are prefixes =
    let each : value_in m ≡ (λ c. told (takes_value (kind_of c)) (given c line.uses)) = λ i c. value_found m words line e w rows_are c i in
    ap (λ f. settings_of f prefixes) each ∙ same_told (λ c. given c line.uses) prefixes

-- ---- names

-- a name has no default
first_name : (m : ArgMatches) (words : List Text) (rows : List Row) (id value : Text) → rows_of (found_of m) ≡ matches_of run_command words → matches_of run_command words ≡ fold with_default rows run_rules
    → found id (fold with_default rows run_rules) ≡ found id rows → found id rows ≡ Some (value ∷ []) → first_value (found_of m) id ≡ Some value
first_name m words rows id value rows_are ends default is =
    first_value-rows (found_of m) id
    ∙ ap (first_of id) (rows_are ∙ ends)
    ∙ first_found (find (λ r. bytes_eq r.id id) (fold with_default rows run_rules))
    ∙ ap head_of (default ∙ is)

names_by : (m : ArgMatches) (words : List Text) (rows : List Row) (names : List Text) → nat_le 3 (length names) ≡ true → rows_of (found_of m) ≡ matches_of run_command words → matches_of run_command words ≡ fold with_default rows run_rules → HasNames names rows → NamesAre m names
names_by m words rows [] l rows_are ends h = cc
names_by m words rows (a ∷ []) l rows_are ends h = cc
names_by m words rows (a ∷ b ∷ prefixes) l rows_are ends h = (
  first_name m words rows (codes "in") a rows_are ends (defaults_of true (codes "in") run_rules rows refl) h.0,
  first_name m words rows (codes "out") b rows_are ends (defaults_of true (codes "out") run_rules rows refl) h.1,
  raw_values-rows (found_of m) (codes "prefix") ∙ ap (all_of (codes "prefix")) (rows_are ∙ ends) ∙ defaults_of true (codes "prefix") run_rules rows refl ∙ h.2,
)

pub line_reads : (m : ArgMatches) (words : List Text) (line : PlainLine) → IsWrittenAs words line → is_whole line ≡ true → rows_of (found_of m) ≡ matches_of run_command words → ReadsAs m line
line_reads m words line e w rows_are =
    let h = whole_ends words line e w in
    let ends : matches_of run_command words ≡ fold with_default (settled_rows run_rules h.pending h.rows) run_rules = ap (λ w. finished run_rules w.held) h.ends in
    let enough = (and_parts (nat_le 3 (length line.names)) (list_all is_name line.names) (and_parts (nat_le 3 (length line.names) && list_all is_name line.names) (go_together line.uses) w).0).0 in
    (line_tells m words line e w rows_are, names_by m words (settled_rows run_rules h.pending h.rows) line.names enough rows_are ends h.has_names)

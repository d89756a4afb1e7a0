-- The clap commands that parse a command line (this project's profile).
use Rattle.std.specs.Prelude.{◌≡◌, ◌&&◌, Bool, List, [], ◌∷◌, Some, map, fold, codes, true, false}
use Rattle.clap.specs.Walk.{Rule}
use Rattle.clap.specs.Simple.{App, new_app, new_rule, with_rule, on_top}
use Rattle.clap.specs.Matches.{found_of, first_value}
use Rattle.clap.specs.declared.builder.action.ArgAction.TheVariants.{SetTrue, Append}
use Rattle.clap.specs.declared.parser.matches.ArgMatches.{ArgMatches}
use Rattle.norm_settings.specs.OptionTable.{Text, name_of, kind_of, all_choices, is_name}
use Rattle.norm_settings.specs.declared.options.Choice.{Choice}
use Rattle.norm_settings.specs.declared.options.Kind.{Kind}
use Rattle.norm_settings.specs.declared.options.Kind.TheVariants.{Alone}

-- two words, none of them empty and none beginning with `-`
abbrev pub is_pair : List Text → Bool
is_pair (first ∷ second ∷ []) = is_name first && is_name second
is_pair _ = false

-- the words found as SEED and COUNT are these
abbrev pub ReadsPair : ArgMatches → List Text → Type 0
ReadsPair matches (seed ∷ count ∷ []) =
    (first_value (found_of matches) (codes "seed") ≡ Some seed) × (first_value (found_of matches) (codes "count") ≡ Some count)
ReadsPair matches _ = ⊥

-- the clap argument of an option of this kind and name
abbrev pub rule_by : Kind → Text → Rule
rule_by Alone name = record (new_rule name) { long = Some name; action = Some SetTrue }
rule_by _ name = record (new_rule name) { long = Some name }

-- the clap argument of an option of the table
abbrev pub rule_for : Choice → Rule
rule_for choice = rule_by (kind_of choice) (name_of choice)

-- the clap arguments of the names: IN, OUT, and PREFIX, which may be given several times
abbrev pub input_rule : Rule
input_rule = new_rule (codes "in")

abbrev pub output_rule : Rule
output_rule = new_rule (codes "out")

abbrev pub prefix_rule : Rule
prefix_rule = record (new_rule (codes "prefix")) { action = Some Append }

-- the clap command without arguments: no program name before the words, no help option, and a
-- repeated option overrides the one before
abbrev pub bare : App
bare = on_top (λ s. record s { no_binary_name = true; disable_help_flag = true; args_override_self = true }) (new_app (codes "norm"))

-- the clap command for the words of a run, before it is built: an argument for each option, and
-- then the names
abbrev pub run_command : App
run_command = with_rule (with_rule (with_rule (fold with_rule bare (map rule_for all_choices)) input_rule) output_rule) prefix_rule

-- the clap arguments of a load
abbrev pub seed_rule : Rule
seed_rule = new_rule (codes "seed")

abbrev pub count_rule : Rule
count_rule = new_rule (codes "count")

-- the clap command for the words of a load, before it is built
abbrev pub load_command : App
load_command = with_rule (with_rule bare seed_rule) count_rule

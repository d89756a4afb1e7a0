-- The values that clap finds in a command line (this project's profile).
use Rattle.std.specs.Prelude.{◌≡◌, List, ◌∷◌, Option, Some, option_map, codes}
use Rattle.clap.specs.Matches.{found_of, first_value, matched_of, raw_values}
use Rattle.clap.specs.declared.parser.matches.ArgMatches.{ArgMatches}
use Rattle.wire_base.specs.declared.address.Prefix.{Prefix}
use Rattle.norm_settings.specs.OptionTable.{Text, name_of}
use Rattle.norm_settings.specs.RunWords.{PlainUse, PlainLine, given}
use Rattle.norm_settings.specs.SettingValues.{settings_of}
use Rattle.norm_settings.specs.declared.options.Choice.{Choice}

-- the value found for an option
abbrev pub value_in : ArgMatches → Choice → Option Text
value_in matches choice = first_value (found_of matches) (name_of choice)

-- the values found give the same settings as the uses
abbrev pub TellsAs : ArgMatches → List PlainUse → Type 0
TellsAs matches uses = (prefixes : List Prefix) → settings_of (value_in matches) prefixes ≡ settings_of (λ choice. given choice uses) prefixes

-- the words found as IN, OUT and PREFIX are these
abbrev pub NamesAre : ArgMatches → List Text → Type 0
NamesAre matches (input ∷ output ∷ prefixes) =
    (first_value (found_of matches) (codes "in") ≡ Some input) × (first_value (found_of matches) (codes "out") ≡ Some output)
    × (option_map raw_values (matched_of (found_of matches) (codes "prefix")) ≡ Some prefixes)
NamesAre matches _ = ⊥

-- the values and names found are those of the line
abbrev pub ReadsAs : ArgMatches → PlainLine → Type 0
ReadsAs matches line = TellsAs matches line.uses × NamesAre matches line.names

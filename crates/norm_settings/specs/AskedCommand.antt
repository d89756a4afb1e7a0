-- The command of a list of words (this project's profile). A word is the list of its octets.
use Rattle.std.specs.Prelude.{ℕ, ◌+◌, ◌&&◌, ◌||◌, not, nat_lt, nat_le, Bool, List, [], ◌∷◌, ◌++◌, length, Option, Some, None, is_some, Result, Ok, Err, codes, string_bytes, if◌then◌else◌}
use Rattle.std.specs.List.{list_all}
use Rattle.std.specs.Str.{bytes_eq}
use Rattle.wire_base.specs.declared.address.Prefix as wire
use Rattle.wire_base.specs.Prefixes.{prefix_of}
use Rattle.norm_settings.specs.OptionTable.{Text, is_name, number_within}
use Rattle.norm_settings.specs.RunWords.{PlainUse, PlainLine, given, line_of}
use Rattle.norm_settings.specs.declared.options.Choice.TheVariants.{Inside, Mtu, Both}
use Rattle.norm_settings.specs.SettingValues.{PlainSettings, plain_settings, settings_of, AreInRange, GoTogether}
use Rattle.norm_settings.specs.declared.command.Names.{Names}
use Rattle.norm_settings.specs.declared.command.Command.{Command}
use Rattle.norm_settings.specs.declared.command.Command.TheVariants.{Run, Load}
use Rattle.norm_settings.specs.declared.fault.WordFault.{WordFault}
use Rattle.norm_settings.specs.declared.fault.WordFault.TheVariants.{Refused, Prefix, TooMany, Same}

-- the names of a run's files as lists of octets
pub record PlainNames : Type 0 where
  pub input : List ℕ
  pub output : List ℕ

-- names of the code, over plain values
abbrev pub plain_names : Names → PlainNames
plain_names n = record { input = string_bytes n.input; output = string_bytes n.output }

-- a command over plain names and settings
pub data PlainCommand : Type 0 where
  run : PlainNames → PlainSettings → PlainCommand
  load : (seed count : ℕ) → PlainCommand

-- a command of the code, over plain values
abbrev pub plain_command : Command → PlainCommand
plain_command (Run names settings) = run (plain_names names) (plain_settings settings)
plain_command (Load seed count) = load seed count

-- the prefixes of words after those of `done`, or the position of the first malformed one, counted
-- from 1
abbrev pub prefixes_from : List wire.Prefix → List Text → Result (List wire.Prefix) ℕ
prefixes_from done [] = Ok done
prefixes_from done (word ∷ words) =
    elim (prefix_of word) [ Ok prefix ↦ prefixes_from (done ++ prefix ∷ []) words | Err _ ↦ Err (length done + 1) ]

-- the options do not conflict: `--both` is given neither with `--inside` nor with `--mtu`
abbrev pub go_together : List PlainUse → Bool
go_together uses = not (is_some (given Both uses) && (is_some (given Inside uses) || is_some (given Mtu uses)))

-- at least three names, none of them empty and none beginning with `-`, after options that do not
-- conflict
abbrev pub is_whole : PlainLine → Bool
is_whole line = nat_le 3 (length line.names) && list_all is_name line.names && go_together line.uses

-- the run with these prefixes, or the fault with the position of the first malformed prefix
abbrev pub run_by : PlainNames → List PlainUse → Result (List wire.Prefix) ℕ → Result PlainCommand WordFault
run_by names uses (Ok prefixes) = Ok (run names (settings_of (λ choice. given choice uses) prefixes))
run_by names uses (Err place) = Err (Prefix place)

-- the run of a line, or its first fault: both file names are the same, more than 16 prefixes, a
-- malformed prefix
abbrev pub run_of : PlainLine → Result PlainCommand WordFault
run_of line =
    elim line.names [
      | input ∷ output ∷ prefixes ↦ (
          if bytes_eq input output then Err Same
          else if nat_lt 16 (length prefixes) then Err TooMany
          else run_by (record { input = input; output = output }) line.uses (prefixes_from [] prefixes)
          )
      | _ ↦ Err Refused
    ]

-- the run of a line; Refused if there is no line or it is not whole
abbrev pub asked_run : Option PlainLine → Result PlainCommand WordFault
asked_run None = Err Refused
asked_run (Some line) = if is_whole line then run_of line else Err Refused

-- a load of a seed and a number of records; Refused if one of them is missing
abbrev pub load_by : Option ℕ → Option ℕ → Result PlainCommand WordFault
load_by (Some seed) (Some count) = Ok (load seed count)
load_by _ _ = Err Refused

-- the load of the words after `load`
abbrev pub asked_load : List Text → Result PlainCommand WordFault
asked_load (seed ∷ count ∷ []) = load_by (number_within 0 18446744073709551615 seed) (number_within 1 1000000 count)
asked_load _ = Err Refused

-- the command of words: `run`, options, two names and prefixes; or `load` and two numbers
abbrev pub asked : List Text → Result PlainCommand WordFault
asked [] = Err Refused
asked (verb ∷ words) =
    if bytes_eq verb (codes "run") then asked_run (line_of words)
    else if bytes_eq verb (codes "load") then asked_load words
    else Err Refused

-- the settings of a run are in their ranges
abbrev pub SettingsAreInRange : Command → Type 0
SettingsAreInRange (Run names settings) = AreInRange (plain_settings settings)
SettingsAreInRange (Load seed count) = Unit {0}

-- the settings of a run do not conflict
abbrev pub SettingsGoTogether : Command → Type 0
SettingsGoTogether (Run names settings) = GoTogether (plain_settings settings)
SettingsGoTogether (Load seed count) = Unit {0}

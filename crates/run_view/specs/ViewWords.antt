-- The words of `normview` (this project's profile): options, each at most once, and then the names
-- of three files. A word is the list of its octets.
use Rattle.std.specs.Prelude.{ℕ, ◌==◌, ◌&&◌, not, get_or, slice_set, replicate, Bool, true, false, List, [], ◌∷◌, Option, Some, None, option_map, codes, if◌then◌else◌}
use Rattle.std.specs.List.{list_any, slice_split}
use Rattle.std.specs.Result.{result_ok}
use Rattle.std.specs.Str.{bytes_eq}
use Rattle.norm_settings.specs.OptionTable.{Text, is_name, number_within}
use Rattle.norm_settings.specs.RunWords.{after_front, begins_with_dash}
use Rattle.rule_book.specs.Rules.{rule_named, rule_number}
use Rattle.rule_book.specs.declared.entry.Verdict.{Verdict}
use Rattle.rule_book.specs.declared.entry.Verdict.TheVariants.{Pass, Fix, Hold, Drop}
use Rattle.wire_base.specs.declared.address.Side.{Side}
use Rattle.wire_base.specs.declared.address.Side.TheVariants.{Inward, Outward}
use Rattle.wire_base.specs.declared.address.Prefix.{Prefix}
use Rattle.wire_base.specs.Prefixes.{after, before, prefix_of_parts}
use Rattle.run_view.specs.ChosenRecords.{has_choice, side_place, verdict_place}
use Rattle.run_view.specs.declared.words.Asked.{Asked}
use Rattle.run_view.specs.declared.words.Choice.{Choice}
use Rattle.run_view.specs.declared.words.Choice.TheVariants.{ByTable, ByRule, ByEra, ByVerdict, BySide, ByHost}
use Rattle.run_view.specs.declared.words.EraAsked.{EraAsked}
use Rattle.run_view.specs.declared.words.Mark.{Mark}
use Rattle.run_view.specs.declared.words.Mark.TheVariants.{AsJson, AsNotes, AsEvidence, AsSummary}
use Rattle.run_view.specs.declared.words.Print.{Print}
use Rattle.run_view.specs.declared.words.Print.TheVariants as prints

-- nothing is asked for
abbrev pub nothing_asked : Asked
nothing_asked = record { print = prints.Text; rules = None; era = None; verdicts = None; sides = None; host = None; evidence = false; summary = false }

-- the options with a value, in the order of the table
abbrev pub all_choices : List Choice
all_choices = ByTable ∷ ByRule ∷ ByEra ∷ ByVerdict ∷ BySide ∷ ByHost ∷ []

-- their names
abbrev pub name_of : Choice → Text
name_of ByTable = codes "--table"
name_of ByRule = codes "--rule"
name_of ByEra = codes "--era"
name_of ByVerdict = codes "--only"
name_of BySide = codes "--side"
name_of ByHost = codes "--host"

-- the verdict of a word, and the side
abbrev pub verdict_named : Text → Option Verdict
verdict_named word =
    if bytes_eq word (codes "drop") then Some Drop
    else if bytes_eq word (codes "fix") then Some Fix
    else if bytes_eq word (codes "hold") then Some Hold
    else if bytes_eq word (codes "pass") then Some Pass
    else None

abbrev pub side_named : Text → Option (Option Side)
side_named word =
    if bytes_eq word (codes "in") then Some (Some Inward)
    else if bytes_eq word (codes "out") then Some (Some Outward)
    else if bytes_eq word (codes "-") then Some None
    else None

-- the place of a name in the list of a choice: the number of a rule, or the place of a verdict or
-- side
abbrev pub place_named : Choice → Text → Option ℕ
place_named ByRule name = option_map rule_number (rule_named name)
place_named ByVerdict name = option_map verdict_place (verdict_named name)
place_named BySide name = option_map side_place (side_named name)
place_named choice name = None

-- no names are listed
abbrev pub no_names : List Bool
no_names = replicate 64 false

-- one more name, at this place; none is listed twice
abbrev pub with_place : List Bool → Option ℕ → Option (List Bool)
with_place names None = None
with_place names (Some place) = if get_or names place false then None else Some (slice_set names place true)

-- more names in turn
abbrev pub with_names_of : Choice → List Bool → List Text → Option (List Bool)
with_names_of choice names [] = Some names
with_names_of choice names (name ∷ more) = elim (with_place names (place_named choice name)) [
  | Some next ↦ with_names_of choice next more
  | None ↦ None
]

-- the names of a list, between commas (44)
abbrev pub listed : Choice → Text → Option (List Bool)
listed choice value = with_names_of choice no_names (slice_split (λ octet. octet == 44) value)

-- the number of an era of an engine, which has 32 bits and is not 0
abbrev pub era_numbered : (second : Bool) → Text → Option EraAsked
era_numbered second value = option_map (λ n. record { second = second; number = n }) (number_within 1 4294967295 value)

abbrev pub era_named : Text → Option EraAsked
era_named value = elim (after_front (codes "second:") value) [ Some number ↦ era_numbered true number | None ↦ era_numbered false value ]

-- an address, which is the prefix of its 32 bits, or a prefix, which has a slash (47)
abbrev pub host_named : Text → Option Prefix
host_named value =
    let second = after 46 value in
    let third = after 46 second in
    let fourth = after 46 third in
    result_ok
    (prefix_of_parts (before 46 value) (before 46 second) (before 46 third) (before 47 fourth)
    (if list_any (λ octet. octet == 47) fourth then after 47 fourth else codes "32"))

-- a table of records or of eras
abbrev pub table_named : Text → Option Print
table_named word =
    if bytes_eq word (codes "records") then Some prints.Records
    else if bytes_eq word (codes "eras") then Some prints.Eras
    else None

-- what is printed where both are asked for: notes go with JSON, and else nothing goes with anything
-- but text
abbrev pub both_printed : (first second : Print) → Option Print
both_printed prints.Text print = Some print
both_printed prints.Json prints.Notes = Some prints.JsonNotes
both_printed prints.Notes prints.Json = Some prints.JsonNotes
both_printed first second = None

-- what is printed; none is asked for twice
abbrev pub with_print : Asked → Option Print → Option Asked
with_print asked None = None
with_print asked (Some print) = option_map (λ both. record asked { print = both }) (both_printed asked.print print)

-- the value given for a condition; None if there is no value, or if one was given before
abbrev pub once : {T : Type 0} → (before given : Option T) → Option T
once None given = given
once (Some before) given = None

-- one more option with this value; None if the value is none of this option, or the option does not
-- go with those before
abbrev pub with_choice : Choice → Asked → (value : Text) → Option Asked
with_choice ByTable asked value = with_print asked (table_named value)
with_choice ByRule asked value = option_map (λ names. record asked { rules = Some names }) (once asked.rules (listed ByRule value))
with_choice ByEra asked value = option_map (λ era. record asked { era = Some era }) (once asked.era (era_named value))
with_choice ByVerdict asked value = option_map (λ names. record asked { verdicts = Some names }) (once asked.verdicts (listed ByVerdict value))
with_choice BySide asked value = option_map (λ names. record asked { sides = Some names }) (once asked.sides (listed BySide value))
with_choice ByHost asked value = option_map (λ prefix. record asked { host = Some prefix }) (once asked.host (host_named value))

-- one more option without a value; None if it was given before, or does not go with those before
abbrev pub with_mark : Mark → Asked → Option Asked
with_mark AsJson asked = with_print asked (Some prints.Json)
with_mark AsNotes asked = with_print asked (Some prints.Notes)
with_mark AsEvidence asked = if asked.evidence then None else Some (record asked { evidence = true })
with_mark AsSummary asked = if asked.summary then None else Some (record asked { summary = true })

-- what a word is: an option without a value, an option with its value after `=`, an option whose
-- value is the next word, the first of the names, or none of these
pub data Word : Type 0 where
  marked : Mark → Word
  joined : Choice → Text → Word
  parted : Choice → Word
  name : Word
  unknown : Word

-- the word is `--json`
abbrev pub is_json : Text → Bool
is_json word = bytes_eq word (codes "--json")

-- the option with the text after its name: nothing, or `=` (61) and a value; None if it is neither
abbrev pub word_by : Choice → Option Text → Option Word
word_by choice None = None
word_by choice (Some []) = Some (parted choice)
word_by choice (Some (octet ∷ value)) = if octet == 61 then Some (joined choice value) else None

-- the first option that the word uses
abbrev pub word_in : List Choice → Text → Word
word_in [] word = unknown
word_in (choice ∷ choices) word = elim (word_by choice (after_front (name_of choice) word)) [ Some met ↦ met | None ↦ word_in choices word ]

-- the option without a value of this name
abbrev pub mark_named : Text → Option Mark
mark_named word =
    if is_json word then Some AsJson
    else if bytes_eq word (codes "--notes") then Some AsNotes
    else if bytes_eq word (codes "--evidence") then Some AsEvidence
    else if bytes_eq word (codes "--summary") then Some AsSummary
    else None

-- a word that begins with `-` (45) is an option, or none
abbrev pub word_of : Text → Word
word_of word =
    if begins_with_dash word
    then elim (mark_named word) [ Some mark ↦ marked mark | None ↦ word_in all_choices word ]
    else name

-- a table of all eras has no conditions, and neither have notes; a summary is of a text or of JSON
abbrev pub go_together : Asked → Bool
go_together asked = elim asked.print [
  | prints.Text ↦ true
  | prints.Json ↦ true
  | prints.Records ↦ not asked.summary
  | prints.Eras ↦ not (has_choice asked) && not asked.summary
  | prints.Notes ↦ not (has_choice asked) && not asked.summary
  | prints.JsonNotes ↦ not (has_choice asked) && not asked.summary
]

-- three names, none of them empty and none beginning with `-`
abbrev pub with_names : Asked → List Text → Option Asked
with_names asked (input ∷ output ∷ report ∷ []) =
    if is_name input && is_name output && is_name report && go_together asked then Some asked else None
with_names asked _ = None

-- a word after an option that waits for its value is that value
abbrev pub next_word : (waiting : Option Choice) → Text → Word
next_word (Some choice) word = joined choice word
next_word None word = word_of word

-- what words ask for, with what others before them asked for; if an option waits for its value, the
-- first of them is that value
abbrev pub asked_from : (waiting : Option Choice) → Asked → List Text → Option Asked
asked_from waiting asked [] = None
asked_from waiting asked (word ∷ words) =
    elim (next_word waiting word) [
      | marked mark ↦ elim (with_mark mark asked) [ Some more ↦ asked_from None more words | None ↦ None ]
      | joined choice value ↦ elim (with_choice choice asked value) [ Some more ↦ asked_from None more words | None ↦ None ]
      | parted choice ↦ asked_from (Some choice) asked words
      | name ↦ with_names asked (word ∷ words)
      | unknown ↦ None
    ]

-- what the words ask for, where they are accepted
abbrev pub asked_in : List Text → Option Asked
asked_in words = asked_from None nothing_asked words

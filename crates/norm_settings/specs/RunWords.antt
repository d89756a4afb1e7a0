-- The words of a run (this project's profile): options, and then the names. A word is the list of
-- its octets.
use Rattle.std.specs.Prelude.{◌==◌, ◌&&◌, not, Bool, true, false, List, [], ◌∷◌, ◌++◌, Option, Some, None, is_some, option_map, codes, if◌then◌else◌}
use Rattle.std.specs.Str.{bytes_eq}
use Rattle.norm_settings.specs.OptionTable.{Text, name_of, kind_of, all_choices, takes_value, is_value}
use Rattle.norm_settings.specs.declared.options.Choice.{Choice}

-- the kind of a word before IN: the first of the names; an option without a value, with its value,
-- or with its value in the next word; or unknown
pub data Word : Type 0 where
  names : Word
  alone : Choice → Word
  joined : Choice → Text → Word
  parted : Choice → Word
  unknown : Word

-- the text after this front, or None if it does not begin with it
abbrev pub after_front : (front text : Text) → Option Text
after_front [] text = Some text
after_front (c ∷ front) [] = None
after_front (c ∷ front) (x ∷ text) = if x == c then after_front front text else None

-- the option with the text after its name: nothing, or `=` (61) and a value; None if it is neither
abbrev pub word_by : Choice → Option Text → Option Word
word_by choice None = None
word_by choice (Some []) = Some (if takes_value (kind_of choice) then parted choice else alone choice)
word_by choice (Some (x ∷ value)) = if x == 61 && takes_value (kind_of choice) then Some (joined choice value) else None

-- the option, if the text after `--` is a use of it
abbrev pub word_as : Choice → Text → Option Word
word_as choice text = word_by choice (after_front (name_of choice) text)

-- the first option that the text after `--` uses
abbrev pub word_in : List Choice → Text → Word
word_in [] text = unknown
word_in (choice ∷ choices) text = elim (word_as choice text) [ Some word ↦ word | None ↦ word_in choices text ]

-- the word begins with `-` (45)
abbrev pub begins_with_dash : Text → Bool
begins_with_dash [] = false
begins_with_dash (first ∷ _) = first == 45

-- the option of the text after `--`; unknown if the word does not begin with `--`
abbrev pub option_in : Option Text → Word
option_in None = unknown
option_in (Some text) = word_in all_choices text

-- the kind of a word before IN: an option or unknown if it begins with `-`, else the first of the
-- names
abbrev pub word_of : Text → Word
word_of text = if begins_with_dash text then option_in (after_front (codes "--") text) else names

-- a use of an option with its value, which is `true` for an option without a value
pub record PlainUse : Type 0 where
  pub choice : Choice
  pub value : Text

-- the value of an option in the uses; None if it is not used
abbrev pub given : Choice → List PlainUse → Option Text
given choice [] = None
given choice (u ∷ uses) = if bytes_eq (name_of u.choice) (name_of choice) then Some u.value else given choice uses

-- the option may be used with this value after these uses: the value fits, and the option was not
-- used before
abbrev pub may_use : Choice → Text → List PlainUse → Bool
may_use choice value uses = is_value (kind_of choice) value && not (is_some (given choice uses))

-- a line: the uses of options, and the words from IN on
pub record PlainLine : Type 0 where
  pub uses : List PlainUse
  pub names : List Text

-- the kind of the next word: the value of the option that waits for one, if there is such an option
abbrev pub next_word : Option Choice → Text → Word
next_word (Some choice) text = joined choice text
next_word None text = word_of text

-- the line with one more use before the others
abbrev pub with_use : Choice → Text → Option PlainLine → Option PlainLine
with_use choice value = option_map (λ line. record { uses = record { choice = choice; value = value } ∷ line.uses; names = line.names })

-- the uses in the words, and the words from the first of the names on; the first argument is the
-- option that waits for its value, if any. None if a word before the names is no option, or the
-- last option has no value
abbrev pub parts : Option Choice → List Text → Option PlainLine
parts (Some choice) [] = None
parts None [] = Some (record { uses = []; names = [] })
parts waiting (text ∷ words) =
    elim (next_word waiting text) [
      | names ↦ Some (record { uses = []; names = text ∷ words })
      | alone choice ↦ with_use choice (codes "true") (parts None words)
      | joined choice value ↦ with_use choice value (parts None words)
      | parted choice ↦ parts (Some choice) words
      | unknown ↦ None
    ]

-- each of the uses, after those of `before`, is the first one of its option, and its value fits
abbrev pub are_fit : (before uses : List PlainUse) → Bool
are_fit before [] = true
are_fit before (u ∷ uses) = may_use u.choice u.value before && are_fit (before ++ u ∷ []) uses

-- the line, if its uses fit
abbrev pub fit_line : Option PlainLine → Option PlainLine
fit_line None = None
fit_line (Some line) = if are_fit [] line.uses then Some line else None

-- the line that the words after `run` are; None unless each option is given at most once and its
-- value fits
abbrev pub line_of : List Text → Option PlainLine
line_of words = fit_line (parts None words)

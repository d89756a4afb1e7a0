-- The eras that a report names (this project's profile).
use Rattle.std.specs.Prelude.{ℕ, ◌==◌, List, [], ◌∷◌, ◌++◌, map, if◌then◌else◌}
use Rattle.std.specs.List.{flat_map, list_any}
use Rattle.std.specs.Option.{option_to_list}
use Rattle.rule_book.specs.Entries.{PlainEntry}
use Rattle.rule_book.specs.declared.entry.Ended.{Ended}

-- the numbers of ended eras
abbrev pub numbers_of : List Ended → List ℕ
numbers_of ended = map (λ (e : Ended). e.era) ended

-- the numbers of the eras that an entry names after `@`, `+` and `-`, in the order of the line
abbrev pub named_in : PlainEntry → List ℕ
named_in entry = option_to_list entry.era ++ option_to_list entry.begun ++ numbers_of entry.ended

-- the numbers with one more at the end, unless it is among them
abbrev pub noted : List ℕ → ℕ → List ℕ
noted numbers number = if list_any (λ other. number == other) numbers then numbers else numbers ++ number ∷ []

-- the numbers with more at the end, each once
abbrev pub all_noted : List ℕ → List ℕ → List ℕ
all_noted numbers [] = numbers
all_noted numbers (number ∷ more) = all_noted (noted numbers number) more

-- the different eras that entries name, in the order of their first names
abbrev pub eras_named : List PlainEntry → List ℕ
eras_named entries = all_noted [] (flat_map named_in entries)

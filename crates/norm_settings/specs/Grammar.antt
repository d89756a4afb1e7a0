-- The grammar of the words of a run (this project's profile).
use Rattle.std.specs.Prelude.{◌≡◌, List, [], ◌∷◌, ◌++◌, true, false, codes}
use Rattle.norm_settings.specs.OptionTable.{Text, name_of, kind_of, takes_value}
use Rattle.norm_settings.specs.RunWords.{PlainUse, PlainLine, are_fit, begins_with_dash}

-- a use is written `--name=value`, `--name value`, or for an option without a value `--name`
pub data IsWritten (u : PlainUse) (words : List Text) : Type 0 where
  by_sign : takes_value (kind_of u.choice) ≡ true → words ≡ (45 ∷ 45 ∷ (name_of u.choice ++ 61 ∷ u.value)) ∷ [] → IsWritten u words
  by_word : takes_value (kind_of u.choice) ≡ true → words ≡ (45 ∷ 45 ∷ name_of u.choice) ∷ u.value ∷ [] → IsWritten u words
  by_name : takes_value (kind_of u.choice) ≡ false → u.value ≡ codes "true" → words ≡ (45 ∷ 45 ∷ name_of u.choice) ∷ [] → IsWritten u words

-- the words are these uses, each written in one of these forms, and then the names
abbrev pub IsLine : List PlainUse → (words line : List Text) → Type 0
IsLine [] words line = words ≡ line
IsLine (u ∷ uses) words line = (front : List Text) × (rest : List Text) × (words ≡ front ++ rest) × IsWritten u front × IsLine uses rest line

-- the first of the names does not begin with `-`
abbrev pub BeginPlain : List Text → Type 0
BeginPlain [] = Unit {0}
BeginPlain (name ∷ _) = begins_with_dash name ≡ false

-- the words are written as this line: its uses and then its names, each option is used once and
-- with a value that fits, and the first name does not begin with `-`
pub record IsWrittenAs (words : List Text) (line : PlainLine) : Type 0 where
  pub written : IsLine line.uses words line.names
  pub fits : are_fit [] line.uses ≡ true
  pub plain : BeginPlain line.names

-- The text of the summary of a load (this project's profile): lines, each with a line feed (10) at
-- its end.
use Rattle.std.specs.Prelude.{ℕ, List, [], ◌∷◌, ◌++◌, codes, decimal}
use Rattle.rule_book.specs.declared.load.LoadLine.{LoadLine}
use Rattle.rule_book.specs.declared.load.LoadLine.TheVariants.{Load, Records, Packets, Eras, Rule, End}
use Rattle.rule_book.specs.Rules.{rule_name}
use Rattle.rule_book.specs.Text.{part}

-- a line: its word and its values, each value after a space
abbrev pub load_text : LoadLine → List ℕ
load_text (Load seed count) = codes "load" ++ part (decimal seed) ++ part (decimal count) ++ 10 ∷ []
load_text (Records number) = codes "records" ++ part (decimal number) ++ 10 ∷ []
load_text (Packets number) = codes "packets" ++ part (decimal number) ++ 10 ∷ []
load_text (Eras number) = codes "eras" ++ part (decimal number) ++ 10 ∷ []
load_text (Rule rule count) = codes "rule" ++ part (rule_name rule) ++ part (decimal count) ++ 10 ∷ []
load_text End = codes "end" ++ 10 ∷ []

-- A word that is not UTF-8 shows that not each word of its text is.
use Rattle.std.proofs.Common.{◌≡◌, ◌<◌, ◌≤◌, ◌+◌, ◌∙◌, ℕ, List, [], ◌∷◌, ◌++◌, All, ap, drop, get_or, length, sym, subst}
use Rattle.std.proofs.lemmas.List.{at_drop_more, drop_all}
use Rattle.std.proofs.lemmas.List.Elements.{All-head, All-tail}
use Rattle.std.specs.Str.{IsUtf8}
use Rattle.norm_settings.specs.OptionTable.{Text}
use Rattle.norm_c.specs.Opening.{words_from, words_in}
use Rattle.norm_c.specs.working.Openings.{ExplainsWord, ExplainsWords}
use Rattle.norm_c.specs.declared.opening.OpenFault.{OpenFault}
use Rattle.norm_c.specs.declared.opening.OpenFault.TheVariants.{NoMemory, NoRun, Unfit}

pub all_at : {X : Type 0} (P : X → Type 0) (xs : List X) (y : X) (ys : List X) → All P (xs ++ y ∷ ys) → P y
all_at P [] y ys all = All-head P y ys all
all_at P (x ∷ xs) y ys all = all_at P xs y ys (All-tail P x (xs ++ y ∷ ys) all)

pub explained : (text : List ℕ) (before : List Text) (word : Text) (after : List Text) (fault : OpenFault)
    → before ++ word ∷ after ≡ words_in text → ExplainsWord word fault → ExplainsWords text fault
explained text before word after NoMemory split why = tt
explained text before word after NoRun split why = λ all. why (all_at IsUtf8 before word after (subst (All IsUtf8) (sym split) all))
explained text before word after Unfit split why = why

from_space : (word : Text) (octet : ℕ) (rest : List ℕ) → octet ≡ 32 → words_from word (octet ∷ rest) ≡ word ∷ words_from [] rest
from_space word octet rest is = ap (λ o. words_from word (o ∷ rest)) is

-- a word that ends at this space, and the words after it
pub ended : (text : List ℕ) (before : List Text) (word : Text) (i : ℕ) → i < length text → get_or text i 0 ≡ 32
    → before ++ words_from word (drop i text) ≡ words_in text → before ++ word ∷ words_from [] (drop (i + 1) text) ≡ words_in text
ended text before word i within is all =
    ap (λ (ws : List Text). before ++ ws) (sym (at_drop_more (words_from word) text i 0 within ∙ from_space word (get_or text i 0) (drop (i + 1) text) is)) ∙ all

-- a word that ends with the text
pub last : (text : List ℕ) (before : List Text) (word : Text) (i : ℕ) → length text ≤ i
    → before ++ words_from word (drop i text) ≡ words_in text → before ++ word ∷ [] ≡ words_in text
last text before word i past all = ap (λ (rest : List ℕ). before ++ words_from word rest) (sym (drop_all i text past)) ∙ all

-- The conditions of a view: the names of a list, one by one, and that accepted words give no
-- condition where none is of use.
use Rattle.std.proofs.Common.{◌≡◌, ℕ, suc, ◌+◌, ◌-◌, ◌≤◌, ◌==◌, nat_eq, nat_le, cond, ltb, not, Bool, true, false, List, [], ◌∷◌, length, take, drop, Option, Some, None, refl, sym, ap, ◌∙◌, arith, if◌then◌else◌, ◌&&◌}
use Rattle.std.specs.List.{onto_first, position_or_len, slice_split}
use Rattle.std.proofs.lemmas.List.{drop-drop, length-drop}
use Rattle.run_view.specs.ViewWords.{place_named, with_names_of, with_place, Word, asked_from, go_together, joined, marked, name, next_word, nothing_asked, parted, unknown, with_choice, with_mark, with_names}
use Rattle.run_view.specs.declared.words.Choice.{Choice}
use Rattle.norm_settings.specs.OptionTable.{Text, is_name}
use Rattle.run_view.specs.ChosenRecords.{has_choice}
use Rattle.run_view.specs.ViewLaws.{ConditionsChoose}
use Rattle.run_view.specs.declared.words.Asked.{Asked}
use Rattle.run_view.specs.declared.words.Print.{Print}
use Rattle.run_view.specs.declared.words.Print.TheVariants as prints

-- The names of a list.

abbrev pub is_comma : ℕ → Bool
is_comma octet = nat_eq octet 44

-- the first part of a list, and the others where there is a comma
abbrev pub others : (end : ℕ) → List ℕ → List (List ℕ)
others end xs = if ltb end (length xs) then slice_split is_comma (drop (end + 1) xs) else []

split_parts : (xs : List ℕ) → slice_split is_comma xs ≡ take (position_or_len is_comma xs) xs ∷ others (position_or_len is_comma xs) xs
split_parts [] = refl
split_parts (x ∷ xs) = by (is_comma x) (split_parts xs) where
  later : (e : ℕ) → others e xs ≡ others (1 + e) (x ∷ xs)
  later e =
      let less : ltb e (length xs) ≡ ltb (1 + e) (length (x ∷ xs)) = grind arith in
      let on : 1 + e + 1 ≡ suc (e + 1) = omega arith in
      λ i. if less i then slice_split is_comma (drop (sym on i) (x ∷ xs)) else []

  by : (b : Bool) → slice_split is_comma xs ≡ take (position_or_len is_comma xs) xs ∷ others (position_or_len is_comma xs) xs
      → cond b ([] ∷ slice_split is_comma xs) (onto_first x (slice_split is_comma xs))
      ≡ take (cond (not b) (1 + position_or_len is_comma xs) 0) (x ∷ xs) ∷ others (cond (not b) (1 + position_or_len is_comma xs) 0) (x ∷ xs)
  by true rest =
      let some : ltb 0 (length (x ∷ xs)) ≡ true = grind arith in
      ap (λ (b : Bool). [] ∷ (if b then slice_split is_comma xs else [])) (sym some)
  by false rest =
      let e = position_or_len is_comma xs in
      let one : suc e ≡ 1 + e = omega arith in
      ap (onto_first x) rest ∙ ap (λ l. (x ∷ take e xs) ∷ l) (later e) ∙ ap (λ n. take n (x ∷ xs) ∷ others (1 + e) (x ∷ xs)) one

-- the names of a list from an offset on, with these before
abbrev pub names_from : Choice → (value : List ℕ) → (start : ℕ) → List Bool → Option (List Bool)
names_from choice value start names =
    if nat_le start (length value) then with_names_of choice names (slice_split (λ octet. octet == 44) (drop start value)) else Some names

abbrev pub names_behind : Choice → (value : List ℕ) → (start : ℕ) → (added : Option (List Bool)) → Option (List Bool)
names_behind choice value start added = elim added [ Some next ↦ names_from choice value start next | None ↦ None ]

-- one name more
pub names_step : (choice : Choice) (value rest : List ℕ) (start end : ℕ) (names : List Bool) (place : Option ℕ) (added : Option (List Bool))
    → start ≤ length value → rest ≡ drop start value
    → end ≡ position_or_len is_comma rest → place ≡ place_named choice (take end rest) → added ≡ with_place names place
    → names_from choice value start names ≡ names_behind choice value (start + (end + 1)) added
names_step choice value rest start end names place added within is at named adds =
    let on : nat_le start (length value) ≡ true = grind arith in
    let parts : slice_split is_comma rest ≡ take end rest ∷ others end rest =
    split_parts rest ∙ (λ i. take (sym at i) rest ∷ others (sym at i) rest) in
    let place_is : with_place names (place_named choice (take end rest)) ≡ added = ap (with_place names) (sym named) ∙ sym adds in
    let added_so : with_names_of choice names (take end rest ∷ others end rest) ≡ elim added [ Some next ↦ with_names_of choice next (others end rest) | None ↦ None ] =
    ap (λ (o : Option (List Bool)). elim o [ Some next ↦ with_names_of choice next (others end rest) | None ↦ None ]) place_is in
    ap (λ (b : Bool). if b then with_names_of choice names (slice_split is_comma (drop start value)) else Some names) on
    ∙ ap (λ xs. with_names_of choice names (slice_split is_comma xs)) (sym is)
    ∙ ap (with_names_of choice names) parts
    ∙ added_so
    ∙ by added
  where
    so : (next : List Bool) (b : Bool) → with_names_of choice next (if b then slice_split is_comma (drop (end + 1) rest) else [])
        ≡ (if b then with_names_of choice next (slice_split is_comma (drop (end + 1) rest)) else Some next)
    so next true = refl
    so next false = refl

    counts : ltb end (length rest) ≡ nat_le (start + (end + 1)) (length value)
    counts = let long : length rest ≡ length value - start = ap length is ∙ length-drop start value in grind arith

    behind : drop (end + 1) rest ≡ drop (start + (end + 1)) value
    behind = ap (drop (end + 1)) is ∙ drop-drop (end + 1) start value

    by : (added : Option (List Bool))
        → elim added [ Some next ↦ with_names_of choice next (others end rest) | None ↦ None ] ≡ names_behind choice value (start + (end + 1)) added
    by None = refl
    by (Some next) =
        so next (ltb end (length rest)) ∙ (λ i. if counts i then with_names_of choice next (slice_split is_comma (behind i)) else Some next)

-- Words that are accepted.

-- what is accepted with three names goes together
named : (before asked : Asked) (words : List Text) → with_names before words ≡ Some asked → go_together asked ≡ true
named before asked [] is = absurd (cc)
named before asked (a ∷ []) is = absurd (cc)
named before asked (a ∷ b ∷ []) is = absurd (cc)
named before asked (a ∷ b ∷ c ∷ []) is = by (is_name a && is_name b && is_name c) (go_together before) refl (is) where
  by : (names together : Bool) → go_together before ≡ together → cond (names && together) (Some before) None ≡ Some asked → go_together asked ≡ true
  by true true own same = let one : before ≡ asked = cc in sym (ap go_together one) ∙ own
  by true false own same = absurd (cc)
  by false together own same = absurd (cc)
named before asked (a ∷ b ∷ c ∷ d ∷ more) is = absurd (cc)

together : (waiting : Option Choice) (before asked : Asked) (words : List Text) → asked_from waiting before words ≡ Some asked → go_together asked ≡ true
together waiting before asked [] is = absurd (cc)
together waiting before asked (word ∷ words) is =
    by (λ next one so. together next one asked words so) (next_word waiting word) is where
      on : ((next : Option Choice) (one : Asked) → asked_from next one words ≡ Some asked → go_together asked ≡ true) → (more : Option Asked)
          → elim more [ Some one ↦ asked_from None one words | None ↦ None ] ≡ Some asked → go_together asked ≡ true
      on rest (Some one) so = rest None one so
      on rest None so = absurd (cc)

      by : ((next : Option Choice) (one : Asked) → asked_from next one words ≡ Some asked → go_together asked ≡ true) → (met : Word)
          → elim met [
            | marked mark ↦ elim (with_mark mark before) [ Some one ↦ asked_from None one words | None ↦ None ]
            | joined choice value ↦ elim (with_choice choice before value) [ Some one ↦ asked_from None one words | None ↦ None ]
            | parted choice ↦ asked_from (Some choice) before words
            | name ↦ with_names before (word ∷ words)
            | unknown ↦ None
          ] ≡ Some asked → go_together asked ≡ true
      by rest (marked mark) so = on rest (with_mark mark before) so
      by rest (joined choice value) so = on rest (with_choice choice before value) so
      by rest (parted choice) so = rest (Some choice) before so
      by rest name so = named before asked (word ∷ words) so
      by rest unknown so = absurd (cc)

-- whether records are chosen, and whether the words go together, by what is printed
abbrev chosen_by : (choice : Bool) → Print → Bool
chosen_by choice print = elim print [
  | prints.Text ↦ choice
  | prints.Json ↦ true
  | prints.Records ↦ true
  | prints.Eras ↦ false
  | prints.Notes ↦ false
  | prints.JsonNotes ↦ false
]

abbrev together_by : (choice summary : Bool) → Print → Bool
together_by choice summary print = elim print [
  | prints.Text ↦ true
  | prints.Json ↦ true
  | prints.Records ↦ not summary
  | prints.Eras ↦ not choice && not summary
  | prints.Notes ↦ not choice && not summary
  | prints.JsonNotes ↦ not choice && not summary
]

chooses : (choice summary : Bool) (print : Print) → choice ≡ true → together_by choice summary print ≡ true → chosen_by choice print ≡ true
chooses true summary prints.Text given goes = refl
chooses true summary prints.Json given goes = refl
chooses true summary prints.Records given goes = refl
chooses true summary prints.Eras given goes = absurd (cc)
chooses true summary prints.Notes given goes = absurd (cc)
chooses true summary prints.JsonNotes given goes = absurd (cc)
chooses false summary print given goes = absurd (cc)

pub conditions_choose : ConditionsChoose
conditions_choose words asked accepted given =
    chooses (has_choice asked) asked.summary asked.print given (together None nothing_asked asked words accepted)

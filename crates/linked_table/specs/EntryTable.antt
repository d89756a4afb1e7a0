-- What contracts see of a table: its entries in order of recency (this project's profile).
use Rattle.std.specs.Prelude.{◌≡◌, ◌≢◌, ◌==◌, not, ℕ, Bool, true, false, if◌then◌else◌, Option, Some, None, List, [], ◌∷◌, ◌++◌, filter, map, refl}
use Rattle.std.specs.List.{All, AllByRecursion, Any}
use Rattle.std.specs.Fn.{Shared}
use Rattle.std.specs.Borrow.{Bor}
use Rattle.std.specs.Coded.{Coded, code_by, coded×, coded_ℕ, coded_list}
use Rattle.linked_table.specs.declared.table.Slot.{Slot}

-- An entry: its slot, its key and its value.
pub record Entry (K V : Type 0) : Type 0 where
  pub slot : Slot
  pub key : K
  pub value : V

-- The entries, least recently touched first, and their greatest number.
pub record Table (K V : Type 0) : Type 0 where
  pub entries : List (Entry K V)
  pub max : ℕ

-- The code of an entry: its slot's number, its key and its value.
abbrev pub entry_code : {K V : Type 0} → Coded K → Coded V → Coded (Entry K V)
entry_code {K} {V} k v =
    code_by (ℕ × (K × V)) (coded× coded_ℕ (coded× k v)) (λ e. (e.slot.0, (e.key, e.value))) (λ p. record { slot = record { 0 = p.0 }; key = p.1.0; value = p.1.1 }) (λ _. refl)

-- The code of a table: its entries and their greatest number.
abbrev pub table_code : {K V : Type 0} → Coded K → Coded V → Coded (Table K V)
table_code {K} {V} k v =
    code_by (List (Entry K V) × ℕ) (coded× (coded_list (entry_code k v)) coded_ℕ) (λ t. (t.entries, t.max)) (λ p. record { entries = p.0; max = p.1 }) (λ _. refl)

-- `R` holds for each element and each later one.
abbrev pub Pairwise : {X : Type 0} → (X → X → Type 0) → List X → Type 0
Pairwise R [] = Unit {0}
Pairwise R (x ∷ xs) = AllByRecursion (R x) xs × Pairwise R xs

module _ {K V : Type 0} where
  -- An entry has this slot.
  abbrev pub IsIn : List (Entry K V) → Slot → Type 0
  IsIn entries slot = Any (λ e. e.slot ≡ slot) entries

  -- No entry has this slot.
  abbrev pub IsNotIn : List (Entry K V) → Slot → Type 0
  IsNotIn entries slot = All (λ e. e.slot ≢ slot) entries

  -- No entry has this key.
  abbrev pub HasNone : List (Entry K V) → K → Type 0
  HasNone entries key = All (λ e. e.key ≢ key) entries

  -- `P` holds for the entry of this slot.
  abbrev pub Wherever : List (Entry K V) → Slot → (Entry K V → Type 0) → Type 0
  Wherever entries slot P = All (λ e. e.slot ≡ slot → P e) entries

  -- The entry of this slot, with those before it and those after it, none of which has its slot or
  -- its key.
  pub record SplitAt (entries : List (Entry K V)) (slot : Slot) : Type 0 where
    pub before : List (Entry K V)
    pub here : Entry K V
    pub after : List (Entry K V)
    pub splits : entries ≡ before ++ here ∷ after
    pub named : here.slot ≡ slot
    pub slots_before : AllByRecursion (λ e. e.slot ≢ here.slot) before
    pub slots_after : AllByRecursion (λ e. e.slot ≢ here.slot) after
    pub keys_before : AllByRecursion (λ e. e.key ≢ here.key) before
    pub keys_after : AllByRecursion (λ e. e.key ≢ here.key) after

  -- The entries of the other slots, in their order.
  abbrev pub without : List (Entry K V) → Slot → List (Entry K V)
  without entries slot = filter (λ e. not (e.slot.0 == slot.0)) entries

  -- The entry of this slot alone.
  abbrev pub only : List (Entry K V) → Slot → List (Entry K V)
  only entries slot = filter (λ e. e.slot.0 == slot.0) entries

  -- The entry, with this value if it is the one of this slot.
  abbrev pub revalued : Slot → V → Entry K V → Entry K V
  revalued slot value e = if e.slot.0 == slot.0 then record e { value = value } else e

  -- The entries, with this value in the one of this slot.
  abbrev pub with_value : List (Entry K V) → Slot → V → List (Entry K V)
  with_value entries slot value = map (revalued slot value) entries

  -- The slot of the first entry.
  abbrev pub first_slot : List (Entry K V) → Option Slot
  first_slot [] = None
  first_slot (e ∷ es) = Some e.slot

  module _ {F : Type 0} (calls : Shared F (Slot × (Bor V × Unit {0})) Bool) (test : F) where
    -- The test may be called on the entry.
    abbrev pub IsCallableAt : Entry K V → Type 0
    IsCallableAt e = (value : Bor V) → value.now ≡ e.value → calls.pre test (e.slot, (value, tt))

    -- The test may return this answer on the entry.
    abbrev pub Answers : Entry K V → Bool → Type 0
    Answers e answer = (value : Bor V) × (value.now ≡ e.value) × calls.post test (e.slot, (value, tt)) answer

    -- The entry of this slot passes the test, and those before it do not.
    pub record PassesFirst (entries : List (Entry K V)) (slot : Slot) : Type 0 where
      pub before : List (Entry K V)
      pub entry : Entry K V
      pub after : List (Entry K V)
      pub splits : entries ≡ before ++ entry ∷ after
      pub named : entry.slot ≡ slot
      pub passes : Answers entry true
      pub earlier : All (λ e. Answers e false) before

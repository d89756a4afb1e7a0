-- First and last elements, the greatest of numbers, and each element with those before it.
use Rattle.std.specs.Prelude.{ℕ, max, List, [], ◌∷◌, ◌++◌, Option, None}
use Rattle.std.specs.Option.{option_or}

-- the value of the first element that has one
abbrev pub first_of : {A B : Type 0} → (A → Option B) → List A → Option B
first_of f [] = None
first_of f (x ∷ xs) = option_or (f x) (first_of f xs)

-- the value of the last element that has one
abbrev pub last_of : {A B : Type 0} → (A → Option B) → List A → Option B
last_of f [] = None
last_of f (x ∷ xs) = option_or (last_of f xs) (f x)

-- the greatest number of an element, or 0 if there is none
abbrev pub greatest : {A : Type 0} → (A → ℕ) → List A → ℕ
greatest f [] = 0
greatest f (x ∷ xs) = max (f x) (greatest f xs)

-- an element of a list, with the elements before it
pub record Moment (A : Type 0) : Type 0 where
  pub before : List A
  pub now : A

-- the moments of a list that follows another one
abbrev pub moments_from : {A : Type 0} → List A → List A → List (Moment A)
moments_from before [] = []
moments_from before (x ∷ xs) = record { before = before; now = x } ∷ moments_from (before ++ x ∷ []) xs

-- each element of a list, with the elements before it
abbrev pub moments : {A : Type 0} → List A → List (Moment A)
moments xs = moments_from [] xs

-- A line of text (this project's profile).
use Rattle.std.specs.Prelude.{◌≡◌, ◌≤◌, ℕ, List, [], ◌∷◌, ◌++◌, All}

-- Octets without control characters of ASCII, and a line feed.
pub record IsLine (octets : List ℕ) : Type 0 where
  pub text : List ℕ
  pub plain : All (λ octet. 32 ≤ octet) text
  pub ends : octets ≡ text ++ 10 ∷ []

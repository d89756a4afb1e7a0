-- A line of a report (this project's profile).
use Rattle.std.specs.Prelude.{ℕ, zero, suc, ◌==◌, List, [], ◌∷◌, if◌then◌else◌}

-- the octets up to the first line feed (10) and with it, at most this number
abbrev pub front_line : (room : ℕ) → List ℕ → List ℕ
front_line zero octets = []
front_line (suc room) [] = []
front_line (suc room) (octet ∷ octets) = if octet == 10 then octet ∷ [] else octet ∷ front_line room octets

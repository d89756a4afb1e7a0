-- The words of an audit (this project's profile). A word is the list of its octets.
use Rattle.std.specs.Prelude.{ℕ, ◌&&◌, nat_lt, nat_le, List, [], ◌∷◌, length, Option, None, if◌then◌else◌}
use Rattle.norm_settings.specs.OptionTable.{number_within}

-- the number of a word of 1 to 3 digits, at most 254
abbrev pub hops_of : List ℕ → Option ℕ
hops_of word = if nat_le (length word) 3 then number_within 0 254 word else None

-- the number of routers behind the bridge, if the words are two names that are not empty and this
-- number
abbrev pub asked : List (List ℕ) → Option ℕ
asked (capture ∷ report ∷ hops ∷ []) = if nat_lt 0 (length capture) && nat_lt 0 (length report) then hops_of hops else None
asked _ = None

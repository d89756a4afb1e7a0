-- Laws of the list of options: it has every octet of the area, and the definitions over it give the
-- results of cases worked by hand.
use Rattle.std.specs.Prelude.{◌≡◌, ℕ, ◌+◌, ◌==◌, ◌&&◌, Bool, true, false, List, [], ◌∷◌, ◌++◌, length, map, Option, Some, None, if◌then◌else◌}
use Rattle.std.specs.List.{flat_map}
use Rattle.wire_base.specs.Options.{Listed, options_of, are_well_formed, has_route, scale_of, cleaned}

-- the octets of the options in their order, and those after them, are the area
abbrev pub AreTheArea : Type 0
AreTheArea = (area : List ℕ) → flat_map (λ option. option.octets) (options_of area).options ++ (options_of area).behind ≡ area

-- the first option begins at the offset `place`, each other one where the one before it ends
abbrev pub follow_from : (place : ℕ) → List Listed → Bool
follow_from place [] = true
follow_from place (option ∷ options) = (option.place == place) && follow_from (place + length option.octets) options

abbrev pub FollowEachOther : Type 0
FollowEachOther = (area : List ℕ) → follow_from 0 (options_of area).options ≡ true

-- whether the area has a source route; None if the options are not well formed
abbrev pub route_in : List ℕ → Option Bool
route_in area = if are_well_formed area then Some (has_route area) else None

-- areas of IPv4 headers: options other than routes, routes, octets after the end option, and
-- lengths that are missing, too small or too large
abbrev pub routes : List (List ℕ × Option Bool)
routes =
    ([], Some false)
    ∷ (1 ∷ 1 ∷ 1 ∷ 0 ∷ [], Some false)
    ∷ (131 ∷ 3 ∷ 4 ∷ [], Some true)
    ∷ (137 ∷ 3 ∷ 4 ∷ 0 ∷ [], Some true)
    ∷ (1 ∷ 7 ∷ 3 ∷ 4 ∷ 0 ∷ 131 ∷ 3 ∷ 4 ∷ [], Some false)
    ∷ (68 ∷ 4 ∷ 5 ∷ 0 ∷ 131 ∷ 3 ∷ 4 ∷ 0 ∷ [], Some true)
    ∷ (68 ∷ 4 ∷ 131 ∷ 137 ∷ [], Some false)
    ∷ (130 ∷ 3 ∷ 4 ∷ 136 ∷ 4 ∷ 0 ∷ 1 ∷ [], Some false)
    ∷ (0 ∷ 131 ∷ 3 ∷ 4 ∷ [], Some false)
    ∷ (0 ∷ 131 ∷ [], Some false)
    ∷ (0 ∷ 7 ∷ 1 ∷ 0 ∷ [], Some false)
    ∷ (7 ∷ 2 ∷ [], Some false)
    ∷ (7 ∷ 1 ∷ 1 ∷ 0 ∷ [], None)
    ∷ (7 ∷ 0 ∷ 1 ∷ 0 ∷ [], None)
    ∷ (131 ∷ 4 ∷ 4 ∷ [], None)
    ∷ (1 ∷ 1 ∷ 131 ∷ [], None)
    ∷ (131 ∷ 3 ∷ 4 ∷ 7 ∷ 3 ∷ [], None)
    ∷ (7 ∷ 255 ∷ 0 ∷ 0 ∷ [], None)
    ∷ []

-- areas with their window scales: the first of two; one of another length, and of another kind;
-- after the end option; above 14
abbrev pub scales : List (List ℕ × Option ℕ)
scales =
    ([], None)
    ∷ (3 ∷ 3 ∷ 7 ∷ 0 ∷ [], Some 7)
    ∷ (1 ∷ 3 ∷ 3 ∷ 14 ∷ [], Some 14)
    ∷ (1 ∷ 3 ∷ 3 ∷ 15 ∷ [], Some 14)
    ∷ (3 ∷ 3 ∷ 255 ∷ 3 ∷ 3 ∷ 1 ∷ 0 ∷ 0 ∷ [], Some 14)
    ∷ (3 ∷ 3 ∷ 1 ∷ 3 ∷ 3 ∷ 2 ∷ 0 ∷ 0 ∷ [], Some 1)
    ∷ (3 ∷ 4 ∷ 5 ∷ 6 ∷ 3 ∷ 3 ∷ 2 ∷ 0 ∷ [], Some 2)
    ∷ (254 ∷ 3 ∷ 3 ∷ 254 ∷ 3 ∷ 3 ∷ 1 ∷ 1 ∷ [], None)
    ∷ (2 ∷ 4 ∷ 3 ∷ 3 ∷ 4 ∷ 2 ∷ 1 ∷ 1 ∷ [], None)
    ∷ (0 ∷ 3 ∷ 3 ∷ 7 ∷ [], None)
    ∷ []

-- Whether the segment is a SYN, its area, and the cleaned area. Known kinds and an unknown one;
-- kinds of a SYN on another segment; wrong lengths. A second option of a kind, also after one that
-- was not kept; octets after the end option.
abbrev pub cleanings : List (Bool × List ℕ × List ℕ)
cleanings =
    (false, [], [])
    ∷ (false, 254 ∷ 4 ∷ 170 ∷ 187 ∷ [], 1 ∷ 1 ∷ 1 ∷ 1 ∷ [])
    ∷ (true, 2 ∷ 4 ∷ 5 ∷ 180 ∷ 4 ∷ 2 ∷ 3 ∷ 3 ∷ 7 ∷ 1 ∷ [], 2 ∷ 4 ∷ 5 ∷ 180 ∷ 4 ∷ 2 ∷ 3 ∷ 3 ∷ 7 ∷ 1 ∷ [])
    ∷ (false, 2 ∷ 4 ∷ 5 ∷ 180 ∷ 4 ∷ 2 ∷ 3 ∷ 3 ∷ 7 ∷ 1 ∷ [], 1 ∷ 1 ∷ 1 ∷ 1 ∷ 1 ∷ 1 ∷ 1 ∷ 1 ∷ 1 ∷ 1 ∷ [])
    ∷ (true, 2 ∷ 3 ∷ 5 ∷ 3 ∷ 4 ∷ 7 ∷ 0 ∷ 4 ∷ 3 ∷ 0 ∷ [], 1 ∷ 1 ∷ 1 ∷ 1 ∷ 1 ∷ 1 ∷ 1 ∷ 1 ∷ 1 ∷ 1 ∷ [])
    ∷ (true, 2 ∷ 4 ∷ 5 ∷ 180 ∷ 2 ∷ 4 ∷ 2 ∷ 24 ∷ [], 2 ∷ 4 ∷ 5 ∷ 180 ∷ 1 ∷ 1 ∷ 1 ∷ 1 ∷ [])
    ∷ (true, 3 ∷ 2 ∷ 3 ∷ 3 ∷ 7 ∷ 3 ∷ 3 ∷ 8 ∷ [], 1 ∷ 1 ∷ 3 ∷ 3 ∷ 7 ∷ 1 ∷ 1 ∷ 1 ∷ [])
    ∷ (false, 1 ∷ 8 ∷ 10 ∷ 0 ∷ 0 ∷ 0 ∷ 1 ∷ 0 ∷ 0 ∷ 0 ∷ 2 ∷ [], 1 ∷ 8 ∷ 10 ∷ 0 ∷ 0 ∷ 0 ∷ 1 ∷ 0 ∷ 0 ∷ 0 ∷ 2 ∷ [])
    ∷ (false, 8 ∷ 10 ∷ 0 ∷ 0 ∷ 0 ∷ 1 ∷ 0 ∷ 0 ∷ 0 ∷ 2 ∷ 8 ∷ 10 ∷ 0 ∷ 0 ∷ 0 ∷ 3 ∷ 0 ∷ 0 ∷ 0 ∷ 4 ∷ [], 8 ∷ 10 ∷ 0 ∷ 0 ∷ 0 ∷ 1 ∷ 0 ∷ 0 ∷ 0 ∷ 2 ∷ 1 ∷ 1 ∷ 1 ∷ 1 ∷ 1 ∷ 1 ∷ 1 ∷ 1 ∷ 1 ∷ 1 ∷ [])
    ∷ (false, 8 ∷ 9 ∷ 0 ∷ 0 ∷ 0 ∷ 1 ∷ 0 ∷ 0 ∷ 0 ∷ [], 1 ∷ 1 ∷ 1 ∷ 1 ∷ 1 ∷ 1 ∷ 1 ∷ 1 ∷ 1 ∷ [])
    ∷ (false, 5 ∷ 10 ∷ 0 ∷ 0 ∷ 0 ∷ 9 ∷ 0 ∷ 0 ∷ 0 ∷ 19 ∷ [], 5 ∷ 10 ∷ 0 ∷ 0 ∷ 0 ∷ 9 ∷ 0 ∷ 0 ∷ 0 ∷ 19 ∷ [])
    ∷ (false, 5 ∷ 11 ∷ 0 ∷ 0 ∷ 0 ∷ 9 ∷ 0 ∷ 0 ∷ 0 ∷ 19 ∷ 0 ∷ [], 1 ∷ 1 ∷ 1 ∷ 1 ∷ 1 ∷ 1 ∷ 1 ∷ 1 ∷ 1 ∷ 1 ∷ 1 ∷ [])
    ∷ (false, 5 ∷ 2 ∷ 0 ∷ 0 ∷ [], 1 ∷ 1 ∷ 0 ∷ 0 ∷ [])
    ∷ (false, 1 ∷ 1 ∷ 0 ∷ 7 ∷ [], 1 ∷ 1 ∷ 0 ∷ 0 ∷ [])
    ∷ (true, 2 ∷ 4 ∷ 5 ∷ 180 ∷ 0 ∷ 4 ∷ 2 ∷ 9 ∷ [], 2 ∷ 4 ∷ 5 ∷ 180 ∷ 0 ∷ 0 ∷ 0 ∷ 0 ∷ [])
    ∷ (false, 254 ∷ 2 ∷ 0 ∷ 0 ∷ [], 1 ∷ 1 ∷ 0 ∷ 0 ∷ [])
    ∷ (false, 0 ∷ 0 ∷ 0 ∷ 0 ∷ [], 0 ∷ 0 ∷ 0 ∷ 0 ∷ [])
    ∷ []

-- the definitions give the results of these cases
pub record WorkedAreas : Type 0 where
  pub routes_are : map (λ row. (row.0, route_in row.0)) routes ≡ routes
  pub scales_are : map (λ row. (row.0, scale_of row.0)) scales ≡ scales
  pub cleanings_are : map (λ row. (row.0, row.1, cleaned row.0 row.1)) cleanings ≡ cleanings

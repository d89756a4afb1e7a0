-- The frames that are to be written for one record, in the order in which they were begun (this
-- project's profile).
use Rattle.std.specs.Prelude.{ℕ, List, [], ◌∷◌, ◌++◌}

-- the octets of the last frame; none if there is no frame
abbrev pub last_frame : List (List ℕ) → List ℕ
last_frame [] = []
last_frame (frame ∷ []) = frame
last_frame (frame ∷ next ∷ frames) = last_frame (next ∷ frames)

-- the frames with these octets appended to the last one
abbrev pub extended : List (List ℕ) → List ℕ → List (List ℕ)
extended [] octets = []
extended (frame ∷ []) octets = (frame ++ octets) ∷ []
extended (frame ∷ next ∷ frames) octets = frame ∷ extended (next ∷ frames) octets

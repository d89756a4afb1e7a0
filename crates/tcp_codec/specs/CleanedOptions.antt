-- Laws of cleaned areas of options (this project's profile).
use Rattle.std.specs.Prelude.{◌≡◌, ℕ, ◌<◌, ◌≤◌, ◌⊎◌, Bool, true, false, List, length, slice_index, None}
use Rattle.wire_base.specs.Options.{are_well_formed, cleaned, scale_of, end_of}

-- `new` has the length of `area`; its octets before the end option of `area` are unchanged or
-- no-operations, all from there on are 0
pub record IsCleaned (area new : List ℕ) : Type 0 where
  pub size : length new ≡ length area
  pub options : (place : ℕ) → place < end_of area → (slice_index new place ≡ slice_index area place) ⊎ (slice_index new place ≡ 1)
  pub behind : (place : ℕ) → end_of area ≤ place → slice_index new place ≡ 0

-- cleaning an area gives such an area
abbrev pub CleansOctets : Type 0
CleansOctets = (syn : Bool) (area : List ℕ) → IsCleaned area (cleaned syn area)

-- cleaning a cleaned area again changes nothing
abbrev pub CleansOnce : Type 0
CleansOnce = (syn : Bool) (area : List ℕ) → cleaned syn (cleaned syn area) ≡ cleaned syn area

-- well-formed options stay well formed when they are cleaned
abbrev pub StaysWellFormed : Type 0
StaysWellFormed = (syn : Bool) (area : List ℕ) → are_well_formed area ≡ true → are_well_formed (cleaned syn area) ≡ true

-- cleaning the options of a SYN keeps its window scale
abbrev pub KeepsScale : Type 0
KeepsScale = (area : List ℕ) → scale_of (cleaned true area) ≡ scale_of area

-- cleaning the options of any other segment removes its window scale
abbrev pub LosesScale : Type 0
LosesScale = (area : List ℕ) → scale_of (cleaned false area) ≡ None

-- What a frame says in a field as it is passed on: a number, or octets of the frame.
use Rattle.std.specs.Prelude.{◌≡◌, ℕ, true, false, List, [], ◌∷◌}
use Rattle.frame_view.specs.Readings.{has_octets}
use Rattle.frame_view.specs.declared.field.Field.{Field}
use Rattle.frame_view.specs.declared.reading.Reading.{Reading}
use Rattle.frame_view.specs.declared.reading.Reading.TheVariants.{Absent, Number, Octets}

-- a reading as a list
abbrev pub plain_reading : Reading → List ℕ
plain_reading Absent = []
plain_reading (Number n) = n ∷ []
plain_reading (Octets octets) = octets.now

-- no octets
abbrev pub IsNumber : Reading → Type 0
IsNumber Absent = Unit {0}
IsNumber (Number n) = Unit {0}
IsNumber (Octets octets) = ⊥

-- no number
abbrev pub AreRun : Reading → Type 0
AreRun Absent = Unit {0}
AreRun (Number n) = ⊥
AreRun (Octets octets) = Unit {0}

-- a field of octets says octets, another a number
abbrev pub FitsField : Field → Reading → Type 0
FitsField field Absent = Unit {0}
FitsField field (Number n) = has_octets field ≡ false
FitsField field (Octets octets) = has_octets field ≡ true

-- not a number and octets
abbrev pub AreAlike : (one other : Reading) → Type 0
AreAlike Absent other = Unit {0}
AreAlike (Number n) other = IsNumber other
AreAlike (Octets octets) other = AreRun other

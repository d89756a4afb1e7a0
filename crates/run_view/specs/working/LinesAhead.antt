-- The octets of a report that are read ahead, and its lines (this project's profile).
use Rattle.std.specs.Prelude.{◌≡◌, ◌⊎◌, ℕ, ◌+◌, ◌≤◌, Bool, true, false, List, slice_range, Option, IfSome}
use Rattle.std.specs.Io.KnownBytes.{Consumes, IsAtEnd, prepend_known}
use Rattle.run_view.specs.working.SourceContents.{IsSomeOctet}
use Rattle.run_view.specs.working.FrontLine.{front_line}
use Rattle.run_view.specs.declared.line.Lines.{Lines}

-- the octets that were read ahead
abbrev pub ahead_in : Lines → List ℕ
ahead_in lines = slice_range lines.buffer.value lines.start lines.filled

-- the octets left: those that were read ahead, and then those of the source, where they are known
abbrev pub left_in : Lines → (left : Option (List ℕ)) → Option (List ℕ)
left_in lines left = prepend_known (ahead_in lines) left

-- the newest line
abbrev pub line_in : Lines → List ℕ
line_in lines = slice_range lines.buffer.value lines.line lines.start

-- as many octets as a line may have were read ahead, or all
abbrev pub HasEnough : Lines → (left : Option (List ℕ)) → Type 0
HasEnough lines left = (lines.start + 400 ≤ lines.filled) ⊎ IsAtEnd left

-- the front line was taken
pub record TookLine (old new : Option (List ℕ)) (line : List ℕ) : Type 0 where
  pub taken : Consumes old new line
  pub is : IfSome old (λ octets. line ≡ front_line 400 octets)

-- whether octets are left
abbrev pub GoesOn : (more : Bool) → (left : Option (List ℕ)) → Type 0
GoesOn true left = IfSome left IsSomeOctet
GoesOn false left = IsAtEnd left

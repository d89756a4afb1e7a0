-- Top of an era (this project's profile), as the audit reads it. Segments are read as in
-- `era_state`. A program other than norm may have written them, so their octets may be below offset
-- 0, and so may Top.
use Rattle.std.specs.Prelude.{ℕ, ◌&&◌, List, [], ◌∷◌, length, ℤ, pos, ◌+ℤ◌, Option, Some, None, if◌then◌else◌}
use Rattle.std.specs.Int.{int_max}
use Rattle.wire_base.specs.Segments.{Written}
use Rattle.era_state.specs.ListElements.{Moment, moments}
use Rattle.era_state.specs.Offsets.{off}
use Rattle.era_state.specs.SegmentMarks.{has_octets}
use Rattle.era_state.specs.Quantities.{acked}

-- the offset after the octets of an inward segment, if it has octets
abbrev pub octets_end : (base acked : ℕ) → Written → Option ℤ
octets_end base acked w = if w.inward && has_octets w then Some (off base acked w.seq +ℤ pos (length w.octets)) else None

-- the greater of two optional offsets, or the one that there is
abbrev pub greater : Option ℤ → Option ℤ → Option ℤ
greater None q = q
greater (Some p) None = Some p
greater (Some p) (Some q) = Some (int_max p q)

-- the greatest offset of an element, if one has an offset
abbrev pub furthest : {A : Type 0} → (A → Option ℤ) → List A → Option ℤ
furthest f [] = None
furthest f (x ∷ xs) = greater (f x) (furthest f xs)

-- the greatest offset after the octets of an inward segment, if one of them has octets
abbrev pub last_end : ℕ → List Written → Option ℤ
last_end base ws = furthest (λ (m : Moment Written). octets_end base (acked base m.before) m.now) (moments ws)

-- an optional offset, or 0 if there is none
abbrev pub place_in : Option ℤ → ℤ
place_in None = pos 0
place_in (Some place) = place

-- Top: 1 + the greatest offset of an octet of an inward segment, or 0 if there is no octet
abbrev pub top : ℕ → List Written → ℤ
top base ws = place_in (last_end base ws)

-- What was sent, and which of it belongs to an era (this project's profile). Lists of what was sent
-- have the last element at the head.
use Rattle.std.specs.Prelude.{ℕ, ◌==◌, ◌&&◌, not, Bool, false, List, [], ◌∷◌, ◌++◌, map, ℤ, pos, Option, Some, None, if◌then◌else◌}
use Rattle.std.specs.List.{flat_map}
use Rattle.wire_base.specs.Segments.{Segment, Written, segment_of, written_of}
use Rattle.era_state.specs.Offsets.{off}
use Rattle.era_state.specs.Quantities.{acked}

-- The packets sent for one record, in order: whether they went inwards, the era that they belong
-- to, if any, and whether they are written segments of it. A probe sent for a dropped record is not
-- a written segment: receivers read it, but it neither fixes the base nor moves Acked, the greatest
-- offset acknowledged.
pub record Sent : Type 0 where
  pub inward : Bool
  pub era : Option ℕ
  pub written : Bool
  pub packets : List (List ℕ)

-- the given era is this one
abbrev pub is_era : (era : ℕ) → Option ℕ → Bool
is_era era (Some named) = named == era
is_era era None = false

-- the packets that went inwards in an era, in order
abbrev pub inward_packets : (era : ℕ) → List Sent → List (List ℕ)
inward_packets era [] = []
inward_packets era (s ∷ older) = inward_packets era older ++ (if is_era era s.era && s.inward then s.packets else [])

-- those of them that are not written segments of it
abbrev pub aside_packets : (era : ℕ) → List Sent → List (List ℕ)
aside_packets era [] = []
aside_packets era (s ∷ older) = aside_packets era older ++ (if is_era era s.era && s.inward && not s.written then s.packets else [])

-- the segment as written to this side, if there is one
abbrev pub written_as : Bool → Option Segment → List Written
written_as inward None = []
written_as inward (Some s) = written_of inward s ∷ []

-- the segments of packets that were sent to this side
abbrev pub segments_in : Bool → List (List ℕ) → List Written
segments_in inward packets = flat_map (λ p. written_as inward (segment_of p)) packets

-- the segments written in an era, to both sides, in order
abbrev pub written_in : (era : ℕ) → List Sent → List Written
written_in era [] = []
written_in era (s ∷ older) = written_in era older ++ (if is_era era s.era && s.written then segments_in s.inward s.packets else [])

-- the offset of a segment's first octet, of those that its number represents the one nearest to
-- Acked; 0 if there is no segment
abbrev pub placed_at : (base acked : ℕ) → Option Segment → ℤ
placed_at base acked None = pos 0
placed_at base acked (Some s) = off base acked s.sequence

-- the offset of a packet's first octet
abbrev pub place_of : (base acked : ℕ) → List ℕ → ℤ
place_of base acked p = placed_at base acked (segment_of p)

-- The offsets of the packets that went inwards in an era, each the one nearest to Acked before its
-- record. Before the base is fixed Acked is 0, since no ACK was sent outwards in the era. In the
-- traces of norm the first one fixes the base, and a RST with ACK ends the era.
abbrev pub inward_places : (era base : ℕ) → List Sent → List ℤ
inward_places era base [] = []
inward_places era base (s ∷ older) =
    inward_places era base older
    ++ (if is_era era s.era && s.inward then map (place_of base (acked base (written_in era older))) s.packets else [])

-- What was acknowledged before each packet that went inwards in an era: Acked before its record.
abbrev pub inward_acks : (era base : ℕ) → List Sent → List ℕ
inward_acks era base [] = []
inward_acks era base (s ∷ older) =
    inward_acks era base older
    ++ (if is_era era s.era && s.inward then map (λ _. acked base (written_in era older)) s.packets else [])

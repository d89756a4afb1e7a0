-- The frames of a written capture, each with the entry of the report that it belongs to (this
-- project's profile). Frames are a list, newest first; entries are in the order of their lines.
use Rattle.std.specs.Prelude.{ℕ, Bool, true, false, ◌||◌, List, [], ◌∷◌, ◌++◌, length, replicate, Option, Some, None, is_some, slice_get}
use Rattle.std.specs.List.{flat_map}
use Rattle.wire_base.specs.Frames.{packet_in}
use Rattle.wire_base.specs.declared.address.Link.{Link}
use Rattle.wire_base.specs.declared.address.Side.{Side}
use Rattle.wire_base.specs.declared.address.Side.TheVariants.{Inward, Outward}
use Rattle.rule_book.specs.Entries.{PlainEntry}
use Rattle.era_state.specs.Quantities.{base_of}
use Rattle.era_agreement.specs.SentPackets.{Sent, segments_in, written_in}

-- a frame's packet, and the side and the era that its entry names
pub record Frame : Type 0 where
  pub packet : List ℕ
  pub side : Option Side
  pub era : Option ℕ

-- the frame with these octets, which belongs to this entry
abbrev pub frame_of : Link → List ℕ → PlainEntry → Frame
frame_of link octets entry = record { packet = packet_in link octets; side = entry.side; era = entry.era }

-- the entry of each frame, in order: each entry as often as its number of frames
abbrev pub owners : List PlainEntry → List PlainEntry
owners entries = flat_map (λ entry. replicate entry.packets entry) entries

-- the frames with one more, if it belongs to an entry
abbrev pub with_frame : Link → List ℕ → Option PlainEntry → List Frame → List Frame
with_frame link octets None older = older
with_frame link octets (Some entry) older = frame_of link octets entry ∷ older

-- the frames with these octets, as far as they belong to entries: the frame after n others belongs
-- to the owner after n others
abbrev pub owned : Link → (owners : List PlainEntry) → List (List ℕ) → List Frame
owned link owners [] = []
owned link owners (octets ∷ older) = with_frame link octets (slice_get owners (length older)) (owned link owners older)

-- the side is `in`
abbrev pub is_inward : Option Side → Bool
is_inward (Some Inward) = true
is_inward (Some Outward) = false
is_inward None = false

-- with this outward packet a base is fixed in the era that its entry names
abbrev pub is_based : List Sent → (era : Option ℕ) → List ℕ → Bool
is_based older None p = false
is_based older (Some era) p = is_some (base_of (written_in era older ++ segments_in false (p ∷ [])))

-- What was sent by a frame after others: a written segment of the era that its entry names after
-- `@`, if it names one. Before a base is fixed, an acknowledgment number has no offset in the
-- stream, and Acked is 0. So an outward segment is counted if a base is fixed before it or by it;
-- the outward segments before that fix no base, and nothing else is read of them.
abbrev pub sent_after : List Sent → Frame → Sent
sent_after older f = record { inward = is_inward f.side; era = f.era; written = is_inward f.side || is_based older f.era f.packet; packets = f.packet ∷ [] }

-- what was sent by all frames
abbrev pub sent : List Frame → List Sent
sent [] = []
sent (f ∷ older) = sent_after (sent older) f ∷ sent older

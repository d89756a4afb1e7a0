-- Items, and the times of records (this project's profile). Traces and histories are lists of items
-- with the newest at the head.
use Rattle.std.specs.Prelude.{ℕ, ◌+◌, max, List, [], ◌∷◌, length, map}
use Rattle.pcap_file.specs.Records.{Packet}
use Rattle.rule_book.specs.Entries.{PlainEntry}

-- a record of the capture, the entry that reports it, and the frames written for it
pub record Item : Type 0 where
  pub packet : Packet
  pub entry : PlainEntry
  pub frames : List (List ℕ)

-- the records of a trace, and its entries, newest first
abbrev pub packets : List Item → List Packet
packets trace = map (λ item. item.packet) trace

abbrev pub entries : List Item → List PlainEntry
entries trace = map (λ item. item.entry) trace

-- the number of frames written
abbrev pub frame_count : List Item → ℕ
frame_count [] = 0
frame_count (item ∷ older) = frame_count older + length item.frames

-- the greatest time, in seconds, of all records so far
abbrev pub now_at : List Item → ℕ
now_at [] = 0
now_at (item ∷ older) = max (now_at older) item.packet.seconds

-- Now: the same with the next record
abbrev pub now_with : (history : List Item) → Packet → ℕ
now_with history r = max (now_at history) r.seconds

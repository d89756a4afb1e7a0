-- The octets of a written capture, from the frames of a trace (this project's profile). A trace is
-- a list with the newest item at the head.
use Rattle.std.specs.Prelude.{ℕ, List, [], ◌∷◌, ◌++◌}
use Rattle.std.specs.List.{flat_map}
use Rattle.pcap_file.specs.declared.record.Order.{Order}
use Rattle.pcap_file.specs.Records.{Packet, record_octets}
use Rattle.norm_engine.specs.Items.{Item}

-- the records of a packet's frames, each with the packet's time
abbrev pub frame_octets : Order → Packet → List (List ℕ) → List ℕ
frame_octets order r frames = flat_map (λ frame. record_octets order r.seconds r.fraction frame) frames

abbrev pub item_octets : Order → Item → List ℕ
item_octets order item = frame_octets order item.packet item.frames

-- the records of all frames, in the order in which they were written
abbrev pub frames_octets : Order → List Item → List ℕ
frames_octets order [] = []
frames_octets order (item ∷ older) = frames_octets order older ++ item_octets order item

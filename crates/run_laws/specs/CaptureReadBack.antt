-- The written capture of a finished run is read back (classic pcap, and this project's profile).
-- Lists of records have the newest at the head.
use Rattle.std.specs.Prelude.{◌≡◌, ℕ, ◌≤◌, List, [], ◌∷◌, ◌++◌, length, drop, map, reverse, Option, Some, None, Ok}
use Rattle.pcap_file.specs.declared.head.Head.{Head}
use Rattle.pcap_file.specs.declared.record.Order.{Order}
use Rattle.pcap_file.specs.FileHead.{head_of}
use Rattle.pcap_file.specs.Records.{Packet, front_of}
use Rattle.pcap_file.specs.Capture.{IsCapture}
use Rattle.norm_settings.specs.SettingValues.{PlainSettings}
use Rattle.both_sides.specs.RecordOutputs.{Put, puts}
use Rattle.bridge_run.specs.Theorem.{Normalized}

-- the record as which a written frame is read: the time of its input record, the length of the
-- frame as both lengths, and no side
abbrev pub record_of : Put → (frame : List ℕ) → Packet
record_of put frame = record { seconds = put.seconds; fraction = put.fraction; original = length frame; side = None; octets = frame }

-- the records of all frames written, in the order in which they were written, the last one at the
-- head
abbrev pub records_put : List Put → List Packet
records_put [] = []
records_put (put ∷ older) = reverse (map (record_of put) put.frames) ++ records_put older

-- The head is followed by these records, and then by `rest`. Each is read by the grammar of
-- captures as if it were the first, so the limit on their number is left out.
abbrev pub ReadsOn : Order → (all : List ℕ) → List Packet → (rest : List ℕ) → Type 0
ReadsOn order all [] rest = all ≡ rest
ReadsOn order all (packet ∷ older) rest = (left : List ℕ) × ReadsOn order all older left × (front_of order 0 left ≡ Ok (Some (packet, rest)))

-- The octets are this head and these records, and nothing else. If there are at most 2^32 - 1
-- records, as many as a capture may have, they are a capture.
pub record IsReadBack (head : Head) (capture : List ℕ) (packets : List Packet) : Type 0 where
  pub accepted : head_of capture ≡ Ok head
  pub reads : ReadsOn head.order (drop 24 capture) packets []
  pub whole : length packets ≤ 4294967295 → IsCapture capture head packets

-- What a finished run wrote to its capture, after what that held before, is read back as the head
-- and one record for each frame of the run, in order. This holds with an MTU, of the segments of
-- frames that are cut, and if both sides are protected, of the frames of the second engine.
abbrev pub RunsAreReadBack : Type 0
RunsAreReadBack =
    (settings : PlainSettings) (source source' report report' : Option (List ℕ)) (held capture : List ℕ)
    → (done : Normalized settings source source' (Some held) (Some (held ++ capture)) report report')
    → IsReadBack done.head capture (records_put (puts settings done.head.link done.run))

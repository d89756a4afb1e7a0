-- The traces of two engines in sequence (this project's profile). Traces are lists of items with
-- the newest at the head.
use Rattle.std.specs.Prelude.{◌≡◌, ℕ, true, List, [], ◌∷◌, length, map, None}
use Rattle.wire_base.specs.declared.address.Link.{Link}
use Rattle.pcap_file.specs.Records.{Packet}
use Rattle.norm_settings.specs.SettingValues.{PlainSettings}
use Rattle.norm_engine.specs.Items.{Item, packets}
use Rattle.norm_engine.specs.Trace.{Lawful}

-- the settings of the second engine: the addresses in no prefix are those behind the bridge
abbrev pub mirrored : PlainSettings → PlainSettings
mirrored settings = record settings { mirror = true }

-- The record of a frame for the second engine, as a capture of the frame would be read. It has the
-- time of the record for which it was written, its own length as the original length, and no side.
abbrev pub record_of : (seconds fraction : ℕ) → (frame : List ℕ) → Packet
record_of seconds fraction frame = record { seconds = seconds; fraction = fraction; original = length frame; side = None; octets = frame }

-- the records of the frames of an item, in order
abbrev pub records_for : Item → List Packet
records_for item = map (record_of item.packet.seconds item.packet.fraction) item.frames

-- these records, one after another, in front of older ones: the newest at the head
abbrev pub behind : (records older : List Packet) → List Packet
behind [] older = older
behind (r ∷ more) older = behind more (r ∷ older)

-- the records of the frames of a trace, newest at the head
abbrev pub records_of : List Item → List Packet
records_of [] = []
records_of (item ∷ older) = behind (records_for item) (records_of older)

-- The trace of the first engine is lawful for the settings, and that of the second for the mirrored
-- ones, with the frames of the first as its records.
pub record AreLawful (settings : PlainSettings) (link : Link) (trace mirror : List Item) : Type 0 where
  pub first : Lawful settings link trace
  pub second : Lawful (mirrored settings) link mirror
  pub handed : packets mirror ≡ records_of trace

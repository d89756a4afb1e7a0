-- The frames that a gate was given, and what became of each (this project's profile). A history is
-- a list with the newest frame at the head.
use Rattle.std.specs.Prelude.{◌≡◌, ℕ, List, [], ◌∷◌, ◌++◌, map, Option, Some, None}
use Rattle.wire_base.specs.declared.address.Link.{Link}
use Rattle.wire_base.specs.declared.address.Link.TheVariants.{Ethernet}
use Rattle.wire_base.specs.declared.address.Side.{Side}
use Rattle.wire_base.specs.declared.address.Side.TheVariants.{Inward, Outward}
use Rattle.pcap_file.specs.Records.{Packet}
use Rattle.norm_settings.specs.SettingValues.{PlainSettings}
use Rattle.norm_engine.specs.Items.{Item}
use Rattle.norm_engine.specs.Trace.{item_of}
use Rattle.norm_engine.specs.WrittenTrace.{item_written}
use Rattle.norm_gate.specs.declared.arrival.Port.{Port}
use Rattle.norm_gate.specs.declared.arrival.Port.TheVariants.{Outside, Inside}
use Rattle.norm_gate.specs.declared.arrival.Frames.{Frames}
use Rattle.norm_gate.specs.declared.arrival.Frames.TheVariants.{Ports, Capture}
use Rattle.norm_gate.specs.declared.arrival.Arrival.{Arrival}
use Rattle.norm_gate.specs.declared.fate.Fate.{Fate}
use Rattle.norm_gate.specs.declared.fate.Fate.TheVariants.{Judged, Forged, Crosses, Unjudged, TooLong, Truncated}
use Rattle.norm_gate.specs.Fates.{crossing, fate_of}

-- a frame that is written, and the port by which it leaves; ARP of a capture leaves by none
pub record Leaving : Type 0 where
  pub octets : List ℕ
  pub port : Option Port

-- A frame that arrived, and its fate; the records that the engine judged for it, newest first; and
-- the frames that are written for it.
pub record Event : Type 0 where
  pub arrival : Arrival
  pub octets : List ℕ
  pub fate : Fate
  pub items : List Item
  pub leaving : List Leaving

-- the records that the engine judged, newest first: its history
abbrev pub items_in : List Event → List Item
items_in [] = []
items_in (event ∷ older) = event.items ++ items_in older

-- the link of the frames
abbrev pub link_of : Frames → Link
link_of Ports = Ethernet
link_of (Capture link) = link

-- the record of a frame; its side is told by its addresses
abbrev pub packet_of : Arrival → (octets : List ℕ) → Packet
packet_of arrival octets =
    record { seconds = arrival.seconds; fraction = arrival.fraction; original = arrival.original; side = None; octets = octets }

-- the port on the other side
abbrev pub other : Port → Port
other Outside = Inside
other Inside = Outside

-- what goes inwards leaves by the inside port, what goes outwards by the outside port
abbrev pub port_of : Option Side → Option Port
port_of (Some Inward) = Some Inside
port_of (Some Outward) = Some Outside
port_of None = None

-- frames that leave by one port
abbrev pub leaving_by : Option Port → List (List ℕ) → List Leaving
leaving_by port frames = map (λ octets. record { octets = octets; port = port }) frames

-- the records of a frame: one if it is judged
abbrev pub items_by : Fate → Item → List Item
items_by Judged item = item ∷ []
items_by Forged item = []
items_by Crosses item = []
items_by Unjudged item = []
items_by TooLong item = []
items_by Truncated item = []

-- The frames that are written for a frame: those of its record, as they are written, by the port of
-- the record's side; or the ARP that crosses, by the other port.
abbrev pub leaving_for : Fate → PlainSettings → Link → Arrival → (octets : List ℕ) → Item → List Leaving
leaving_for Judged settings link arrival octets item = leaving_by (port_of item.entry.side) (item_written settings.mtu link item).frames
leaving_for Crosses settings link arrival octets item = leaving_by (Some (other arrival.port)) (crossing octets ∷ [])
leaving_for Forged settings link arrival octets item = []
leaving_for Unjudged settings link arrival octets item = []
leaving_for TooLong settings link arrival octets item = []
leaving_for Truncated settings link arrival octets item = []

-- the event of a frame with this fate, whose record has this item
abbrev pub event_by : PlainSettings → Link → Arrival → (octets : List ℕ) → Fate → Item → Event
event_by settings link arrival octets fate item =
    record {
      arrival = arrival;
      octets = octets;
      fate = fate;
      items = items_by fate item;
      leaving = leaving_for fate settings link arrival octets item;
    }

-- the one event that a frame has after a history
abbrev pub event_of : Frames → PlainSettings → (history : List Event) → Arrival → (octets : List ℕ) → Event
event_of frames settings history arrival octets =
    event_by settings (link_of frames) arrival octets (fate_of frames settings arrival octets)
    (item_of settings (link_of frames) (items_in history) (packet_of arrival octets))

-- each event is the one that its frame has after the events before it
abbrev pub IsLawful : Frames → PlainSettings → List Event → Type 0
IsLawful frames settings [] = Unit {0}
IsLawful frames settings (event ∷ older) =
    IsLawful frames settings older × (event ≡ event_of frames settings older event.arrival event.octets)

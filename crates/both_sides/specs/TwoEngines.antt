-- The state of two engines in sequence, and the traces that they represent.
use Rattle.std.specs.Prelude.{◌≡◌, ℕ, List, map, drop}
use Rattle.pcap_file.specs.Records.{Packet}
use Rattle.norm_engine.specs.Items.{Item, packets}
use Rattle.norm_engine.specs.Trace.{Lawful}
use Rattle.norm_engine.specs.CleanRecords.{HaveOctets}
use Rattle.norm_engine.specs.EngineState.{Engaged}
use Rattle.norm_engine.specs.EngineState as engine
use Rattle.both_sides.specs.Traces.{mirrored, record_of, behind, records_of}

-- both engines as contracts see them, and the records of the frames that the second has not read
-- yet, the next one at the head
pub record Joined : Type 0 where
  pub first : Engaged
  pub second : Engaged
  pub pending : List Packet

-- The engines represent a pair of traces, each its own. The second has the settings and the link
-- type of the first, with exchanged sides. Its trace is the lawful one of the other's frames,
-- except those that it has not read yet.
pub record StandsFor (both : Joined) (trace mirror : List Item) : Type 0 where
  pub first : engine.StandsFor both.first trace
  pub second : engine.StandsFor both.second mirror
  pub settings : both.second.settings ≡ mirrored both.first.settings
  pub link : both.second.link ≡ both.first.link
  pub lawful : Lawful both.second.settings both.second.link mirror
  pub octets : HaveOctets mirror
  pub handed : records_of trace ≡ behind both.pending (packets mirror)

-- both engines with the frames of a record with this time; the second engine has read `had` of them
abbrev pub joined : (first second : Engaged) (seconds fraction : ℕ) (frames : List (List ℕ)) (had : ℕ) → Joined
joined first second seconds fraction frames had =
    record { first = first; second = second; pending = map (record_of seconds fraction) (drop had frames) }

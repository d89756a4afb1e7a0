-- The engine over records as they arrive: the history that it represents, and what is true of all
-- that was written so far (this project's profile).
use Rattle.std.specs.Prelude.{◌≡◌, ℕ, Bool, List, ◌∷◌, length}
use Rattle.wire_base.specs.declared.address.Link.{Link}
use Rattle.pcap_file.specs.Records.{Packet}
use Rattle.rule_book.specs.Entries.{PlainEntry}
use Rattle.norm_settings.specs.SettingValues.{PlainSettings, AreInRange}
use Rattle.norm_engine.specs.Items.{Item, frame_count}
use Rattle.norm_engine.specs.Trace.{item_of}
use Rattle.norm_engine.specs.EngineState.{Engaged, StandsFor, frames_given}
use Rattle.norm_engine.specs.TraceLaws.{IsSound}
use Rattle.norm_engine.specs.BroughtOctets.{InventsNothing}
use Rattle.norm_engine.specs.WrittenTrace.{HaveFrameOctets, IsWrittenSoundly, NamesEachClashAsWritten, NamesEachFragmentClashAsWritten, ReadsRecordsAsWritten, item_written, written}

-- what contracts see: the engine, the frames written for the newest record (other than one written
-- as it was read), its entry, and the number of frames written so far
pub record Lived : Type 0 where
  pub engine : Engaged
  pub frames : List (List ℕ)
  pub entry : PlainEntry
  pub written : ℕ

-- It represents the history: its engine does, the history is lawful and over records of octets, and
-- it has counted the frames that were written.
pub record Represents (live : Lived) (history : List Item) : Type 0 where
  pub stands : StandsFor live.engine history
  pub sound : IsSound live.engine.settings live.engine.link history
  pub octets : HaveFrameOctets live.engine.settings.mtu history
  pub counted : live.written ≡ frame_count (written live.engine.settings live.engine.link history)

-- What a finished run by one engine promises of its records and frames, of all so far. Clean
-- records keep their payload, nothing exceeds the settings, receivers agree and read parts of one
-- stream, a monitor misses nothing, no frame is too long, and each inwards is plain, except ARP.
-- Each octet of a stream was brought by the record that added it, T_CLASH and F_CLASH are named
-- exactly if a record contradicts, and receivers read only what records brought.
pub record IsNormal (settings : PlainSettings) (link : Link) (history : List Item) : Type 0 where
  pub sound : IsWrittenSoundly settings link history
  pub brought : InventsNothing settings link history
  pub clashes : NamesEachClashAsWritten settings link history
  pub fragment_clashes : NamesEachFragmentClashAsWritten settings link history
  pub reads_records : ReadsRecordsAsWritten settings link history

-- this is true of each history that is represented under settings in their ranges
abbrev pub RepresentedIsNormal : Type 0
RepresentedIsNormal =
    (live : Lived) (history : List Item) → AreInRange live.engine.settings → Represents live history
    → IsNormal live.engine.settings live.engine.link history

-- the item of the next record
abbrev pub next_item : Lived → List Item → Packet → Item
next_item before history r = item_of before.engine.settings before.engine.link history r

-- The next record after the history was judged: its entry and its frames are those of its item, as
-- they are written, and the entry counts them. The history is extended by it, and all that was
-- written so far is normal.
pub record Gives (before after : Lived) (r : Packet) (as_read : Bool) (history : List Item) : Type 0 where
  pub entry : after.entry ≡ (item_written before.engine.settings.mtu before.engine.link (next_item before history r)).entry
  pub frames : frames_given as_read r.octets after.frames ≡ (item_written before.engine.settings.mtu before.engine.link (next_item before history r)).frames
  pub count : after.entry.packets ≡ length (item_written before.engine.settings.mtu before.engine.link (next_item before history r)).frames
  pub represents : Represents after (next_item before history r ∷ history)
  pub normal : IsNormal before.engine.settings before.engine.link (next_item before history r ∷ history)

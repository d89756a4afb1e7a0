-- Which records brought what a run writes, by one engine or by two, and which of them contradict
-- each other (this project's profile).
use Rattle.std.specs.Prelude.{◌≡◌, ℕ, ◌≤◌, List, ◌∷◌, ◌++◌, map}
use Rattle.wire_base.specs.declared.address.Link.{Link}
use Rattle.pcap_file.specs.Records.{Packet}
use Rattle.norm_settings.specs.SettingValues.{AreInRange, GoTogether, PlainSettings}
use Rattle.norm_engine.specs.Items.{Item, packets}
use Rattle.norm_engine.specs.BroughtOctets.{InventsNothing, NamesEachClash}
use Rattle.norm_engine.specs.GivenOctets.{ReadsRecords}
use Rattle.norm_engine.specs.HeldFragments.{NamesEachFragmentClash}
use Rattle.both_sides.specs.Traces.{behind, mirrored, record_of, records_of}
use Rattle.both_sides.specs.RunTraces.{LawfulRun, RunHasNoSide, RunHasOctets, RunTrace, one, two}
use Rattle.norm_engine.specs.WrittenTrace.{NamesEachClashAsWritten, NamesEachFragmentClashAsWritten, ReadsRecordsAsWritten}

-- This record of the second engine is a frame that the first engine wrote for a record of the
-- capture, and has the time of that record. Before it the second engine had read exactly the frames
-- of earlier records, and those that the first wrote earlier for this one.
pub record IsFrameOf (trace : List Item) (r : Packet) (before : List Packet) : Type 0 where
  pub newer : List Item
  pub item : Item
  pub older : List Item
  pub trace_is : trace ≡ newer ++ (item ∷ older)
  pub earlier : List (List ℕ)
  pub frame : List ℕ
  pub later : List (List ℕ)
  pub frames_are : item.frames ≡ earlier ++ (frame ∷ later)
  pub record_is : r ≡ record_of item.packet.seconds item.packet.fraction frame
  pub before_is : before ≡ behind (map (record_of item.packet.seconds item.packet.fraction) earlier) (records_of older)

-- each record of the second engine is such a frame, and so is each that brought an octet or an end
-- to one of its eras
abbrev pub AreFramesOf : (trace mirror : List Item) → Type 0
AreFramesOf trace mirror = (newer : List Item) (item : Item) (older : List Item) → mirror ≡ newer ++ (item ∷ older) → IsFrameOf trace item.packet (packets older)

-- In each era of each engine each octet of the stream, and its end, was brought by the very record
-- of that engine that added it. The records of the second engine are frames of the first, each tied
-- to the record of the capture for which the first wrote it. The lawful trace says which octets
-- such a frame has. The stream is that of the frames before they are cut for an MTU, and the
-- receivers of what is written read parts of it.
abbrev pub RunInventsNothing : PlainSettings → Link → RunTrace → Type 0
RunInventsNothing settings link (one trace) = InventsNothing settings link trace
RunInventsNothing settings link (two trace mirror) =
    InventsNothing settings link trace × InventsNothing (mirrored settings) link mirror × AreFramesOf trace mirror

-- The lines of each engine name T_CLASH exactly if their record is written, has neither SYN nor
-- RST, and contradicts the stream. It does so by an octet, at an offset at or past Acked, that
-- differs from the one written first there.
abbrev pub RunNamesEachClash : PlainSettings → Link → RunTrace → Type 0
RunNamesEachClash settings link (one trace) = NamesEachClashAsWritten settings link trace
RunNamesEachClash settings link (two trace mirror) = NamesEachClash settings link trace × NamesEachClash (mirrored settings) link mirror

-- The lines of each engine name F_CLASH exactly if their record carries a fragment, which no rule
-- tested before drops, with an octet that differs from a held one.
abbrev pub RunNamesEachFragmentClash : PlainSettings → Link → RunTrace → Type 0
RunNamesEachFragmentClash settings link (one trace) = NamesEachFragmentClashAsWritten settings link trace
RunNamesEachFragmentClash settings link (two trace mirror) =
    NamesEachFragmentClash settings link trace × NamesEachFragmentClash (mirrored settings) link mirror

-- nothing is invented in a run, and each clash is real
pub record RunIsBrought (settings : PlainSettings) (link : Link) (run : RunTrace) : Type 0 where
  pub brought : RunInventsNothing settings link run
  pub clashes : RunNamesEachClash settings link run
  pub fragment_clashes : RunNamesEachFragmentClash settings link run

-- This holds for each lawful run of records of octets with at most 254 routers.
abbrev pub RunsAreBrought : Type 0
RunsAreBrought =
    (settings : PlainSettings) (link : Link) (run : RunTrace) → settings.hops ≤ 254 → LawfulRun settings link run → RunHasOctets settings run
    → RunIsBrought settings link run

-- receivers read only what records brought, on the side of each engine
abbrev pub RunReadsRecords : PlainSettings → Link → RunTrace → Type 0
RunReadsRecords settings link (one trace) = ReadsRecordsAsWritten settings link trace
RunReadsRecords settings link (two trace mirror) = ReadsRecords settings link trace × ReadsRecords (mirrored settings) link mirror

-- This holds for each lawful run under compatible settings in their ranges, whose records and
-- frames are octets, and whose records do not have their own side if both sides are protected.
abbrev pub RunsReadRecords : Type 0
RunsReadRecords =
    (settings : PlainSettings) (link : Link) (run : RunTrace) → AreInRange settings → GoTogether settings → LawfulRun settings link run → RunHasOctets settings run
    → RunHasNoSide run → RunReadsRecords settings link run

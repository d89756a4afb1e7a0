-- The trace of a run: that of one engine, or, if both sides are protected, those of two in sequence
-- (this project's profile). Traces are lists of items with the newest at the head.
use Rattle.std.specs.Prelude.{◌≡◌, Bool, true, false, List, [], ◌∷◌, ◌++◌}
use Rattle.wire_base.specs.declared.address.Link.{Link}
use Rattle.pcap_file.specs.Records.{Packet}
use Rattle.norm_settings.specs.SettingValues.{PlainSettings}
use Rattle.norm_engine.specs.Items.{Item, packets}
use Rattle.norm_engine.specs.Trace.{Lawful, item_of}
use Rattle.norm_engine.specs.CleanRecords.{HaveOctets}
use Rattle.both_sides.specs.Traces.{AreLawful, mirrored, records_for}
use Rattle.both_sides.specs.EngineLaws.{HaveNoSide}
use Rattle.norm_engine.specs.WrittenTrace.{HaveFrameOctets}

pub data RunTrace : Type 0 where
  one : List Item → RunTrace
  two : (trace mirror : List Item) → RunTrace

-- the trace of the records of the capture
abbrev pub trace_in : RunTrace → List Item
trace_in (one trace) = trace
trace_in (two trace mirror) = trace

-- the records of the capture
abbrev pub packets_of : RunTrace → List Packet
packets_of run = packets (trace_in run)

-- before the first record
abbrev pub empty_run : (both : Bool) → RunTrace
empty_run false = one []
empty_run true = two [] []

-- If one side is protected, one engine has a lawful trace. If both are, two engines have a pair of
-- lawful ones: the frames of the first are the records of the second, whose sides are exchanged.
abbrev pub LawfulRun : PlainSettings → Link → RunTrace → Type 0
LawfulRun settings link (one trace) = (settings.both ≡ false) × Lawful settings link trace
LawfulRun settings link (two trace mirror) = (settings.both ≡ true) × AreLawful settings link trace mirror

-- the items of the second engine for these records, one after another after its own trace
abbrev pub answers : PlainSettings → Link → (mirror : List Item) → List Packet → List Item
answers settings link mirror [] = []
answers settings link mirror (r ∷ more) =
    let item = item_of (mirrored settings) link mirror r in
    answers settings link (item ∷ mirror) more ++ item ∷ []

-- the run with one record more: it has one item after the items before it, and each frame of that
-- item has one of the second engine
abbrev pub next_run : PlainSettings → Link → RunTrace → Packet → RunTrace
next_run settings link (one trace) r = one (item_of settings link trace r ∷ trace)
next_run settings link (two trace mirror) r =
    let item = item_of settings link trace r in
    two (item ∷ trace) (answers settings link mirror (records_for item) ++ mirror)

-- Each octet of the records is a number below 256, and so is each octet of the frames that may be
-- cut, or that the second engine reads.
abbrev pub RunHasOctets : PlainSettings → RunTrace → Type 0
RunHasOctets settings (one trace) = HaveOctets trace × HaveFrameOctets settings.mtu trace
RunHasOctets settings (two trace mirror) = HaveOctets trace × HaveOctets mirror

-- If both sides are protected, no record has its own side.
abbrev pub RunHasNoSide : RunTrace → Type 0
RunHasNoSide (one trace) = Unit {0}
RunHasNoSide (two trace mirror) = HaveNoSide trace

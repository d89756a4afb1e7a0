-- What the recorded host read, if a run changed nothing inwards, and what receivers read of two
-- eras of a run.
use Rattle.std.specs.Prelude.{◌≡◌, ◌≤◌, List, None}
use Rattle.wire_base.specs.declared.address.Link.{Link}
use Rattle.norm_settings.specs.SettingValues.{PlainSettings}
use Rattle.norm_engine.specs.Items.{Item}
use Rattle.norm_engine.specs.RecordedHost.{UnchangedWasReadSo}
use Rattle.norm_engine.specs.TwoEras.{ErasGoOn}
use Rattle.norm_engine.specs.WrittenTrace.{written}
use Rattle.both_sides.specs.RunTraces.{LawfulRun, RunHasOctets, RunTrace, one, two}

-- This is said of what is written in each lawful run of records of octets by one engine, without an
-- MTU and with at most 254 routers. If each line so far that is inbound or has no side is `pass`,
-- the inward packets as recorded are those that were written, and were read so. The same of the
-- records and eras of a pair of addresses.
abbrev pub RunsWereReadSo : Type 0
RunsWereReadSo =
    (settings : PlainSettings) (link : Link) (trace : List Item) → settings.hops ≤ 254 → LawfulRun settings link (one trace) → RunHasOctets settings (one trace)
    → settings.mtu ≡ None → UnchangedWasReadSo settings link (written settings link trace)

-- Two eras of what is written by one engine without an MTU, or of the trace of either engine, are
-- read as the definitions of two eras say.
abbrev pub RunErasGoOn : PlainSettings → Link → RunTrace → Type 0
RunErasGoOn settings link (one trace) = settings.mtu ≡ None → ErasGoOn settings.hops link (written settings link trace)
RunErasGoOn settings link (two trace mirror) = ErasGoOn settings.hops link trace × ErasGoOn settings.hops link mirror

-- This holds for each lawful run of records of octets with at most 254 routers.
abbrev pub ErasOfRunsGoOn : Type 0
ErasOfRunsGoOn =
    (settings : PlainSettings) (link : Link) (run : RunTrace) → settings.hops ≤ 254 → LawfulRun settings link run → RunHasOctets settings run
    → RunErasGoOn settings link run

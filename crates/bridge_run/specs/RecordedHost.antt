-- What the recorded host read, if a run changed nothing inwards, and what receivers read of two
-- eras (this project's profile).
use Rattle.std.specs.Prelude.{◌≡◌, ℕ, false, List, Option, None}
use Rattle.norm_settings.specs.SettingValues.{PlainSettings}
use Rattle.norm_engine.specs.RecordedHost.{UnchangedWasReadSo}
use Rattle.norm_engine.specs.WrittenTrace.{written}
use Rattle.both_sides.specs.RecordedHost.{RunErasGoOn}
use Rattle.both_sides.specs.RunTraces.{trace_in}
use Rattle.bridge_run.specs.Theorem.{Normalized}

-- This is said of each capture that was normalized by one engine without an MTU, with the trace as
-- it was written, before the first record and after each. If each line so far that is inbound or
-- has no side is `pass`, the inward packets as recorded so far are those that were written, and
-- were read so. The same of the records and eras of a pair of addresses, if that is so of each line
-- whose record may be of that pair.
abbrev pub NormalizedWasReadSo : Type 0
NormalizedWasReadSo =
    (settings : PlainSettings) (source source' capture capture' report report' : Option (List ℕ)) (n : Normalized settings source source' capture capture' report report')
    → settings.both ≡ false → settings.mtu ≡ None → UnchangedWasReadSo settings n.head.link (written settings n.head.link (trace_in n.run))

-- For each capture that was normalized, without an MTU if by one engine: two eras are read as the
-- definitions of two eras say.
abbrev pub NormalizedErasGoOn : Type 0
NormalizedErasGoOn =
    (settings : PlainSettings) (source source' capture capture' report report' : Option (List ℕ)) (n : Normalized settings source source' capture capture' report report')
    → RunErasGoOn settings n.head.link n.run

use Rattle.std.proofs.Common.{◌≡◌, ◌≤◌, false, None, sym, ◌∙◌}
use Rattle.std.proofs.lemmas.Bool.{false≢true}
use Rattle.wire_base.specs.declared.address.Link.{Link}
use Rattle.norm_settings.specs.SettingValues.{PlainSettings}
use Rattle.norm_engine.specs.RecordedHost.{UnchangedWasReadSo}
use Rattle.norm_engine.specs.WrittenTrace.{written}
use Rattle.both_sides.specs.RunTraces.{LawfulRun, RunHasOctets, RunTrace, one, trace_in, two}
use Rattle.both_sides.specs.RecordedHost.{RunsWereReadSo}
use Rattle.bridge_run.specs.RecordedHost.{NormalizedWasReadSo}
use Rattle.bridge_run.proofs.laws.unchanged_captures_were_read_so.Goals as goal

run_was_read_so : RunsWereReadSo → (settings : PlainSettings) (link : Link) (run : RunTrace) → settings.hops ≤ 254 → settings.both ≡ false → settings.mtu ≡ None
    → LawfulRun settings link run → RunHasOctets settings run → UnchangedWasReadSo settings link (written settings link (trace_in run))
run_was_read_so runs settings link (one trace) hops single none lawful octets = runs settings link trace hops lawful octets none
run_was_read_so runs settings link (two trace mirror) hops single none lawful octets = absurd (false≢true (sym single ∙ lawful.0))

was_read_so : RunsWereReadSo → NormalizedWasReadSo
was_read_so runs settings source source' capture capture' report report' n single none =
    run_was_read_so runs settings n.head.link n.run n.range.hops single none n.lawful n.octets

pub returns : goal.returns
returns c = was_read_so c.unchanged_runs_were_read_so.ensures

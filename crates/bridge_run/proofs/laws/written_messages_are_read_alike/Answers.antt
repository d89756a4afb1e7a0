-- Any two receivers read alike what a run wrote inwards.
use Rattle.wire_base.specs.declared.address.Link.{Link}
use Rattle.norm_settings.specs.SettingValues.{PlainSettings}
use Rattle.norm_engine.specs.SentFrames.{PlainIsReadAlike}
use Rattle.norm_engine.specs.WrittenTrace.{written}
use Rattle.both_sides.specs.RunTraces.{RunTrace, one, two}
use Rattle.bridge_run.specs.Promises.{InwardArePlain, MessagesAreReadAlike}
use Rattle.bridge_run.specs.Theorem.{NormalizedIsReadAlike}
use Rattle.bridge_run.proofs.laws.written_messages_are_read_alike.Goals as goal

-- Any two receivers read alike what a run wrote inwards.

run_is_read_alike : PlainIsReadAlike → (settings : PlainSettings) (link : Link) (run : RunTrace) → InwardArePlain settings link run → MessagesAreReadAlike settings link run
run_is_read_alike alike settings link (one trace) plain = alike settings.hops link (written settings link trace) plain
run_is_read_alike alike settings link (two trace mirror) plain = (alike settings.hops link trace plain.0, alike settings.hops link mirror plain.1)

pub normalized_is_read_alike : PlainIsReadAlike → NormalizedIsReadAlike
normalized_is_read_alike alike settings source source' capture capture' report report' n = run_is_read_alike alike settings n.head.link n.run n.plain

pub returns : goal.returns
returns c = normalized_is_read_alike c.messages_are_read_alike.ensures

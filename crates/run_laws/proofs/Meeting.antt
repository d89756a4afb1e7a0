-- Receivers that read parts of one stream meet.
use Rattle.std.proofs.Common.{ℕ, List}
use Rattle.wire_base.specs.declared.address.Link.{Link}
use Rattle.norm_settings.specs.SettingValues.{PlainSettings}
use Rattle.receiver_model.specs.StreamParts.{PartsMeet}
use Rattle.norm_engine.specs.Agreement.{ReadsOneStream}
use Rattle.norm_engine.specs.Items.{Item}
use Rattle.norm_engine.specs.WrittenTrace.{ReadsOneStreamAsWritten}
use Rattle.both_sides.specs.RunTraces.{RunTrace, one, two}
use Rattle.bridge_run.specs.Promises.{ReceiversReadOneStream}
use Rattle.run_laws.specs.MeetingReceivers.{RunTwoMeet, TwoMeet, TwoMeetAsWritten}

two_meet : PartsMeet → (hops : ℕ) (link : Link) (trace : List Item) → ReadsOneStream hops link trace → TwoMeet hops link trace
two_meet law hops link trace reads era base based here there start from schedule order stream seen ended over mine yours p q =
    law.meet _ _ start from stream seen ended over (reads era base based here start schedule stream ended mine p) (reads era base based there from order seen over yours q)

written_meet : PartsMeet → (settings : PlainSettings) (link : Link) (trace : List Item) → ReadsOneStreamAsWritten settings link trace
    → TwoMeetAsWritten settings link trace
written_meet law settings link trace reads era base based here there start from schedule order stream seen ended over mine yours p q =
    law.meet _ _ start from stream seen ended over (reads era base based here start schedule stream ended mine p) (reads era base based there from order seen over yours q)

pub run_meets : PartsMeet → (settings : PlainSettings) (link : Link) (run : RunTrace) → ReceiversReadOneStream settings link run → RunTwoMeet settings link run
run_meets law settings link (one trace) reads = written_meet law settings link trace reads
run_meets law settings link (two trace mirror) reads = (two_meet law settings.hops link trace reads.0, two_meet law settings.hops link mirror reads.1)

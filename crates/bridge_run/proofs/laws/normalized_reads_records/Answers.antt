use Rattle.wire_base.specs.declared.address.Link.{Link}
use Rattle.norm_settings.specs.SettingValues.{PlainSettings}
use Rattle.both_sides.specs.RunTraces.{RunTrace, one, two}
use Rattle.both_sides.proofs.BroughtRuns.{ReadsOneStreamOf, run_reads_records}
use Rattle.bridge_run.specs.Promises.{ReceiversReadOneStream}
use Rattle.bridge_run.specs.Theorem.{NormalizedReadsRecords}
use Rattle.bridge_run.proofs.laws.normalized_reads_records.Goals as goal

stream_of : (settings : PlainSettings) (link : Link) (run : RunTrace) → ReceiversReadOneStream settings link run → ReadsOneStreamOf settings link run
stream_of settings link (one trace) reads = reads
stream_of settings link (two trace mirror) reads = reads

reads_records : NormalizedReadsRecords
reads_records settings source source' capture capture' report report' n =
    run_reads_records settings n.head.link n.run (record { brought = n.brought; clashes = n.clashes; fragment_clashes = n.fragment_clashes }) (stream_of settings n.head.link n.run n.reads)

pub returns : goal.returns
returns c = reads_records

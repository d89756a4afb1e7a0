use Rattle.run_audit.proofs.Receivers.{faultless_reads}
use Rattle.run_audit.proofs.laws.faultless_reads_one_stream.Goals as goal

pub returns : goal.returns
returns c =
    faultless_reads
    (record {
      eras = record { read = c.offsets_are_read.ensures; same = c.inwards_acknowledge_nothing.ensures; remains = c.written_remains.ensures; joins = c.emitted_joins.ensures; told = c.emitted_is_told.ensures };
      silence = c.silence_changes_nothing.ensures;
    })
    c.members_read_parts.ensures

use Rattle.run_audit.proofs.FrameFaults.{emitted_faultless}
use Rattle.run_audit.proofs.laws.emitted_has_no_fault.Goals as goal

pub returns : goal.returns
returns c =
    emitted_faultless (record {
      eras = record { read = c.offsets_are_read.ensures; same = c.inwards_acknowledge_nothing.ensures; remains = c.written_remains.ensures; joins = c.emitted_joins.ensures; told = c.emitted_is_told.ensures };
      places = c.emitted_octets_are_places.ensures;
      silence = c.silence_changes_nothing.ensures;
    })

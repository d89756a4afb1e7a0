use Rattle.run_audit.proofs.Receivers.{faultless_misses}
use Rattle.run_audit.proofs.laws.faultless_misses_nothing.Goals as goal

pub returns : goal.returns
returns c =
    faultless_misses
    (record {
      eras = record { read = c.offsets_are_read.ensures; same = c.inwards_acknowledge_nothing.ensures; remains = c.written_remains.ensures; joins = c.emitted_joins.ensures; told = c.emitted_is_told.ensures };
      silence = c.silence_changes_nothing.ensures;
    })
    c.monitors_miss_nothing.ensures

use Rattle.norm_engine.proofs.Traces.{rows_are_of_eras}
use Rattle.run_audit.proofs.Resets.{resets_last}
use Rattle.run_audit.proofs.laws.resets_are_last.Goals as goal

pub returns : goal.returns
returns c =
    resets_last
    (record {
      rows = rows_are_of_eras;
      known = c.datagrams_are_known.ensures;
      own = c.packets_are_its_own.ensures;
      plain = c.packets_are_plain.ensures;
      silent = c.probes_are_silent.ensures;
    }) c.mended_say_the_same.ensures c.lawful_calls_are_made.ensures

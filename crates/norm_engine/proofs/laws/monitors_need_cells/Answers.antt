use Rattle.norm_engine.proofs.Receivers.{waiting_is_few, waiting_is_kept}
use Rattle.norm_engine.proofs.Traces.{rows_are_of_eras}
use Rattle.norm_engine.proofs.laws.monitors_need_cells.Goals as goal

pub returns-clause-kept : goal.returns-clause-kept
returns-clause-kept c = waiting_is_kept c.lawful_tells_streams.ensures

pub returns-clause-few : goal.returns-clause-few
returns-clause-few c =
    waiting_is_few (record {
      rows = rows_are_of_eras;
      known = c.datagrams_are_known.ensures;
      own = c.packets_are_its_own.ensures;
      plain = c.packets_are_plain.ensures;
      silent = c.probes_are_silent.ensures;
    }) c.lawful_tells_streams.ensures

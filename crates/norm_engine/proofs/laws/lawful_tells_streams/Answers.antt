use Rattle.norm_engine.proofs.Receivers.{tells}
use Rattle.norm_engine.proofs.Traces.{rows_are_of_eras}
use Rattle.norm_engine.proofs.laws.lawful_tells_streams.Goals as goal

pub returns : goal.returns
returns c =
    tells (record {
      rows = rows_are_of_eras;
      known = c.datagrams_are_known.ensures;
      own = c.packets_are_its_own.ensures;
      plain = c.packets_are_plain.ensures;
      silent = c.probes_are_silent.ensures;
    }) c.calls_are_emitted.ensures c.emitted_tells_one_stream.ensures c.lawful_calls_are_made.ensures

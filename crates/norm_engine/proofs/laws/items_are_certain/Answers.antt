use Rattle.norm_engine.proofs.OneReading.{items_certain}
use Rattle.norm_engine.proofs.Traces.{rows_are_of_eras}
use Rattle.norm_engine.proofs.laws.items_are_certain.Goals as goal

pub returns : goal.returns
returns c =
    items_certain
    (record {
      rows = rows_are_of_eras;
      known = c.datagrams_are_known.ensures;
      own = c.packets_are_its_own.ensures;
      plain = c.packets_are_plain.ensures;
      silent = c.probes_are_silent.ensures;
    }) c.anew_is_packet.ensures c.mended_say_the_same.ensures

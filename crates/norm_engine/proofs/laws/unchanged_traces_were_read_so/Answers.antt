use Rattle.norm_engine.proofs.EraPairs.{pair_of}
use Rattle.norm_engine.proofs.RecordedPackets.{lawful_was_read_so}
use Rattle.norm_engine.proofs.laws.unchanged_traces_were_read_so.Goals as goal

pub returns : goal.returns
returns c = lawful_was_read_so (record {
  clean = c.lawful_keeps_clean.ensures;
  agree = c.lawful_agrees.ensures;
  reads = c.lawful_reads_one_stream.ensures.receivers;
  monitor = c.lawful_misses_nothing.ensures;
  pair = pair_of (record {
    known = c.datagrams_are_known.ensures;
    own = c.packets_are_its_own.ensures;
    certain = c.items_are_certain.ensures;
    made = c.lawful_calls_are_made.ensures;
  });
})

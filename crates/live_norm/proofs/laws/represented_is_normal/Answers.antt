use Rattle.live_norm.proofs.Steps.{represented_normal}
use Rattle.live_norm.proofs.laws.represented_is_normal.Goals as goal

pub returns : goal.returns
returns c = represented_normal (record {
  counted = c.items_are_counted.ensures;
  soundly = c.lawful_is_written_soundly.ensures;
  invents = c.lawful_invents_nothing.ensures;
  clashes = c.written_clashes_are_real.ensures.clashes;
  fragments = c.written_clashes_are_real.ensures.fragment_clashes;
  reads = c.written_reads_records.ensures;
})

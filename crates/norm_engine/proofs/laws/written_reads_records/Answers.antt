use Rattle.norm_engine.proofs.WrittenClashes.{written_reads_records}
use Rattle.norm_engine.proofs.laws.written_reads_records.Goals as goal

pub returns : goal.returns
returns c = written_reads_records c.lawful_invents_nothing.ensures c.written_clashes_are_real.ensures.clashes c.lawful_is_written_soundly.ensures

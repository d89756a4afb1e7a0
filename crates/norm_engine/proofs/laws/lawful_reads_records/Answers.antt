use Rattle.norm_engine.proofs.EraReadings.{lawful_reads_records}
use Rattle.norm_engine.proofs.laws.lawful_reads_records.Goals as goal

pub returns : goal.returns
returns c = lawful_reads_records c.lawful_invents_nothing.ensures c.lawful_clashes_are_real.ensures c.lawful_reads_one_stream.ensures.receivers

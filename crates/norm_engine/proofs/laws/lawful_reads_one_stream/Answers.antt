use Rattle.norm_engine.proofs.Receivers.{of_one_stream, reads_one_stream}
use Rattle.norm_engine.proofs.laws.lawful_reads_one_stream.Goals as goal

pub returns-clause-frames : goal.returns-clause-frames
returns-clause-frames c = of_one_stream c.emitted_reads_one_stream.ensures.packets c.lawful_is_emitted.ensures

pub returns-clause-receivers : goal.returns-clause-receivers
returns-clause-receivers c = reads_one_stream c.emitted_reads_one_stream.ensures.receivers c.lawful_is_emitted.ensures

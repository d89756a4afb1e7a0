use Rattle.norm_engine.proofs.WrittenFrames.{agrees_whole, misses_whole, reads_whole, written_whole}
use Rattle.norm_engine.proofs.laws.unbounded_is_written_whole.Goals as goal

pub returns-clause-whole : goal.returns-clause-whole
returns-clause-whole c = written_whole

pub returns-clause-agree : goal.returns-clause-agree
returns-clause-agree c = agrees_whole

pub returns-clause-reads : goal.returns-clause-reads
returns-clause-reads c = reads_whole

pub returns-clause-monitor : goal.returns-clause-monitor
returns-clause-monitor c = misses_whole

use Rattle.norm_settings.proofs.Grammar.{read_is_written, written_is_read}
use Rattle.norm_settings.proofs.laws.lines_are_those_written.Goals as goal

pub returns-clause-read : goal.returns-clause-read
returns-clause-read c = read_is_written

pub returns-clause-written : goal.returns-clause-written
returns-clause-written c = written_is_read

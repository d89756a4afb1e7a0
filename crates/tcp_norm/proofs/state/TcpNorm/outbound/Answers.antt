use Rattle.std.proofs.Common.{◌∙◌}
use Rattle.tcp_norm.proofs.state.TcpNorm.outbound.Goals as goal

pub returns-clause-frames : goal.returns-clause-frames
returns-clause-frames c settings calls d st is = c.put_given.ensures ∙ c.take_into-as_read.ensures.frames settings calls d st is

use Rattle.std.proofs.Common.{◌∙◌, sym}
use Rattle.tcp_norm.proofs.state.TcpNorm.inbound.Goals as goal

pub take_into-as_read-requires-clause-fields : goal.take_into-as_read-requires-clause-fields
take_into-as_read-requires-clause-fields c out = cc (sym c.requires.side ∙ out)

pub returns-clause-frames : goal.returns-clause-frames
returns-clause-frames c settings calls d st is = c.put_given.ensures ∙ c.take_into-as_read.ensures.frames settings calls d st is

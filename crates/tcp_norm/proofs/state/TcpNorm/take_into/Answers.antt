use Rattle.tcp_norm.proofs.OutboundSegments.{is_read}
use Rattle.tcp_norm.proofs.state.TcpNorm.take_into.Goals as goal

pub invariant_of-arrival-clause-read : goal.invariant_of-arrival-clause-read
invariant_of-arrival-clause-read c = is_read c.requires.head

pub judge-requires-clause-outward : goal.judge-requires-clause-outward
judge-requires-clause-outward c out = record { side = out; fields = c.requires.fields out }

pub returns-clause-stands : goal.returns-clause-stands
returns-clause-stands c settings calls d st is = (c.judge.ensures.answered settings calls d st is).stands

pub returns-clause-entry : goal.returns-clause-entry
returns-clause-entry c settings calls d st is = (c.judge.ensures.answered settings calls d st is).shows.entry

pub returns-clause-unsent : goal.returns-clause-unsent
returns-clause-unsent c = c.judge.ensures.unsent

pub returns-clause-frames : goal.returns-clause-frames
returns-clause-frames c settings calls d st is = (c.judge.ensures.answered settings calls d st is).shows.frames

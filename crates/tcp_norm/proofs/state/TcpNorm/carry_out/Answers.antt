use Rattle.tcp_norm.proofs.state.TcpNorm.carry_out.Goals as goal

pub returns : goal.returns
returns c = record {
  same = c.emit.ensures.same;
  unsent = c.emit.ensures.unsent;
  shows = λ settings ws d opened is carried. record { entry = c.report.ensures settings ws d is; frames = c.emit.ensures.frames settings ws d opened is carried };
}

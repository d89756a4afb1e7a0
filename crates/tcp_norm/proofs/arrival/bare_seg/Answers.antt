use Rattle.std.proofs.Common.{◌∙◌, ap}
use Rattle.wire_base.specs.Tcp as tcp
use Rattle.tcp_norm.proofs.SegmentRules.{legal_stays}
use Rattle.tcp_norm.proofs.arrival.bare_seg.Goals as goal

pub returns-clause-flags : goal.returns-clause-flags
returns-clause-flags c = ap tcp.are_legal c.flags_sent.ensures.exact ∙ (legal_stays c.args.arrival.now.head.now.flags.0 ∙ c.args.arrival.now.read.legal)

use Rattle.std.proofs.Common.{take}
use Rattle.norm_engine.specs.working.FrameReports.{TellsAll}
use Rattle.live_norm.proofs.cut.emitted_of.Given as goal

abbrev pub invariant-loop-index : goal.invariant-loop-index
invariant-loop-index l = TellsAll l.fn.mtu l.fn.link (take l.index l.fn.out) l.emitted

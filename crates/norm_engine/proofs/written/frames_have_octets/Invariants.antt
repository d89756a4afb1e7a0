use Rattle.std.proofs.Common.{take, All}
use Rattle.emit_mtu.specs.FrameParts.{AreOctets}
use Rattle.norm_engine.proofs.written.frames_have_octets.Given as goal

abbrev pub invariant-loop-index : goal.invariant-loop-index
invariant-loop-index l = All AreOctets (take l.index l.out)

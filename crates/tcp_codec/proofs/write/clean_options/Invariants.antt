use Rattle.std.proofs.Common.{◌-◌, length}
use Rattle.tcp_codec.proofs.Buffers.{SoFar}
use Rattle.tcp_codec.proofs.write.clean_options.Given as goal

abbrev pub invariant-loop-at : goal.invariant-loop-at
invariant-loop-at l = SoFar l.syn l.fn.options l.options l.at l.kept l.changed

abbrev pub decreases-loop-at : goal.decreases-loop-at
decreases-loop-at l = length l.options - l.at

use Rattle.std.proofs.Common.{◌-◌, false, length}
use Rattle.tcp_codec.proofs.Buffers.{SoFar}
use Rattle.tcp_codec.proofs.write.options_change.Given as goal

-- the options before the offset are as they are when they are cleaned
abbrev pub invariant-loop-at : goal.invariant-loop-at
invariant-loop-at l = SoFar l.syn l.options l.options l.at l.kept false

abbrev pub decreases-loop-at : goal.decreases-loop-at
decreases-loop-at l = length l.options - l.at

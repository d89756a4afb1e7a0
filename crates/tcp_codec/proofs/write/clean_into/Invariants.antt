use Rattle.std.proofs.Common.{◌-◌, length}
use Rattle.tcp_codec.proofs.Buffers.{CopiedTo}
use Rattle.tcp_codec.proofs.write.clean_into.Given as goal

abbrev pub invariant-loop-at : goal.invariant-loop-at
invariant-loop-at l = CopiedTo l.syn l.area l.target l.at l.kept

abbrev pub decreases-loop-at : goal.decreases-loop-at
decreases-loop-at l = length l.area - l.at

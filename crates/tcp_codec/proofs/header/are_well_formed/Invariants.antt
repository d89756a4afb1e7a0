use Rattle.std.proofs.Common.{◌≡◌, ◌-◌, ◌≤◌, length, drop}
use Rattle.wire_base.specs.Options.{are_well_formed}
use Rattle.wire_base.proofs.OptionWalk.{formed_from}
use Rattle.tcp_codec.proofs.header.are_well_formed.Given as goal

-- the area is well formed exactly if the octets not yet read are
abbrev pub invariant-loop-at : goal.invariant-loop-at
invariant-loop-at l = record {
  inside : l.at ≤ length l.area;
  formed : are_well_formed l.area ≡ formed_from 0 (drop l.at l.area);
}

abbrev pub decreases-loop-at : goal.decreases-loop-at
decreases-loop-at l = length l.area - l.at

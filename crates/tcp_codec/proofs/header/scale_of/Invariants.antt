use Rattle.std.proofs.Common.{◌≡◌, ◌-◌, ◌≤◌, true, length, drop}
use Rattle.wire_base.specs.Options.{are_well_formed, scale_of}
use Rattle.wire_base.proofs.OptionWalk.{scale_from}
use Rattle.tcp_codec.proofs.header.scale_of.Given as goal

-- the octets not yet read are well formed, and have the window scale of the area
abbrev pub invariant-loop-at : goal.invariant-loop-at
invariant-loop-at l = record {
  inside : l.at ≤ length l.options;
  counted : l.read ≤ l.at;
  formed : are_well_formed (drop l.at l.options) ≡ true;
  scale : scale_of l.options ≡ scale_from 0 (drop l.at l.options);
}

abbrev pub decreases-loop-at : goal.decreases-loop-at
decreases-loop-at l = length l.options - l.at

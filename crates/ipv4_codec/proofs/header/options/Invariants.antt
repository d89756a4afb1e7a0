use Rattle.std.proofs.Common.{◌≡◌, ◌-◌, ◌≤◌, ◌||◌, length, drop}
use Rattle.wire_base.specs.Options.{are_well_formed, has_route, is_route}
use Rattle.wire_base.proofs.OptionWalk.{formed_from, has_from}
use Rattle.ipv4_codec.proofs.header.options.Given as goal

-- the area is well formed exactly if the octets not yet read are, and it has a route exactly if one
-- was read or these octets have one
abbrev pub invariant-loop-at : goal.invariant-loop-at
invariant-loop-at l = record {
  inside : l.at ≤ length l.bytes;
  formed : are_well_formed l.bytes ≡ formed_from 0 (drop l.at l.bytes);
  route : has_route l.bytes ≡ (l.route || has_from is_route 0 (drop l.at l.bytes));
}

abbrev pub decreases-loop-at : goal.decreases-loop-at
decreases-loop-at l = length l.bytes - l.at

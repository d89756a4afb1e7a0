use Rattle.std.proofs.Common.{◌≡◌, ◌≤◌, ◌+◌, ◌-◌, ◌^◌, ◌∷◌, ◌++◌, [], length, take}
use Rattle.receiver_model.specs.Policies.{octet_after}
use Rattle.receiver_model.specs.Delivery.{Extends}
use Rattle.receiver_model.proofs.stream.extend.Given as goal

abbrev pub invariant-loop-waiting : goal.invariant-loop-waiting
invariant-loop-waiting l = record {
  place : l.next ≡ l.start + length l.octets.items;
  extended : Extends (octet_after l.policy l.base (l.pieces ++ l.new ∷ [])) l.start l.fn.octets.items l.octets.items;
  longer : length l.fn.octets.items ≤ length l.octets.items;
  front : take (length l.fn.octets.items) l.octets.items ≡ l.fn.octets.items;
}

abbrev pub decreases-loop-waiting : goal.decreases-loop-waiting
decreases-loop-waiting l = 2 ^ 63 - length l.octets.items

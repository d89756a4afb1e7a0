use Rattle.std.proofs.Common.{◌≡◌, ◌<◌, ◌^◌, take, true}
use Rattle.std.specs.List.{list_all}
use Rattle.wire_base.specs.Prefixes as spec
use Rattle.wire_base.proofs.decimal.read_number.Given as goal

abbrev pub invariant-loop-digit : goal.invariant-loop-digit
invariant-loop-digit l = record {
  digits : list_all spec.is_digit (take l.digit-index l.text) ≡ true;
  exact : l.number ≡ spec.number_of (take l.digit-index l.text);
  small : l.number < 10 ^ l.digit-index;
}

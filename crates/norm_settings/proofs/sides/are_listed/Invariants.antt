use Rattle.std.proofs.Common.{◌≡◌, ◌||◌, drop}
use Rattle.norm_settings.specs.Side.{is_listed}
use Rattle.norm_settings.proofs.sides.are_listed.Given as goal

abbrev pub invariant-loop-prefix : goal.invariant-loop-prefix
invariant-loop-prefix l = record {
  source : is_listed l.prefixes l.src.0 ≡ (l.source || is_listed (drop l.prefix-index l.prefixes) l.src.0);
  destination : is_listed l.prefixes l.dst.0 ≡ (l.destination || is_listed (drop l.prefix-index l.prefixes) l.dst.0);
}

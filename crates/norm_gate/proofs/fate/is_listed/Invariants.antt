use Rattle.std.proofs.Common.{◌≡◌, drop}
use Rattle.norm_settings.specs.Side.{is_listed}
use Rattle.norm_gate.proofs.fate.is_listed.Given as goal

abbrev pub invariant-loop-prefix : goal.invariant-loop-prefix
invariant-loop-prefix l = is_listed l.prefixes l.address.0 ≡ is_listed (drop l.prefix-index l.prefixes) l.address.0

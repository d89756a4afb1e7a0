use Rattle.std.proofs.Common.{◌≤◌, All}
use Rattle.error_line.proofs.line.error_line.Given as goal

-- what was pushed has no control character
abbrev pub invariant-loop-octet : goal.invariant-loop-octet
invariant-loop-octet l = All (λ octet. 32 ≤ octet) l.line.items

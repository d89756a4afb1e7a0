use Rattle.std.proofs.Common.{◌≡◌, ℕ, ◌+◌, ◌||◌, not, true, None, drop}
use Rattle.run_audit.specs.working.KeptOctets.{kept_with, octet_in, some_stray}
use Rattle.run_audit.proofs.octets.Block.put_run.Given as goal

abbrev pub invariant-loop-count : goal.invariant-loop-count
invariant-loop-count l = record {
  right : (not l.right || some_stray (octet_in l.self) None (l.index + l.count) (drop l.count l.octets)) ≡ some_stray (octet_in l.initial.self) None l.index l.octets;
  kept : l.right ≡ true → (at : ℕ) → kept_with (octet_in l.self) (l.index + l.count) (drop l.count l.octets) at ≡ kept_with (octet_in l.initial.self) l.index l.octets at;
}

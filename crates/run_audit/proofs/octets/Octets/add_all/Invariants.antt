use Rattle.std.proofs.Common.{◌≡◌, ℕ, ◌+◌, None, length}
use Rattle.run_audit.specs.working.KeptOctets.{kept_at, kept_with, some_stray}
use Rattle.run_audit.proofs.octets.Octets.add_all.Given as goal

abbrev pub invariant-loop-rest : goal.invariant-loop-rest
invariant-loop-rest l = record {
  ahead : l.start.raised + length l.rest ≡ l.fn.place.raised + length l.octets;
  right : some_stray (kept_at l.self) None l.start.raised l.rest ≡ some_stray (kept_at l.initial.self) None l.fn.place.raised l.octets;
  kept : (raised : ℕ) → kept_with (kept_at l.self) l.start.raised l.rest raised ≡ kept_with (kept_at l.initial.self) l.fn.place.raised l.octets raised;
}

abbrev pub decreases-loop-rest : goal.decreases-loop-rest
decreases-loop-rest l = length l.rest

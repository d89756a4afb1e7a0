use Rattle.std.proofs.Common.{◌≡◌, length}
use Rattle.run_audit.specs.working.OwnedEntries.{left_of}
use Rattle.run_audit.proofs.owners.Owners.next.Given as goal

abbrev pub invariant-entries : goal.invariant-entries
invariant-entries l = left_of l.self ≡ left_of l.initial.self

abbrev pub decreases-entries : goal.decreases-entries
decreases-entries l = length l.self.entries.now

-- The entries of the frames that are left (this project's profile).
use Rattle.std.specs.Prelude.{ℕ, ◌-◌, List, [], ◌∷◌, ◌++◌, map, replicate}
use Rattle.rule_book.specs.Entries.{PlainEntry, plain}
use Rattle.run_audit.specs.declared.owners.Owners.{Owners}
use Rattle.run_audit.specs.OwnedFrames.{owners}

-- the entries of the frames that are left, of whose first entry `given` frames were returned
abbrev pub left_from : List PlainEntry → (given : ℕ) → List PlainEntry
left_from [] given = []
left_from (entry ∷ entries) given = replicate (entry.packets - given) entry ++ owners entries

-- the same of the code's value
abbrev pub left_of : Owners → List PlainEntry
left_of o = left_from (map plain o.entries.now) o.given

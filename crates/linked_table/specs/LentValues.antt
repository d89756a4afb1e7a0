-- What a table is once a `&mut` to one of its values has ended (this project's profile).
use Rattle.std.specs.Prelude.{ℕ, Bool}
use Rattle.std.specs.Borrow.{Fml, RattleType, MutBor, Lends}
use Rattle.linked_table.specs.declared.table.Slot.{Slot}
use Rattle.linked_table.specs.EntryTable.{Table, with_value}
use Rattle.linked_table.specs.contracts.table.LinkedTable.{the_row}

-- What a key's type says of its keys: which are equal, and their hashes.
abbrev pub KeyMembers : Type 0 → Type 0
KeyMembers K = record { eq : K → K → Bool; hash_of : K → ℕ → ℕ }

-- The entry of this slot has the last value after `r`, and all else is unchanged.
abbrev pub lends_value : (K V : RattleType) → KeyMembers K.Denot → MutBor (Table K.Denot V.Denot) → Slot → MutBor V.Denot → Fml
lends_value K V key t slot r =
    Lends (the_row K V (record { hash_of = key.hash_of }) (record { eq = key.eq })) V t r (λ value. record t.now { entries = with_value t.now.entries slot value })

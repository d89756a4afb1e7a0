use Rattle.linked_table.proofs.Entries.{len_is, len_bounded, slots_below, slots_apart, keys_apart}
use Rattle.linked_table.proofs.table.LinkedTable.len.Goals as goal

pub returns-clause-number : goal.returns-clause-number
returns-clause-number g c = len_is _ _ _ _ _ c.self.invariant _ c.self.view_is

pub returns-clause-bounded : goal.returns-clause-bounded
returns-clause-bounded g c = len_bounded _ _ _ _ _ c.self.invariant _ c.self.view_is

pub returns-clause-slots_below : goal.returns-clause-slots_below
returns-clause-slots_below g c = slots_below _ _ _ _ _ c.self.invariant _ c.self.view_is

pub returns-clause-slots_apart : goal.returns-clause-slots_apart
returns-clause-slots_apart g c = slots_apart _ _ _ _ _ c.self.invariant _ c.self.view_is

pub returns-clause-keys_apart : goal.returns-clause-keys_apart
returns-clause-keys_apart g c = keys_apart _ _ _ _ _ c.self.invariant _ c.self.view_is

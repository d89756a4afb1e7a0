-- What a record's entry and the outbox say of a packet that is passed to the state.
use Rattle.std.specs.Prelude.{◌≡◌, ℕ, Bool, true, false, List, [], ◌∷◌, ◌++◌, ◌≤◌, length}
use Rattle.rule_book.specs.declared.entry.Entry.{Entry}
use Rattle.tcp_norm.specs.Calls.{Outcome}
use Rattle.wire_base.specs.declared.limits.TheConstants.{MAX_FRAME}

-- the entry says what became of the datagram, and nothing else in it has changed; eras that ended
-- before precede those that ended with it
pub record Reports (old new : Entry) (o : Outcome) : Type 0 where
  pub number : new.number ≡ old.number
  pub side : new.side ≡ old.side
  pub verdict : new.verdict ≡ o.verdict
  pub packets : new.packets ≡ length o.packets
  pub rules : new.rules.items ≡ o.rules
  pub era : new.era ≡ o.era
  pub begun : new.begun ≡ o.begun
  pub ended : new.ended.items ≡ old.ended.items ++ o.ended

-- the frames of a datagram: the one that was read, or those of the outbox
abbrev pub given : (as_read : Bool) → (frame : List ℕ) → (out : List (List ℕ)) → List (List ℕ)
given true frame out = frame ∷ []
given false frame out = out

-- a frame that is sent as it was read is not in the outbox, and fits it
abbrev pub IsUnsent : (as_read : Bool) → (frame : List ℕ) → (out : List (List ℕ)) → Type 0
IsUnsent true frame out = (out ≡ []) × (length frame ≤ MAX_FRAME)
IsUnsent false frame out = Unit {0}

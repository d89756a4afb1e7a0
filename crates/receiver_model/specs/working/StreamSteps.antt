-- What a stream is after one segment.
use Rattle.std.specs.Prelude.{◌≡◌, ℕ, ◌+◌, ◌^◌, ◌++◌, Bool, false, [], ◌∷◌, length, pos, Option, Some, None, ◌||◌, ◌==◌}
use Rattle.std.specs.Bool.{then_some}
use Rattle.std.specs.Option.{option_or}
use Rattle.receiver_model.specs.Offsets.{raised_of}
use Rattle.receiver_model.specs.Delivery.{Extends}
use Rattle.receiver_model.specs.Policies.{Taken, waiting_after, octet_after}
use Rattle.receiver_model.specs.Streams.{StreamState, IsSameStream}

-- the kept offset of a FIN after a segment, which has one or not
abbrev pub fin_after : (base : ℕ) → Taken → (has_fin : Bool) → Option ℕ → Option ℕ
fin_after base t has_fin old = option_or old (then_some has_fin (raised_of base t.next (t.sequence + length t.octets)))

-- a FIN's offset is kept, and it is this one
abbrev pub is_at : Option ℕ → ℕ → Bool
is_at None offset = false
is_at (Some fin) offset = fin == offset + 2 ^ 31

-- the state of a stream after it took a segment, which has a FIN or not
pub record Takes (t : Taken) (has_fin : Bool) (before after : StreamState) : Type 0 where
  pub same : IsSameStream before after
  pub taken : after.taken ≡ before.taken ++ t ∷ []
  pub octets : Extends (octet_after before.policy before.base (before.taken ++ t ∷ [])) before.start before.octets after.octets
  pub far : waiting_after before.policy before.base (before.taken ++ t ∷ []) (pos (before.start + length after.octets)) ≡ None
  pub fin : after.fin ≡ fin_after before.base t has_fin before.fin
  pub ended : after.ended ≡ (before.ended || is_at after.fin (before.start + length after.octets))

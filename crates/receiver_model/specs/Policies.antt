-- Which octet waits if several segments brought one for the same offset (this project's profile).
use Rattle.std.specs.Prelude.{ℕ, suc, ◌+◌, ◌-◌, ◌%◌, ◌^◌, ◌&&◌, Bool, true, false, List, length, ℤ, pos, negsuc, Option, Some, None, option_map, slice_get, nat_lt, nat_le, fold, if◌then◌else◌}
use Rattle.receiver_model.specs.declared.policy.Policy.{Policy}
use Rattle.receiver_model.specs.declared.policy.Policy.TheVariants.{First, Newest, Left, Right}
use Rattle.receiver_model.specs.declared.policy.Waiting.{Waiting}
use Rattle.receiver_model.specs.Offsets.{raised_of}

-- a segment that a stream took: the next offset of the stream at that time, the sequence number of
-- its first octet, and its octets
pub record Taken : Type 0 where
  pub next : ℕ
  pub sequence : ℕ
  pub octets : List ℕ

-- the offset is at least `next` - 2^31 and below `next` + 2^31
abbrev pub is_near : (next : ℕ) → ℤ → Bool
is_near next (pos n) = nat_le next (n + 2 ^ 31) && nat_lt n (next + 2 ^ 31)
is_near next (negsuc n) = nat_le (next + suc n) (2 ^ 31)

-- the index of the octet at such an offset in a segment with this sequence number
abbrev pub index_of : (base sequence : ℕ) → ℤ → ℕ
index_of base sequence (pos n) = (n + base + 2 ^ 32 - sequence) % 2 ^ 32
index_of base sequence (negsuc n) = (base + 2 ^ 33 - sequence - suc n) % 2 ^ 32

-- the segment's octet for this offset
abbrev pub octet_for : (base : ℕ) → Taken → ℤ → Option ℕ
octet_for base t offset = if is_near t.next offset then slice_get t.octets (index_of base t.sequence offset) else None

-- an octet of the segment as it waits, with the offset of the segment's first octet and the offset
-- after its last one; both offsets are 2^31 too large
abbrev pub waiting_of : (base : ℕ) → Taken → ℕ → Waiting
waiting_of base t octet =
    let begin = raised_of base t.next t.sequence in
    record { octet = octet; begin = begin; end = begin + length t.octets }

-- the waiting octet that the segment brings for this offset
abbrev pub brought : (base : ℕ) → Taken → ℤ → Option Waiting
brought base t offset = option_map (waiting_of base t) (octet_for base t offset)

-- whether an octet replaces the waiting one: never; always; if its segment begins at a smaller
-- offset; if its segment ends at a larger one
abbrev pub replaces : Policy → (old new : Waiting) → Bool
replaces First old new = false
replaces Newest old new = true
replaces Left old new = nat_lt new.begin old.begin
replaces Right old new = nat_lt old.end new.end

-- the waiting octet after another arrived, or none did: an octet is set if none waits
abbrev pub chosen : Policy → (old new : Option Waiting) → Option Waiting
chosen policy old None = old
chosen policy None (Some new) = Some new
chosen policy (Some old) (Some new) = if replaces policy old new then Some new else Some old

-- the waiting octet at an offset after these segments, in order
abbrev pub waiting_after : Policy → (base : ℕ) → List Taken → ℤ → Option Waiting
waiting_after policy base taken offset = fold (λ old t. chosen policy old (brought base t offset)) None taken

-- its octet alone
abbrev pub octet_after : Policy → (base : ℕ) → List Taken → ℤ → Option ℕ
octet_after policy base taken offset = option_map (λ w. w.octet) (waiting_after policy base taken offset)

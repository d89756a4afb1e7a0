-- The octets that are kept of a stream, by their raised offsets: a raised offset is the offset plus
-- 2^31.
use Rattle.std.specs.Prelude.{◌≡◌, ℕ, ◌+◌, ◌-◌, ◌/◌, ◌%◌, ◌||◌, Bool, false, List, [], ◌∷◌, Option, Some, None, nat_le, slice_get, get_or, Box, if◌then◌else◌}
use Rattle.std.specs.BTreeMap.{get}
use Rattle.std.specs.Option.{option_or}
use Rattle.std.specs.Ordering.{nat_cmp}
use Rattle.std.specs.declared.alloc.Global.{Global}
use Rattle.run_audit.specs.declared.octets.Block.{Block}
use Rattle.run_audit.specs.declared.octets.Octets.{Octets}
use Rattle.run_audit.specs.declared.offset.Offset.{Offset}
use Rattle.run_audit.specs.FrameFaults.{is_other}

-- the octet at an index of a block, if there is one
abbrev pub octet_in : Block → ℕ → Option ℕ
octet_in block index = if get_or block.held index false then Some (get_or block.first index 0) else None

-- the octet at an index of an optional block, if there is one
abbrev pub octet_in_some : Option (Box Block Global) → ℕ → Option ℕ
octet_in_some None index = None
octet_in_some (Some block) index = octet_in block.value index

-- the block with a number, if there is one
abbrev pub block_at : Octets → ℕ → Option (Box Block Global)
block_at octets number = get (λ x y. nat_cmp y.0 x.0) octets.blocks (record { 0 = number })

-- the octet at a raised offset, if there is one
abbrev pub kept_at : Octets → ℕ → Option ℕ
kept_at octets raised = octet_in_some (block_at octets (raised / 256)) (raised % 256)

-- the octet at a raised offset of octets that begin at `place`, if there is one
abbrev pub brought : (place : ℕ) → List ℕ → ℕ → Option ℕ
brought place octets raised = if nat_le place raised then slice_get octets (raised - place) else None

-- a raised offset is at or past the end, if there is an end
abbrev pub is_at_end : Option Offset → ℕ → Bool
is_at_end None raised = false
is_at_end (Some end) raised = nat_le end.raised raised

-- of octets that begin at `place`, one differs from the octet that is kept at its offset, or is at
-- or past the end
abbrev pub some_stray : (ℕ → Option ℕ) → Option Offset → (place : ℕ) → List ℕ → Bool
some_stray kept end place [] = false
some_stray kept end place (octet ∷ octets) =
    (is_other (kept place) octet || is_at_end end place) || some_stray kept end (place + 1) octets

-- the kept octets, and at other offsets those of the octets that begin at `place`
abbrev pub kept_with : (ℕ → Option ℕ) → (place : ℕ) → List ℕ → ℕ → Option ℕ
kept_with kept place octets raised = option_or (kept raised) (brought place octets raised)

-- the new octets are the old ones with the octets that begin at `place`
abbrev pub AreKeptWith : (old new : Octets) → (place : ℕ) → List ℕ → Type 0
AreKeptWith old new place octets = (raised : ℕ) → kept_at new raised ≡ kept_with (kept_at old) place octets raised

-- The side of a packet (this project's profile).
use Rattle.std.specs.Prelude.{ℕ, not, Bool, List, Option, Some, None, if◌then◌else◌}
use Rattle.std.specs.List.{list_any}
use Rattle.wire_base.specs.declared.address.Prefix.{Prefix}
use Rattle.wire_base.specs.declared.address.Side.{Side}
use Rattle.wire_base.specs.declared.address.Side.TheVariants.{Inward, Outward}
use Rattle.wire_base.specs.Prefixes.{holds}
use Rattle.norm_settings.specs.SettingValues.{PlainSettings}

-- the address is in some prefix
abbrev pub is_listed : List Prefix → ℕ → Bool
is_listed prefixes address = list_any (λ prefix. holds prefix address) prefixes

-- the address is trusted: it is in some prefix, or, with `mirror`, in none
abbrev pub is_trusted : PlainSettings → ℕ → Bool
is_trusted settings address = if settings.mirror then not (is_listed settings.prefixes address) else is_listed settings.prefixes address

-- outward from a trusted address to one that is not, inward the other way, otherwise None
abbrev pub side_by : (is_source_trusted is_destination_trusted : Bool) → Option Side
side_by source destination =
    if source then (if destination then None else Some Outward)
    else (if destination then Some Inward else None)

-- the side of a record by its capture, or, if that gives none, by its addresses
abbrev pub side : PlainSettings → (given : Option Side) → (source destination : ℕ) → Option Side
side settings (Some given) source destination = Some given
side settings None source destination = side_by (is_trusted settings source) (is_trusted settings destination)

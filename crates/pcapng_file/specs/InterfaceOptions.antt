-- The options of an interface block (pcapng): code and length of two octets each, then the value,
-- padded to four octets.
use Rattle.std.specs.Prelude.{ℕ, zero, suc, ◌+◌, ◌*◌, ◌/◌, ◌==◌, ◌||◌, nat_lt, Bool, true, false, List, [], ◌∷◌, length, take, drop, Option, Some, None, option_map, if◌then◌else◌}
use Rattle.std.specs.Str.{bytes_eq}
use Rattle.pcap_file.specs.declared.record.Order.{Order}
use Rattle.pcap_file.specs.FileNumbers.{u16_at}
use Rattle.pcapng_file.specs.declared.interface.Interface.{Interface}

-- an option: its code and its value
pub record Entry : Type 0 where
  pub code : ℕ
  pub value : List ℕ

-- a length with its padding to a multiple of four octets
abbrev pub padded : ℕ → ℕ
padded size = 4 * ((size + 3) / 4)

-- the number of octets of the option at the front, padding included
abbrev pub option_size : Order → List ℕ → ℕ
option_size order area = 4 + padded (u16_at order area 2)

-- the option at the front
abbrev pub entry_at : Order → List ℕ → Entry
entry_at order area = record { code = u16_at order area 0; value = take (u16_at order area 2) (drop 4 area) }

-- whether there is no option at the front: fewer than four octets are left, or the code is 0
abbrev pub is_end : Order → List ℕ → Bool
is_end order area = nat_lt (length area) 4 || (u16_at order area 0 == 0)

-- The options at the front of an area, at most `most`, up to code 0 or to the end; None if one
-- reaches past the area.
unfoldable pub options_in : (most : ℕ) → Order → List ℕ → Option (List Entry)
options_in zero order area = Some []
options_in (suc most) order area =
    if is_end order area then Some []
    else if nat_lt (length area) (option_size order area) then None
    else option_map (λ entries. entry_at order area ∷ entries) (options_in most order (drop (option_size order area) area))

-- All options of an area: each has at least one octet, so there are no more of them than octets.
abbrev pub options_of : Order → List ℕ → Option (List Entry)
options_of order area = options_in (length area) order area

-- the value of the first option of this code
abbrev pub first_value : (code : ℕ) → List Entry → Option (List ℕ)
first_value code [] = None
first_value code (entry ∷ entries) = if entry.code == code then Some entry.value else first_value code entries

-- whether the value of the option for the unit of time means nanoseconds; None if it means neither
-- these nor microseconds; without the option, false
abbrev pub nano_of : Option (List ℕ) → Option Bool
nano_of None = Some false
nano_of (Some value) = if bytes_eq value (6 ∷ []) then Some false else if bytes_eq value (9 ∷ []) then Some true else None

-- whether the value of the option for the name is that of the inside interface
abbrev pub is_named : (inside value : Option (List ℕ)) → Bool
is_named None value = false
is_named (Some name) None = false
is_named (Some name) (Some value) = bytes_eq value name

-- the interface of this unit of time; None if the unit is not supported
abbrev pub with_unit : (snap : ℕ) → (named : Bool) → (nano : Option Bool) → Option Interface
with_unit snap named None = None
with_unit snap named (Some nano) = Some (record { nano = nano; snap = snap; named = named })

-- The interface that options describe: the first one of code 2 is its name, the first one of code 9
-- its unit of time.
abbrev pub described : (inside : Option (List ℕ)) → (snap : ℕ) → Option (List Entry) → Option Interface
described inside snap None = None
described inside snap (Some entries) = with_unit snap (is_named inside (first_value 2 entries)) (nano_of (first_value 9 entries))

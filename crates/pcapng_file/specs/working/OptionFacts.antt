-- The facts of the options of an interface, read one by one.
use Rattle.std.specs.Prelude.{ℕ, ◌==◌, Bool, List, Option, Some, None, if◌then◌else◌}
use Rattle.pcapng_file.specs.declared.interface.Interface.{Interface}
use Rattle.pcapng_file.specs.declared.interface.Seen.{Seen}
use Rattle.pcapng_file.specs.InterfaceOptions.{Entry, first_value, is_named, nano_of, with_unit}

-- whether the first name is that of the inside interface
abbrev pub named_first : (seen : Option Bool) → (named : Bool) → Option Bool
named_first (Some named) later = Some named
named_first None named = Some named

-- the unit of time; None if it is not supported
abbrev pub nano_seen : (named : Option Bool) → (nano : Option Bool) → Option Seen
nano_seen named None = None
nano_seen named (Some nano) = Some (record { named = named; nano = Some nano })

-- the first unit of time
abbrev pub nano_first : Seen → (seen nano : Option Bool) → Option Seen
nano_first before (Some nano) later = Some before
nano_first before None nano = nano_seen before.named nano

-- after one more option; None if it is a unit of time that is not supported
abbrev pub seen_behind : (inside : Option (List ℕ)) → Seen → Entry → Option Seen
seen_behind inside seen entry =
    if entry.code == 2 then Some (record seen { named = named_first seen.named (is_named inside (Some entry.value)) })
    else if entry.code == 9 then nano_first seen seen.nano (nano_of (Some entry.value))
    else Some seen

-- whether the name is that of the inside interface, with the options not yet read
abbrev pub named_by : (inside : Option (List ℕ)) → (seen : Option Bool) → List Entry → Bool
named_by inside (Some named) entries = named
named_by inside None entries = is_named inside (first_value 2 entries)

-- the unit of time, with the options not yet read
abbrev pub nano_by : (seen : Option Bool) → List Entry → Option Bool
nano_by (Some nano) entries = Some nano
nano_by None entries = nano_of (first_value 9 entries)

-- the interface that the options read so far and those not yet read describe
abbrev pub described_by : (inside : Option (List ℕ)) → (snap : ℕ) → Seen → Option (List Entry) → Option Interface
described_by inside snap seen None = None
described_by inside snap seen (Some entries) = with_unit snap (named_by inside seen.named entries) (nano_by seen.nano entries)

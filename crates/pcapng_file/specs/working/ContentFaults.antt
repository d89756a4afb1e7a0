-- The fixed fields of a block that are to come, and faults in the content of a block (this
-- project's profile).
use Rattle.std.specs.Prelude.{ℕ, ◌≤◌, ◌==◌, nat_lt, if◌then◌else◌}
use Rattle.pcapng_file.specs.declared.fault.NgFault.{NgFault}
use Rattle.pcapng_file.specs.declared.fault.NgFault.TheVariants as faults
use Rattle.pcapng_file.specs.declared.content.Found.{Found}
use Rattle.pcapng_file.specs.declared.content.Found.TheVariants as is
use Rattle.wire_base.specs.declared.limits.TheConstants.{MAX_CAPTURED}
use Rattle.pcapng_file.specs.BlockContents.{section_type, interface_type, enhanced_type}

-- the number of octets of fixed fields after the first twelve octets of a block of this type and
-- size
abbrev pub more_of : (kind size : ℕ) → ℕ
more_of kind size =
    if kind == section_type then (if nat_lt size 28 then 0 else 4)
    else if kind == interface_type then (if nat_lt size 20 then 0 else 4)
    else if kind == enhanced_type then (if nat_lt size 32 then 0 else 16)
    else 0

-- a fault in the content of a block
abbrev pub IsTold : NgFault → Type 0
IsTold faults.Version = Unit {0}
IsTold faults.Link = Unit {0}
IsTold faults.Block = Unit {0}
IsTold faults.Long = Unit {0}
IsTold _ = ⊥

-- a fault is one of the content, and a packet block has at most 262,144 captured octets
abbrev pub IsSound : Found → Type 0
IsSound (is.Fails fault) = IsTold fault
IsSound (is.Packet stamp) = stamp.size ≤ MAX_CAPTURED
IsSound found = Unit {0}

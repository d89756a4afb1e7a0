-- The faults of a classic file and of a pcapng file as those of an input (this project's profile).
use Rattle.std.specs.Prelude.{Bool, true, false, Result, Ok, Err}
use Rattle.pcap_file.specs.Flaws as classic
use Rattle.pcap_file.specs.declared.head.HeadFault.{HeadFault}
use Rattle.pcap_file.specs.declared.head.HeadFault.TheVariants as heads
use Rattle.pcap_file.specs.declared.reader.RecordFault.{RecordFault}
use Rattle.pcap_file.specs.declared.reader.RecordFault.TheVariants as records
use Rattle.pcapng_file.specs.declared.fault.NgFault.{NgFault}
use Rattle.pcapng_file.specs.declared.fault.NgFault.TheVariants as blocks
use Rattle.pcapng_file.specs.declared.fault.OpenFault as sections
use Rattle.capture_input.specs.declared.fault.InputFault.{InputFault}
use Rattle.capture_input.specs.declared.fault.InputFault.TheVariants as faults
use Rattle.capture_input.specs.declared.fault.OpenFault.{OpenFault}

-- the input fault of a flaw of a classic file
abbrev pub of_flaw : classic.Flaw → InputFault
of_flaw classic.cut_short = faults.Cut
of_flaw classic.bad_magic = faults.Magic
of_flaw classic.bad_version = faults.Version
of_flaw classic.bad_link = faults.Link
of_flaw classic.too_long = faults.Long
of_flaw classic.too_many = faults.Many

abbrev pub of_head : HeadFault → InputFault
of_head heads.Cut = faults.Cut
of_head heads.Magic = faults.Magic
of_head heads.Version = faults.Version
of_head heads.Link = faults.Link
of_head heads.ReadFault = faults.ReadFault

abbrev pub of_record : RecordFault → InputFault
of_record records.Cut = faults.Cut
of_record records.Long = faults.Long
of_record records.TooMany = faults.Many
of_record records.ReadFault = faults.ReadFault

abbrev pub of_block : NgFault → InputFault
of_block blocks.Cut = faults.Cut
of_block blocks.Magic = faults.Magic
of_block blocks.Version = faults.Version
of_block blocks.Link = faults.Link
of_block blocks.Block = faults.Block
of_block blocks.Long = faults.Long
of_block blocks.Many = faults.Many
of_block blocks.ReadFault = faults.ReadFault

-- a fault at offset 0
abbrev pub at_first : InputFault → OpenFault
at_first fault = record { fault = fault; offset = 0 }

-- a fault at a block of a pcapng file
abbrev pub at_block : sections.OpenFault → OpenFault
at_block stop = record { fault = of_block stop.fault; offset = stop.offset }

-- whether the source itself failed
abbrev pub is_read_fault : InputFault → Bool
is_read_fault faults.ReadFault = true
is_read_fault _ = false

-- whether a call failed because the source itself failed
abbrev pub has_read_fault : {T : Type 0} → Result T InputFault → Bool
has_read_fault (Ok value) = false
has_read_fault (Err fault) = is_read_fault fault

-- the fault alone, without its offset
abbrev pub only_fault : {T : Type 0} → Result T OpenFault → Result T InputFault
only_fault (Ok value) = Ok value
only_fault (Err stop) = Err stop.fault

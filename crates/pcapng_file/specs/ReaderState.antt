-- The state of a reader of a pcapng file (this project's profile).
use Rattle.std.specs.Prelude.{ℕ, Bool, true, List, Option, Some, None}
use Rattle.wire_base.specs.declared.address.Link.{Link}
use Rattle.wire_base.specs.declared.address.Link.TheVariants.{Raw}
use Rattle.pcap_file.specs.declared.record.Order.TheVariants.{Little}
use Rattle.pcap_file.specs.declared.head.Head.{Head}
use Rattle.pcapng_file.specs.SectionState.{Sections, no_section}

-- The name of the inside interface, the state of the file, the offset of the next block and of the
-- block read last, and whether the next record may be read.
pub record NgReading : Type 0 where
  pub inside : Option (List ℕ)
  pub sections : Sections
  pub place : ℕ
  pub asked : ℕ
  pub is_open : Bool

-- before the first block
abbrev pub first_reading : (inside : Option (List ℕ)) → NgReading
first_reading inside = record { inside = inside; sections = no_section; place = 0; asked = 0; is_open = true }

-- the head of a classic file for these records: least significant octet first, nanoseconds, the
-- link of the first interface
abbrev pub written_head : Option Link → Head
written_head None = record { order = Little; nano = true; link = Raw }
written_head (Some link) = record { order = Little; nano = true; link = link }

-- The state of a pcapng file up to a block.
use Rattle.std.specs.Prelude.{ℕ, ◌+◌, List, [], Option, None}
use Rattle.wire_base.specs.declared.address.Link.{Link}
use Rattle.pcap_file.specs.declared.record.Order.{Order}
use Rattle.pcapng_file.specs.declared.interface.Interface.{Interface}
use Rattle.pcapng_file.specs.declared.standing.Standing.{Standing}

-- The section's byte order and its interfaces, the link of the file's first interface, the time of
-- the last record in seconds and nanoseconds, and the number of blocks.
pub record Sections : Type 0 where
  pub order : Option Order
  pub interfaces : List Interface
  pub link : Option Link
  pub seconds : ℕ
  pub fraction : ℕ
  pub blocks : ℕ

-- before the first block
abbrev pub no_section : Sections
no_section = record { order = None; interfaces = []; link = None; seconds = 0; fraction = 0; blocks = 0 }

-- one more block
abbrev pub counted : Sections → Sections
counted sections = record sections { blocks = sections.blocks + 1 }

-- the state that the value of the code represents
abbrev pub known : Standing → Sections
known s = record { order = s.order; interfaces = s.interfaces.items; link = s.link; seconds = s.seconds; fraction = s.fraction; blocks = s.blocks }

-- If the name of the inside interface is not given, no record has a side.
use Rattle.std.proofs.Common.{◌≡◌, ℕ, ◌+◌, ◌*◌, ◌/◌, ◌%◌, ◌-◌, ◌==◌, ◌^◌, not, nat_lt, Bool, true, false, List, [], ◌∷◌, ◌++◌, length, take, drop, slice_get, Option, Some, None, Result, Ok, Err, refl, ap, subst, if◌then◌else◌, IfSome, option_map}
use Rattle.wire_base.specs.declared.address.Link.{Link}
use Rattle.pcap_file.specs.declared.record.Order.{Order}
use Rattle.pcap_file.specs.declared.record.Record.{Record}
use Rattle.pcap_file.specs.FileHead.{link_of}
use Rattle.pcap_file.specs.FileNumbers.{u16_at, u32_at}
use Rattle.pcap_file.specs.RecordReading as classic
use Rattle.pcap_file.specs.Records.{Packet}
use Rattle.pcapng_file.specs.declared.fault.NgFault.{NgFault}
use Rattle.pcapng_file.specs.declared.fault.NgFault.TheVariants as faults
use Rattle.pcapng_file.specs.declared.interface.Interface.{Interface}
use Rattle.pcapng_file.specs.declared.content.Stamp.{Stamp}
use Rattle.pcapng_file.specs.declared.content.Content.{Content}
use Rattle.pcapng_file.specs.declared.content.Content.TheVariants as says
use Rattle.pcapng_file.specs.declared.content.Found.{Found}
use Rattle.pcapng_file.specs.declared.content.Found.TheVariants as is
use Rattle.pcapng_file.specs.InterfaceOptions.{padded, options_of, described}
use Rattle.pcapng_file.specs.SectionState.{Sections, counted}
use Rattle.pcapng_file.specs.BlockContents.{section_type, interface_type, enhanced_type, simple_type, old_packet_type, section_says, interface_says, linked_says, enhanced_says, enhanced_of, timed_says, simple_says, simple_of, simple_sized, clipped, is_link, side_by, per_second, nanos_each, content_of, found_of, interface_found}
use Rattle.pcapng_file.specs.Blocks.{Step, before, block_at, end_by, is_size, order_at, ordered_at, sized_at, step_of, told}
use Rattle.pcapng_file.specs.Sections.{Walks, behind}
use Rattle.pcapng_file.specs.ReaderState.{NgReading}
use Rattle.pcapng_file.specs.RecordReading as sections
use Rattle.capture_input.specs.declared.input.Input.TheVariants as kinds
use Rattle.capture_input.specs.Inputs.{Walk, records, blocks}
use Rattle.capture_input.specs.ReaderState.{Behind}

-- a fact of a choice
choose : {X : Type 0} (P : X → Type 0) (b : Bool) (x y : X) → P x → P y → P (if b then x else y)
choose P true x y p q = p
choose P false x y p q = q

-- ---- a pcapng file

-- a packet block has no side
abbrev SaysNone : Content → Type 0
SaysNone (says.Packet stamp) = stamp.side ≡ None
SaysNone _ = Unit {0}

abbrev IsNone : Found → Type 0
IsNone (is.Packet stamp) = stamp.side ≡ None
IsNone _ = Unit {0}

-- a record that is returned has no side
abbrev GivesNone : Result (Option (Step × List ℕ)) NgFault → Type 0
GivesNone (Ok (Some next)) = (packet : Packet) → next.0.given ≡ Some packet → packet.side ≡ None
GivesNone (Ok None) = Unit {0}
GivesNone (Err fault) = Unit {0}

abbrev failing : Content
failing = says.Fails faults.Block

section_none : (order : Order) (size : ℕ) (x : List ℕ) → SaysNone (section_says order size x)
section_none order size x =
    choose SaysNone (nat_lt size 28) failing (if u16_at order x 12 == 1 then says.Section else says.Fails faults.Version) tt
    (choose SaysNone (u16_at order x 12 == 1) says.Section (says.Fails faults.Version) tt tt)

linked_none : (sections : Sections) (link : Option Link) (snap : ℕ) → SaysNone (linked_says sections link snap)
linked_none sections None snap = tt
linked_none sections (Some link) snap =
    choose SaysNone (not (is_link sections.link link)) (says.Fails faults.Link) (if nat_lt (length sections.interfaces) 64 then says.Interface link snap else failing) tt
    (choose SaysNone (nat_lt (length sections.interfaces) 64) (says.Interface link snap) failing tt tt)

interface_none : (sections : Sections) (order : Order) (size : ℕ) (x : List ℕ) → SaysNone (interface_says sections order size x)
interface_none sections order size x =
    choose SaysNone (nat_lt size 20) failing (linked_says sections (link_of (u16_at order x 8)) (u32_at order x 12)) tt (linked_none sections (link_of (u16_at order x 8)) (u32_at order x 12))

timed_none : (interface : Interface) (time original size : ℕ) → SaysNone (timed_says None interface time original size)
timed_none interface time original size =
    let stamp : Stamp = record {
      seconds = time / per_second interface.nano;
      fraction = time % per_second interface.nano * nanos_each interface.nano;
      original = original;
      size = size;
      place = 28;
      side = side_by None interface.named;
    } in
    choose SaysNone (nat_lt (time / per_second interface.nano) (2 ^ 32)) (says.Packet stamp) failing refl tt

enhanced_of_none : (found : Option Interface) (order : Order) (size : ℕ) (x : List ℕ) → SaysNone (enhanced_of None found order size x)
enhanced_of_none None order size x = tt
enhanced_of_none (Some interface) order size x =
    let n = u32_at order x 20 in
    let timed = timed_says None interface (u32_at order x 12 * 2 ^ 32 + u32_at order x 16) (u32_at order x 24) n in
    choose SaysNone (nat_lt 262144 n) (says.Fails faults.Long) (if nat_lt size (32 + padded n) then failing else timed) tt
    (choose SaysNone (nat_lt size (32 + padded n)) failing timed tt (timed_none interface (u32_at order x 12 * 2 ^ 32 + u32_at order x 16) (u32_at order x 24) n))

enhanced_none : (sections : Sections) (order : Order) (size : ℕ) (x : List ℕ) → SaysNone (enhanced_says None sections order size x)
enhanced_none sections order size x =
    choose SaysNone (nat_lt size 32) failing (enhanced_of None (slice_get sections.interfaces (u32_at order x 8)) order size x) tt
    (enhanced_of_none (slice_get sections.interfaces (u32_at order x 8)) order size x)

sized_none : (named : Bool) (sections : Sections) (size original n : ℕ) → SaysNone (simple_sized None named sections size original n)
sized_none named sections size original n =
    let stamp : Stamp = record {
      seconds = sections.seconds;
      fraction = sections.fraction;
      original = original;
      size = n;
      place = 12;
      side = side_by None named;
    } in
    choose SaysNone (nat_lt 262144 n) (says.Fails faults.Long) (if nat_lt size (16 + padded n) then failing else says.Packet stamp) tt
    (choose SaysNone (nat_lt size (16 + padded n)) failing (says.Packet stamp) tt refl)

simple_of_none : (found : Option Interface) (sections : Sections) (size original : ℕ) → SaysNone (simple_of None found sections size original)
simple_of_none None sections size original = tt
simple_of_none (Some interface) sections size original = sized_none interface.named sections size original (clipped interface.snap original)

simple_none : (sections : Sections) (order : Order) (size : ℕ) (x : List ℕ) → SaysNone (simple_says None sections order size x)
simple_none sections order size x =
    choose SaysNone (nat_lt size 16) failing (simple_of None (slice_get sections.interfaces 0) sections size (u32_at order x 8)) tt
    (simple_of_none (slice_get sections.interfaces 0) sections size (u32_at order x 8))

module _ (sections : Sections) (order : Order) (kind size : ℕ) (x : List ℕ) where
  abbrev other_says : Content
  other_says = if kind == old_packet_type then failing else says.Passed

  abbrev simple_or : Content
  simple_or = if kind == simple_type then simple_says None sections order size x else other_says

  abbrev enhanced_or : Content
  enhanced_or = if kind == enhanced_type then enhanced_says None sections order size x else simple_or

  abbrev interface_or : Content
  interface_or = if kind == interface_type then interface_says sections order size x else enhanced_or

  content_none : SaysNone (content_of None sections order kind size x)
  unfolding content_of
  content_none =
      choose SaysNone (kind == section_type) (section_says order size x) interface_or (section_none order size x)
      (choose SaysNone (kind == interface_type) (interface_says sections order size x) enhanced_or (interface_none sections order size x)
      (choose SaysNone (kind == enhanced_type) (enhanced_says None sections order size x) simple_or (enhanced_none sections order size x)
      (choose SaysNone (kind == simple_type) (simple_says None sections order size x) other_says (simple_none sections order size x)
      (choose SaysNone (kind == old_packet_type) failing says.Passed tt tt))))

described_none : (link : Link) (found : Option Interface) → IsNone (interface_found link found)
described_none link None = tt
described_none link (Some interface) = tt

found_none : (order : Order) (size : ℕ) (block : List ℕ) (content : Content) → SaysNone content → IsNone (found_of None order size block content)
found_none order size block (says.Fails fault) none = tt
found_none order size block says.Passed none = tt
found_none order size block says.Section none = tt
found_none order size block (says.Interface link snap) none = described_none link (described None snap (options_of order (take (size - 20) (drop 16 block))))
found_none order size block (says.Packet stamp) none = none

step_none : (sections : Sections) (order : Order) (size : ℕ) (block rest : List ℕ) (found : Found) → IsNone found → GivesNone (before rest (step_of sections order size block found))
step_none sections order size block rest (is.Fails fault) none = tt
step_none sections order size block rest is.Passed none = λ packet e. absurd cc
step_none sections order size block rest is.Section none = λ packet e. absurd cc
step_none sections order size block rest (is.Interface link interface) none = λ packet e. absurd cc
step_none sections order size block rest (is.Packet stamp) none = λ packet e. let same : Some stamp.side ≡ Some packet.side = ap (λ (p : Option Packet). option_map (λ (q : Packet). q.side) p) e in cc

told_none : (sections : Sections) (order : Order) (size : ℕ) (block rest : List ℕ) → GivesNone (before rest (told None sections order size block))
told_none sections order size block rest =
    let content = content_of None sections order (u32_at order block 0) size block in
    step_none (counted sections) order size block rest (found_of None order size block content) (found_none order size block content (content_none sections order (u32_at order block 0) size block))

size_none : (sections : Sections) (order : Order) (octets : List ℕ) (size : ℕ) → GivesNone (sized_at None sections order octets size)
size_none sections order octets size =
    let whole = before (drop size octets) (told None sections order size (take size octets)) in
    let closed : Result (Option (Step × List ℕ)) NgFault = if u32_at order octets (size - 4) == size then whole else Err faults.Block in
    choose GivesNone (not (is_size size)) (Err faults.Block) (if nat_lt (length octets) size then Err faults.Cut else closed) tt
    (choose GivesNone (nat_lt (length octets) size) (Err faults.Cut) closed tt
    (choose GivesNone (u32_at order octets (size - 4) == size) whole (Err faults.Block) (told_none sections order size (take size octets) (drop size octets)) tt))

ordered_none : (sections : Sections) (order : Option Order) (octets : List ℕ) → GivesNone (ordered_at None sections order octets)
ordered_none sections None octets = tt
ordered_none sections (Some order) octets = size_none sections order octets (u32_at order octets 4)

end_none : (link : Option Link) → GivesNone (end_by link)
end_none None = tt
end_none (Some link) = tt

block_none : (sections : Sections) (octets : List ℕ) → GivesNone (block_at None sections octets)
unfolding block_at
block_none sections octets =
    let ordered = ordered_at None sections (order_at sections.order octets) octets in
    let room : Result (Option (Step × List ℕ)) NgFault = if sections.blocks == 4294967295 then Err faults.Many else ordered in
    choose GivesNone (length octets == 0) (end_by sections.link) (if nat_lt (length octets) 12 then Err faults.Cut else room) (end_none sections.link)
    (choose GivesNone (nat_lt (length octets) 12) (Err faults.Cut) room tt
    (choose GivesNone (sections.blocks == 4294967295) (Err faults.Many) ordered tt (ordered_none sections (order_at sections.order octets) octets)))

-- a record that is read of a pcapng file has no side
pub sections_none : (reader reader' : NgReading) (walk : Walk) (a b : Option (List ℕ)) (given : Option Record)
    → sections.Reads reader reader' a b (Ok given) → Behind (kinds.Sections reader) None walk → IfSome given (λ r. r.side ≡ None)
sections_none reader reader' (records packets) a b given reads q = absurd q
sections_none reader reader' (blocks steps) a b None reads q = tt
sections_none reader reader' (blocks steps) a b (Some given) p q =
    let octets = p.steps.octets ++ [] in
    let walks : Walks None reader.sections octets (p.step ∷ p.older) [] =
    subst (λ (inside : Option (List ℕ)). Walks inside reader.sections octets (p.step ∷ p.older) []) q.named (p.steps.walks []) in
    subst GivesNone walks.2 (block_none (behind reader.sections p.older) walks.0) (classic.shown given) p.given

-- ---- a classic file

pub classic_none : (given : Option Record) → classic.IfRecord (Ok given) (λ r. r.side ≡ None) → IfSome given (λ r. r.side ≡ None)
classic_none None none = tt
classic_none (Some given) none = none

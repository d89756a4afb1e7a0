-- A capture that is read by the name of the inside interface is read without it, too, as the same
-- records without sides.
use Rattle.std.proofs.Common.{◌≡◌, ℕ, ◌*◌, ◌+◌, ◌-◌, ◌==◌, ◌/◌, ◌^◌, Bool, true, false, not, List, [], ◌∷◌, length, map, take, drop, Option, Some, None, Result, Ok, Err, refl, sym, ap, ap₂, ◌∙◌, subst, nat_lt, option_map, slice_get, if◌then◌else◌}
use Rattle.std.proofs.lemmas.List.{length-map, map-append}
use Rattle.std.proofs.lemmas.Option.{slice_get-map}
use Rattle.wire_base.specs.declared.address.Link.{Link}
use Rattle.wire_base.specs.declared.limits.TheConstants.{MAX_CAPTURED}
use Rattle.pcap_file.specs.declared.head.Head.{Head}
use Rattle.pcap_file.specs.declared.record.Order.{Order}
use Rattle.pcap_file.specs.Flaws.{Flaw}
use Rattle.pcap_file.specs.FileHead.{head_of, link_of}
use Rattle.pcap_file.specs.FileNumbers.{u16_at, u32_at}
use Rattle.pcap_file.specs.Records.{Packet, captured, front_of}
use Rattle.pcap_file.specs.Capture.{ReadsTo}
use Rattle.pcapng_file.specs.declared.content.Content.{Content}
use Rattle.pcapng_file.specs.declared.content.Content.TheVariants as says
use Rattle.pcapng_file.specs.declared.content.Found.{Found}
use Rattle.pcapng_file.specs.declared.content.Found.TheVariants as is
use Rattle.pcapng_file.specs.declared.fault.NgFault.{NgFault}
use Rattle.pcapng_file.specs.declared.fault.NgFault.TheVariants as faults
use Rattle.pcapng_file.specs.declared.interface.Interface.{Interface}
use Rattle.pcapng_file.specs.Blocks.{Step, before, block_at, end_by, is_size, order_at, ordered_at, sized_at, step_of, told}
use Rattle.pcapng_file.specs.BlockContents.{clipped, content_of, enhanced_of, enhanced_says, enhanced_type, found_of, interface_found, interface_says, interface_type, is_link, linked_says, old_packet_type, per_second, section_says, section_type, simple_of, simple_says, simple_type, timed_says}
use Rattle.pcapng_file.specs.InterfaceOptions.{Entry, described, first_value, is_named, nano_of, options_of, padded, with_unit}
use Rattle.pcapng_file.specs.Sections.{Walks, behind, packets_of, with_given}
use Rattle.pcapng_file.specs.SectionState.{Sections, counted, no_section}
use Rattle.capture_input.specs.Inputs.{BeginsWith, IsHeadOf, IsInput, Walk, blocks, classic_head, packets_in, records}
use Rattle.run_laws.specs.ViewedRuns.{unsided}

-- what is read without the name: no side, and no interface that has it
abbrev unnamed : Interface → Interface
unnamed interface = record interface { named = false }

abbrev sections_unnamed : Sections → Sections
sections_unnamed sections = record sections { interfaces = map unnamed sections.interfaces }

abbrev content_unsided : Content → Content
content_unsided (says.Packet stamp) = says.Packet (record stamp { side = None })
content_unsided (says.Fails fault) = says.Fails fault
content_unsided says.Passed = says.Passed
content_unsided says.Section = says.Section
content_unsided (says.Interface link snap) = says.Interface link snap

abbrev found_unsided : Found → Found
found_unsided (is.Packet stamp) = is.Packet (record stamp { side = None })
found_unsided (is.Interface link interface) = is.Interface link (unnamed interface)
found_unsided (is.Fails fault) = is.Fails fault
found_unsided is.Passed = is.Passed
found_unsided is.Section = is.Section

abbrev step_unsided : Step → Step
step_unsided step = record { after = sections_unnamed step.after; given = option_map unsided step.given; size = step.size }

abbrev stepped : Result Step NgFault → Result Step NgFault
stepped (Ok step) = Ok (step_unsided step)
stepped (Err fault) = Err fault

abbrev front_unsided : Result (Option (Step × List ℕ)) NgFault → Result (Option (Step × List ℕ)) NgFault
front_unsided (Ok None) = Ok None
front_unsided (Ok (Some (step, rest))) = Ok (Some (step_unsided step, rest))
front_unsided (Err fault) = Err fault

-- a choice between two that are read alike
if_alike : {A B : Type 0} (f : A → B) (b : Bool) (x y : A) (u v : B) → u ≡ f x → v ≡ f y → (if b then u else v) ≡ f (if b then x else y)
if_alike f true x y u v e g = e
if_alike f false x y u v e g = g

module _ (inside : Option (List ℕ)) where
  -- the content of a block by its fixed fields
  section_alike : (order : Order) (size : ℕ) (block : List ℕ) → section_says order size block ≡ content_unsided (section_says order size block)
  section_alike order size block =
      if_alike content_unsided (nat_lt size 28) _ _ _ _ refl (if_alike content_unsided (u16_at order block 12 == 1) _ _ _ _ refl refl)

  linked_alike : (sections : Sections) (link : Option Link) (snap : ℕ)
      → linked_says (sections_unnamed sections) link snap ≡ content_unsided (linked_says sections link snap)
  linked_alike sections None snap = refl
  linked_alike sections (Some link) snap =
      ap (λ n. if not (is_link sections.link link) then says.Fails faults.Link else if nat_lt n 64 then says.Interface link snap else says.Fails faults.Block)
      (length-map sections.interfaces unnamed)
      ∙ if_alike content_unsided (not (is_link sections.link link)) _ _ _ _ refl (if_alike content_unsided (nat_lt (length sections.interfaces) 64) _ _ _ _ refl refl)

  interface_alike : (sections : Sections) (order : Order) (size : ℕ) (block : List ℕ)
      → interface_says (sections_unnamed sections) order size block ≡ content_unsided (interface_says sections order size block)
  interface_alike sections order size block =
      if_alike content_unsided (nat_lt size 20) _ _ _ _ refl (linked_alike sections (link_of (u16_at order block 8)) (u32_at order block 12))

  timed_alike : (interface : Interface) (time original size : ℕ)
      → timed_says None (unnamed interface) time original size ≡ content_unsided (timed_says inside interface time original size)
  timed_alike interface time original size = if_alike content_unsided (nat_lt (time / per_second interface.nano) (2 ^ 32)) _ _ _ _ refl refl

  enhanced_of_alike : (interface : Option Interface) (order : Order) (size : ℕ) (block : List ℕ)
      → enhanced_of None (option_map unnamed interface) order size block ≡ content_unsided (enhanced_of inside interface order size block)
  enhanced_of_alike None order size block = refl
  enhanced_of_alike (Some interface) order size block =
      if_alike content_unsided (nat_lt MAX_CAPTURED (u32_at order block 20)) _ _ _ _ refl
      (if_alike content_unsided (nat_lt size (32 + padded (u32_at order block 20))) _ _ _ _ refl
      (timed_alike interface (u32_at order block 12 * 2 ^ 32 + u32_at order block 16) (u32_at order block 24) (u32_at order block 20)))

  enhanced_alike : (sections : Sections) (order : Order) (size : ℕ) (block : List ℕ)
      → enhanced_says None (sections_unnamed sections) order size block ≡ content_unsided (enhanced_says inside sections order size block)
  enhanced_alike sections order size block =
      if_alike content_unsided (nat_lt size 32) _ _ _ _ refl
      (ap (λ i. enhanced_of None i order size block) (slice_get-map unnamed sections.interfaces (u32_at order block 8))
      ∙ enhanced_of_alike (slice_get sections.interfaces (u32_at order block 8)) order size block)

  simple_of_alike : (interface : Option Interface) (sections : Sections) (size original : ℕ)
      → simple_of None (option_map unnamed interface) (sections_unnamed sections) size original ≡ content_unsided (simple_of inside interface sections size original)
  simple_of_alike None sections size original = refl
  simple_of_alike (Some interface) sections size original =
      if_alike content_unsided (nat_lt MAX_CAPTURED (clipped interface.snap original)) _ _ _ _ refl
      (if_alike content_unsided (nat_lt size (16 + padded (clipped interface.snap original))) _ _ _ _ refl refl)

  simple_alike : (sections : Sections) (order : Order) (size : ℕ) (block : List ℕ)
      → simple_says None (sections_unnamed sections) order size block ≡ content_unsided (simple_says inside sections order size block)
  simple_alike sections order size block =
      if_alike content_unsided (nat_lt size 16) _ _ _ _ refl
      (ap (λ i. simple_of None i (sections_unnamed sections) size (u32_at order block 8)) (slice_get-map unnamed sections.interfaces 0)
      ∙ simple_of_alike (slice_get sections.interfaces 0) sections size (u32_at order block 8))

  content_alike : (sections : Sections) (order : Order) (kind size : ℕ) (block : List ℕ)
      → content_of None (sections_unnamed sections) order kind size block ≡ content_unsided (content_of inside sections order kind size block)
  unfolding content_of
  content_alike sections order kind size block =
      if_alike content_unsided (kind == section_type) _ _ _ _ (section_alike order size block)
      (if_alike content_unsided (kind == interface_type) _ _ _ _ (interface_alike sections order size block)
      (if_alike content_unsided (kind == enhanced_type) _ _ _ _ (enhanced_alike sections order size block)
      (if_alike content_unsided (kind == simple_type) _ _ _ _ (simple_alike sections order size block)
      (if_alike content_unsided (kind == old_packet_type) _ _ _ _ refl refl))))

  -- with the options of an interface
  described_alike : (snap : ℕ) (entries : Option (List Entry)) → described None snap entries ≡ option_map unnamed (described inside snap entries)
  described_alike snap None = refl
  described_alike snap (Some entries) = by (nano_of (first_value 9 entries))
    where
      by : (nano : Option Bool) → with_unit snap false nano ≡ option_map unnamed (with_unit snap (is_named inside (first_value 2 entries)) nano)
      by None = refl
      by (Some nano) = refl

  found_alike : (order : Order) (size : ℕ) (block : List ℕ) (content : Content)
      → found_of None order size block (content_unsided content) ≡ found_unsided (found_of inside order size block content)
  found_alike order size block (says.Packet stamp) = refl
  found_alike order size block (says.Fails fault) = refl
  found_alike order size block says.Passed = refl
  found_alike order size block says.Section = refl
  found_alike order size block (says.Interface link snap) = ap (interface_found link) (described_alike snap options) ∙ by (described inside snap options)
    where
      options : Option (List Entry)
      options = options_of order (take (size - 20) (drop 16 block))

      by : (i : Option Interface) → interface_found link (option_map unnamed i) ≡ found_unsided (interface_found link i)
      by None = refl
      by (Some interface) = refl

  -- a block
  step_alike : (sections : Sections) (order : Order) (size : ℕ) (block : List ℕ) (found : Found)
      → step_of (sections_unnamed sections) order size block (found_unsided found) ≡ stepped (step_of sections order size block found)
  step_alike sections order size block (is.Packet stamp) = refl
  step_alike sections order size block (is.Fails fault) = refl
  step_alike sections order size block is.Passed = refl
  step_alike sections order size block is.Section = refl
  step_alike sections order size block (is.Interface link interface) =
      ap (λ is. Ok (record { after = record sections { interfaces = is; link = Some link }; given = None; size = size }))
      (sym (map-append unnamed sections.interfaces (interface ∷ [])))

  told_alike : (sections : Sections) (order : Order) (size : ℕ) (block : List ℕ)
      → told None (sections_unnamed sections) order size block ≡ stepped (told inside sections order size block)
  told_alike sections order size block =
      let content = content_of inside sections order (u32_at order block 0) size block in
      ap (λ c. step_of (counted (sections_unnamed sections)) order size block (found_of None order size block c)) (content_alike sections order (u32_at order block 0) size block)
      ∙ ap (step_of (counted (sections_unnamed sections)) order size block) (found_alike order size block content)
      ∙ step_alike (counted sections) order size block (found_of inside order size block content)

  before_alike : (rest : List ℕ) (r : Result Step NgFault) → before rest (stepped r) ≡ front_unsided (before rest r)
  before_alike rest (Ok step) = refl
  before_alike rest (Err fault) = refl

  sized_alike : (sections : Sections) (order : Order) (octets : List ℕ) (size : ℕ)
      → sized_at None (sections_unnamed sections) order octets size ≡ front_unsided (sized_at inside sections order octets size)
  sized_alike sections order octets size =
      if_alike front_unsided (not (is_size size)) _ _ _ _ refl
      (if_alike front_unsided (nat_lt (length octets) size) _ _ _ _ refl
      (if_alike front_unsided (u32_at order octets (size - 4) == size) _ _ _ _
      (ap (before (drop size octets)) (told_alike sections order size (take size octets))
      ∙ before_alike (drop size octets) (told inside sections order size (take size octets))) refl))

  ordered_alike : (sections : Sections) (order : Option Order) (octets : List ℕ)
      → ordered_at None (sections_unnamed sections) order octets ≡ front_unsided (ordered_at inside sections order octets)
  ordered_alike sections None octets = refl
  ordered_alike sections (Some order) octets = sized_alike sections order octets (u32_at order octets 4)

  end_alike : (link : Option Link) → end_by link ≡ front_unsided (end_by link)
  end_alike None = refl
  end_alike (Some link) = refl

  block_alike : (sections : Sections) (octets : List ℕ) → block_at None (sections_unnamed sections) octets ≡ front_unsided (block_at inside sections octets)
  unfolding block_at
  block_alike sections octets =
      if_alike front_unsided (length octets == 0) _ _ _ _ (end_alike sections.link)
      (if_alike front_unsided (nat_lt (length octets) 12) _ _ _ _ refl
      (if_alike front_unsided (sections.blocks == 4294967295) _ _ _ _ refl (ordered_alike sections (order_at sections.order octets) octets)))

  -- all blocks of a file
  behind_alike : (sections : Sections) (steps : List Step) → behind (sections_unnamed sections) (map step_unsided steps) ≡ sections_unnamed (behind sections steps)
  behind_alike sections [] = refl
  behind_alike sections (step ∷ older) = refl

  walks_alike : (sections : Sections) (all : List ℕ) (steps : List Step) (rest : List ℕ) → Walks inside sections all steps rest
      → Walks None (sections_unnamed sections) all (map step_unsided steps) rest
  walks_alike sections all [] rest walks = walks
  walks_alike sections all (step ∷ older) rest walks = (
    walks.0,
    walks_alike sections all older walks.0 walks.1,
    ap (λ s. block_at None s walks.0) (behind_alike sections older) ∙ block_alike (behind sections older) walks.0 ∙ ap front_unsided walks.2,
  )

packets_alike : (steps : List Step) → packets_of (map step_unsided steps) ≡ map unsided (packets_of steps)
packets_alike [] = refl
packets_alike (step ∷ older) = ap (with_given (option_map unsided step.given)) (packets_alike older) ∙ by step.given
  where
    by : (given : Option Packet) → with_given (option_map unsided given) (map unsided (packets_of older)) ≡ map unsided (with_given given (packets_of older))
    by None = refl
    by (Some packet) = refl

-- the records of a classic file have no sides
Sideless : Result (Option (Packet × List ℕ)) Flaw → Type 0
Sideless (Ok (Some (packet, rest))) = unsided packet ≡ packet
Sideless _ = Unit {0}

if_sideless : (b : Bool) (x y : Result (Option (Packet × List ℕ)) Flaw) → Sideless x → Sideless y → Sideless (if b then x else y)
if_sideless true x y e f = e
if_sideless false x y e f = f

front_sideless : (order : Order) (count : ℕ) (octets : List ℕ) → Sideless (front_of order count octets)
unfolding front_of Sideless
front_sideless order count octets =
    let size = captured order octets in
    if_sideless (length octets == 0) _ _ tt
    (if_sideless (nat_lt (length octets) 16) _ _ tt
    (if_sideless (nat_lt MAX_CAPTURED size) _ _ tt
    (if_sideless (count == 4294967295) _ _ tt
    (if_sideless (nat_lt (length octets) (16 + size)) _ _ tt refl))))

records_sideless : (order : Order) (all : List ℕ) (packets : List Packet) (rest : List ℕ) → ReadsTo order all packets rest → map unsided packets ≡ packets
unfolding Sideless
records_sideless order all [] rest reads = refl
records_sideless order all (packet ∷ older) rest reads =
    ap₂ (λ p ps. p ∷ ps) (subst Sideless reads.2 (front_sideless order (length older) reads.0)) (records_sideless order all older reads.0 reads.1)

classic_alike : (inside : Option (List ℕ)) (r : Result Head Flaw) (head : Head) → classic_head inside r ≡ Ok head → classic_head None r ≡ Ok head
classic_alike None r head e = e
classic_alike (Some name) (Ok own) head e = absurd (cc e)
classic_alike (Some name) (Err flaw) head e = absurd (cc e)

pub input_unsided : (inside : Option (List ℕ)) (octets : List ℕ) (head : Head) (packets : List Packet) → IsInput inside octets head packets
    → IsInput None octets head (map unsided packets)
input_unsided inside octets head packets is = by is.walk is.begins is.packets_are
  where
    by : (walk : Walk) → BeginsWith inside octets head walk [] → packets_in walk ≡ packets → IsInput None octets head (map unsided packets)
    by (records own) begins same =
        record {
          walk = records own;
          begins = record { kind = begins.kind; accepted = classic_alike inside (head_of octets) head begins.accepted; reads = begins.reads };
          packets_are = sym (records_sideless head.order (drop 24 octets) own [] begins.reads) ∙ ap (map unsided) same;
        }
    by (blocks steps) begins same =
        record {
          walk = blocks (map step_unsided steps);
          begins =
              record {
                kind = begins.kind;
                walks = walks_alike inside no_section octets steps [] begins.walks;
                linked = subst (λ (s : Sections). IsHeadOf s.link head) (sym (behind_alike inside no_section steps)) begins.linked;
              };
          packets_are = packets_alike steps ∙ ap (map unsided) same;
        }

-- The content of a block: where it is, and that the fixed fields alone give it.
use Rattle.std.proofs.Common.{◌≡◌, ℕ, ◌<◌, ◌≤◌, ◌+◌, true, length, ◌*◌, ◌/◌, ◌%◌, ◌==◌, ◌^◌, not, nat_lt, Bool, false, List, ◌++◌, slice_get, Some, None, refl, sym, ap, ◌∙◌, arith, inl, inr, if◌then◌else◌, Option}
use Rattle.std.proofs.lemmas.Bool.{cases_lt, cases_Bool, ltb-false, ltb-true, not-false, lt-ltb, le-ltb}
use Rattle.std.proofs.lemmas.Bool.Decides.{nat_tests}
use Rattle.std.proofs.lemmas.Option.{slice_get_within}
use Rattle.wire_base.specs.declared.address.Link.{Link}
use Rattle.pcap_file.specs.declared.record.Order.{Order}
use Rattle.pcap_file.specs.FileNumbers.{u16_at, u32_at}
use Rattle.pcap_file.specs.FileHead.{link_of}
use Rattle.pcap_file.proofs.Records.{u16_at_front, u32_at_front}
use Rattle.pcapng_file.specs.declared.content.Stamp.{Stamp}
use Rattle.pcapng_file.specs.declared.content.Content.{Content}
use Rattle.pcapng_file.specs.declared.content.Content.TheVariants as says
use Rattle.pcapng_file.specs.working.ContentFaults.{IsTold, more_of}
use Rattle.pcapng_file.specs.BlockContents.{is_link, section_type, interface_type, enhanced_type, simple_type, old_packet_type, section_says, interface_says, linked_says, enhanced_says, enhanced_of, timed_says, simple_says, simple_of, simple_sized, clipped, side_by, per_second, nanos_each, content_of, found_of}
use Rattle.pcapng_file.specs.SectionState.{Sections}
use Rattle.pcapng_file.specs.declared.fault.NgFault.TheVariants as faults
use Rattle.pcapng_file.specs.declared.interface.Interface.{Interface}
use Rattle.pcapng_file.specs.InterfaceOptions.{padded}
use Rattle.pcapng_file.specs.working.BlockFronts.{bare}

-- Where the content of a block is.

-- The captured octets of a packet block are after the fixed fields and within the block, at most
-- 262,144, and the section has an interface.
pub record PacketPlaced (stamp : Stamp) (sections : Sections) (kind size : ℕ) : Type 0 where
  pub place : stamp.place ≡ 12 + more_of kind size
  pub within : stamp.place + stamp.size + 4 ≤ size
  pub small : stamp.size ≤ 262144
  pub some : 0 < length sections.interfaces

-- The options of an interface are after 16 octets, the section has room for one more interface, and
-- its link may follow the first one.
pub record InterfacePlaced (sections : Sections) (link : Link) (kind size : ℕ) : Type 0 where
  pub same : is_link sections.link link ≡ true
  pub more : more_of kind size ≡ 4
  pub big : 20 ≤ size
  pub room : length sections.interfaces < 64

-- the position in the block of its content
abbrev pub IsPlaced : Content → Sections → (kind size : ℕ) → Type 0
IsPlaced (says.Packet stamp) sections kind size = PacketPlaced stamp sections kind size
IsPlaced (says.Interface link snap) sections kind size = InterfacePlaced sections link kind size
IsPlaced (says.Fails fault) sections kind size = IsTold fault
IsPlaced content sections kind size = Unit {0}

-- The content of a block by its fixed fields does not depend on the octets after them.

section_small : (order : Order) (size : ℕ) (x : List ℕ) → size < 28 → section_says order size x ≡ says.Fails faults.Block
section_small order size x s = grind (arith, nat_tests)

interface_small : (sections : Sections) (order : Order) (size : ℕ) (x : List ℕ) → size < 20 → interface_says sections order size x ≡ says.Fails faults.Block
interface_small sections order size x s = rw (lt-ltb size 20 s) refl

enhanced_small : (inside : Option (List ℕ)) (sections : Sections) (order : Order) (size : ℕ) (x : List ℕ) → size < 32 → enhanced_says inside sections order size x ≡ says.Fails faults.Block
enhanced_small inside sections order size x s = rw (lt-ltb size 32 s) refl

module _ (order : Order) (size : ℕ) (h y : List ℕ) where
  section_front : (28 ≤ size → 16 ≤ length h) → section_says order size (h ++ y) ≡ section_says order size h
  section_front fits = elim (cases_lt size 28) [
    | inl s ↦ section_small order size (h ++ y) s ∙ sym (section_small order size h s)
    | inr b ↦ let long = fits b in rw (u16_at_front order h y 12 (omega arith)) refl
  ]

  interface_front : (sections : Sections) → (20 ≤ size → 16 ≤ length h) → interface_says sections order size (h ++ y) ≡ interface_says sections order size h
  interface_front sections fits = elim (cases_lt size 20) [
    | inl s ↦ interface_small sections order size (h ++ y) s ∙ sym (interface_small sections order size h s)
    | inr b ↦ let long = fits b in rw (u16_at_front order h y 8 (omega arith), u32_at_front order h y 12 (omega arith)) refl
  ]

  enhanced_of_front : (inside : Option (List ℕ)) (found : Option Interface) → 28 ≤ length h → enhanced_of inside found order size (h ++ y) ≡ enhanced_of inside found order size h
  enhanced_of_front inside None long = refl
  enhanced_of_front inside (Some i) long =
      rw (u32_at_front order h y 12 (omega arith), u32_at_front order h y 16 (omega arith), u32_at_front order h y 20 (omega arith), u32_at_front order h y 24 (omega arith)) refl

  enhanced_front : (inside : Option (List ℕ)) (sections : Sections) → (32 ≤ size → 28 ≤ length h) → enhanced_says inside sections order size (h ++ y) ≡ enhanced_says inside sections order size h
  enhanced_front inside sections fits = elim (cases_lt size 32) [
    | inl s ↦ enhanced_small inside sections order size (h ++ y) s ∙ sym (enhanced_small inside sections order size h s)
    | inr b ↦
        let long = fits b in
        rw (le-ltb size 32 b) (ap (λ k. enhanced_of inside (slice_get sections.interfaces k) order size (h ++ y)) (u32_at_front order h y 8 (omega arith))
        ∙ enhanced_of_front inside (slice_get sections.interfaces (u32_at order h 8)) long)
  ]

  simple_front : (inside : Option (List ℕ)) (sections : Sections) → 12 ≤ length h → simple_says inside sections order size (h ++ y) ≡ simple_says inside sections order size h
  simple_front inside sections fits = rw (u32_at_front order h y 8 (omega arith)) refl

  pub content_front : (inside : Option (List ℕ)) (sections : Sections) (kind : ℕ) → length h ≡ 12 + more_of kind size
      → content_of inside sections order kind size (h ++ y) ≡ content_of inside sections order kind size h
  unfolding content_of
  content_front inside sections kind fits = elim (cases_Bool (kind == section_type)) [
    | inl a ↦
        let long : 28 ≤ size → 16 ≤ length h = λ b. let more : more_of kind size ≡ 4 = rw (a, le-ltb size 28 b) refl in omega arith in
        rw a (section_front long)
    | inr a ↦ elim (cases_Bool (kind == interface_type)) [
      | inl b ↦
          let long : 20 ≤ size → 16 ≤ length h = λ c. let more : more_of kind size ≡ 4 = rw (a, b, le-ltb size 20 c) refl in omega arith in
          rw (a, b) (interface_front sections long)
      | inr b ↦ elim (cases_Bool (kind == enhanced_type)) [
        | inl c ↦
            let long : 32 ≤ size → 28 ≤ length h = λ d. let more : more_of kind size ≡ 16 = rw (a, b, c, le-ltb size 32 d) refl in omega arith in
            rw (a, b, c) (enhanced_front inside sections long)
        | inr c ↦ elim (cases_Bool (kind == simple_type)) [
          | inl d ↦ rw (a, b, c, d) (simple_front inside sections (omega arith))
          | inr d ↦ rw (a, b, c, d) refl
        ]
      ]
    ]
  ]

-- a fact of a choice
choose : (P : Content → Type 0) (b : Bool) (x y : Content) → (b ≡ true → P x) → (b ≡ false → P y) → P (if b then x else y)
choose P true x y p q = p refl
choose P false x y p q = q refl

module _ (sections : Sections) (kind size : ℕ) where
  abbrev Placed : Content → Type 0
  Placed content = IsPlaced content sections kind size

  placed_section : (order : Order) (x : List ℕ) → Placed (section_says order size x)
  placed_section order x =
      choose Placed (nat_lt size 28) (says.Fails faults.Block) (if u16_at order x 12 == 1 then says.Section else says.Fails faults.Version) (λ _. tt)
      (λ _. choose Placed (u16_at order x 12 == 1) says.Section (says.Fails faults.Version) (λ _. tt) (λ _. tt))

  placed_linked : (link : Option Link) (snap : ℕ) → more_of kind size ≡ 4 → 20 ≤ size → Placed (linked_says sections link snap)
  placed_linked None snap more big = tt
  placed_linked (Some link) snap more big =
      choose Placed (not (is_link sections.link link)) (says.Fails faults.Link) (if nat_lt (length sections.interfaces) 64 then says.Interface link snap else says.Fails faults.Block) (λ _. tt)
      (λ f. choose Placed (nat_lt (length sections.interfaces) 64) (says.Interface link snap) (says.Fails faults.Block) (λ e. record { same = not-false (is_link sections.link link) f; more = more; big = big; room = ltb-true _ _ e }) (λ _. tt))

  placed_interface : (order : Order) (x : List ℕ) → (20 ≤ size → more_of kind size ≡ 4) → Placed (interface_says sections order size x)
  placed_interface order x more =
      choose Placed (nat_lt size 20) (says.Fails faults.Block) (linked_says sections (link_of (u16_at order x 8)) (u32_at order x 12)) (λ _. tt)
      (λ e. let big = ltb-false size 20 e in placed_linked (link_of (u16_at order x 8)) (u32_at order x 12) (more big) big)

  placed_timed : (inside : Option (List ℕ)) (i : Interface) (time original captured : ℕ) → more_of kind size ≡ 16 → captured ≤ 262144 → 32 + padded captured ≤ size → 0 < length sections.interfaces
      → Placed (timed_says inside i time original captured)
  placed_timed inside i time original captured more small fits some =
      let stamp : Stamp = record {
        seconds = time / per_second i.nano;
        fraction = time % per_second i.nano * nanos_each i.nano;
        original = original;
        size = captured;
        place = 28;
        side = side_by inside i.named;
      } in
      choose Placed (nat_lt (time / per_second i.nano) (2 ^ 32)) (says.Packet stamp) (says.Fails faults.Block)
      (λ _. record { place = omega arith; within = omega arith; small = small; some = some }) (λ _. tt)

  placed_enhanced : (inside : Option (List ℕ)) (order : Order) (x : List ℕ) → (32 ≤ size → more_of kind size ≡ 16) → Placed (enhanced_says inside sections order size x)
  placed_enhanced inside order x more =
      choose Placed (nat_lt size 32) (says.Fails faults.Block) (enhanced_of inside (slice_get sections.interfaces (u32_at order x 8)) order size x) (λ _. tt)
      (λ e. let big = ltb-false size 32 e in at_interface (slice_get sections.interfaces (u32_at order x 8))
      (λ i is. omega (arith, slice_get_within sections.interfaces (u32_at order x 8) i is)) (more big)) where
        at_interface : (found : Option Interface) → ((i : Interface) → found ≡ Some i → 0 < length sections.interfaces) → more_of kind size ≡ 16 → Placed (enhanced_of inside found order size x)
        at_interface None some more = tt
        at_interface (Some i) some more =
            let n = u32_at order x 20 in
            let timed = timed_says inside i (u32_at order x 12 * 2 ^ 32 + u32_at order x 16) (u32_at order x 24) n in
            choose Placed (nat_lt 262144 n) (says.Fails faults.Long) (if nat_lt size (32 + padded n) then says.Fails faults.Block else timed) (λ _. tt)
            (λ small. choose Placed (nat_lt size (32 + padded n)) (says.Fails faults.Block) timed (λ _. tt)
            (λ room. placed_timed inside i (u32_at order x 12 * 2 ^ 32 + u32_at order x 16) (u32_at order x 24) n more (ltb-false 262144 n small) (ltb-false size (32 + padded n) room) (some i refl)))

  placed_simple : (inside : Option (List ℕ)) (order : Order) (x : List ℕ) → more_of kind size ≡ 0 → Placed (simple_says inside sections order size x)
  placed_simple inside order x more =
      choose Placed (nat_lt size 16) (says.Fails faults.Block) (simple_of inside (slice_get sections.interfaces 0) sections size (u32_at order x 8)) (λ _. tt)
      (λ _. at_interface (slice_get sections.interfaces 0) (λ i is. omega (arith, slice_get_within sections.interfaces 0 i is))) where
        sized : (i : Interface) (original n : ℕ) → 0 < length sections.interfaces → Placed (simple_sized inside i.named sections size original n)
        sized i original n some =
            let stamp : Stamp = record {
              seconds = sections.seconds;
              fraction = sections.fraction;
              original = original;
              size = n;
              place = 12;
              side = side_by inside i.named;
            } in
            choose Placed (nat_lt 262144 n) (says.Fails faults.Long) (if nat_lt size (16 + padded n) then says.Fails faults.Block else says.Packet stamp) (λ _. tt)
            (λ small. choose Placed (nat_lt size (16 + padded n)) (says.Fails faults.Block) (says.Packet stamp) (λ _. tt)
            (λ room. let fits = ltb-false size (16 + padded n) room in record { place = omega arith; within = omega arith; small = ltb-false 262144 n small; some = some }))

        at_interface : (found : Option Interface) → ((i : Interface) → found ≡ Some i → 0 < length sections.interfaces) → Placed (simple_of inside found sections size (u32_at order x 8))
        at_interface None some = tt
        at_interface (Some i) some = sized i (u32_at order x 8) (clipped i.snap (u32_at order x 8)) (some i refl)

  pub content_placed : (inside : Option (List ℕ)) (order : Order) (x : List ℕ) → IsPlaced (content_of inside sections order kind size x) sections kind size
  unfolding content_of
  content_placed inside order x =
      let rest_d = if kind == old_packet_type then says.Fails faults.Block else says.Passed in
      let rest_c = if kind == simple_type then simple_says inside sections order size x else rest_d in
      let rest_b = if kind == enhanced_type then enhanced_says inside sections order size x else rest_c in
      let rest_a = if kind == interface_type then interface_says sections order size x else rest_b in
      choose Placed (kind == section_type) (section_says order size x) rest_a (λ _. placed_section order x)
      (λ a. choose Placed (kind == interface_type) (interface_says sections order size x) rest_b (λ b. placed_interface order x (λ c. rw (a, b, le-ltb size 20 c) refl))
      (λ b. choose Placed (kind == enhanced_type) (enhanced_says inside sections order size x) rest_c (λ c. placed_enhanced inside order x (λ d. rw (a, b, c, le-ltb size 32 d) refl))
      (λ c. choose Placed (kind == simple_type) (simple_says inside sections order size x) rest_d (λ d. placed_simple inside order x (rw (a, b, c) refl))
      (λ d. choose Placed (kind == old_packet_type) (says.Fails faults.Block) says.Passed (λ _. tt) (λ _. tt)))))

-- the fixed fields and the last four octets fit into a block of more than twelve
pub more_fits : (kind size : ℕ) → 16 ≤ size → 16 + more_of kind size ≤ size
more_fits kind size big = grind (arith, nat_tests)

-- a block of twelve octets
pub bare_found : (inside : Option (List ℕ)) (sections : Sections) (order : Order) (kind : ℕ) (x : List ℕ) → found_of inside order 12 x (content_of inside sections order kind 12 x) ≡ bare kind
unfolding content_of
bare_found inside sections order kind x = elim (cases_Bool (kind == section_type)) [
  | inl a ↦ rw a refl
  | inr a ↦ elim (cases_Bool (kind == interface_type)) [
    | inl b ↦ rw (a, b) refl
    | inr b ↦ elim (cases_Bool (kind == enhanced_type)) [
      | inl c ↦ rw (a, b, c) refl
      | inr c ↦ elim (cases_Bool (kind == simple_type)) [
        | inl d ↦ rw (a, b, c, d) refl
        | inr d ↦ elim (cases_Bool (kind == old_packet_type)) [
          | inl e ↦ rw (a, b, c, d, e) refl
          | inr e ↦ rw (a, b, c, d, e) refl
        ]
      ]
    ]
  ]
]

-- The first twelve octets of a block: the faults that they show, and the size that they give.
use Rattle.std.proofs.Common.{◌≡◌, ◌≢◌, ℕ, ◌+◌, ◌-◌, ◌*◌, ◌<◌, ◌≤◌, ◌==◌, true, false, ◌⊎◌, List, [], ◌++◌, length, take, drop, slice_index, Some, None, Ok, Err, refl, sym, ap, ◌∙◌, subst, arith, inl, inr, length-append, get_or-append-add, Option}
use Rattle.std.proofs.lemmas.Bool.{cases_Bool, lt-ltb, le-ltb}
use Rattle.std.proofs.lemmas.Bool.Decides.{nat_tests}
use Rattle.std.specs.Io.KnownBytes.{Consumes}
use Rattle.pcap_file.specs.declared.record.Order.{Order}
use Rattle.pcap_file.specs.declared.record.Order.TheVariants.{Little, Big}
use Rattle.pcap_file.specs.FileNumbers.{u16_at, u32_at}
use Rattle.pcap_file.proofs.Records.{u32_at_front}
use Rattle.pcapng_file.specs.declared.fault.NgFault.{NgFault}
use Rattle.pcapng_file.specs.declared.fault.NgFault.TheVariants as faults
use Rattle.pcapng_file.specs.declared.front.Front.{Front}
use Rattle.pcapng_file.specs.SectionState.{Sections}
use Rattle.pcapng_file.specs.Blocks.{is_size, order_at, size_at, ordered_at, sized_at, block_at, end_by, told, before}
use Rattle.pcapng_file.specs.working.BlockFronts.{front_in, IsFront}
use Rattle.pcapng_file.specs.RecordReading.{IsFaulty, Stops}

-- a number after the front `p`
u16_behind : (order : Order) (p t : List ℕ) (n k : ℕ) → n ≡ length p + k → u16_at order (p ++ t) n ≡ u16_at order t k
u16_behind Little p t n k e =
    let low : slice_index (p ++ t) n ≡ slice_index t k = ap (slice_index (p ++ t)) e ∙ get_or-append-add p t k 0 in
    let next : n + 1 ≡ length p + (k + 1) = omega arith in
    let high : slice_index (p ++ t) (n + 1) ≡ slice_index t (k + 1) = ap (slice_index (p ++ t)) next ∙ get_or-append-add p t (k + 1) 0 in
    omega arith
u16_behind Big p t n k e =
    let high : slice_index (p ++ t) n ≡ slice_index t k = ap (slice_index (p ++ t)) e ∙ get_or-append-add p t k 0 in
    let next : n + 1 ≡ length p + (k + 1) = omega arith in
    let low : slice_index (p ++ t) (n + 1) ≡ slice_index t (k + 1) = ap (slice_index (p ++ t)) next ∙ get_or-append-add p t (k + 1) 0 in
    omega arith

pub u32_behind : (order : Order) (p t : List ℕ) (n : ℕ) → n ≡ length p → u32_at order (p ++ t) n ≡ u32_at order t 0
u32_behind Little p t n e =
    let low = u16_behind Little p t n 0 (omega arith) in
    let high = u16_behind Little p t (n + 2) 2 (omega arith) in
    ap (λ m. m + 65536 * u16_at Little (p ++ t) (n + 2)) low ∙ ap (λ m. u16_at Little t 0 + 65536 * m) high
u32_behind Big p t n e =
    let high = u16_behind Big p t n 0 (omega arith) in
    let low = u16_behind Big p t (n + 2) 2 (omega arith) in
    ap (λ m. 65536 * m + u16_at Big (p ++ t) (n + 2)) high ∙ ap (λ m. 65536 * u16_at Big t 0 + m) low

pub at_nothing : (inside : Option (List ℕ)) (sections : Sections) → block_at inside sections [] ≡ end_by sections.link
unfolding block_at
at_nothing inside sections = refl

pub at_short : (inside : Option (List ℕ)) (sections : Sections) (x : List ℕ) → 0 < length x → length x < 12 → block_at inside sections x ≡ Err faults.Cut
unfolding block_at
at_short inside sections x a b = grind (arith, nat_tests)

pub at_many : (inside : Option (List ℕ)) (sections : Sections) (x : List ℕ) → 12 ≤ length x → sections.blocks ≡ 4294967295 → block_at inside sections x ≡ Err faults.Many
unfolding block_at
at_many inside sections x a b = grind (arith, nat_tests)

pub at_ordered : (inside : Option (List ℕ)) (sections : Sections) (x : List ℕ) → 12 ≤ length x → sections.blocks ≢ 4294967295 → block_at inside sections x ≡ ordered_at inside sections (order_at sections.order x) x
unfolding block_at
at_ordered inside sections x a b = grind (arith, nat_tests)

order_front : (order : Option Order) (h y : List ℕ) → length h ≡ 12 → order_at order (h ++ y) ≡ order_at order h
order_front order h y size = rw (u32_at_front Little h y 0 (omega arith), u32_at_front Little h y 8 (omega arith), u32_at_front Big h y 8 (omega arith)) refl

-- the first twelve octets refuse the block
refused : (inside : Option (List ℕ)) (sections : Sections) (order : Option Order) (h y : List ℕ) (fault : NgFault) → length h ≡ 12 → front_in order h ≡ Err fault
    → ordered_at inside sections order (h ++ y) ≡ Err fault
refused inside sections None h y fault size e = cc
refused inside sections (Some order) h y fault size e = elim (cases_Bool (is_size (u32_at order h 4))) [
  | inl a ↦ absurd (let same : front_in (Some order) h ≡ Ok (record { order = order; kind = u32_at order h 0; size = u32_at order h 4 }) = rw a refl in cc)
  | inr a ↦
      let same : front_in (Some order) h ≡ Err faults.Block = rw a refl in
      let is_block : ordered_at inside sections (Some order) (h ++ y) ≡ Err faults.Block = rw (u32_at_front order h y 4 (omega arith), a) refl in
      cc
]

-- the first twelve octets begin a block
begun : (order : Option Order) (h : List ℕ) (front : Front) → front_in order h ≡ Ok front → (order ≡ Some front.order) × IsFront h front
begun None h front e = absurd cc
begun (Some order) h front e = elim (cases_Bool (is_size (u32_at order h 4))) [
  | inl a ↦
      let mine : Front = record { order = order; kind = u32_at order h 0; size = u32_at order h 4 } in
      let same : front_in (Some order) h ≡ Ok mine = rw a refl in
      let one : mine ≡ front = cc in
      let facts : (Some mine.order ≡ Some mine.order) × IsFront h mine = (refl, record { kind = refl; size = refl; sized = a }) in
      subst (λ (f : Front). (Some mine.order ≡ Some f.order) × IsFront h f) one facts
  | inr a ↦ absurd (let same : front_in (Some order) h ≡ Err faults.Block = rw a refl in cc)
]

pub front_is : (order : Option Order) (h : List ℕ) (front : Front) → front_in order h ≡ Ok front → IsFront h front
front_is order h front e = (begun order h front e).1

-- the block after its first twelve octets
module _ (inside : Option (List ℕ)) (sections : Sections) (h : List ℕ) (twelve : length h ≡ 12) where
  whole_head : (y : List ℕ) → 12 ≤ length (h ++ y)
  whole_head y = omega (arith, length-append h y)

  pub at_front : (front : Front) (y : List ℕ) → sections.blocks ≢ 4294967295 → front_in (order_at sections.order h) h ≡ Ok front
      → block_at inside sections (h ++ y) ≡ sized_at inside sections front.order (h ++ y) front.size
  at_front front y few e =
      let facts = begun (order_at sections.order h) h front e in
      let ordered : order_at sections.order (h ++ y) ≡ Some front.order = order_front sections.order h y twelve ∙ facts.0 in
      let size : u32_at front.order (h ++ y) 4 ≡ front.size = u32_at_front front.order h y 4 (omega arith) ∙ sym facts.1.size in
      at_ordered inside sections (h ++ y) (whole_head y) few ∙ ap (λ o. ordered_at inside sections o (h ++ y)) ordered
      ∙ ap (sized_at inside sections front.order (h ++ y)) size

  pub most_is : (front : Front) (y : List ℕ) → front_in (order_at sections.order h) h ≡ Ok front → size_at (order_at sections.order (h ++ y)) (h ++ y) ≡ front.size
  most_is front y e =
      let facts = begun (order_at sections.order h) h front e in
      let ordered : order_at sections.order (h ++ y) ≡ Some front.order = order_front sections.order h y twelve ∙ facts.0 in
      ap (λ o. size_at o (h ++ y)) ordered ∙ u32_at_front front.order h y 4 (omega arith) ∙ sym facts.1.size

  pub stops_many : (a b : Option (List ℕ)) → Consumes a b h → sections.blocks ≡ 4294967295 → IsFaulty inside sections a b faults.Many
  stops_many a b p all = record {
    octets = h;
    taken = p;
    within = omega (arith, twelve);
    flawed = λ rest. at_many inside sections (h ++ rest) (whole_head rest) all;
  }

  pub stops_refused : (a b : Option (List ℕ)) (fault : NgFault) → Consumes a b h → sections.blocks ≢ 4294967295 → front_in (order_at sections.order h) h ≡ Err fault → IsFaulty inside sections a b fault
  stops_refused a b fault p few e = record {
    octets = h;
    taken = p;
    within = omega (arith, twelve);
    flawed = λ rest. at_ordered inside sections (h ++ rest) (whole_head rest) few ∙ ap (λ o. ordered_at inside sections o (h ++ rest)) (order_front sections.order h rest twelve)
        ∙ refused inside sections (order_at sections.order h) h rest fault twelve e;
  }

-- the fault of the first twelve octets is Magic or Block
front_fault : (order : Option Order) (h : List ℕ) (fault : NgFault) → front_in order h ≡ Err fault → (fault ≡ faults.Magic) ⊎ (fault ≡ faults.Block)
front_fault None h fault e = inl (let one : front_in None h ≡ Err faults.Magic = refl in cc)
front_fault (Some order) h fault e = elim (cases_Bool (is_size (u32_at order h 4))) [
  | inl a ↦ absurd (let same : front_in (Some order) h ≡ Ok (record { order = order; kind = u32_at order h 0; size = u32_at order h 4 }) = rw a refl in cc)
  | inr a ↦ inr (let same : front_in (Some order) h ≡ Err faults.Block = rw a refl in cc)
]

pub stops_front : (inside : Option (List ℕ)) (sections : Sections) (a b : Option (List ℕ)) (h : List ℕ) (fault : NgFault) → length h ≡ 12 → Consumes a b h → sections.blocks ≢ 4294967295
    → front_in (order_at sections.order h) h ≡ Err fault → Stops inside sections a b fault
stops_front inside sections a b h fault twelve p few e = elim (front_fault (order_at sections.order h) h fault e) [
  | inl m ↦ subst (λ (f : NgFault). Stops inside sections a b f) (sym m) (stops_refused inside sections h twelve a b faults.Magic p few (e ∙ ap Err m))
  | inr m ↦ subst (λ (f : NgFault). Stops inside sections a b f) (sym m) (stops_refused inside sections h twelve a b faults.Block p few (e ∙ ap Err m))
]

pub sized_cut : (inside : Option (List ℕ)) (sections : Sections) (order : Order) (x : List ℕ) (size : ℕ) → is_size size ≡ true → length x < size → sized_at inside sections order x size ≡ Err faults.Cut
sized_cut inside sections order x size a b = rw (a, lt-ltb (length x) size b) refl

pub sized_open : (inside : Option (List ℕ)) (sections : Sections) (order : Order) (x : List ℕ) (size : ℕ) → is_size size ≡ true → size ≤ length x → (u32_at order x (size - 4) == size) ≡ false
    → sized_at inside sections order x size ≡ Err faults.Block
sized_open inside sections order x size a b e = rw (a, le-ltb (length x) size b, e) refl

pub sized_closed : (inside : Option (List ℕ)) (sections : Sections) (order : Order) (x : List ℕ) (size : ℕ) → is_size size ≡ true → size ≤ length x → (u32_at order x (size - 4) == size) ≡ true
    → sized_at inside sections order x size ≡ before (drop size x) (told inside sections order size (take size x))
sized_closed inside sections order x size a b e = rw (a, le-ltb (length x) size b, e) refl

pub is_big : (size : ℕ) → is_size size ≡ true → 12 ≤ size
is_big size e = grind (arith, nat_tests)

-- a size other than 12 is at least 16, since sizes are multiples of four
pub is_bigger : (size : ℕ) → is_size size ≡ true → size ≢ 12 → 16 ≤ size
is_bigger size e other = grind (arith, nat_tests)

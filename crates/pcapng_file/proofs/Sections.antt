-- All octets are sections or have a first fault, never both, and their blocks are the only ones.
use Rattle.std.proofs.Common.{◌≡◌, ℕ, ◌<◌, List, [], ◌∷◌, length, Some, None, Ok, Err, refl, sym, ap, ◌∙◌, arith, inl, inr, ◌≢◌, zero, suc, ◌+◌, ◌-◌, ◌≤◌, ◌==◌, ◌⊎◌, true, ◌++◌, take, drop, subst, length-drop, Option, Result}
use Rattle.std.proofs.lemmas.Bool.{cases_lt, cases_Bool}
use Rattle.std.proofs.lemmas.Bool.Decides.{eqb_tells}
use Rattle.std.proofs.lemmas.List.{nil_from_length}
use Rattle.wire_base.specs.declared.address.Link.{Link}
use Rattle.wire_base.specs.declared.address.Link.TheVariants.{Ethernet, Raw}
use Rattle.pcap_file.specs.declared.record.Order.{Order}
use Rattle.pcap_file.specs.FileNumbers.{u32_at}
use Rattle.pcap_file.specs.Records.{Packet}
use Rattle.pcapng_file.specs.declared.fault.NgFault.{NgFault}
use Rattle.pcapng_file.specs.SectionState.{Sections, no_section, counted}
use Rattle.pcapng_file.specs.Blocks.{Step, block_at, is_size, order_at, ordered_at, sized_at, end_by, told, before, after_found, step_of, whole_step}
use Rattle.pcapng_file.specs.Sections.{Walks, behind, size_of, packets_of, with_given, EndsWell, EndsBadly}
use Rattle.pcapng_file.specs.FileLaws.{SectionsAreOne, FaultIsOne, FaultExcludesEnd, EachFileEnds, LinkStays, WalksOn}
use Rattle.pcapng_file.specs.declared.fault.NgFault.TheVariants as faults
use Rattle.pcapng_file.specs.declared.interface.Interface.{Interface}
use Rattle.pcapng_file.specs.declared.content.Content.{Content}
use Rattle.pcapng_file.specs.declared.content.Content.TheVariants as says
use Rattle.pcapng_file.specs.declared.content.Found.{Found}
use Rattle.pcapng_file.specs.declared.content.Found.TheVariants as is
use Rattle.pcapng_file.specs.InterfaceOptions.{options_of, described}
use Rattle.pcapng_file.specs.BlockContents.{is_link, interface_found, found_of, content_of}
use Rattle.pcapng_file.proofs.Contents.{content_placed, IsPlaced}
use Rattle.pcapng_file.proofs.BlockReads.{blocks_after}
use Rattle.pcapng_file.proofs.Fronts.{at_nothing, at_short, at_many, at_ordered, sized_cut, sized_open, sized_closed, is_big}

-- A file has one list of blocks and one way to end.

module _ (inside : Option (List ℕ)) (s : Sections) (all : List ℕ) where
  -- lists of equally many blocks are equal, and so are the octets after them
  pub same_steps : (ps qs : List Step) (r t : List ℕ) → Walks inside s all ps r → Walks inside s all qs t → length ps ≡ length qs → (ps ≡ qs) × (r ≡ t)
  same_steps [] [] r t p q e = (refl, sym p ∙ q)
  same_steps [] (y ∷ qs) r t p q e = absurd (omega arith)
  same_steps (x ∷ ps) [] r t p q e = absurd (omega arith)
  same_steps (x ∷ ps) (y ∷ qs) r t p q e =
      let few : length ps ≡ length qs = omega arith in
      let older_same = same_steps ps qs p.0 q.0 p.1 q.1 few in
      let older : ps ≡ qs = older_same.0 in
      let left : p.0 ≡ q.0 = older_same.1 in
      let one : block_at inside (behind s ps) p.0 ≡ Ok (Some (x, r)) = p.2 in
      let two : block_at inside (behind s qs) q.0 ≡ Ok (Some (y, t)) = q.2 in
      let mine : Step × List ℕ = (x, r) in
      let yours : Step × List ℕ = (y, t) in
      let pairs : mine ≡ yours = cc in
      let newest : x ≡ y = ap (λ (p : Step × List ℕ). p.0) pairs in
      (cc, ap (λ (p : Step × List ℕ). p.1) pairs)

  -- no block follows after these
  abbrev pub HasNoStep : List Step → List ℕ → Type 0
  HasNoStep ps rest = (step : Step) (left : List ℕ) → block_at inside (behind s ps) rest ≡ Ok (Some (step, left)) → ⊥

  -- after fewer blocks another one follows
  goes_on : (ps qs : List Step) (r t : List ℕ) → Walks inside s all ps r → Walks inside s all qs t → length ps < length qs → HasNoStep ps r → ⊥
  goes_on ps [] r t p q h last = absurd (omega arith)
  goes_on ps (y ∷ qs) r t p q h last =
      elim (cases_lt (length ps) (length qs)) [
        | inl less ↦ goes_on ps qs r q.0 p q.1 less last
        | inr more ↦
            let same = same_steps ps qs r q.0 p q.1 (omega arith) in
            let older : ps ≡ qs = same.0 in
            let left : r ≡ q.0 = same.1 in
            let two : block_at inside (behind s qs) q.0 ≡ Ok (Some (y, t)) = q.2 in
            last y t cc
      ]

  -- lists after which no block follows are equal, and so are the octets after them
  pub one_end : (ps qs : List Step) (r t : List ℕ) → Walks inside s all ps r → Walks inside s all qs t → HasNoStep ps r → HasNoStep qs t → (ps ≡ qs) × (r ≡ t)
  one_end ps qs r t p q last final =
      elim (cases_lt (length ps) (length qs)) [
        | inl less ↦ absurd (goes_on ps qs r t p q less last)
        | inr more ↦ elim (cases_lt (length qs) (length ps)) [
          | inl less ↦ absurd (goes_on qs ps t r q p less final)
          | inr other ↦ same_steps ps qs r t p q (omega arith)
        ]
      ]

none_at_end : (inside : Option (List ℕ)) (s : Sections) (rest : List ℕ) → block_at inside s rest ≡ Ok None → (step : Step) (left : List ℕ) → block_at inside s rest ≡ Ok (Some (step, left)) → ⊥
none_at_end inside s rest ends step left e = cc

none_at_fault : (inside : Option (List ℕ)) (s : Sections) (rest : List ℕ) (fault : NgFault) → block_at inside s rest ≡ Err fault → (step : Step) (left : List ℕ) → block_at inside s rest ≡ Ok (Some (step, left)) → ⊥
none_at_fault inside s rest fault flawed step left e = cc

pub sections_one : SectionsAreOne
sections_one inside octets ps qs p q = (one_end inside no_section octets ps qs [] [] p.walks q.walks (none_at_end inside _ [] p.ends) (none_at_end inside _ [] q.ends)).0

pub fault_one : FaultIsOne
fault_one inside octets fault other offset place p q =
    let end = one_end inside no_section octets p.steps q.steps p.rest q.rest p.walks q.walks (none_at_fault inside _ p.rest fault p.flawed) (none_at_fault inside _ q.rest other q.flawed) in
    let steps : p.steps ≡ q.steps = end.0 in
    let rest : p.rest ≡ q.rest = end.1 in
    let one : block_at inside (behind no_section p.steps) p.rest ≡ Err fault = p.flawed in
    let two : block_at inside (behind no_section q.steps) q.rest ≡ Err other = q.flawed in
    (cc, p.place ∙ ap size_of steps ∙ sym q.place)

pub fault_no_end : FaultExcludesEnd
fault_no_end inside octets ps fault offset p q =
    let end = one_end inside no_section octets ps q.steps [] q.rest p.walks q.walks (none_at_end inside _ [] p.ends) (none_at_fault inside _ q.rest fault q.flawed) in
    let steps : ps ≡ q.steps = end.0 in
    let rest : [] ≡ q.rest = end.1 in
    let ends : block_at inside (behind no_section ps) [] ≡ Ok None = p.ends in
    let flawed : block_at inside (behind no_section q.steps) q.rest ≡ Err fault = q.flawed in
    cc

-- Each list of octets is sections or has a first fault; each block has at least one octet.

-- a link that may follow the first one is the same
same_link : (first : Option Link) (link l : Link) → is_link first link ≡ true → first ≡ Some l → Some link ≡ Some l
same_link None link l may e = absurd cc
same_link (Some Ethernet) Ethernet l may e = e
same_link (Some Ethernet) Raw l may e = absurd cc
same_link (Some Raw) Ethernet l may e = absurd cc
same_link (Some Raw) Raw l may e = e

-- the link of the first interface stays the same
module _ (inside : Option (List ℕ)) (s : Sections) (order : Order) (kind size : ℕ) (block : List ℕ) (l : Link) (linked : s.link ≡ Some l) where
  found_keeps : (content : Content) → IsPlaced content s kind size → (after_found (counted s) order (found_of inside order size block content)).link ≡ Some l
  found_keeps (says.Fails fault) placed = linked
  found_keeps says.Passed placed = linked
  found_keeps says.Section placed = linked
  found_keeps (says.Interface link snap) placed = either_way (described inside snap (options_of order (take (size - 20) (drop 16 block)))) where
    either_way : (o : Option Interface) → (after_found (counted s) order (interface_found link o)).link ≡ Some l
    either_way None = linked
    either_way (Some i) = same_link s.link link l placed.same linked
  found_keeps (says.Packet stamp) placed = linked

step_after : (s : Sections) (order : Order) (size : ℕ) (block : List ℕ) (found : Found) (step : Step) → step_of s order size block found ≡ Ok step → step.after ≡ after_found s order found
step_after s order size block (is.Fails fault) step e = absurd cc
step_after s order size block is.Passed step e = let one : whole_step s order size block is.Passed ≡ step = cc in ap (λ (t : Step). t.after) (sym one)
step_after s order size block is.Section step e = let one : whole_step s order size block is.Section ≡ step = cc in ap (λ (t : Step). t.after) (sym one)
step_after s order size block (is.Interface link i) step e = let one : whole_step s order size block (is.Interface link i) ≡ step = cc in ap (λ (t : Step). t.after) (sym one)
step_after s order size block (is.Packet stamp) step e = let one : whole_step s order size block (is.Packet stamp) ≡ step = cc in ap (λ (t : Step). t.after) (sym one)

told_keeps : (inside : Option (List ℕ)) (s : Sections) (order : Order) (size : ℕ) (block : List ℕ) (step : Step) → told inside s order size block ≡ Ok step → (l : Link) → s.link ≡ Some l
    → step.after.link ≡ Some l
told_keeps inside s order size block step e l linked =
    let kind = u32_at order block 0 in
    let content = content_of inside s order kind size block in
    ap (λ (t : Sections). t.link) (step_after (counted s) order size block (found_of inside order size block content) step e)
    ∙ found_keeps inside s order kind size block l linked content (content_placed s kind size inside order block)

told_counts : (inside : Option (List ℕ)) (s : Sections) (order : Order) (size : ℕ) (block : List ℕ) (step : Step) → told inside s order size block ≡ Ok step → step.after.blocks ≡ s.blocks + 1
told_counts inside s order size block step e =
    let found = found_of inside order size block (content_of inside s order (u32_at order block 0) size block) in
    ap (λ (t : Sections). t.blocks) (step_after (counted s) order size block found step e) ∙ blocks_after s order found

-- a fault is at the front
record HasFault (inside : Option (List ℕ)) (s : Sections) (x : List ℕ) : Type 0 where
  fault : NgFault
  flawed : block_at inside s x ≡ Err fault

-- a block is at the front, and has at least one octet
record HasStep (inside : Option (List ℕ)) (s : Sections) (x : List ℕ) : Type 0 where
  step : Step
  rest : List ℕ
  stands : block_at inside s x ≡ Ok (Some (step, rest))
  shorter : length rest < length x
  keeps : (l : Link) → s.link ≡ Some l → step.after.link ≡ Some l
  few : s.blocks ≢ 4294967295
  counts : step.after.blocks ≡ s.blocks + 1

module _ (inside : Option (List ℕ)) (s : Sections) (x : List ℕ) where
  told_cases : (rest : List ℕ) (result : Result Step NgFault) → block_at inside s x ≡ before rest result → length rest < length x
      → ((step : Step) → result ≡ Ok step → (l : Link) → s.link ≡ Some l → step.after.link ≡ Some l) → s.blocks ≢ 4294967295
      → ((step : Step) → result ≡ Ok step → step.after.blocks ≡ s.blocks + 1) → HasFault inside s x ⊎ HasStep inside s x
  told_cases rest (Ok step) e shorter keeps few counts = inr (record { step = step; rest = rest; stands = e; shorter = shorter; keeps = keeps step refl; few = few; counts = counts step refl })
  told_cases rest (Err fault) e shorter keeps few counts = inl (record { fault = fault; flawed = e })

  sized_cases : (order : Order) (size : ℕ) → block_at inside s x ≡ sized_at inside s order x size → s.blocks ≢ 4294967295 → HasFault inside s x ⊎ HasStep inside s x
  sized_cases order size e few = elim (cases_Bool (is_size size)) [
    | inr odd ↦ inl (record { fault = faults.Block; flawed = e ∙ rw odd refl })
    | inl sized ↦ elim (cases_lt (length x) size) [
      | inl cut ↦ inl (record { fault = faults.Cut; flawed = e ∙ sized_cut inside s order x size sized cut })
      | inr enough ↦ elim (cases_Bool (u32_at order x (size - 4) == size)) [
        | inr different ↦ inl (record { fault = faults.Block; flawed = e ∙ sized_open inside s order x size sized enough different })
        | inl same ↦
            let big = is_big size sized in
            told_cases (drop size x) (told inside s order size (take size x)) (e ∙ sized_closed inside s order x size sized enough same) (omega (arith, length-drop size x))
            (told_keeps inside s order size (take size x)) few (told_counts inside s order size (take size x))
      ]
    ]
  ]

  ordered_cases : (order : Option Order) → block_at inside s x ≡ ordered_at inside s order x → s.blocks ≢ 4294967295 → HasFault inside s x ⊎ HasStep inside s x
  ordered_cases None e few = inl (record { fault = faults.Magic; flawed = e })
  ordered_cases (Some order) e few = sized_cases order (u32_at order x 4) e few

  -- the octets end here, or a fault or a block is at the front
  front_cases : ((x ≡ []) × (block_at inside s [] ≡ Ok None)) ⊎ (HasFault inside s x ⊎ HasStep inside s x)
  front_cases = elim (cases_lt 0 (length x)) [
    | inr none ↦ nothing s.link refl (nil_from_length x (omega arith))
    | inl some ↦ inr (elim (cases_lt (length x) 12) [
      | inl short ↦ inl (record { fault = faults.Cut; flawed = at_short inside s x some short })
      | inr whole ↦ elim (eqb_tells s.blocks 4294967295) [
        | inl all ↦ inl (record { fault = faults.Many; flawed = at_many inside s x whole all.1 })
        | inr few ↦ ordered_cases (order_at s.order x) (at_ordered inside s x whole few.1) few.1
      ]
    ])
  ] where
    nothing : (link : Option Link) → s.link ≡ link → x ≡ [] → ((x ≡ []) × (block_at inside s [] ≡ Ok None)) ⊎ (HasFault inside s x ⊎ HasStep inside s x)
    nothing None e none = inr (inl (record { fault = faults.Cut; flawed = ap (block_at inside s) none ∙ at_nothing inside s ∙ ap end_by e }))
    nothing (Some link) e none = inl (none, at_nothing inside s ∙ ap end_by e)

-- after these blocks the octets end without a fault or with one
ends_from : (most : ℕ) (inside : Option (List ℕ)) (octets : List ℕ) (steps : List Step) (rest : List ℕ) → Walks inside no_section octets steps rest → length rest < most
    → EndsWell inside octets ⊎ EndsBadly inside octets
ends_from zero inside octets steps rest walks enough = absurd (omega arith)
ends_from (suc most) inside octets steps rest walks enough = elim (front_cases inside (behind no_section steps) rest) [
  | inl end ↦ inl (record { steps = steps; is = record { walks = subst (Walks inside no_section octets steps) end.0 walks; ends = end.1 } })
  | inr (inl here) ↦ inr (record {
    fault = here.fault;
    offset = size_of steps;
    is = record { steps = steps; rest = rest; walks = walks; flawed = here.flawed; place = refl };
  })
  | inr (inr here) ↦ ends_from most inside octets (here.step ∷ steps) here.rest (rest, walks, here.stands) (omega (arith, here.shorter))
]

pub each_ends : EachFileEnds
each_ends inside octets = ends_from (suc (length octets)) inside octets [] octets refl (omega arith)

pub link_stays : LinkStays
link_stays inside s x step rest e l linked = elim (front_cases inside s x) [
  | inl end ↦ let nothing : block_at inside s x ≡ Ok None = ap (block_at inside s) end.0 ∙ end.1 in absurd cc
  | inr (inl here) ↦ let flawed : block_at inside s x ≡ Err here.fault = here.flawed in absurd cc
  | inr (inr here) ↦
      let stands : block_at inside s x ≡ Ok (Some (here.step, here.rest)) = here.stands in
      let mine : Step × List ℕ = (here.step, here.rest) in
      let yours : Step × List ℕ = (step, rest) in
      let pairs : mine ≡ yours = cc in
      ap (λ (p : Step × List ℕ). p.0.after.link) (sym pairs) ∙ here.keeps l linked
]

-- a block is counted, and there are not too many before it
pub block_counts : (inside : Option (List ℕ)) (s : Sections) (x : List ℕ) (step : Step) (rest : List ℕ) → block_at inside s x ≡ Ok (Some (step, rest))
    → (s.blocks ≢ 4294967295) × (step.after.blocks ≡ s.blocks + 1)
block_counts inside s x step rest e = elim (front_cases inside s x) [
  | inl end ↦ let nothing : block_at inside s x ≡ Ok None = ap (block_at inside s) end.0 ∙ end.1 in absurd cc
  | inr (inl here) ↦ let flawed : block_at inside s x ≡ Err here.fault = here.flawed in absurd cc
  | inr (inr here) ↦
      let stands : block_at inside s x ≡ Ok (Some (here.step, here.rest)) = here.stands in
      let mine : Step × List ℕ = (here.step, here.rest) in
      let yours : Step × List ℕ = (step, rest) in
      let pairs : mine ≡ yours = cc in
      (here.few, ap (λ (p : Step × List ℕ). p.0.after.blocks) (sym pairs) ∙ here.counts)
]

given_on : (given : Option Packet) (newer older : List Packet) → with_given given (newer ++ older) ≡ with_given given newer ++ older
given_on None newer older = refl
given_on (Some packet) newer older = refl

-- the state after blocks that follow blocks
pub behind_on : (s : Sections) (steps newer : List Step) → behind s (newer ++ steps) ≡ behind (behind s steps) newer
behind_on s steps [] = refl
behind_on s steps (step ∷ newer) = refl

pub packets_on : (steps newer : List Step) → packets_of (newer ++ steps) ≡ packets_of newer ++ packets_of steps
packets_on steps [] = refl
packets_on steps (step ∷ newer) = ap (with_given step.given) (packets_on steps newer) ∙ given_on step.given (packets_of newer) (packets_of steps)

pub size_on : (steps newer : List Step) → size_of (newer ++ steps) ≡ size_of steps + size_of newer
size_on steps [] = omega arith
size_on steps (step ∷ newer) = omega (arith, size_on steps newer)

pub walks_on : WalksOn
walks_on inside s all left rest ps newer p q = record {
  walks = together newer rest q;
  after = behind_on s ps newer;
  packets = packets_on ps newer;
  size = size_on ps newer;
} where
  together : (qs : List Step) (rest : List ℕ) → Walks inside (behind s ps) left qs rest → Walks inside s all (qs ++ ps) rest
  together [] rest q = subst (Walks inside s all ps) q p
  together (step ∷ qs) rest q = (q.0, together qs q.0 q.1, ap (λ t. block_at inside t q.0) (behind_on s ps qs) ∙ q.2)

-- the link of the first interface stays the same over blocks
pub links_stay : (inside : Option (List ℕ)) (s : Sections) (all : List ℕ) (steps : List Step) (rest : List ℕ) → Walks inside s all steps rest → (link : Link) → s.link ≡ Some link
    → (behind s steps).link ≡ Some link
links_stay inside s all [] rest p link e = e
links_stay inside s all (step ∷ older) rest p link e = link_stays inside (behind s older) p.0 step rest p.2 link (links_stay inside s all older p.0 p.1 link e)

-- Blocks are counted, and there are not too many.
pub record AreCounted (s : Sections) (steps : List Step) : Type 0 where
  pub count : (behind s steps).blocks ≡ s.blocks + length steps
  pub few : (behind s steps).blocks ≤ 4294967295

pub blocks_counted : (inside : Option (List ℕ)) (s : Sections) (all : List ℕ) (steps : List Step) (rest : List ℕ) → Walks inside s all steps rest → s.blocks ≤ 4294967295 → AreCounted s steps
blocks_counted inside s all [] rest p few = record { count = omega arith; few = few }
blocks_counted inside s all (step ∷ older) rest p few =
    let before = blocks_counted inside s all older p.0 p.1 few in
    let here = block_counts inside (behind s older) p.0 step rest p.2 in
    record { count = omega (arith, here.1, before.count); few = omega (arith, here.1, before.few, here.0) }

-- a block has at most one packet
pub packets_few : (steps : List Step) → length (packets_of steps) ≤ length steps
packets_few [] = omega arith
packets_few (step ∷ older) = by step.given (packets_few older) where
  by : (given : Option Packet) → length (packets_of older) ≤ length older → length (with_given given (packets_of older)) ≤ suc (length older)
  by None few = omega (arith, few)
  by (Some packet) few = omega (arith, few)

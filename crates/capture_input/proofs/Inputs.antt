-- All octets are an input or have a first fault, never both; its head and records are the only
-- ones, and so is each beginning.
use Rattle.std.proofs.Common.{◌≡◌, ◌⊎◌, ℕ, true, false, List, [], Option, Some, None, Result, Ok, Err, refl, sym, ap, ◌∙◌, subst, inl, inr, ◌+◌, ◌<◌, ◌≤◌, ◌∷◌, ◌++◌, length, drop, arith, Bool}
use Rattle.std.proofs.lemmas.Bool.{cases_lt}
use Rattle.std.proofs.lemmas.List.{length-append, nil_from_length}
use Rattle.wire_base.specs.declared.address.Link.{Link}
use Rattle.pcap_file.specs.declared.head.Head.{Head}
use Rattle.pcap_file.specs.Flaws.{Flaw}
use Rattle.pcap_file.specs.FileHead.{head_of}
use Rattle.pcap_file.specs.Records.{Packet}
use Rattle.pcap_file.specs.Capture.{IsCapture, ReadsTo}
use Rattle.pcap_file.specs.Capture as classic
use Rattle.pcap_file.proofs.Captures as capture_laws
use Rattle.pcapng_file.specs.declared.fault.NgFault.{NgFault}
use Rattle.pcapng_file.specs.SectionState.{no_section, Sections}
use Rattle.pcapng_file.specs.Blocks.{Step, end_by, block_at}
use Rattle.pcapng_file.specs.Sections.{IsSections, behind, packets_of, Walks, with_given, EndsAtInterface}
use Rattle.pcapng_file.specs.Sections as sections
use Rattle.pcapng_file.proofs.Fronts.{at_nothing}
use Rattle.pcapng_file.proofs.Sections as section_laws
use Rattle.pcap_file.proofs.Captures.{same_records}
use Rattle.pcapng_file.proofs.Sections.{same_steps, behind_on, packets_on, links_stay}
use Rattle.pcapng_file.specs.ReaderState.{written_head}
use Rattle.capture_input.specs.declared.fault.InputFault.{InputFault}
use Rattle.capture_input.specs.Faults.{of_flaw, of_block}
use Rattle.capture_input.specs.Inputs.{Walk, records, blocks, is_sections, classic_head, IsHeadOf, packets_in, BeginsWith, BeginsClassic, BeginsSections, IsFlawed, FailsAt, place_behind, BlocksEndAt, EndsWell, EndsBadly}
use Rattle.capture_input.specs.InputLaws.{InputIsOne, FaultIsOne, FaultExcludesEnd, BeginningIsOne, EachInputEnds}
use Rattle.capture_input.specs.declared.fault.InputFault.TheVariants as faults
use Rattle.capture_input.proofs.Heads.{behind_interface}
use Rattle.capture_input.proofs.Steps.{some_link}

-- An input has one head, one list of records and one way to end.

-- an accepted classic head is the head of the octets
pub accepted : (inside : Option (List ℕ)) (found : Result Head Flaw) (head : Head) → classic_head inside found ≡ Ok head → found ≡ Ok head
accepted None (Ok other) head e = let same : other ≡ head = cc in ap Ok same
accepted None (Err flaw) head e = absurd cc
accepted (Some name) (Ok other) head e = absurd cc
accepted (Some name) (Err flaw) head e = absurd cc

-- a pcapng file has one head
pub head_one : (link : Option Link) (head other : Head) → IsHeadOf link head → IsHeadOf link other → head ≡ other
head_one None head other p q = absurd p
head_one (Some link) head other p q = p ∙ sym q

-- octets may end after an interface
pub ends_by : (link : Option Link) (head : Head) → IsHeadOf link head → end_by link ≡ Ok None
ends_by None head p = absurd p
ends_by (Some link) head p = refl

capture : (inside : Option (List ℕ)) (octets : List ℕ) (head : Head) (packets : List Packet) → BeginsClassic inside octets head packets [] → IsCapture octets head packets
capture inside octets head packets p = record { accepted = accepted inside (head_of octets) head p.accepted; whole = p.reads }

sections_of : (inside : Option (List ℕ)) (octets : List ℕ) (head : Head) (steps : List Step) → BeginsSections inside octets head steps [] → IsSections inside octets steps
sections_of inside octets head steps p = record { walks = p.walks; ends = at_nothing inside (behind no_section steps) ∙ ends_by (behind no_section steps).link head p.linked }

-- octets are of one kind
pub one_kind : (octets : List ℕ) → is_sections octets ≡ false → is_sections octets ≡ true → ⊥
one_kind octets p q = cc

same_walks : (inside : Option (List ℕ)) (octets : List ℕ) (head other : Head) (walk farther : Walk) → BeginsWith inside octets head walk [] → BeginsWith inside octets other farther []
    → (head ≡ other) × (packets_in walk ≡ packets_in farther)
same_walks inside octets head other (records ps) (records qs) p q = capture_laws.capture_one octets head other ps qs (capture inside octets head ps p) (capture inside octets other qs q)
same_walks inside octets head other (blocks ps) (blocks qs) p q =
    let same : ps ≡ qs = section_laws.sections_one inside octets ps qs (sections_of inside octets head ps p) (sections_of inside octets other qs q) in
    let linked : IsHeadOf (behind no_section ps).link other = subst (λ (s : List Step). IsHeadOf (behind no_section s).link other) (sym same) q.linked in
    (head_one (behind no_section ps).link head other p.linked linked, ap packets_of same)
same_walks inside octets head other (records ps) (blocks qs) p q = absurd (one_kind octets p.kind q.kind)
same_walks inside octets head other (blocks ps) (records qs) p q = absurd (one_kind octets q.kind p.kind)

pub input_one : InputIsOne
input_one inside octets head other ps qs p q =
    let same = same_walks inside octets head other p.walk q.walk p.begins q.begins in
    (same.0, sym p.packets_are ∙ same.1 ∙ q.packets_are)

-- a fault of a classic file
record FailsClassic (inside : Option (List ℕ)) (octets : List ℕ) (fault : InputFault) (offset : ℕ) : Type 0 where
  kind : is_sections octets ≡ false
  head : Head
  accepted : classic_head inside (head_of octets) ≡ Ok head
  flaw : Flaw
  flawed : classic.FailsBehindHead octets flaw offset
  is : fault ≡ of_flaw flaw

record RefusesClassic (inside : Option (List ℕ)) (octets : List ℕ) (fault : InputFault) (offset : ℕ) : Type 0 where
  kind : is_sections octets ≡ false
  refused : classic_head inside (head_of octets) ≡ Err fault
  place : offset ≡ 0

-- a fault of a pcapng file, in its head or after it
record FailsSections (inside : Option (List ℕ)) (octets : List ℕ) (fault : InputFault) (offset : ℕ) : Type 0 where
  kind : is_sections octets ≡ true
  flaw : NgFault
  flawed : sections.FailsAt inside octets flaw offset
  is : fault ≡ of_block flaw

Sorted : (inside : Option (List ℕ)) → (octets : List ℕ) → InputFault → (offset : ℕ) → Type 0
Sorted inside octets fault offset = RefusesClassic inside octets fault offset ⊎ (FailsClassic inside octets fault offset ⊎ FailsSections inside octets fault offset)

sort : (inside : Option (List ℕ)) (octets : List ℕ) (fault : InputFault) (offset : ℕ) → FailsAt inside octets fault offset → Sorted inside octets fault offset
unfolding Sorted
sort inside octets fault offset (inl (inl p)) = inl (record { kind = p.kind; refused = p.refused; place = p.place })
sort inside octets fault offset (inl (inr p)) = inr (inr (record {
  kind = p.kind;
  flaw = p.flawed.flaw;
  flawed = record { steps = p.steps; rest = p.rest; walks = p.walks; flawed = p.flawed.flawed; place = p.place };
  is = p.flawed.is;
}))
sort inside octets fault offset (inr p) = by p.walk p.begins p.flawed p.place where
  by : (walk : Walk) → BeginsWith inside octets p.head walk p.rest → IsFlawed inside p.head walk p.rest fault → offset ≡ place_behind walk → Sorted inside octets fault offset
  by (records packets) begins flawed place = inr (inl (record {
    kind = begins.kind;
    head = p.head;
    accepted = begins.accepted;
    flaw = flawed.flaw;
    flawed = record {
      head = p.head;
      packets = packets;
      rest = p.rest;
      accepted = accepted inside (head_of octets) p.head begins.accepted;
      reads = begins.reads;
      flawed = flawed.flawed;
      place = place;
    };
    is = flawed.is;
  }))
  by (blocks steps) begins flawed place = inr (inr (record {
    kind = begins.kind;
    flaw = flawed.flaw;
    flawed = record { steps = steps; rest = p.rest; walks = begins.walks; flawed = flawed.flawed; place = place };
    is = flawed.is;
  }))

module _ (inside : Option (List ℕ)) (octets : List ℕ) (fault other : InputFault) (offset place : ℕ) where
  same_fault : Sorted inside octets fault offset → Sorted inside octets other place → (fault ≡ other) × (offset ≡ place)
  unfolding Sorted
  same_fault (inl p) (inl q) =
      let one : classic_head inside (head_of octets) ≡ Err fault = p.refused in
      let two : classic_head inside (head_of octets) ≡ Err other = q.refused in
      (cc, p.place ∙ sym q.place)
  same_fault (inl p) (inr (inl q)) =
      let one : classic_head inside (head_of octets) ≡ Err fault = p.refused in
      let two : classic_head inside (head_of octets) ≡ Ok q.head = q.accepted in
      absurd cc
  same_fault (inl p) (inr (inr q)) = absurd (one_kind octets p.kind q.kind)
  same_fault (inr (inl p)) (inl q) =
      let one : classic_head inside (head_of octets) ≡ Ok p.head = p.accepted in
      let two : classic_head inside (head_of octets) ≡ Err other = q.refused in
      absurd cc
  same_fault (inr (inl p)) (inr (inl q)) =
      let same = capture_laws.flaw_one octets p.flaw q.flaw offset place (inr p.flawed) (inr q.flawed) in
      (p.is ∙ ap of_flaw same.0 ∙ sym q.is, same.1)
  same_fault (inr (inl p)) (inr (inr q)) = absurd (one_kind octets p.kind q.kind)
  same_fault (inr (inr p)) (inl q) = absurd (one_kind octets q.kind p.kind)
  same_fault (inr (inr p)) (inr (inl q)) = absurd (one_kind octets q.kind p.kind)
  same_fault (inr (inr p)) (inr (inr q)) =
      let same = section_laws.fault_one inside octets p.flaw q.flaw offset place p.flawed q.flawed in
      (p.is ∙ ap of_block same.0 ∙ sym q.is, same.1)

pub fault_one : FaultIsOne
fault_one inside octets fault other offset place p q = same_fault inside octets fault other offset place (sort inside octets fault offset p) (sort inside octets other place q)

no_fault : (inside : Option (List ℕ)) (octets : List ℕ) (head : Head) (walk : Walk) (fault : InputFault) (offset : ℕ) → BeginsWith inside octets head walk [] → Sorted inside octets fault offset → ⊥
unfolding Sorted
no_fault inside octets head (records ps) fault offset p (inl q) =
    let one : classic_head inside (head_of octets) ≡ Ok head = p.accepted in
    let two : classic_head inside (head_of octets) ≡ Err fault = q.refused in
    cc
no_fault inside octets head (records ps) fault offset p (inr (inl q)) = capture_laws.flaw_no_end octets head ps q.flaw offset (capture inside octets head ps p) (inr q.flawed)
no_fault inside octets head (records ps) fault offset p (inr (inr q)) = one_kind octets p.kind q.kind
no_fault inside octets head (blocks ps) fault offset p (inl q) = one_kind octets q.kind p.kind
no_fault inside octets head (blocks ps) fault offset p (inr (inl q)) = one_kind octets q.kind p.kind
no_fault inside octets head (blocks ps) fault offset p (inr (inr q)) = section_laws.fault_no_end inside octets ps q.flaw offset (sections_of inside octets head ps p) q.flawed

pub fault_no_end : FaultExcludesEnd
fault_no_end inside octets head packets fault offset p q = no_fault inside octets head p.walk fault offset p.begins (sort inside octets fault offset q)

-- Octets begin in one way with a given number of records and nothing after the newest of them.

-- Blocks that continue others.
pub record GoOn (inside : Option (List ℕ)) (ps qs : List Step) (r t : List ℕ) : Type 0 where
  pub newer : List Step
  pub are : qs ≡ newer ++ ps
  pub walks : Walks inside (behind no_section ps) r newer t

-- if the older blocks have all the records, the newest one has none
none_given : (given : Option Packet) (older : List Packet) (count : ℕ) → count ≤ length older → length (with_given given older) ≡ count → given ≡ None
none_given None older count few same = refl
none_given (Some packet) older count few same = absurd (omega arith)

-- if the newest block has no record, it is the first interface, and there is no record
silent_end : (packets : List Packet) (step : Step) (older : List Step) → step.given ≡ None → BlocksEndAt packets (step ∷ older) → (packets ≡ []) × ((behind no_section older).link ≡ None)
silent_end [] step older none ends = (refl, ends.0)
silent_end (packet ∷ others) step older none ends = let given : step.given ≡ Some packet = ends in absurd cc

module _ (inside : Option (List ℕ)) (all : List ℕ) where
  pub go_on : (ps qs : List Step) (r t : List ℕ) → Walks inside no_section all ps r → Walks inside no_section all qs t → length ps ≤ length qs → GoOn inside ps qs r t
  go_on ps [] r t p q few =
      let same = same_steps inside no_section all ps [] r t p q (omega arith) in
      record { newer = []; are = sym same.0; walks = same.1 }
  go_on ps (y ∷ qs) r t p q few = elim (cases_lt (length qs) (length ps)) [
    | inl less ↦
        let same = same_steps inside no_section all ps (y ∷ qs) r t p q (omega arith) in
        record { newer = []; are = sym same.0; walks = same.1 }
    | inr more ↦
        let on = go_on ps qs r q.0 p q.1 more in
        let there : behind (behind no_section ps) on.newer ≡ behind no_section qs = sym (behind_on no_section ps on.newer) ∙ sym (ap (behind no_section) on.are) in
        record {
          newer = y ∷ on.newer;
          are = ap (λ (l : List Step). y ∷ l) on.are;
          walks = (q.0, on.walks, ap (λ (s : Sections). block_at inside s q.0) there ∙ q.2);
        }
  ]

  -- a longer list of blocks with as many records does not end this way
  none_more : (ps qs : List Step) (r t : List ℕ) → Walks inside no_section all ps r → Walks inside no_section all qs t → BlocksEndAt (packets_of ps) ps → BlocksEndAt (packets_of qs) qs
      → length (packets_of ps) ≡ length (packets_of qs) → length ps < length qs → ⊥
  none_more ps [] r t p q first last same less = absurd (omega arith)
  none_more ps (y ∷ older) r t p q first last same less =
      let on = go_on ps older r q.0 p q.1 (omega arith) in
      let count : length (packets_of older) ≡ length (packets_of on.newer) + length (packets_of ps) =
      ap (λ l. length (packets_of l)) on.are ∙ ap length (packets_on ps on.newer) ∙ length-append (packets_of on.newer) (packets_of ps) in
      let silent = none_given y.given (packets_of older) (length (packets_of ps)) (omega (arith, count)) (sym same) in
      let end = silent_end (packets_of (y ∷ older)) y older silent last in
      let none : packets_of ps ≡ [] = nil_from_length (packets_of ps) (same ∙ ap length end.0) in
      let head : EndsAtInterface ps = subst (λ packets. BlocksEndAt packets ps) none first in
      let link = some_link (behind no_section ps).link (behind_interface ps head) in
      let stays : (behind (behind no_section ps) on.newer).link ≡ Some link.0 = links_stay inside (behind no_section ps) r on.newer q.0 on.walks link.0 link.1 in
      let unlinked : (behind (behind no_section ps) on.newer).link ≡ None =
      ap (λ (s : Sections). s.link) (sym (behind_on no_section ps on.newer) ∙ sym (ap (behind no_section) on.are)) ∙ end.1 in
      cc

  same_blocks : (ps qs : List Step) (r t : List ℕ) → Walks inside no_section all ps r → Walks inside no_section all qs t → BlocksEndAt (packets_of ps) ps → BlocksEndAt (packets_of qs) qs
      → length (packets_of ps) ≡ length (packets_of qs) → (ps ≡ qs) × (r ≡ t)
  same_blocks ps qs r t p q first last same = elim (cases_lt (length ps) (length qs)) [
    | inl less ↦ absurd (none_more ps qs r t p q first last same less)
    | inr more ↦ elim (cases_lt (length qs) (length ps)) [
      | inl less ↦ absurd (none_more qs ps t r q p last first (sym same) less)
      | inr other ↦ same_steps inside no_section all ps qs r t p q (omega arith)
    ]
  ]

pub beginning_one : BeginningIsOne
beginning_one inside octets head other (records ps) (records qs) rest left p q first last same =
    let one : head_of octets ≡ Ok head = accepted inside (head_of octets) head p.accepted in
    let two : head_of octets ≡ Ok other = accepted inside (head_of octets) other q.accepted in
    let heads : head ≡ other = cc in
    let reads : ReadsTo head.order (drop 24 octets) qs left = subst (λ (h : Head). ReadsTo h.order (drop 24 octets) qs left) (sym heads) q.reads in
    let both = same_records head.order (drop 24 octets) ps qs rest left p.reads reads same in
    (heads, ap records both.0, both.1)
beginning_one inside octets head other (blocks ps) (blocks qs) rest left p q first last same =
    let both = same_blocks inside octets ps qs rest left p.walks q.walks first last same in
    let linked : IsHeadOf (behind no_section ps).link other = subst (λ (s : List Step). IsHeadOf (behind no_section s).link other) (sym both.0) q.linked in
    (head_one (behind no_section ps).link head other p.linked linked, ap blocks both.0, both.1)
beginning_one inside octets head other (records ps) (blocks qs) rest left p q first last same = absurd (one_kind octets p.kind q.kind)
beginning_one inside octets head other (blocks ps) (records qs) rest left p q first last same = absurd (one_kind octets q.kind p.kind)

-- All octets are an input or have a first fault; a fault of a call is this fault.

-- a pcapng file

linked_end : (link : Option Link) → end_by link ≡ Ok None → IsHeadOf link (written_head link)
linked_end None e = absurd cc
linked_end (Some link) e = refl

sections_end : (inside : Option (List ℕ)) (octets : List ℕ) → is_sections octets ≡ true → sections.EndsWell inside octets ⊎ sections.EndsBadly inside octets → EndsWell inside octets ⊎ EndsBadly inside octets
sections_end inside octets kind (inl p) = inl (record {
  head = written_head (behind no_section p.steps).link;
  packets = packets_of p.steps;
  is = record {
    walk = blocks p.steps;
    begins = record {
      kind = kind;
      walks = p.is.walks;
      linked = linked_end (behind no_section p.steps).link (sym (at_nothing inside (behind no_section p.steps)) ∙ p.is.ends);
    };
    packets_are = refl;
  };
})
sections_end inside octets kind (inr p) = inr (record { fault = of_block p.fault; offset = p.offset; is = by (behind no_section p.is.steps).link refl }) where
  by : (link : Option Link) → (behind no_section p.is.steps).link ≡ link → FailsAt inside octets (of_block p.fault) p.offset
  by None e = inl (inr (record {
    kind = kind;
    steps = p.is.steps;
    rest = p.is.rest;
    walks = p.is.walks;
    unlinked = e;
    flawed = record { flaw = p.fault; flawed = p.is.flawed; is = refl };
    place = p.is.place;
  }))
  by (Some link) e = inr (record {
    head = written_head (Some link);
    walk = blocks p.is.steps;
    rest = p.is.rest;
    begins = record { kind = kind; walks = p.is.walks; linked = subst (λ (l : Option Link). IsHeadOf l (written_head (Some link))) (sym e) refl };
    flawed = record { flaw = p.fault; flawed = p.is.flawed; is = refl };
    place = p.is.place;
  })

-- a classic file

no_interface : (name : List ℕ) (octets : List ℕ) → is_sections octets ≡ false → (found : Result Head Flaw) → head_of octets ≡ found → EndsWell (Some name) octets ⊎ EndsBadly (Some name) octets
no_interface name octets kind (Ok head) e = inr (record { fault = faults.Block; offset = 0; is = inl (inl (record { kind = kind; refused = ap (classic_head (Some name)) e; place = refl })) })
no_interface name octets kind (Err flaw) e = inr (record { fault = of_flaw flaw; offset = 0; is = inl (inl (record { kind = kind; refused = ap (classic_head (Some name)) e; place = refl })) })

classic_end : (octets : List ℕ) → is_sections octets ≡ false → classic.EndsWell octets ⊎ classic.EndsBadly octets → EndsWell None octets ⊎ EndsBadly None octets
classic_end octets kind (inl p) = inl (record {
  head = p.head;
  packets = p.packets;
  is = record {
    walk = records p.packets;
    begins = record { kind = kind; accepted = ap (classic_head None) p.is.accepted; reads = p.is.whole };
    packets_are = refl;
  };
})
classic_end octets kind (inr p) = inr (record { fault = of_flaw p.flaw; offset = p.offset; is = by p.is }) where
  by : classic.FailsAt octets p.flaw p.offset → FailsAt None octets (of_flaw p.flaw) p.offset
  by (inl q) = inl (inl (record { kind = kind; refused = ap (classic_head None) q.0; place = q.1 }))
  by (inr q) = inr (record {
    head = q.head;
    walk = records q.packets;
    rest = q.rest;
    begins = record { kind = kind; accepted = ap (classic_head None) q.accepted; reads = q.reads };
    flawed = record { flaw = p.flaw; flawed = q.flawed; is = refl };
    place = q.place;
  })

pub each_ends : EachInputEnds
each_ends inside octets = by inside (is_sections octets) refl where
  by : (inside : Option (List ℕ)) (kind : Bool) → is_sections octets ≡ kind → EndsWell inside octets ⊎ EndsBadly inside octets
  by inside true e = sections_end inside octets e (section_laws.each_ends inside octets)
  by None false e = classic_end octets e (capture_laws.each_ends octets)
  by (Some name) false e = no_interface name octets e (head_of octets) refl

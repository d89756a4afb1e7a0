-- Where a call fails, or at the end: the fault that the known octets have there, and that there are
-- no more records before it.
use Rattle.std.proofs.Common.{◌≡◌, ℕ, false, List, ◌++◌, length, Option, Some, None, Err, refl, sym, ap, ◌∙◌, subst, inl, inr, append-nil, ◌+◌, ◌<◌, ◌≤◌, [], ◌∷◌, drop, Ok, arith, length-append}
use Rattle.std.specs.Io.KnownBytes.{Consumes}
use Rattle.std.proofs.lemmas.Bool.{cases_lt}
use Rattle.pcap_file.specs.declared.head.Head.{Head}
use Rattle.pcap_file.specs.declared.reader.RecordFault.{RecordFault}
use Rattle.pcap_file.specs.declared.reader.RecordFault.TheVariants as record_faults
use Rattle.pcap_file.specs.Flaws.{cut_short, too_long, too_many}
use Rattle.pcap_file.specs.RecordReading as classic
use Rattle.pcapng_file.specs.declared.fault.NgFault.{NgFault}
use Rattle.pcapng_file.specs.declared.fault.NgFault.TheVariants as block_faults
use Rattle.pcapng_file.specs.SectionState.{Sections, no_section}
use Rattle.pcapng_file.specs.Blocks.{block_at, Step}
use Rattle.pcapng_file.specs.Sections.{Walks, behind, packets_of}
use Rattle.pcapng_file.specs.RecordReading as sections
use Rattle.wire_base.specs.declared.address.Link.{Link}
use Rattle.pcap_file.specs.FileHead.{head_of}
use Rattle.pcap_file.specs.Capture.{ReadsTo}
use Rattle.pcap_file.proofs.Captures.{HasNoRecord, none_at_end, none_at_flaw, goes_on}
use Rattle.pcapng_file.proofs.Sections.{behind_on, links_stay, packets_on}
use Rattle.pcapng_file.proofs.Fronts.{at_nothing}
use Rattle.capture_input.specs.declared.fault.InputFault.{InputFault}
use Rattle.capture_input.specs.declared.fault.InputFault.TheVariants as faults
use Rattle.capture_input.specs.Faults.{of_record, of_block, is_read_fault}
use Rattle.capture_input.specs.Inputs.{records, blocks, FailsBeforeInterface, IsFlawedRecord, Took, HasFaultAt, Walk, classic_head, packets_in, BeginsWith, IsHeadOf}
use Rattle.capture_input.specs.RecordReading.{StopsInClassicHead, StopsBeforeInterface, StopsClassic, IsRefused}
use Rattle.capture_input.specs.InputLaws.{HeadStopsAreFaults, StopsAreFaults, WholeIsInput, HeadStopsLeaveNone, InputHasAll, StopsLeaveNone}
use Rattle.capture_input.proofs.Inputs.{go_on, accepted, ends_by, one_kind}

-- The known octets of a source where a call fails, or at the end.

-- a head that is refused
pub refuses : (inside a b : Option (List ℕ)) (fault : InputFault) → is_read_fault fault ≡ false → StopsClassic inside a b fault → IsRefused inside a b fault
refuses inside a b faults.Cut other p = p
refuses inside a b faults.Magic other p = p
refuses inside a b faults.Version other p = p
refuses inside a b faults.Link other p = p
refuses inside a b faults.Block other p = p
refuses inside a b faults.Long other p = p
refuses inside a b faults.Many other p = p
refuses inside a b faults.ReadFault other p = absurd cc

classic_head_stops : (inside a b : Option (List ℕ)) (fault : InputFault) (offset : ℕ) → is_read_fault fault ≡ false → StopsInClassicHead inside a b fault offset → HasFaultAt inside a fault offset
classic_head_stops inside None b fault offset other p = tt
classic_head_stops inside (Some x) None fault offset other p = absurd (refuses inside (Some x) None fault other p.stops)
classic_head_stops inside (Some x) (Some y) fault offset other p = inl (inl (record { kind = p.kind; refused = (refuses inside (Some x) (Some y) fault other p.stops).0; place = p.place }))

-- a block with a fault
cut_here : (inside : Option (List ℕ)) (s : Sections) (y : List ℕ) (b : Option (List ℕ)) → sections.IsCut inside s (Some y) b → block_at inside s y ≡ Err block_faults.Cut
cut_here inside s y None p = absurd p.taken
cut_here inside s y (Some z) p =
    let all : y ≡ p.octets = p.taken ∙ ap (λ l. p.octets ++ l) p.end ∙ append-nil p.octets in
    ap (block_at inside s) all ∙ p.flawed

faulty_here : (inside : Option (List ℕ)) (s : Sections) (y : List ℕ) (b : Option (List ℕ)) (fault : NgFault) → sections.IsFaulty inside s (Some y) b fault → block_at inside s y ≡ Err fault
faulty_here inside s y None fault p = absurd p.taken
faulty_here inside s y (Some z) fault p = ap (block_at inside s) p.taken ∙ p.flawed z

pub block_flawed : (inside : Option (List ℕ)) (s : Sections) (y : List ℕ) (b : Option (List ℕ)) (fault : NgFault) → is_read_fault (of_block fault) ≡ false → sections.Stops inside s (Some y) b fault
    → block_at inside s y ≡ Err fault
block_flawed inside s y b block_faults.Cut other p = cut_here inside s y b p
block_flawed inside s y b block_faults.Magic other p = faulty_here inside s y b block_faults.Magic p
block_flawed inside s y b block_faults.Version other p = faulty_here inside s y b block_faults.Version p
block_flawed inside s y b block_faults.Link other p = faulty_here inside s y b block_faults.Link p
block_flawed inside s y b block_faults.Block other p = faulty_here inside s y b block_faults.Block p
block_flawed inside s y b block_faults.Long other p = faulty_here inside s y b block_faults.Long p
block_flawed inside s y b block_faults.Many other p = faulty_here inside s y b block_faults.Many p
block_flawed inside s y b block_faults.ReadFault other p = absurd cc

pub not_read : (fault : InputFault) (flaw : NgFault) → fault ≡ of_block flaw → is_read_fault fault ≡ false → is_read_fault (of_block flaw) ≡ false
not_read fault flaw is other = subst (λ (f : InputFault). is_read_fault f ≡ false) is other

-- the block in the head that has the fault
pub before_interface : (inside : Option (List ℕ)) (x : List ℕ) (m b : Option (List ℕ)) (fault : InputFault) (offset : ℕ) → is_read_fault fault ≡ false
    → (p : StopsBeforeInterface inside (Some x) b fault offset) → p.stops.between ≡ m → FailsBeforeInterface inside x fault offset
before_interface inside x None b fault offset other p is =
    absurd (subst (λ (m : Option (List ℕ)). Consumes (Some x) m p.stops.taken.octets) is p.stops.taken.taken)
before_interface inside x (Some y) b fault offset other p is =
    let taken : x ≡ p.stops.taken.octets ++ y = subst (λ (m : Option (List ℕ)). Consumes (Some x) m p.stops.taken.octets) is p.stops.taken.taken in
    let stops : sections.Stops inside (behind no_section p.stops.steps) (Some y) b p.flaw = subst (λ (m : Option (List ℕ)). sections.Stops inside (behind no_section p.stops.steps) m b p.flaw) is p.stops.stops in
    record {
      kind = p.kind;
      steps = p.stops.steps;
      rest = y;
      walks = subst (λ l. Walks inside no_section l p.stops.steps y) (sym taken) (p.stops.taken.walks y);
      unlinked = p.stops.unlinked;
      flawed = record {
        flaw = p.flaw;
        flawed = block_flawed inside (behind no_section p.stops.steps) y b p.flaw (not_read fault p.flaw p.is other) stops;
        is = p.is;
      };
      place = p.stops.place;
    }

sections_head_stops : (inside a b : Option (List ℕ)) (fault : InputFault) (offset : ℕ) → is_read_fault fault ≡ false → StopsBeforeInterface inside a b fault offset → HasFaultAt inside a fault offset
sections_head_stops inside None b fault offset other p = tt
sections_head_stops inside (Some x) b fault offset other p = inl (inr (before_interface inside x p.stops.between b fault offset other p refl))

pub head_stops : HeadStopsAreFaults
head_stops inside a b fault offset other (inl p) = classic_head_stops inside a b fault offset other p
head_stops inside a b fault offset other (inr p) = sections_head_stops inside a b fault offset other p

-- a record with a fault
pub record_flawed : (head : Head) (count : ℕ) (y : List ℕ) (b : Option (List ℕ)) (cause : RecordFault) (fault : InputFault) → is_read_fault fault ≡ false → fault ≡ of_record cause
    → classic.FailsWith head.order count (Some y) b cause → IsFlawedRecord head count y fault
record_flawed head count y b record_faults.Cut fault other is p = record { flaw = cut_short; flawed = p.flawed; is = is }
record_flawed head count y b record_faults.Long fault other is p = record { flaw = too_long; flawed = p.flawed; is = is }
record_flawed head count y b record_faults.TooMany fault other is p = record { flaw = too_many; flawed = p.flawed; is = is }
record_flawed head count y b record_faults.ReadFault fault other is p = absurd cc

pub stops : StopsAreFaults
stops inside None m b head walk fault other took p = tt
stops inside (Some x) None b head walk fault other took p = absurd took
stops inside (Some x) (Some y) b head (records packets) fault other took p = inr (record {
  head = head;
  walk = records packets;
  rest = y;
  begins = took;
  flawed = record_flawed head (length packets) y b p.cause fault other p.is p.stops;
  place = refl;
})
stops inside (Some x) (Some y) b head (blocks steps) fault other took p = inr (record {
  head = head;
  walk = blocks steps;
  rest = y;
  begins = took;
  flawed = record {
    flaw = p.cause;
    flawed = block_flawed inside (behind no_section steps) y b p.cause (not_read fault p.cause p.is other) p.stops;
    is = p.is;
  };
  place = refl;
})

pub whole : WholeIsInput
whole inside None m b head walk farther took end more = (tt, tt)
whole inside (Some x) None b head walk farther took end more = absurd took
whole inside (Some x) (Some y) None head walk farther took end more = absurd end
whole inside (Some x) (Some y) (Some z) head walk farther took end more = (
  record { walk = farther; begins = subst (λ l. Took inside (Some x) (Some l) head farther) end more; packets_are = refl },
  end,
)

-- Octets begin with no more records than those before their end, or before a fault.

-- ---- records

-- ---- blocks

-- no block follows after these
abbrev HasNoBlock : (inside : Option (List ℕ)) → List Step → List ℕ → Type 0
HasNoBlock inside steps rest = (step : Step) (left : List ℕ) → block_at inside (behind no_section steps) rest ≡ Ok (Some (step, left)) → ⊥

first_block : (inside : Option (List ℕ)) (s : Sections) (r t : List ℕ) (newer : List Step) → Walks inside s r newer t → 0 < length newer
    → ((step : Step) (left : List ℕ) → block_at inside s r ≡ Ok (Some (step, left)) → ⊥) → ⊥
first_block inside s r t [] w some last = absurd (omega arith)
first_block inside s r t (y ∷ []) w some last = last y t (ap (block_at inside s) w.1 ∙ w.2)
first_block inside s r t (y ∷ z ∷ older) w some last = first_block inside s r w.0 (z ∷ older) w.1 (omega arith) last

module _ (inside : Option (List ℕ)) (all : List ℕ) (ps qs : List Step) (r t : List ℕ) (p : Walks inside no_section all ps r) (q : Walks inside no_section all qs t) (last : HasNoBlock inside ps r) where
  no_more_blocks : length qs ≤ length ps
  no_more_blocks =
      elim (cases_lt (length ps) (length qs)) [
        | inl less ↦
            let on = go_on inside all ps qs r t p q (omega arith) in
            let size : length qs ≡ length on.newer + length ps = ap length on.are ∙ length-append on.newer ps in
            absurd (first_block inside (behind no_section ps) r t on.newer on.walks (omega (arith, size, less)) last)
        | inr more ↦ omega arith
      ]

  no_more_given : length (packets_of qs) ≤ length (packets_of ps)
  no_more_given =
      let on = go_on inside all qs ps t r q p no_more_blocks in
      let size : length (packets_of ps) ≡ length (packets_of on.newer) + length (packets_of qs) =
      ap (λ l. length (packets_of l)) on.are ∙ ap length (packets_on qs on.newer) ∙ length-append (packets_of on.newer) (packets_of qs) in
      omega (arith, size)

  -- a link that is known stays known
  link_known : (link : Link) → (behind no_section qs).link ≡ Some link → (behind no_section ps).link ≡ Some link
  link_known link known =
      let on = go_on inside all qs ps t r q p no_more_blocks in
      ap (λ (l : List Step). (behind no_section l).link) on.are ∙ ap (λ (s : Sections). s.link) (behind_on no_section qs on.newer) ∙ links_stay inside (behind no_section qs) t on.newer r on.walks link known

-- ---- either

-- nothing can be read after the entries read
abbrev IsLast : (inside : Option (List ℕ)) → Head → Walk → List ℕ → Type 0
IsLast inside head (records packets) rest = HasNoRecord head.order (length packets) rest
IsLast inside head (blocks steps) rest = HasNoBlock inside steps rest

no_more : (inside : Option (List ℕ)) (octets : List ℕ) (head other : Head) (walk farther : Walk) (rest left : List ℕ) → BeginsWith inside octets head walk rest → IsLast inside head walk rest
    → BeginsWith inside octets other farther left → length (packets_in farther) ≤ length (packets_in walk)
no_more inside octets head other (records ps) (records qs) rest left p last q =
    let one : head_of octets ≡ Ok head = accepted inside (head_of octets) head p.accepted in
    let two : head_of octets ≡ Ok other = accepted inside (head_of octets) other q.accepted in
    let heads : head ≡ other = cc in
    let reads : ReadsTo head.order (drop 24 octets) qs left = subst (λ (h : Head). ReadsTo h.order (drop 24 octets) qs left) (sym heads) q.reads in
    elim (cases_lt (length ps) (length qs)) [
      | inl less ↦ absurd (goes_on head.order (drop 24 octets) ps qs rest left p.reads reads less last)
      | inr more ↦ omega arith
    ]
no_more inside octets head other (blocks ps) (blocks qs) rest left p last q = no_more_given inside octets ps qs rest left p.walks q.walks last
no_more inside octets head other (records ps) (blocks qs) rest left p last q = absurd (one_kind octets p.kind q.kind)
no_more inside octets head other (blocks ps) (records qs) rest left p last q = absurd (one_kind octets q.kind p.kind)

-- at the end
last_at_end : (inside : Option (List ℕ)) (octets : List ℕ) (head : Head) (walk : Walk) → BeginsWith inside octets head walk [] → IsLast inside head walk []
last_at_end inside octets head (records ps) p = none_at_end head.order (length ps)
last_at_end inside octets head (blocks ps) p = λ step left e.
    let ends = at_nothing inside (behind no_section ps) ∙ ends_by (behind no_section ps).link head p.linked in
    cc

pub input_has_all : InputHasAll
input_has_all inside octets head other packets walk rest p q =
    subst (λ ps. length (packets_in walk) ≤ length ps) p.packets_are (no_more inside octets head other p.walk walk [] rest p.begins (last_at_end inside octets head p.walk p.begins) q)

-- at a fault
none_at_fault : (inside : Option (List ℕ)) (steps : List Step) (rest : List ℕ) (fault : NgFault) → block_at inside (behind no_section steps) rest ≡ Err fault → HasNoBlock inside steps rest
none_at_fault inside steps rest fault flawed = λ step left e. cc

pub stops_leave_none : StopsLeaveNone
stops_leave_none inside None new octets fault head other walk farther left lasts took stop q = absurd took
stops_leave_none inside (Some y) new octets fault head other (records ps) farther left lasts took stop q =
    let flawed = record_flawed head (length ps) y new stop.cause fault lasts stop.is stop.stops in
    no_more inside octets head other (records ps) farther y left took (none_at_flaw head.order (length ps) y flawed.flaw flawed.flawed) q
stops_leave_none inside (Some y) new octets fault head other (blocks steps) farther left lasts took stop q =
    let flawed = block_flawed inside (behind no_section steps) y new stop.cause (not_read fault stop.cause stop.is lasts) stop.stops in
    no_more inside octets head other (blocks steps) farther y left took (none_at_fault inside steps y stop.cause flawed) q

-- in the head
link_of_head : (link : Option Link) (head : Head) → IsHeadOf link head → (l : Link) × (link ≡ Some l)
link_of_head None head p = absurd p
link_of_head (Some l) head p = (l, refl)

refused_head : (inside new : Option (List ℕ)) (octets : List ℕ) (fault : InputFault) (offset : ℕ) → is_read_fault fault ≡ false → StopsInClassicHead inside (Some octets) new fault offset
    → classic_head inside (head_of octets) ≡ Err fault
refused_head inside None octets fault offset lasts p = absurd (refuses inside (Some octets) None fault lasts p.stops)
refused_head inside (Some rest) octets fault offset lasts p = (refuses inside (Some octets) (Some rest) fault lasts p.stops).0

unlinked_head : (inside : Option (List ℕ)) (octets : List ℕ) (fault : InputFault) (offset : ℕ) (head : Head) (steps : List Step) (rest : List ℕ) → FailsBeforeInterface inside octets fault offset
    → BeginsWith inside octets head (blocks steps) rest → ⊥
unlinked_head inside octets fault offset head steps rest f q =
    let link = link_of_head (behind no_section steps).link head q.linked in
    let known = link_known inside octets f.steps steps f.rest rest f.walks q.walks (none_at_fault inside f.steps f.rest f.flawed.flaw f.flawed.flawed) link.0 link.1 in
    let none = f.unlinked in
    cc

pub head_stops_leave_none : HeadStopsLeaveNone
head_stops_leave_none inside new octets fault offset head (records ps) rest lasts (inl p) q =
    let one = refused_head inside new octets fault offset lasts p in
    let two : classic_head inside (head_of octets) ≡ Ok head = q.accepted in
    cc
head_stops_leave_none inside new octets fault offset head (blocks steps) rest lasts (inl p) q = one_kind octets p.kind q.kind
head_stops_leave_none inside new octets fault offset head (records ps) rest lasts (inr p) q = one_kind octets q.kind p.kind
head_stops_leave_none inside new octets fault offset head (blocks steps) rest lasts (inr p) q =
    unlinked_head inside octets fault offset head steps rest (before_interface inside octets p.stops.between new fault offset lasts p refl) q

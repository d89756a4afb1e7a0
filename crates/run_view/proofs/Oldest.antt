-- What was read of an input or an output: what it begins with, how many records or frames it has,
-- and that these are the oldest of all.
use Rattle.std.proofs.Common.{◌≡◌, ℕ, List, Option, None, ◌≤◌, [], length, drop, Some, Ok, refl, sym, ap, subst, ◌∙◌, inl, inr, arith, ◌∷◌, ◌++◌, length-append}
use Rattle.pcap_file.specs.declared.head.Head.{Head}
use Rattle.pcap_file.specs.Records.{Packet}
use Rattle.capture_input.specs.Inputs.{Took, Walk, packets_in, BeginsWith, IsInput, blocks, records}
use Rattle.run_view.specs.working.SourceContents.{TookFrames}
use Rattle.std.proofs.lemmas.Bool.{cases_lt}
use Rattle.pcap_file.specs.FileHead.{head_of}
use Rattle.pcap_file.specs.Capture.{IsCapture, ReadsTo}
use Rattle.pcap_file.proofs.Captures.{HasNoRecord, goes_on, none_at_end, same_records}
use Rattle.capture_input.proofs.Stops.{input_has_all}
use Rattle.std.proofs.lemmas.List.{nil_from_length}
use Rattle.pcap_file.specs.declared.record.Order.{Order}
use Rattle.pcapng_file.specs.Blocks.{Step}
use Rattle.pcapng_file.specs.Sections.{Walks, packets_of as packets_of_steps}
use Rattle.pcapng_file.specs.SectionState.{no_section}
use Rattle.pcapng_file.proofs.Sections.{packets_on}
use Rattle.capture_input.proofs.Inputs.{accepted, go_on, one_kind}

-- What an input and an output begin with.

-- the input begins with this head and these records
pub record BeginsWithRecords (input : Option (List ℕ)) (head : Head) (packets : List Packet) : Type 0 where
  pub walk : Walk
  pub left : Option (List ℕ)
  pub took : Took None input left head walk
  pub packets_are : packets_in walk ≡ packets

-- the output begins with this head and these frames
pub record BeginsWithFrames (output : Option (List ℕ)) (head : Head) (frames : List Packet) : Type 0 where
  pub left : Option (List ℕ)
  pub took : TookFrames output left head frames

-- How many records and frames there are.

-- the input begins with this number of records
pub record HasRecords (input : List ℕ) (count : ℕ) : Type 0 where
  pub head : Head
  pub walk : Walk
  pub rest : List ℕ
  pub begins : BeginsWith None input head walk rest
  pub long : length (packets_in walk) ≡ count

-- it is an input of this number of records
pub record HasAllRecords (input : List ℕ) (count : ℕ) : Type 0 where
  pub head : Head
  pub packets : List Packet
  pub is : IsInput None input head packets
  pub long : length packets ≡ count

pub records_most : (input : List ℕ) (count many : ℕ) → HasAllRecords input count → HasRecords input many → many ≤ count
records_most input count many p q =
    let most = input_has_all None input p.head q.head p.packets q.walk q.rest p.is q.begins in
    omega (arith, most, p.long, q.long)

pub all_records : (input : List ℕ) (count : ℕ) → HasAllRecords input count → HasRecords input count
all_records input count r = record { head = r.head; walk = r.is.walk; rest = []; begins = r.is.begins; long = ap length r.is.packets_are ∙ r.long }

pub has_records : (input : List ℕ) (head : Head) (packets : List Packet) → BeginsWithRecords (Some input) head packets
    → HasRecords input (length packets)
has_records input head packets b = by b.left b.took where
  by : (left : Option (List ℕ)) → Took None (Some input) left head b.walk → HasRecords input (length packets)
  by None took = absurd took
  by (Some rest) took = record { head = head; walk = b.walk; rest = rest; begins = took; long = ap length b.packets_are }

-- the output begins with this number of frames
pub record HasFrames (output : List ℕ) (count : ℕ) : Type 0 where
  pub head : Head
  pub frames : List Packet
  pub rest : List ℕ
  pub accepted : head_of output ≡ Ok head
  pub reads : ReadsTo head.order (drop 24 output) frames rest
  pub long : length frames ≡ count

-- it is a capture of this number of frames
pub record HasAllFrames (output : List ℕ) (count : ℕ) : Type 0 where
  pub head : Head
  pub frames : List Packet
  pub is : IsCapture output head frames
  pub long : length frames ≡ count

frames_most_by : (output : List ℕ) (head : Head) (frames : List Packet) (rest : List ℕ) (many : ℕ) → head_of output ≡ Ok head
    → ReadsTo head.order (drop 24 output) frames rest → HasNoRecord head.order (length frames) rest → HasFrames output many → many ≤ length frames
frames_most_by output head frames rest many is reads last q =
    let two = q.accepted in
    let heads : head ≡ q.head = cc in
    let others : ReadsTo head.order (drop 24 output) q.frames q.rest =
    subst (λ (h : Head). ReadsTo h.order (drop 24 output) q.frames q.rest) (sym heads) q.reads in
    elim (cases_lt (length frames) (length q.frames)) [
      | inl less ↦ absurd (goes_on head.order (drop 24 output) frames q.frames rest q.rest reads others less last)
      | inr more ↦ omega (arith, more, q.long)
    ]

pub frames_most : (output : List ℕ) (count many : ℕ) → HasAllFrames output count → HasFrames output many → many ≤ count
frames_most output count many p q =
    let most = frames_most_by output p.head p.frames [] many p.is.accepted p.is.whole (none_at_end p.head.order (length p.frames)) q in
    omega (arith, most, p.long)

pub all_frames : (output : List ℕ) (count : ℕ) → HasAllFrames output count → HasFrames output count
all_frames output count r = record { head = r.head; frames = r.frames; rest = []; accepted = r.is.accepted; reads = r.is.whole; long = r.long }

pub has_frames : (output : List ℕ) (head : Head) (frames : List Packet) → BeginsWithFrames (Some output) head frames
    → HasFrames output (length frames)
has_frames output head frames b = by b.left b.took where
  by : (left : Option (List ℕ)) → TookFrames (Some output) left head frames → HasFrames output (length frames)
  by None took = absurd took
  by (Some rest) took = record { head = head; frames = frames; rest = rest; accepted = took.0; reads = took.1; long = refl }

-- The oldest of all.

-- these are the oldest of all
pub record AreOldest (all these : List Packet) : Type 0 where
  pub newer : List Packet
  pub are : all ≡ newer ++ these

more_records : (order : Order) (octets : List ℕ) (ps qs : List Packet) (r s : List ℕ) → ReadsTo order octets ps r → ReadsTo order octets qs s
    → length ps ≤ length qs → AreOldest qs ps
more_records order octets ps [] r s p q few = record { newer = []; are = sym (same_records order octets ps [] r s p q (omega (arith, few))).0 }
more_records order octets ps (y ∷ qs) r s p q few = elim (cases_lt (length qs) (length ps)) [
  | inl less ↦ record { newer = []; are = sym (same_records order octets ps (y ∷ qs) r s p q (omega (arith, few, less))).0 }
  | inr more ↦ let on = more_records order octets ps qs r q.0 p q.1 more in record { newer = y ∷ on.newer; are = ap (λ l. y ∷ l) on.are }
]

more_blocks : (input : List ℕ) (ps qs : List Step) (r : List ℕ) → Walks None no_section input ps [] → Walks None no_section input qs r
    → length (packets_of_steps qs) ≤ length (packets_of_steps ps) → AreOldest (packets_of_steps ps) (packets_of_steps qs)
more_blocks input ps qs r p q most = elim (cases_lt (length ps) (length qs)) [
  | inl less ↦
      let on = go_on None input ps qs [] r p q (omega (arith, less)) in
      let are : packets_of_steps qs ≡ packets_of_steps on.newer ++ packets_of_steps ps = ap packets_of_steps on.are ∙ packets_on ps on.newer in
      let none : packets_of_steps on.newer ≡ [] =
      nil_from_length (packets_of_steps on.newer)
      (omega (arith, ap length are, length-append (packets_of_steps on.newer) (packets_of_steps ps), most)) in
      record { newer = []; are = sym (are ∙ ap (λ l. l ++ packets_of_steps ps) none) }
  | inr more ↦
      let on = go_on None input qs ps r [] q p more in
      record { newer = packets_of_steps on.newer; are = ap packets_of_steps on.are ∙ packets_on qs on.newer }
]

by_walk : (input : List ℕ) (whole head : Head) (walk farther : Walk) (rest : List ℕ) → BeginsWith None input whole walk [] → BeginsWith None input head farther rest
    → length (packets_in farther) ≤ length (packets_in walk) → AreOldest (packets_in walk) (packets_in farther)
by_walk input whole head (records ps) (records qs) rest p q most =
    let one : head_of input ≡ Ok whole = accepted None (head_of input) whole p.accepted in
    let two : head_of input ≡ Ok head = accepted None (head_of input) head q.accepted in
    let same : whole ≡ head = cc in
    more_records head.order (drop 24 input) qs ps rest [] q.reads (subst (λ (h : Head). ReadsTo h.order (drop 24 input) ps []) same p.reads) most
by_walk input whole head (records ps) (blocks qs) rest p q most = absurd (one_kind input p.kind q.kind)
by_walk input whole head (blocks ps) (records qs) rest p q most = absurd (one_kind input q.kind p.kind)
by_walk input whole head (blocks ps) (blocks qs) rest p q most = more_blocks input ps qs rest p.walks q.walks most

pub oldest_records : (input : List ℕ) (whole head : Head) (all packets : List Packet) → IsInput None input whole all
    → BeginsWithRecords (Some input) head packets → AreOldest all packets
oldest_records input whole head all packets p b = by b.left b.took where
  by : (left : Option (List ℕ)) → Took None (Some input) left head b.walk → AreOldest all packets
  by None took = absurd took
  by (Some rest) took =
      let most = input_has_all None input whole head all b.walk rest p took in
      let few : length (packets_in b.walk) ≤ length (packets_in p.walk) = omega (arith, most, ap length p.packets_are) in
      let on = by_walk input whole head p.walk b.walk rest p.begins took few in
      record { newer = on.newer; are = sym p.packets_are ∙ on.are ∙ ap (λ l. on.newer ++ l) b.packets_are }

pub oldest_frames : (output : List ℕ) (whole head : Head) (all frames : List Packet) → IsCapture output whole all
    → BeginsWithFrames (Some output) head frames → AreOldest all frames
oldest_frames output whole head all frames p b = by b.left b.took where
  by : (left : Option (List ℕ)) → TookFrames (Some output) left head frames → AreOldest all frames
  by None took = absurd took
  by (Some rest) took =
      let most =
      frames_most output (length all) (length frames) (record { head = whole; frames = all; is = p; long = refl }) (has_frames output head frames b) in
      let one = p.accepted in
      let two = took.0 in
      let same : whole ≡ head = cc in
      more_records head.order (drop 24 output) frames all rest [] took.1 (subst (λ (h : Head). ReadsTo h.order (drop 24 output) all []) same p.whole) most

-- The steps of a reader from record to record.
use Rattle.std.proofs.Common.{◌≡◌, ℕ, ◌+◌, Bool, true, false, List, [], ◌∷◌, ◌++◌, length, Option, Some, None, IsSome, Ok, Err, refl, sym, ap, ap₂, ◌∙◌, subst, arith, length-append}
use Rattle.std.specs.Io.KnownBytes.{Consumes, IsAtEnd}
use Rattle.wire_base.specs.declared.address.Link.{Link}
use Rattle.pcap_file.specs.declared.head.Head.{Head}
use Rattle.pcap_file.specs.declared.record.Order.{Order}
use Rattle.pcap_file.specs.declared.record.Record.{Record}
use Rattle.pcap_file.specs.declared.reader.RecordFault.{RecordFault}
use Rattle.pcap_file.specs.Records.{Packet, front_of}
use Rattle.pcap_file.specs.ReaderState.{Reading}
use Rattle.pcap_file.specs.RecordReading as classic
use Rattle.pcapng_file.specs.declared.fault.NgFault.{NgFault}
use Rattle.pcapng_file.specs.SectionState.{Sections, no_section}
use Rattle.pcapng_file.specs.Blocks.{Step}
use Rattle.pcapng_file.specs.Sections as walked
use Rattle.pcapng_file.specs.Sections.{Walks, behind, packets_of, with_given}
use Rattle.pcapng_file.specs.ReaderState.{NgReading, written_head}
use Rattle.pcapng_file.specs.RecordReading as sections
use Rattle.pcapng_file.proofs.Sections.{walks_on, behind_on, packets_on, size_on, links_stay, blocks_counted, packets_few}
use Rattle.capture_input.specs.declared.input.Input.TheVariants as kinds
use Rattle.capture_input.specs.Faults.{of_record, of_block}
use Rattle.capture_input.specs.Inputs.{Walk, records, blocks, IsHeadOf, BlocksEndAt, Took, TakenWhole}
use Rattle.capture_input.specs.ReaderState.{Behind, BehindRecords, BehindBlocks}
use Rattle.capture_input.specs.RecordReading.{Continues, Reads, GivesPacket, ReachesEnd, StopsBehind}

-- records

module _ (inside : Option (List ℕ)) (head : Head) (reader reader' : Reading) (packets : List Packet) (a b : Option (List ℕ)) (q : BehindRecords inside head reader packets) where
  -- the record that follows
  one_more : (packet : Packet) (y z : List ℕ) → front_of reader.head.order reader.given y ≡ Ok (Some (packet, z)) → front_of head.order (length packets) y ≡ Ok (Some (packet, z))
  one_more packet y z p = ap₂ (λ (k : Order) (n : ℕ). front_of k n y) (ap (λ (h : Head). h.order) (sym q.same)) (sym q.given) ∙ p

  record_continues : (packet : Packet) → classic.Leaves reader.head.order reader.given a b packet → Continues inside head (records packets) (records (packet ∷ packets)) a b
  record_continues packet leaves = λ all took. by all a b leaves took where
    by : (all a b : Option (List ℕ)) → classic.Leaves reader.head.order reader.given a b packet → Took inside all a head (records packets) → Took inside all b head (records (packet ∷ packets))
    by None a b leaves took = tt
    by (Some x) None b leaves took = absurd took
    by (Some x) (Some y) None leaves took = absurd leaves
    by (Some x) (Some y) (Some z) leaves took = record { kind = took.kind; accepted = took.accepted; reads = (y, took.reads, one_more packet y z leaves) }

  end_continues : classic.HasEnd a b → Continues inside head (records packets) (records packets) a b
  end_continues end = λ all took. by all a b end took where
    by : (all a b : Option (List ℕ)) → classic.HasEnd a b → Took inside all a head (records packets) → Took inside all b head (records packets)
    by None a b end took = tt
    by (Some x) None b end took = absurd took
    by (Some x) (Some y) None end took = absurd end
    by (Some x) (Some y) (Some z) end took = subst (λ l. Took inside (Some x) (Some l) head (records packets)) (end.0 ∙ sym end.1) took

  end_whole : classic.HasEnd a b → TakenWhole a b
  end_whole end = by a b end where
    by : (a b : Option (List ℕ)) → classic.HasEnd a b → TakenWhole a b
    by None b end = tt
    by (Some x) None end = absurd end
    by (Some x) (Some y) end = end.1

  pub record_given : (given : Record) → classic.Leaves reader.head.order reader.given a b (classic.shown given) → reader'.head ≡ reader.head → reader'.asked ≡ reader.place
      → given.offset ≡ reader.place → reader'.is_open ≡ true → classic.Advances reader reader' (length given.bytes.now)
      → GivesPacket (kinds.Classic head reader) (kinds.Classic head reader') inside (records packets) a b given
  record_given given leaves same asked offset going ahead = record {
    farther = records (classic.shown given ∷ packets);
    behind = record {
      unnamed = q.unnamed;
      same = same ∙ q.same;
      given = omega (arith, ahead.given, q.given);
      place = omega (arith, ahead.place, q.place);
    };
    head = refl;
    continues = record_continues (classic.shown given) leaves;
    packets = refl;
    ends = tt;
    few = omega (arith, ahead.few, ahead.given, q.given);
    place = offset ∙ q.place;
    looked = asked ∙ q.place;
    goes_on = going;
  }

  pub records_end : classic.HasEnd a b → reader'.asked ≡ reader.place → reader'.is_open ≡ false → ReachesEnd (kinds.Classic head reader) (kinds.Classic head reader') inside (records packets) a b
  records_end end asked closed = record {
    farther = records packets;
    silent = refl;
    continues = end_continues end;
    whole = end_whole end;
    place = asked ∙ q.place;
    closed = closed;
  }

  pub record_stops : (fault : RecordFault) → classic.FailsWith reader.head.order reader.given a b fault → reader'.asked ≡ reader.place → reader'.is_open ≡ false
      → StopsBehind (kinds.Classic head reader) (kinds.Classic head reader') inside (records packets) a b (of_record fault)
  record_stops fault fails asked closed = record {
    farther = records packets;
    between = a;
    silent = refl;
    continues = λ all took. took;
    why = record {
      cause = fault;
      stops = subst (λ n. classic.FailsWith head.order n a b fault) q.given (subst (λ (h : Head). classic.FailsWith h.order reader.given a b fault) q.same fails);
      is = refl;
    };
    place = asked ∙ q.place;
    closed = closed;
  }

-- the result of a call of the reader of a classic file
pub classic_reads : (inside : Option (List ℕ)) (head : Head) (reader reader' : Reading) (walk : Walk) (a b : Option (List ℕ)) (given : Option Record)
    → classic.Reads reader.head.order reader.given a b (Ok given) → reader'.head ≡ reader.head → reader'.asked ≡ reader.place → classic.IfRecord (Ok given) (λ r. r.offset ≡ reader.place)
    → reader'.is_open ≡ classic.is_record (Ok given) → classic.IfRecord (Ok given) (λ r. classic.Advances reader reader' (length r.bytes.now))
    → Behind (kinds.Classic head reader) inside walk → Reads (kinds.Classic head reader) (kinds.Classic head reader') inside walk a b (Ok given)
classic_reads inside head reader reader' (records packets) a b None reads same asked offset going ahead q = records_end inside head reader reader' packets a b q reads asked going
classic_reads inside head reader reader' (records packets) a b (Some given) reads same asked offset going ahead q = record_given inside head reader reader' packets a b q given reads same asked offset going ahead
classic_reads inside head reader reader' (blocks steps) a b given reads same asked offset going ahead q = absurd q

pub classic_fails : (inside : Option (List ℕ)) (head : Head) (reader reader' : Reading) (walk : Walk) (a b : Option (List ℕ)) (fault : RecordFault)
    → classic.FailsWith reader.head.order reader.given a b fault → reader'.asked ≡ reader.place → reader'.is_open ≡ false
    → Behind (kinds.Classic head reader) inside walk → Reads (kinds.Classic head reader) (kinds.Classic head reader') inside walk a b (Err (of_record fault))
classic_fails inside head reader reader' (records packets) a b fault fails asked closed q = record_stops inside head reader reader' packets a b q fault fails asked closed
classic_fails inside head reader reader' (blocks steps) a b fault fails asked closed q = absurd q

-- blocks

pub some_link : (link : Option Link) → IsSome link → (l : Link) × (link ≡ Some l)
some_link None some = absurd cc
some_link (Some l) some = (l, refl)

is_some : (link : Option Link) (l : Link) → link ≡ Some l → IsSome link
is_some None l e = absurd cc
is_some (Some other) l e = refl

module _ (inside : Option (List ℕ)) (reader reader' : NgReading) (steps newer : List Step) (a b : Option (List ℕ)) (q : BehindBlocks inside reader steps)
    (p : sections.TakesSteps reader.inside reader.sections a b newer) where
  -- the blocks that follow, after the others
  here : (rest : List ℕ) → Walks inside (behind no_section steps) (p.octets ++ rest) newer rest
  here rest = subst (λ (s : Sections). Walks inside s (p.octets ++ rest) newer rest) q.sections (subst (λ (i : Option (List ℕ)). Walks i reader.sections (p.octets ++ rest) newer rest) q.named (p.walks rest))

  link_is : (behind no_section (newer ++ steps)).link ≡ (behind no_section steps).link
  link_is =
      let before : reader.sections.link ≡ (behind no_section steps).link = ap (λ (s : Sections). s.link) q.sections in
      let link = some_link reader.sections.link q.linked in
      let after = links_stay inside (behind no_section steps) (p.octets ++ []) newer [] (here []) link.0 (sym before ∙ link.1) in
      ap (λ (s : Sections). s.link) (behind_on no_section steps newer) ∙ after ∙ sym link.1 ∙ before

  pub blocks_continue : Continues inside (written_head reader.sections.link) (blocks steps) (blocks (newer ++ steps)) a b
  blocks_continue = λ all took. by all a b p.taken took where
    by : (all a b : Option (List ℕ)) → Consumes a b p.octets → Took inside all a (written_head reader.sections.link) (blocks steps) → Took inside all b (written_head reader.sections.link) (blocks (newer ++ steps))
    by None a b taken took = tt
    by (Some x) None b taken took = absurd took
    by (Some x) (Some y) None taken took = absurd taken
    by (Some x) (Some y) (Some z) taken took =
        let left : Walks inside no_section x steps (p.octets ++ z) = subst (Walks inside no_section x steps) taken took.walks in
        record {
          kind = took.kind;
          walks = (walks_on inside no_section x (p.octets ++ z) z steps newer left (here z)).walks;
          linked = subst (λ (l : Option Link). IsHeadOf l (written_head reader.sections.link)) (sym link_is) took.linked;
        }

  module _ (asked : ℕ) (going : Bool) (m : sections.Moves reader reader' newer asked going) where
    now_there : reader'.sections ≡ behind no_section (newer ++ steps)
    now_there = m.sections ∙ ap (λ (s : Sections). behind s newer) q.sections ∙ sym (behind_on no_section steps newer)

    pub same_link : reader'.sections.link ≡ reader.sections.link
    same_link = ap (λ (s : Sections). s.link) now_there ∙ link_is ∙ ap (λ (s : Sections). s.link) (sym q.sections)

    pub blocks_behind : BehindBlocks inside reader' (newer ++ steps)
    blocks_behind =
        let start : (behind no_section steps).blocks ≡ length steps = ap (λ (s : Sections). s.blocks) (sym q.sections) ∙ q.counted in
        let counted = blocks_counted inside (behind no_section steps) (p.octets ++ []) newer [] (here []) (omega (arith, start, q.few)) in
        let size = length-append newer steps in
        let count : reader'.sections.blocks ≡ (behind (behind no_section steps) newer).blocks = ap (λ (s : Sections). s.blocks) (now_there ∙ behind_on no_section steps newer) in
        let link = some_link reader.sections.link q.linked in
        record {
          named = m.inside ∙ q.named;
          sections = now_there;
          place = omega (arith, m.place, q.place, size_on steps newer);
          linked = is_some reader'.sections.link link.0 (same_link ∙ link.1);
          counted = omega (arith, size, count, counted.count, start);
          few = omega (arith, size, counted.count, counted.few, start);
        }

silent_on : (steps newer : List Step) → packets_of newer ≡ [] → packets_of (newer ++ steps) ≡ packets_of steps
silent_on steps newer e = packets_on steps newer ∙ ap (λ l. l ++ packets_of steps) e

-- nothing more was taken
module _ (inside : Option (List ℕ)) (reader reader' : NgReading) (steps : List Step) (a b : Option (List ℕ)) (q : BehindBlocks inside reader steps) where
  pub packet_given : (given : Record) → sections.TakesPacket reader reader' a b (classic.shown given) → given.offset ≡ reader'.asked
      → GivesPacket (kinds.Sections reader) (kinds.Sections reader') inside (blocks steps) a b given
  packet_given given p offset =
      let behind_now = blocks_behind inside reader reader' steps (p.step ∷ p.older) a b q p.steps (reader.place + walked.size_of p.older) true p.moves in
      let place : reader'.asked ≡ walked.size_of (p.older ++ steps) = omega (arith, p.moves.looked, q.place, size_on steps p.older) in
      let packets : packets_of (p.step ∷ (p.older ++ steps)) ≡ classic.shown given ∷ packets_of steps = ap₂ with_given p.given (silent_on steps p.older p.silent) in
      record {
        farther = blocks (p.step ∷ (p.older ++ steps));
        behind = behind_now;
        head = ap written_head (same_link inside reader reader' steps (p.step ∷ p.older) a b q p.steps (reader.place + walked.size_of p.older) true p.moves);
        continues = blocks_continue inside reader reader' steps (p.step ∷ p.older) a b q p.steps;
        packets = packets;
        ends = subst (λ l. BlocksEndAt l (p.step ∷ (p.older ++ steps))) (sym packets) p.given;
        few = omega (arith, packets_few (p.step ∷ (p.older ++ steps)), behind_now.few);
        place = offset ∙ place;
        looked = place;
        goes_on = p.moves.goes_on;
      }

  -- the end of the octets that were left
  at_end : (all between b : Option (List ℕ)) (head : Head) (walk : Walk) → Consumes between b [] → Took inside all between head walk → Took inside all b head walk
  at_end None between b head walk taken took = tt
  at_end (Some x) None b head walk taken took = absurd took
  at_end (Some x) (Some y) None head walk taken took = absurd taken
  at_end (Some x) (Some y) (Some z) head walk taken took = subst (λ l. Took inside (Some x) (Some l) head walk) taken took

  taken_whole : (a between b : Option (List ℕ)) (octets : List ℕ) → Consumes a between octets → Consumes between b [] → IsAtEnd b → TakenWhole a b
  taken_whole None between b octets first last end = tt
  taken_whole (Some x) None b octets first last end = absurd first
  taken_whole (Some x) (Some y) None octets first last end = absurd last
  taken_whole (Some x) (Some y) (Some z) octets first last end = end

  pub blocks_end : sections.HaltsBehind reader reader' a b (λ standing between. sections.EndsHere reader.inside standing between b) → ReachesEnd (kinds.Sections reader) (kinds.Sections reader') inside (blocks steps) a b
  blocks_end p =
      let continues = blocks_continue inside reader reader' steps p.steps a p.between q p.passed.taken in
      record {
        farther = blocks (p.steps ++ steps);
        silent = silent_on steps p.steps p.passed.silent;
        continues = λ all took. at_end all p.between b (written_head reader.sections.link) (blocks (p.steps ++ steps)) p.why.taken (continues all took);
        whole = taken_whole a p.between b p.passed.taken.octets p.passed.taken.taken p.why.taken p.why.end;
        place = omega (arith, p.moves.looked, q.place, size_on steps p.steps);
        closed = p.moves.goes_on;
      }

  pub block_stops : (fault : NgFault) → sections.HaltsBehind reader reader' a b (λ standing between. sections.Stops reader.inside standing between b fault)
      → StopsBehind (kinds.Sections reader) (kinds.Sections reader') inside (blocks steps) a b (of_block fault)
  block_stops fault p =
      let there : behind reader.sections p.steps ≡ behind no_section (p.steps ++ steps) = ap (λ (s : Sections). behind s p.steps) q.sections ∙ sym (behind_on no_section steps p.steps) in
      record {
        farther = blocks (p.steps ++ steps);
        between = p.between;
        silent = silent_on steps p.steps p.passed.silent;
        continues = blocks_continue inside reader reader' steps p.steps a p.between q p.passed.taken;
        why = record {
          cause = fault;
          stops = subst (λ (s : Sections). sections.Stops inside s p.between b fault) there (subst (λ (i : Option (List ℕ)). sections.Stops i (behind reader.sections p.steps) p.between b fault) q.named p.why);
          is = refl;
        };
        place = omega (arith, p.moves.looked, q.place, size_on steps p.steps);
        closed = p.moves.goes_on;
      }

-- the result of a call of the reader of a pcapng file
pub sections_reads : (inside : Option (List ℕ)) (reader reader' : NgReading) (walk : Walk) (a b : Option (List ℕ)) (given : Option Record)
    → sections.Reads reader reader' a b (Ok given) → sections.IfPacket (Ok given) (λ r. r.offset ≡ reader'.asked)
    → Behind (kinds.Sections reader) inside walk → Reads (kinds.Sections reader) (kinds.Sections reader') inside walk a b (Ok given)
sections_reads inside reader reader' (records packets) a b given reads offset q = absurd q
sections_reads inside reader reader' (blocks steps) a b None reads offset q = blocks_end inside reader reader' steps a b q reads
sections_reads inside reader reader' (blocks steps) a b (Some given) reads offset q = packet_given inside reader reader' steps a b q given reads offset

pub sections_fail : (inside : Option (List ℕ)) (reader reader' : NgReading) (walk : Walk) (a b : Option (List ℕ)) (fault : NgFault)
    → sections.Reads reader reader' a b (Err fault) → Behind (kinds.Sections reader) inside walk
    → Reads (kinds.Sections reader) (kinds.Sections reader') inside walk a b (Err (of_block fault))
sections_fail inside reader reader' (records packets) a b fault reads q = absurd q
sections_fail inside reader reader' (blocks steps) a b fault reads q = block_stops inside reader reader' steps a b q fault reads

-- The capture that a finished run wrote is read back: its head, and one record for each frame.
use Rattle.std.proofs.Common.{◌≡◌, ℕ, ◌^◌, ◌<◌, ◌≤◌, List, [], ◌∷◌, ◌++◌, length, map, drop, take, reverse, flat_map, suc, zero, Some, None, Ok, refl, sym, ap, ◌∙◌, subst, arith, append-nil, append_assoc}
use Rattle.std.specs.List.{AllByRecursion}
use Rattle.std.proofs.lemmas.List.{append_cancel_left, reverse-append}
use Rattle.run_audit.proofs.Captures.{behind_head}
use Rattle.wire_base.specs.declared.address.Link.{Link}
use Rattle.pcap_file.specs.declared.head.Head.{Head}
use Rattle.pcap_file.specs.declared.record.Order.{Order}
use Rattle.pcap_file.specs.FileHead.{head_octets}
use Rattle.pcap_file.specs.Records.{Packet, front_of, record_octets}
use Rattle.pcap_file.specs.Capture.{ReadsTo}
use Rattle.pcap_file.specs.FileLaws.{HeadIsReadBack, RecordIsReadBack}
use Rattle.rule_book.proofs.Lines.{all-append}
use Rattle.norm_settings.specs.SettingValues.{PlainSettings}
use Rattle.norm_engine.specs.Items.{Item, packets}
use Rattle.norm_engine.specs.SentFrames.{HasShortFrames}
use Rattle.norm_engine.specs.WrittenTrace.{written}
use Rattle.both_sides.specs.RecordOutputs.{Put, answers_frames, octets_put, puts, puts_by_two, put_octets}
use Rattle.both_sides.specs.RunTraces.{RunTrace, one, packets_of, two}
use Rattle.bridge_run.specs.Promises.{FramesFit, HaveTimes}
use Rattle.run_laws.specs.CaptureReadBack.{IsReadBack, ReadsOn, RunsAreReadBack, record_of, records_put}

-- ---- records as they are written

-- a record as it is written: its length is that of its octets, and it has no side
abbrev as_written : Packet → Packet
as_written w = record { seconds = w.seconds; fraction = w.fraction; original = length w.octets; side = None; octets = w.octets }

-- the record is as it is written, and its numbers and its length are those of a capture
record IsWritten (w : Packet) : Type 0 where
  own : w ≡ as_written w
  seconds : w.seconds < 2 ^ 32
  fraction : w.fraction < 2 ^ 32
  octets : length w.octets ≤ 262144

-- the octets of records, the last one at the head of the list and at the end of the octets
abbrev records_octets : Order → List Packet → List ℕ
records_octets order [] = []
records_octets order (w ∷ older) = records_octets order older ++ record_octets order w.seconds w.fraction w.octets

module _ (back : RecordIsReadBack) (order : Order) where
  -- one record is read, whatever the number of those before it
  read_one : (count : ℕ) (w : Packet) (rest : List ℕ) → IsWritten w → count < 4294967295
      → front_of order count (record_octets order w.seconds w.fraction w.octets ++ rest) ≡ Ok (Some (w, rest))
  read_one count w rest is few = back order count w.seconds w.fraction w.octets rest few is.seconds is.fraction is.octets ∙ ap (λ x. Ok (Some (x, rest))) (sym is.own)

  reads_on : (ws : List Packet) (rest : List ℕ) → AllByRecursion IsWritten ws → ReadsOn order (records_octets order ws ++ rest) ws rest
  reads_on [] rest is = refl
  reads_on (w ∷ older) rest is =
      let one = record_octets order w.seconds w.fraction w.octets in (
        one ++ rest,
        subst (λ all. ReadsOn order all older (one ++ rest)) (sym (append_assoc (records_octets order older) one rest)) (reads_on older (one ++ rest) is.1),
        read_one 0 w rest is.0 (omega arith),
      )

  reads_to : (ws : List Packet) (rest : List ℕ) → AllByRecursion IsWritten ws → length ws ≤ 4294967295 → ReadsTo order (records_octets order ws ++ rest) ws rest
  reads_to [] rest is few = refl
  reads_to (w ∷ older) rest is few =
      let one = record_octets order w.seconds w.fraction w.octets in (
        one ++ rest,
        subst (λ all. ReadsTo order all older (one ++ rest)) (sym (append_assoc (records_octets order older) one rest)) (reads_to older (one ++ rest) is.1 (omega (arith, few))),
        read_one (length older) w rest is.0 (omega (arith, few)),
      )

-- ---- the records of what is put

with_frames : (order : Order) (put : Put) (frames : List (List ℕ)) (older : List Packet)
    → records_octets order (reverse (map (record_of put) frames) ++ older) ≡ records_octets order older ++ flat_map (λ frame. record_octets order put.seconds put.fraction frame) frames
with_frames order put [] older = sym (append-nil (records_octets order older))
with_frames order put (f ∷ fs) older =
    let turn = reverse (map (record_of put) fs) in
    ap (λ ws. records_octets order (ws ++ older)) (reverse-append (record_of put f ∷ []) (map (record_of put) fs))
    ∙ ap (records_octets order) (append_assoc turn (record_of put f ∷ []) older)
    ∙ with_frames order put fs (record_of put f ∷ older)
    ∙ append_assoc (records_octets order older) (record_octets order put.seconds put.fraction f) (flat_map (λ frame. record_octets order put.seconds put.fraction frame) fs)

octets_are : (order : Order) (outs : List Put) → records_octets order (records_put outs) ≡ octets_put order outs
octets_are order [] = refl
octets_are order (put ∷ older) = with_frames order put put.frames (records_put older) ∙ ap (λ xs. xs ++ put_octets order put) (octets_are order older)

-- what is put for a record has a time of a capture, and short frames
record PutFits (put : Put) : Type 0 where
  seconds : put.seconds < 2 ^ 32
  fraction : put.fraction < 2 ^ 32
  frames : AllByRecursion (λ frame. length frame ≤ 65549) put.frames

frames_written : (put : Put) (frames : List (List ℕ)) → put.seconds < 2 ^ 32 → put.fraction < 2 ^ 32 → AllByRecursion (λ frame. length frame ≤ 65549) frames
    → AllByRecursion IsWritten (reverse (map (record_of put) frames))
frames_written put [] seconds fraction short = tt
frames_written put (f ∷ fs) seconds fraction short =
    let one = short.0 in
    subst (AllByRecursion IsWritten) (sym (reverse-append (record_of put f ∷ []) (map (record_of put) fs)))
    (all-append IsWritten (reverse (map (record_of put) fs)) (record_of put f ∷ []) (frames_written put fs seconds fraction short.1)
    (record { own = refl; seconds = seconds; fraction = fraction; octets = omega (arith, one) }, tt))

all_written : (outs : List Put) → AllByRecursion PutFits outs → AllByRecursion IsWritten (records_put outs)
all_written [] fits = tt
all_written (put ∷ older) fits =
    all-append IsWritten (reverse (map (record_of put) put.frames)) (records_put older)
    (frames_written put put.frames fits.0.seconds fits.0.fraction fits.0.frames) (all_written older fits.1)

-- ---- what a run puts

one_fits : (settings : PlainSettings) (link : Link) (trace : List Item) → HaveTimes (packets trace) → AllByRecursion HasShortFrames (written settings link trace)
    → AllByRecursion PutFits (puts settings link (one trace))
one_fits settings link [] times short = tt
one_fits settings link (item ∷ older) times short = (record { seconds = times.0.0; fraction = times.0.1; frames = short.0 }, one_fits settings link older times.1 short.1)

all_taken : (n : ℕ) (items : List Item) → AllByRecursion HasShortFrames items → AllByRecursion HasShortFrames (take n items)
all_taken zero items short = tt
all_taken (suc n) [] short = tt
all_taken (suc n) (item ∷ items) short = (short.0, all_taken n items short.1)

all_dropped : (n : ℕ) (items : List Item) → AllByRecursion HasShortFrames items → AllByRecursion HasShortFrames (drop n items)
all_dropped zero items short = short
all_dropped (suc n) [] short = tt
all_dropped (suc n) (item ∷ items) short = all_dropped n items short.1

answers_short : (items : List Item) → AllByRecursion HasShortFrames items → AllByRecursion (λ frame. length frame ≤ 65549) (answers_frames items)
answers_short [] short = tt
answers_short (item ∷ older) short = all-append (λ frame. length frame ≤ 65549) (answers_frames older) item.frames (answers_short older short.1) short.0

two_fit : (trace mirror : List Item) → HaveTimes (packets trace) → AllByRecursion HasShortFrames mirror → AllByRecursion PutFits (puts_by_two trace mirror)
two_fit [] mirror times short = tt
two_fit (item ∷ older) mirror times short =
    let count = length item.frames in (
      record { seconds = times.0.0; fraction = times.0.1; frames = answers_short (take count mirror) (all_taken count mirror short) },
      two_fit older (drop count mirror) times.1 (all_dropped count mirror short),
    )

puts_fit : (settings : PlainSettings) (link : Link) (run : RunTrace) → HaveTimes (packets_of run) → FramesFit settings link run → AllByRecursion PutFits (puts settings link run)
puts_fit settings link (one trace) times fit = one_fits settings link trace times fit.1
puts_fit settings link (two trace mirror) times fit = two_fit trace mirror times fit

-- ---- the capture

read_back : HeadIsReadBack → RecordIsReadBack → (head : Head) (outs : List Put) → AllByRecursion PutFits outs → IsReadBack head (head_octets head ++ octets_put head.order outs) (records_put outs)
read_back head_back back head outs fits =
    let octets = octets_put head.order outs in
    let ws = records_put outs in
    let is = all_written outs fits in
    let all : records_octets head.order ws ++ [] ≡ drop 24 (head_octets head ++ octets) =
    append-nil (records_octets head.order ws) ∙ (octets_are head.order outs ∙ sym (behind_head head.order head.nano head.link octets)) in
    record {
      accepted = head_back head octets;
      reads = subst (λ xs. ReadsOn head.order xs ws []) all (reads_on back head.order ws [] is);
      whole = λ few. record { accepted = head_back head octets; whole = subst (λ xs. ReadsTo head.order xs ws []) all (reads_to back head.order ws [] is few) };
    }

pub runs_read_back : HeadIsReadBack → RecordIsReadBack → RunsAreReadBack
runs_read_back head_back back settings source source' report report' held capture done =
    let outs = puts settings done.head.link done.run in
    let same : capture ≡ head_octets done.head ++ octets_put done.head.order outs = append_cancel_left held capture _ done.frames_written in
    subst (λ c. IsReadBack done.head c (records_put outs)) (sym same) (read_back head_back back done.head outs (puts_fit settings done.head.link done.run done.times done.fit))

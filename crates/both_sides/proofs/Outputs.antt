-- What is given to the outputs for a record: its frames, the segments of those that are cut, and a
-- prefix where one failed.
use Rattle.std.proofs.Common.{◌≡◌, ℕ, ◌<◌, true, false, List, [], ◌∷◌, ◌++◌, length, Option, Result, Ok, Err, OnErr, refl, sym, subst, append-nil, ◌+◌, take, drop, take-append-drop, slice_get, Some, ap, ◌∙◌, arith, add-one, append_assoc, OnOk, is_err, length-append}
use Rattle.std.proofs.KnownBytes.{Appends-nil, Appends-trans}
use Rattle.std.specs.Io.KnownBytes.{Appends}
use Rattle.std.proofs.Math.Seq.{take-suc}
use Rattle.std.proofs.lemmas.Grind.{flat_map-append}
use Rattle.std.proofs.lemmas.Option.{slice_get_within, get_or_from_slice_get}
use Rattle.std.specs.List.{flat_map}
use Rattle.edge_io.specs.KnownOctets.{AppendsPart, Puts}
use Rattle.edge_io.proofs.Moves.{part_behind, part_of_first}
use Rattle.pcap_file.specs.declared.record.Order.{Order}
use Rattle.pcap_file.specs.Records.{Packet, record_head, record_octets}
use Rattle.pcap_file.proofs.Records.{record_head_size}
use Rattle.wire_base.specs.declared.address.Link.{Link}
use Rattle.emit_mtu.specs.CutStreams.{frames_for}
use Rattle.both_sides.specs.declared.fault.RelayFault.TheVariants as faults
use Rattle.both_sides.specs.Outputs.{Output, to_capture, to_report, Given, BreaksOff}
use Rattle.both_sides.specs.Sinks.{Sinks}
use Rattle.both_sides.specs.Frames.{frame_octets}
use Rattle.norm_engine.specs.WrittenTrace.{frames_written}
use Rattle.norm_engine.proofs.WrittenItems.{written_more}

-- Outputs that are given one after another.

pub appended : (a b : Option (List ℕ)) (x : List ℕ) → Appends a b x → Appends a b (x ++ [])
appended a b x p = subst (Appends a b) (sym (append-nil x)) p

-- nothing was given
pub stays : (a b : Option (List ℕ)) → b ≡ a → Appends a b []
stays a b same = subst (λ s. Appends a s []) (sym same) (Appends-nil a)

-- a fault leaves a prefix, and otherwise all was given
pub part_of : {T E : Type 0} (result : Result T E) (a b : Option (List ℕ)) (x : List ℕ) → true ≡ is_err result → Puts a b result x → AppendsPart a b x
part_of (Ok v) a b x failed p = absurd cc
part_of (Err e) a b x failed p = p

pub whole_of : {T E : Type 0} (result : Result T E) (a b : Option (List ℕ)) (x : List ℕ) → false ≡ is_err result → Puts a b result x → Appends a b x
whole_of (Ok v) a b x failed p = p
whole_of (Err e) a b x failed p = absurd cc

-- octets after others
pub puts_behind : {T E : Type 0} (result : Result T E) (a b c : Option (List ℕ)) (x y : List ℕ) → Appends a b x → Puts b c result y → Puts a c result (x ++ y)
puts_behind (Ok v) a b c x y p q = Appends-trans _ _ _ _ _ p q
puts_behind (Err e) a b c x y p q = part_behind a b c x y p q

-- the fact of a fault implies a weaker one
pub on_err_weaker : {T E P Q : Type 0} (result : Result T E) → (P → Q) → OnErr result P → OnErr result Q
on_err_weaker (Ok v) f p = tt
on_err_weaker (Err e) f p = f p

-- octets for the capture, and then for the report
pub given_both : (x y : List ℕ) (a b : Sinks) → Appends a.capture.octets b.capture.octets x → Appends a.report.octets b.report.octets y → Given (to_capture x ∷ to_report y ∷ []) a b
given_both x y a b p q = record { capture = appended _ _ x p; report = appended _ _ y q }

-- the capture failed at the next octets
pub capture_broke : (x : List ℕ) (others : List Output) (a b : Sinks) → 0 < length x → AppendsPart a.capture.octets b.capture.octets x → b.report.octets ≡ a.report.octets
    → BreaksOff [] (to_capture x ∷ others) faults.Capture a b
capture_broke x others a b some p same = record {
  whole = [];
  failed = to_capture x;
  others = others;
  are = refl;
  can_fail = some;
  answered = refl;
  count = p.count;
  given = record {
    capture = appended _ _ _ p.part;
    report = stays a.report.octets b.report.octets same;
  };
}

-- the report failed at octets after those of the capture
pub report_broke : (x y : List ℕ) (others : List Output) (a b : Sinks) → Appends a.capture.octets b.capture.octets x → AppendsPart a.report.octets b.report.octets y
    → BreaksOff [] (to_capture x ∷ to_report y ∷ others) faults.Report a b
report_broke x y others a b p q = record {
  whole = to_capture x ∷ [];
  failed = to_report y;
  others = others;
  are = refl;
  can_fail = tt;
  answered = refl;
  count = q.count;
  given = record { capture = appended _ _ _ p; report = appended _ _ _ q.part };
}

-- Frames that are written one after another.

-- one element more
piece_more : {X : Type 0} (octets : X → List ℕ) (xs : List X) (i : ℕ) (x : X) → slice_get xs i ≡ Some x
    → flat_map octets (take (i + 1) xs) ≡ flat_map octets (take i xs) ++ octets x
piece_more octets xs i x here =
    ap (λ n. flat_map octets (take n xs)) (add-one i)
    ∙ ap (flat_map octets) (take-suc xs i x (slice_get_within xs i x here) ∙ ap (λ f. take i xs ++ f ∷ []) (get_or_from_slice_get xs i x x here))
    ∙ flat_map-append octets (take i xs) (x ∷ [])
    ∙ ap (λ l. flat_map octets (take i xs) ++ l) (append-nil (octets x))

-- the elements before one, and a prefix of it
pub part_of_pieces : {X : Type 0} (octets : X → List ℕ) (xs : List X) (i : ℕ) (x : X) (a b c : Option (List ℕ)) → slice_get xs i ≡ Some x
    → Appends a b (flat_map octets (take i xs)) → AppendsPart b c (octets x) → AppendsPart a c (flat_map octets xs)
part_of_pieces octets xs i x a b c here before part =
    let rest = flat_map octets (drop (i + 1) xs) in
    let whole : flat_map octets xs ≡ (flat_map octets (take i xs) ++ octets x) ++ rest =
    ap (flat_map octets) (sym (take-append-drop (i + 1) xs))
    ∙ flat_map-append octets (take (i + 1) xs) (drop (i + 1) xs)
    ∙ ap (λ l. l ++ rest) (piece_more octets xs i x here) in
    subst (AppendsPart a c) (sym whole)
    (part_of_first a c (flat_map octets (take i xs) ++ octets x) rest (part_behind a b c (flat_map octets (take i xs)) (octets x) before part))

-- the frames before one, and a prefix of its record
pub part_of_frames : (order : Order) (r : Packet) (frames : List (List ℕ)) (i : ℕ) (frame : List ℕ) (a b c : Option (List ℕ)) → slice_get frames i ≡ Some frame
    → Appends a b (frame_octets order r (take i frames)) → AppendsPart b c (record_octets order r.seconds r.fraction frame) → AppendsPart a c (frame_octets order r frames)
part_of_frames order r frames i frame a b c here before part = part_of_pieces (λ frame. record_octets order r.seconds r.fraction frame) frames i frame a b c here before part

-- some octets are written for a frame
record_some : (order : Order) (seconds fraction : ℕ) (frame : List ℕ) → 0 < length (record_octets order seconds fraction frame)
record_some order seconds fraction frame =
    omega (arith, record_head_size order seconds fraction (length frame), length-append (record_head order seconds fraction (length frame)) frame)

-- some octets are written if there are frames
pub frames_some : (order : Order) (r : Packet) (frames : List (List ℕ)) → 0 < length frames → 0 < length (frame_octets order r frames)
frames_some order r [] some = absurd (omega (arith, some))
frames_some order r (frame ∷ frames) some =
    omega (arith, record_some order r.seconds r.fraction frame, length-append (record_octets order r.seconds r.fraction frame) (frame_octets order r frames))

-- the fact of a fault
pub if_failed : {T E : Type 0} (result : Result T E) (P : Type 0) → true ≡ is_err result → OnErr result P → P
if_failed (Ok v) P failed p = absurd cc
if_failed (Err e) P failed p = p

-- the records of frames and of others after them
pub frames_append : (order : Order) (r : Packet) (xs ys : List (List ℕ)) → frame_octets order r (xs ++ ys) ≡ frame_octets order r xs ++ frame_octets order r ys
frames_append order r xs ys = flat_map-append (λ frame. record_octets order r.seconds r.fraction frame) xs ys

-- two lists are not both empty if the first is not
pub some_first : {X : Type 0} (xs ys : List X) → 0 < length xs → 0 < length (xs ++ ys)
some_first xs ys some = let size = length-append xs ys in omega (arith, size, some)

pub some_behind : {X : Type 0} (xs ys : List X) → 0 < length ys → 0 < length (xs ++ ys)
some_behind xs ys some = let size = length-append xs ys in omega (arith, size, some)

-- What is written for frames, one after another.

-- some first segments of a frame were written, `count` of them, and `left` remain
pub record CutSoFar (order : Order) (r : Packet) (all left : List (List ℕ)) (count : ℕ) (before now : Option (List ℕ)) : Type 0 where
  pub done : List (List ℕ)
  pub are : all ≡ done ++ left
  pub counted : count ≡ length done
  pub octets : Appends before now (frame_octets order r done)

-- ---- all frames of a record, and their octets

module _ (mtu : ℕ) (link : Link) (order : Order) (r : Packet) where
  abbrev octets_of : List ℕ → List ℕ
  octets_of frame = frame_octets order r (frames_for link mtu frame)

  fused : (frames : List (List ℕ)) → frame_octets order r (frames_written (Some mtu) link frames) ≡ flat_map octets_of frames
  fused [] = refl
  fused (frame ∷ frames) =
      flat_map-append (λ f. record_octets order r.seconds r.fraction f) (frames_for link mtu frame) (frames_written (Some mtu) link frames) ∙ ap (λ l. octets_of frame ++ l) (fused frames)

  pub octets_more : (frames : List (List ℕ)) (i : ℕ) (frame : List ℕ) (a b c : Option (List ℕ)) → slice_get frames i ≡ Some frame
      → Appends a b (frame_octets order r (frames_written (Some mtu) link (take i frames))) → Appends b c (octets_of frame)
      → Appends a c (frame_octets order r (frames_written (Some mtu) link (take (i + 1) frames)))
  octets_more frames i frame a b c here before more =
      subst (Appends a c)
      (sym (ap (frame_octets order r) (written_more mtu link frames i frame here)
      ∙ flat_map-append (λ f. record_octets order r.seconds r.fraction f) (frames_written (Some mtu) link (take i frames)) (frames_for link mtu frame)))
      (Appends-trans _ _ _ _ _ before more)

  pub octets_part : (frames : List (List ℕ)) (i : ℕ) (frame : List ℕ) (a b c : Option (List ℕ)) → slice_get frames i ≡ Some frame
      → Appends a b (frame_octets order r (frames_written (Some mtu) link (take i frames))) → AppendsPart b c (octets_of frame)
      → AppendsPart a c (frame_octets order r (frames_written (Some mtu) link frames))
  octets_part frames i frame a b c here before part =
      subst (AppendsPart a c) (sym (fused frames))
      (part_of_pieces octets_of frames i frame a b c here (subst (Appends a b) (fused (take i frames)) before) part)

-- ---- the segments of a frame

module _ (order : Order) (r : Packet) (all left : List (List ℕ)) (count : ℕ) (x : List ℕ) (a b c : Option (List ℕ)) (old : List (List ℕ))
    (so_far : CutSoFar order r all old count a b) (next : old ≡ x ∷ left) where
  whole : all ≡ so_far.done ++ x ∷ left
  whole = so_far.are ∙ ap (λ l. so_far.done ++ l) next

  abbrev record_of : List ℕ → List ℕ
  record_of f = record_octets order r.seconds r.fraction f

  behind_done : frame_octets order r (so_far.done ++ x ∷ []) ≡ frame_octets order r so_far.done ++ record_of x
  behind_done = flat_map-append record_of so_far.done (x ∷ []) ∙ ap (λ l. frame_octets order r so_far.done ++ l) (append-nil (record_of x))

  pub segment_more : Appends b c (record_of x) → CutSoFar order r all left (count + 1) a c
  segment_more more = record {
    done = so_far.done ++ x ∷ [];
    are = whole ∙ sym (append_assoc so_far.done (x ∷ []) left);
    counted = ap (λ n. n + 1) so_far.counted ∙ sym (length-append so_far.done (x ∷ []));
    octets = subst (Appends a c) (sym behind_done) (Appends-trans _ _ _ _ _ so_far.octets more);
  }

  pub segment_part : AppendsPart b c (record_of x) → AppendsPart a c (frame_octets order r all)
  segment_part part =
      let split : frame_octets order r all ≡ (frame_octets order r so_far.done ++ record_of x) ++ frame_octets order r left =
      ap (frame_octets order r) (whole ∙ sym (append_assoc so_far.done (x ∷ []) left))
      ∙ flat_map-append record_of (so_far.done ++ x ∷ []) left ∙ ap (λ l. l ++ frame_octets order r left) behind_done in
      subst (AppendsPart a c) (sym split)
      (part_of_first a c (frame_octets order r so_far.done ++ record_of x) (frame_octets order r left) (part_behind a b c (frame_octets order r so_far.done) (record_of x) so_far.octets part))

  pub segment_counted : count < length all
  segment_counted =
      let size : length all ≡ length so_far.done + length (x ∷ left) = ap length whole ∙ length-append so_far.done (x ∷ left) in
      let counted = so_far.counted in
      omega (arith, size, counted)

-- What is written for one record.

-- the fact of a success
pub if_done : {T E : Type 0} (result : Result T E) (P : Type 0) → false ≡ is_err result → OnOk result P → P
if_done (Ok v) P done p = p
if_done (Err e) P done p = absurd (cc)

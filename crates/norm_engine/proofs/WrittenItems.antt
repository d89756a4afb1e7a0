-- What is written for one record: the report on its frames, and their number.
use Rattle.std.proofs.Common.{◌≡◌, ℕ, ◌<◌, true, false, List, [], ◌∷◌, ◌++◌, length, Option, refl, sym, subst, append-nil, ◌+◌, take, drop, take-append-drop, slice_get, Some, ap, ◌∙◌, arith, add-one, ◌≤◌, ◌&&◌, ◌||◌, not, Bool, cond, All, ap₂, None, length-append}
use Rattle.std.proofs.Math.Seq.{take-suc}
use Rattle.std.proofs.lemmas.Grind.{flat_map-append}
use Rattle.std.proofs.lemmas.Option.{slice_get_within, get_or_from_slice_get}
use Rattle.std.specs.List.{flat_map, list_any}
use Rattle.std.proofs.lemmas.List.Elements.{All-nil, All-cons, All-append}
use Rattle.std.proofs.lemmas.List.Folds.{list_any-append}
use Rattle.std.proofs.Math.Bool.{or-false}
use Rattle.pcap_file.specs.Records.{Packet}
use Rattle.wire_base.specs.declared.address.Link.{Link}
use Rattle.emit_mtu.specs.declared.long.LongKind.{LongKind}
use Rattle.emit_mtu.specs.declared.long.LongKind.TheVariants.{Fits, Cut, Drop}
use Rattle.emit_mtu.specs.LongFrames.{e_cut, e_mtu, is_long, long_kind, may_be_cut}
use Rattle.emit_mtu.specs.Segments.{segments}
use Rattle.emit_mtu.specs.CutStreams.{frames_for, frames_of, PlainHeadersAreWhole}
use Rattle.wire_base.specs.Frames.{packet_in}
use Rattle.rule_book.specs.Entries.{IsOfVersion, PlainEntry}
use Rattle.norm_settings.specs.SettingValues.{PlainSettings}
use Rattle.norm_engine.specs.Items.{Item}
use Rattle.norm_engine.specs.Trace.{item_of}
use Rattle.norm_engine.specs.EngineState.{frames_given}
use Rattle.norm_engine.specs.CleanRecords.{HasOctets, HaveOctets}
use Rattle.norm_engine.specs.TraceLaws.{IsCounted, ItemsAreCounted}
use Rattle.norm_engine.specs.OutgoingFrames.{ItemsGoOut}
use Rattle.emit_mtu.specs.FrameParts.{AreOctets, IsSent}
use Rattle.emit_mtu.specs.CutLaws.{AreFew}
use Rattle.norm_engine.specs.declared.written.Emitted.{Emitted}
use Rattle.norm_engine.specs.working.FrameReports.{TellsAll, TellsOne}
use Rattle.norm_engine.specs.WrittenTrace.{frames_written, FramesHaveOctets, entry_written, item_written}
use Rattle.norm_engine.proofs.WrittenFrames.{InRange, all_sent, written_few}

-- The first elements of a list.

one_more_taken : {X : Type 0} (xs : List X) (i : ℕ) (x : X) → slice_get xs i ≡ Some x → take (i + 1) xs ≡ take i xs ++ x ∷ []
one_more_taken xs i x here =
    ap (λ n. take n xs) (add-one i) ∙ take-suc xs i x (slice_get_within xs i x here) ∙ ap (λ y. take i xs ++ y ∷ []) (get_or_from_slice_get xs i x x here)

any_more : {X : Type 0} (test : X → Bool) (xs : List X) (i : ℕ) (x : X) → slice_get xs i ≡ Some x → list_any test (take (i + 1) xs) ≡ (list_any test (take i xs) || test x)
any_more test xs i x here =
    ap (list_any test) (one_more_taken xs i x here) ∙ list_any-append test (take i xs) (x ∷ []) ∙ ap (λ b. list_any test (take i xs) || b) (or-false (test x))

pub all_more : {X : Type 0} (P : X → Type 0) (xs : List X) (i : ℕ) (x : X) → slice_get xs i ≡ Some x → All P (take i xs) → P x → All P (take (i + 1) xs)
all_more P xs i x here all p = subst (All P) (sym (one_more_taken xs i x here)) (All-append P (take i xs) (x ∷ []) all (All-cons P x [] p (All-nil P)))

-- ---- one frame

cut_by : (long may : Bool) → (cond (long && may) Cut (cond (long && not may) Drop Fits)) ≡ Cut → ((long && may) ≡ true) × ((long && not may) ≡ false)
cut_by true true e = (refl, refl)
cut_by true false e = absurd (cc)
cut_by false may e = absurd (cc)

drop_by : (long may : Bool) → (cond (long && may) Cut (cond (long && not may) Drop Fits)) ≡ Drop → ((long && may) ≡ false) × ((long && not may) ≡ true)
drop_by true true e = absurd (cc)
drop_by true false e = (refl, refl)
drop_by false may e = absurd (cc)

pub tells_cut : (mtu : ℕ) (link : Link) (frame : List ℕ) (count : ℕ) → long_kind link mtu frame ≡ Cut → count ≡ length (segments link mtu frame)
    → TellsOne mtu link frame (record { packets = count; cut = true; kept_back = false })
tells_cut mtu link frame count kind counted =
    let by = cut_by (is_long link mtu frame) (may_be_cut (packet_in link frame)) kind in
    record { packets = counted ∙ sym (ap (λ (k : LongKind). length (frames_of k link mtu frame)) kind); cut = sym by.0; kept_back = sym by.1 }

pub tells_drop : (mtu : ℕ) (link : Link) (frame : List ℕ) → long_kind link mtu frame ≡ Drop → TellsOne mtu link frame (record { packets = 0; cut = false; kept_back = true })
tells_drop mtu link frame kind =
    let by = drop_by (is_long link mtu frame) (may_be_cut (packet_in link frame)) kind in
    record { packets = sym (ap (λ (k : LongKind). length (frames_of k link mtu frame)) kind); cut = sym by.0; kept_back = sym by.1 }

-- ---- all frames of a record

module _ (mtu : ℕ) (link : Link) where
  abbrev goes : List ℕ → List (List ℕ)
  goes = frames_for link mtu

  pub written_more : (frames : List (List ℕ)) (i : ℕ) (frame : List ℕ) → slice_get frames i ≡ Some frame
      → frames_written (Some mtu) link (take (i + 1) frames) ≡ frames_written (Some mtu) link (take i frames) ++ goes frame
  written_more frames i frame here =
      ap (flat_map goes) (one_more_taken frames i frame here) ∙ flat_map-append goes (take i frames) (frame ∷ []) ∙ ap (λ l. flat_map goes (take i frames) ++ l) (append-nil (goes frame))

  -- no more are written for the first frames than for all
  written_most : (frames : List (List ℕ)) (n : ℕ) → length (frames_written (Some mtu) link (take n frames)) ≤ length (frames_written (Some mtu) link frames)
  written_most frames n =
      let whole : frames_written (Some mtu) link frames ≡ flat_map goes (take n frames) ++ flat_map goes (drop n frames) =
      ap (flat_map goes) (sym (take-append-drop n frames)) ∙ flat_map-append goes (take n frames) (drop n frames) in
      let size : length (frames_written (Some mtu) link frames) ≡ length (flat_map goes (take n frames)) + length (flat_map goes (drop n frames)) =
      ap length whole ∙ length-append (flat_map goes (take n frames)) (flat_map goes (drop n frames)) in
      omega (arith, size)

  size_more : (frames : List (List ℕ)) (i : ℕ) (frame : List ℕ) → slice_get frames i ≡ Some frame
      → length (frames_written (Some mtu) link (take (i + 1) frames)) ≡ length (frames_written (Some mtu) link (take i frames)) + length (goes frame)
  size_more frames i frame here = ap length (written_more frames i frame here) ∙ length-append (frames_written (Some mtu) link (take i frames)) (goes frame)

  pub sum_few : (frames : List (List ℕ)) (i : ℕ) (frame : List ℕ) (most packets more : ℕ) → slice_get frames i ≡ Some frame → length (frames_written (Some mtu) link frames) < most
      → packets ≡ length (frames_written (Some mtu) link (take i frames)) → more ≡ length (goes frame) → packets + more < most
  sum_few frames i frame most packets more here few is one =
      let size = size_more frames i frame here in
      let under = written_most frames (i + 1) in
      omega (arith, size, under, few, is, one)

  pub some_written : (frames : List (List ℕ)) (i : ℕ) (frame : List ℕ) → slice_get frames i ≡ Some frame → 0 < length (goes frame) → 0 < length (frames_written (Some mtu) link frames)
  some_written frames i frame here some =
      let size = size_more frames i frame here in
      let under = written_most frames (i + 1) in
      omega (arith, size, under, some)

  pub tells_more : (frames : List (List ℕ)) (i : ℕ) (frame : List ℕ) (emitted one both : Emitted) → slice_get frames i ≡ Some frame
      → TellsAll mtu link (take i frames) emitted → TellsOne mtu link frame one
      → both.packets ≡ emitted.packets + one.packets → both.cut ≡ (emitted.cut || one.cut) → both.kept_back ≡ (emitted.kept_back || one.kept_back)
      → TellsAll mtu link (take (i + 1) frames) both
  tells_more frames i frame emitted one both here all its packets cut kept_back = record {
    packets = packets ∙ ap₂ (λ x y. x + y) all.packets its.packets ∙ sym (size_more frames i frame here);
    cut = cut ∙ ap₂ (λ x y. x || y) all.cut its.cut ∙ sym (any_more (e_cut link mtu) frames i frame here);
    kept_back = kept_back ∙ ap₂ (λ x y. x || y) all.kept_back its.kept_back ∙ sym (any_more (e_mtu link mtu) frames i frame here);
  }

-- ---- one record

-- an entry of this version keeps it when it is changed
pub version_written : (mtu : Option ℕ) (link : Link) (item : Item) → IsOfVersion 2 item.entry → IsOfVersion 2 (item_written mtu link item).entry
version_written None link item is = is
version_written (Some mtu) link item is = is

-- an entry as it is written counts the frames that are written
pub packets_written : (mtu : Option ℕ) (link : Link) (item : Item) → IsCounted item → (item_written mtu link item).entry.packets ≡ length (item_written mtu link item).frames
packets_written None link item counted = counted.packets
packets_written (Some mtu) link item counted = refl

-- frames of octets may be cut
pub each_has : (mtu : Option ℕ) (frames : List (List ℕ)) → All AreOctets frames → FramesHaveOctets mtu frames
each_has None frames all = tt
each_has (Some mtu) frames all = all

-- so may those that a step gives
pub each_given : (as_read : Bool) (octets : List ℕ) (out : List (List ℕ)) → AreOctets octets → All AreOctets out → All AreOctets (frames_given as_read octets out)
each_given true octets out read all = All-cons AreOctets octets [] read (λ k d h. absurd (omega (arith, h)))
each_given false octets out read all = all

-- the frames of an item after a history are written on its link, which has this MTU
module _ (goes : ItemsGoOut) (counts : ItemsAreCounted) (whole : PlainHeadersAreWhole) (few : AreFew) (settings : PlainSettings) (link : Link) (history : List Item) (r : Packet)
    (hops : settings.hops ≤ 254) (range : InRange settings.mtu) (older : HaveOctets history) (octets : HasOctets r) where
  abbrev item : Item
  item = item_of settings link history r

  pub sent_out : (other : Link) (out : List (List ℕ)) → link ≡ other → out ≡ item.frames → All (IsSent other) out
  sent_out other out same is =
      subst (λ l. All (IsSent l) out) same (subst (All (IsSent link)) (sym is) (all_sent whole link item.frames (goes settings link history r hops older octets).each))

  few_here : FramesHaveOctets settings.mtu item.frames → length (frames_written settings.mtu link item.frames) < 256
  few_here each =
      let out = goes settings link history r hops older octets in
      written_few few settings.mtu link item.frames range (all_sent whole link item.frames out.each) each out.behind (counts settings link history r).few

  pub few_out : (mtu : Option ℕ) (other : Link) (out : List (List ℕ)) → settings.mtu ≡ mtu → link ≡ other → out ≡ item.frames
      → FramesHaveOctets mtu out → length (frames_written mtu other out) < 256
  few_out mtu other out bound same is each =
      subst (λ m. length (frames_written m other out) < 256) bound (subst (λ l. length (frames_written settings.mtu l out) < 256) same
      (subst (λ fs. length (frames_written settings.mtu link fs) < 256) (sym is)
      (few_here (subst (FramesHaveOctets settings.mtu) is (subst (λ m. FramesHaveOctets m out) (sym bound) each)))))

  pub named_out : (entry : PlainEntry) → entry ≡ item.entry → length entry.rules ≤ 14
  named_out entry is = subst (λ (e : PlainEntry). length e.rules ≤ 14) (sym is) (goes settings link history r hops older octets).few

-- what was written and reported of frames is what the item has
module _ (settings : PlainSettings) (link other : Link) (mtu : Option ℕ) (item : Item) (out : List (List ℕ)) (bound : settings.mtu ≡ mtu) (same : link ≡ other) (is : out ≡ item.frames) where
  pub frames_out : frames_written mtu other out ≡ (item_written settings.mtu link item).frames
  frames_out = λ i. frames_written ((sym bound) i) ((sym same) i) (is i)

  pub entry_out : (before : PlainEntry) → before ≡ item.entry → entry_written mtu other out before ≡ (item_written settings.mtu link item).entry
  entry_out before was = λ i. entry_written ((sym bound) i) ((sym same) i) (is i) (was i)

  pub octets_out : FramesHaveOctets mtu out → FramesHaveOctets settings.mtu item.frames
  octets_out each = subst (FramesHaveOctets settings.mtu) is (subst (λ m. FramesHaveOctets m out) (sym bound) each)

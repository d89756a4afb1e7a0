-- The frames written for a lawful trace: all frames without an MTU; with an MTU few for each
-- record, none too long, and the payload of clean records.
use Rattle.std.proofs.Common.{◌≡◌, ℕ, ◌+◌, ◌<◌, ◌≤◌, ◌==◌, ◌&&◌, not, nat_lt, Bool, true, false, cond, All, List, ◌∷◌, ◌++◌, length, map, drop, get_or, suc, Option, Some, None, refl, sym, ap, subst, ◌∙◌, arith, append-nil, IfSome, length-append, [], inl, inr}
use Rattle.std.specs.List.{AllByRecursion, flat_map, list_any}
use Rattle.std.proofs.lemmas.Bool.Decides.{nat_tests}
use Rattle.std.proofs.lemmas.List.Elements.{All-nil, All-cons, All-append, recursion_from_All}
use Rattle.std.proofs.lemmas.List.Folds.{list_any-append}
use Rattle.std.proofs.lemmas.Bool.{and_parts, or_parts}
use Rattle.std.proofs.Math.Bool.{or-false}
use Rattle.wire_base.specs.declared.address.Link.{Link}
use Rattle.wire_base.specs.declared.frame.FrameKind.{FrameKind}
use Rattle.wire_base.specs.declared.frame.FrameKind.TheVariants.{Ip, Arp, Short, Other}
use Rattle.wire_base.specs.Frames.{kind_of, packet_in}
use Rattle.wire_base.specs.Ipv4 as ip
use Rattle.wire_base.specs.Tcp as tcp
use Rattle.rule_book.specs.declared.rule.Rule.{Rule}
use Rattle.norm_settings.specs.SettingValues.{PlainSettings}
use Rattle.ip_rules.specs.RuleRows.{carries_ip}
use Rattle.receiver_model.specs.Monitors.{EraMissesNothing}
use Rattle.receiver_model.specs.StreamParts.{EachReadsPart}
use Rattle.era_state.specs.Quantities.{base_of, end_of, first as first_octet}
use Rattle.era_agreement.specs.SentPackets.{inward_packets, inward_places, written_in}
use Rattle.era_agreement.specs.Agreement.{EraIsSound}
use Rattle.norm_engine.specs.Items.{Item}
use Rattle.norm_engine.specs.CleanRecords.{CleanIsKept, KeepsPayload, payload_in, payload_of}
use Rattle.norm_engine.specs.Agreement.{sent_in}
use Rattle.norm_engine.specs.TraceLaws.{IsSound}
use Rattle.norm_engine.specs.OutgoingFrames.{GoesOut, IsOutgoing, ItemsGoOut}
use Rattle.emit_mtu.specs.declared.long.LongKind.{LongKind}
use Rattle.emit_mtu.specs.declared.long.LongKind.TheVariants.{Fits, Cut, Drop}
use Rattle.emit_mtu.specs.FrameParts.{AreOctets, IsSent}
use Rattle.emit_mtu.specs.CutLaws as cuts
use Rattle.emit_mtu.specs.CutLaws.{AreFew, CarryThePayload, IsToBeCut, ArePlain, NoneIsLong as NoCutIsLong}
use Rattle.emit_mtu.specs.LongFrames.{e_cut, e_mtu, is_ip, is_long, is_marked, long_kind, may_be_cut}
use Rattle.emit_mtu.specs.CutStreams.{NothingLongGoesOut, PlainHeadersAreWhole, frames_for, frames_of}
use Rattle.wire_base.specs.Plain.{Plain}
use Rattle.rule_book.proofs.Lines.{all-append}
use Rattle.norm_engine.specs.SentFrames.{ArePlainInwards, HasShortFrames, IsPlainInwards}
use Rattle.norm_engine.proofs.Frames.{frame_few, ip_kind}
use Rattle.emit_mtu.proofs.Frames.{kind_sized}
use Rattle.norm_engine.specs.WrittenTrace.{AgreesWhole, CleanIsWritten, FramesHaveOctets, HaveFrameOctets, MissesNothingWhole, NoneIsLong, ReadsWhole, WritesPayload, WrittenWhole, cuts_some, frames_written, is_of_cuts, item_written, keeps_some_back, places_written, rules_cut, verdict_cut}

-- What is written of a lawful trace.

-- ---- without an MTU

pub same_trace : (link : Link) (trace : List Item) → map (item_written None link) trace ≡ trace
same_trace link [] = refl
same_trace link (item ∷ older) = ap (λ l. item ∷ l) (same_trace link older)

pub written_whole : WrittenWhole
written_whole settings link trace none = ap (λ m. map (item_written m link) trace) none ∙ same_trace link trace

-- agreement on a trace, with the offsets of the packets written under this MTU
abbrev AgreesUnder : (settings : PlainSettings) (link : Link) (trace : List Item) → (mtu : Option ℕ) (as_written : List Item) → Type 0
AgreesUnder settings link trace mtu as_written =
    (era : ℕ) → let sent = sent_in link trace in
    EraIsSound settings.hops (base_of (written_in era sent)) (λ base. places_written mtu (inward_places era base sent) (inward_packets era sent))
    (inward_packets era (sent_in link as_written))

pub agrees_whole : AgreesWhole
agrees_whole settings link trace none =
    let same = written_whole settings link trace none in
    let P = AgreesUnder settings link trace in (
      (λ agree. subst (λ (m : Option ℕ). P m trace) none (subst (λ (t : List Item). P settings.mtu t) same agree)),
      (λ agree. subst (λ (t : List Item). P settings.mtu t) (sym same) (subst (λ (m : Option ℕ). P m trace) (sym none) agree)),
    )

-- the same of the parts that receivers read
abbrev ReadsUnder : (settings : PlainSettings) (link : Link) (trace : List Item) → (mtu : Option ℕ) (as_written : List Item) → Type 0
ReadsUnder settings link trace mtu as_written =
    (era base : ℕ) → let sent = sent_in link trace in let ws = written_in era sent in
    base_of ws ≡ Some base
    → EachReadsPart settings.hops base (places_written mtu (inward_places era base sent) (inward_packets era sent)) (inward_packets era (sent_in link as_written))
    (first_octet base ws) (end_of base ws)

pub reads_whole : ReadsWhole
reads_whole settings link trace none =
    let same = written_whole settings link trace none in
    let P = ReadsUnder settings link trace in (
      (λ reads. subst (λ (m : Option ℕ). P m trace) none (subst (λ (t : List Item). P settings.mtu t) same reads)),
      (λ reads. subst (λ (t : List Item). P settings.mtu t) (sym same) (subst (λ (m : Option ℕ). P m trace) (sym none) reads)),
    )

-- the same of monitors
abbrev MissesUnder : (settings : PlainSettings) (link : Link) (trace : List Item) → (mtu : Option ℕ) (as_written : List Item) → Type 0
MissesUnder settings link trace mtu as_written =
    (era base : ℕ) → let sent = sent_in link trace in
    base_of (written_in era sent) ≡ Some base
    → EraMissesNothing settings.hops base (places_written mtu (inward_places era base sent) (inward_packets era sent)) (inward_packets era (sent_in link as_written))

pub misses_whole : MissesNothingWhole
misses_whole settings link trace none =
    let same = written_whole settings link trace none in
    let P = MissesUnder settings link trace in (
      (λ misses. subst (λ (m : Option ℕ). P m trace) none (subst (λ (t : List Item). P settings.mtu t) same misses)),
      (λ misses. subst (λ (t : List Item). P settings.mtu t) (sym same) (subst (λ (m : Option ℕ). P m trace) (sym none) misses)),
    )

-- ---- the frames of an item are written

sent_of : PlainHeadersAreWhole → (link : Link) (frame : List ℕ) → GoesOut link frame → IsSent link frame
sent_of whole link frame (inl arp) = inl arp
sent_of whole link frame (inr (at, kind, is)) = inr (kind_sized link frame at kind, whole (packet_in link frame) is.header is.segment)

pub all_sent : PlainHeadersAreWhole → (link : Link) (frames : List (List ℕ)) → AllByRecursion (GoesOut link) frames → All (IsSent link) frames
all_sent whole link [] each = All-nil (IsSent link)
all_sent whole link (frame ∷ frames) each = All-cons (IsSent link) frame frames (sent_of whole link frame each.0) (all_sent whole link frames each.1)

-- the first element of a list whose elements satisfy `P`, and the others
first : {X : Type 0} (P : X → Type 0) (x : X) (xs : List X) → All P (x ∷ xs) → P x
first P x xs all = all 0 x (omega arith)

rest : {X : Type 0} (P : X → Type 0) (x : X) (xs : List X) → All P (x ∷ xs) → All P xs
rest P x xs all = λ k d l. all (suc k) d (omega (arith, l))

-- an MTU in its range
abbrev pub InRange : Option ℕ → Type 0
InRange mtu = IfSome mtu (λ n. (576 ≤ n) × (n ≤ 65535))

-- ---- how many are written

fits_by : (long may : Bool) → long ≡ false → (cond (long && may) Cut (cond (long && not may) Drop Fits)) ≡ Fits
fits_by false may e = refl
fits_by true may e = absurd (cc)

is_short : (link : Link) (mtu : ℕ) (frame : List ℕ) → IsSent link frame → length (packet_in link frame) ≤ mtu → is_long link mtu frame ≡ false
is_short link mtu frame (inl arp) few = ap (λ k. is_ip k && nat_lt mtu (ip.total_length (packet_in link frame))) arp
is_short link mtu frame (inr is) few =
    let ends = is.1.ends in
    let short : nat_lt mtu (ip.total_length (packet_in link frame)) ≡ false = grind (arith, nat_tests, ends, few) in
    ap (λ k. is_ip k && nat_lt mtu (ip.total_length (packet_in link frame))) is.0 ∙ short

count_by : AreFew → (link : Link) (mtu : ℕ) (frame : List ℕ) → 576 ≤ mtu → mtu < 65536 → IsSent link frame → AreOctets frame → (kind : LongKind) → long_kind link mtu frame ≡ kind
    → length (frames_of kind link mtu frame) ≤ 132
count_by few link mtu frame least most sent octets Fits is = omega arith
count_by few link mtu frame least most sent octets Drop is = omega arith
count_by few link mtu frame least most sent octets Cut is = few link mtu frame (record { sent = sent; octets = octets; cut = is; least = least; most = most })

one_short : (link : Link) (mtu : ℕ) (frame : List ℕ) → 576 ≤ mtu → IsSent link frame → length (packet_in link frame) ≡ 40 → length (frames_for link mtu frame) ≡ 1
one_short link mtu frame least sent size =
    ap (λ k. length (frames_of k link mtu frame)) (fits_by (is_long link mtu frame) (may_be_cut (packet_in link frame)) (is_short link mtu frame sent (omega (arith, least, size))))

few_by : AreFew → (link : Link) (mtu : ℕ) (frames : List (List ℕ)) → 576 ≤ mtu → mtu < 65536 → All (IsSent link) frames → All AreOctets frames
    → AllByRecursion (λ frame. length (packet_in link frame) ≡ 40) (drop 1 frames) → length frames ≤ 2 → length (flat_map (frames_for link mtu) frames) < 256
few_by few link mtu [] least most sent octets behind two = omega arith
few_by few link mtu (frame ∷ []) least most sent octets behind two =
    let goes = frames_for link mtu frame in
    let count = count_by few link mtu frame least most (first (IsSent link) frame [] sent) (first AreOctets frame [] octets) (long_kind link mtu frame) refl in
    let size : length (flat_map (frames_for link mtu) (frame ∷ [])) ≡ length goes = ap length (append-nil goes) in
    omega (arith, count, size)
few_by few link mtu (frame ∷ probe ∷ []) least most sent octets behind two =
    let goes = frames_for link mtu frame in
    let other = frames_for link mtu probe in
    let count = count_by few link mtu frame least most (first (IsSent link) frame (probe ∷ []) sent) (first AreOctets frame (probe ∷ []) octets) (long_kind link mtu frame) refl in
    let one = one_short link mtu probe least (first (IsSent link) probe [] (rest (IsSent link) frame (probe ∷ []) sent)) behind.0 in
    let size : length (flat_map (frames_for link mtu) (frame ∷ probe ∷ [])) ≡ length goes + length other =
    length-append goes (other ++ []) ∙ ap (λ l. length goes + length l) (append-nil other) in
    omega (arith, count, size, one)
few_by few link mtu (frame ∷ probe ∷ more ∷ frames) least most sent octets behind two = absurd (omega (arith, two))

pub written_few : AreFew → (mtu : Option ℕ) (link : Link) (frames : List (List ℕ)) → InRange mtu → All (IsSent link) frames → FramesHaveOctets mtu frames
    → AllByRecursion (λ frame. length (packet_in link frame) ≡ 40) (drop 1 frames) → length frames ≤ 2 → length (frames_written mtu link frames) < 256
written_few few None link frames range sent octets behind two = omega (arith, two)
written_few few (Some mtu) link frames range sent octets behind two =
    let most = range.1 in
    few_by few link mtu frames range.0 (omega (arith, most)) sent octets behind two

-- ---- each item of a lawful trace

pub each_goes : ItemsGoOut → (settings : PlainSettings) (link : Link) (trace : List Item) → IsSound settings link trace → AllByRecursion (IsOutgoing link) trace
each_goes goes settings link [] sound = tt
each_goes goes settings link (item ∷ older) sound = (
  subst (IsOutgoing link) (sym sound.lawful.1) (goes settings link older item.packet sound.hops sound.octets.0 sound.octets.1),
  each_goes goes settings link older (record { hops = sound.hops; octets = sound.octets.0; lawful = sound.lawful.0 }),
)

-- ---- none is too long

pub all_flat : (P : List ℕ → Type 0) (f : List ℕ → List (List ℕ)) (xs : List (List ℕ)) → All (λ x. All P (f x)) xs → All P (flat_map f xs)
all_flat P f [] all = All-nil P
all_flat P f (x ∷ xs) all = All-append P (f x) (flat_map f xs) (first (λ x. All P (f x)) x xs all) (all_flat P f xs (rest (λ x. All P (f x)) x xs all))

none_by : NothingLongGoesOut → (link : Link) (mtu : ℕ) → 576 ≤ mtu → mtu < 65536 → PlainHeadersAreWhole → (trace : List Item) → AllByRecursion (IsOutgoing link) trace
    → HaveFrameOctets (Some mtu) trace → NoneIsLong (Some mtu) link (map (item_written (Some mtu) link) trace)
none_by none link mtu least most whole [] each octets = tt
none_by none link mtu least most whole (item ∷ older) each octets =
    let sent = all_sent whole link item.frames each.0.each in (
      all_flat (λ frame. is_long link mtu frame ≡ false) (frames_for link mtu) item.frames (λ k d l. none link mtu (get_or item.frames k d) (sent k d l) (octets.0 k d l) least most),
      none_by none link mtu least most whole older each.1 octets.1,
    )

pub none_long : NothingLongGoesOut → PlainHeadersAreWhole → (mtu : Option ℕ) (link : Link) (trace : List Item) → InRange mtu → AllByRecursion (IsOutgoing link) trace
    → HaveFrameOctets mtu trace → NoneIsLong mtu link (map (item_written mtu link) trace)
none_long none whole None link trace range each octets = tt
none_long none whole (Some mtu) link trace range each octets = let most = range.1 in none_by none link mtu range.0 (omega (arith, most)) whole trace each octets

-- ---- clean records

-- neither rule is named
unnamed : (rules : List Rule) (cut kept_back : Bool) → list_any is_of_cuts (rules ++ rules_cut cut kept_back) ≡ false → (cut ≡ false) × (kept_back ≡ false)
unnamed rules cut kept_back none =
    by cut kept_back (or_parts (list_any is_of_cuts rules) (list_any is_of_cuts (rules_cut cut kept_back)) (sym (list_any-append is_of_cuts rules (rules_cut cut kept_back)) ∙ none)).1
  where
    by : (cut kept_back : Bool) → list_any is_of_cuts (rules_cut cut kept_back) ≡ false → (cut ≡ false) × (kept_back ≡ false)
    by false false e = (refl, refl)
    by true kept_back e = absurd (cc)
    by false true e = absurd (cc)

fits_kind : (long may : Bool) → (long && may) ≡ false → (long && not may) ≡ false → (cond (long && may) Cut (cond (long && not may) Drop Fits)) ≡ Fits
fits_kind true true e f = absurd (cc)
fits_kind true false e f = absurd (cc)
fits_kind false may e f = refl

carries_of : (link : Link) (frame : List ℕ) → is_ip (kind_of link frame) ≡ true → carries_ip link frame ≡ true
carries_of link frame e = by (kind_of link frame) refl e
  where
    by : (kind : FrameKind) → kind_of link frame ≡ kind → is_ip kind ≡ true → carries_ip link frame ≡ true
    by (Ip at) is e = ip_kind link frame at is
    by Arp is e = absurd (cc)
    by Short is e = absurd (cc)
    by Other is e = absurd (cc)

-- the payload of a frame that is cut is after its TCP header
same_payload : (link : Link) (mtu : ℕ) (frame : List ℕ) → e_cut link mtu frame ≡ true → cuts.payload_in link frame ≡ payload_in link frame
same_payload link mtu frame is =
    let p = packet_in link frame in
    let parts = and_parts (is_long link mtu frame) (may_be_cut p) is in
    let carried = carries_of link frame (and_parts (is_ip (kind_of link frame)) (nat_lt mtu (ip.total_length p)) parts.0).0 in
    let six = (and_parts (ip.protocol p == 6) (not (is_marked (tcp.flags (ip.payload p)))) (and_parts ((ip.protocol p == 6) && not (is_marked (tcp.flags (ip.payload p)))) (nat_lt 0 (length (tcp.payload (ip.payload p)))) parts.1).0).0 in
    sym (ap (λ b. cond b (payload_of p) frame) carried ∙ ap (λ b. cond b (tcp.payload (ip.payload p)) (cond (ip.protocol p == 17) (drop 8 (ip.payload p)) (ip.payload p))) six)

cut_kind : (link : Link) (mtu : ℕ) (frame : List ℕ) → e_cut link mtu frame ≡ true → long_kind link mtu frame ≡ Cut
cut_kind link mtu frame is = ap (λ b. cond b Cut (cond (e_mtu link mtu frame) Drop Fits)) is

writes_payload : CarryThePayload → (mtu : Option ℕ) (link : Link) (item : Item) → InRange mtu → All (IsSent link) item.frames → FramesHaveOctets mtu item.frames
    → KeepsPayload link item → WritesPayload mtu link item
writes_payload carry None link item range sent octets k = record {
  kept = λ none. record { frame = k.frame; only = k.only; same = k.same; whole = k.whole };
  cut = λ e. absurd (cc);
}
writes_payload carry (Some mtu) link item range sent octets k =
    let most = range.1 in
    let frame = k.frame in
    let goes = frames_for link mtu in
    let out : (kind : LongKind) → long_kind link mtu frame ≡ kind → flat_map goes item.frames ≡ frames_of kind link mtu frame =
    (λ kind is. ap (flat_map goes) k.only ∙ append-nil (goes frame) ∙ ap (λ n. frames_of n link mtu frame) is) in
    record {
      kept = λ none.
          let flags = unnamed item.entry.rules (cuts_some (Some mtu) link item.frames) (keeps_some_back (Some mtu) link item.frames) none in
          let cut : e_cut link mtu frame ≡ false = sym (ap (list_any (e_cut link mtu)) k.only ∙ or-false (e_cut link mtu frame)) ∙ flags.0 in
          let back : e_mtu link mtu frame ≡ false = sym (ap (list_any (e_mtu link mtu)) k.only ∙ or-false (e_mtu link mtu frame)) ∙ flags.1 in
          let fits = fits_kind (is_long link mtu frame) (may_be_cut (packet_in link frame)) cut back in
          record {
            frame = frame;
            only = out Fits fits;
            same = k.same;
            whole = λ pass. k.whole ((λ i. verdict_cut ((sym flags.0) i) ((sym flags.1) i) item.entry.verdict) ∙ pass);
          };
      cut = λ is.
          let here : e_cut link mtu frame ≡ true = sym (ap (list_any (e_cut link mtu)) k.only ∙ or-false (e_cut link mtu frame)) ∙ is in
          let kind = cut_kind link mtu frame here in
          let to_be : IsToBeCut link mtu frame = record {
            sent = first (IsSent link) frame [] (subst (All (IsSent link)) k.only sent);
            octets = first AreOctets frame [] (subst (All AreOctets) k.only octets);
            cut = kind;
            least = range.0;
            most = omega (arith, most);
          } in
          ap (flat_map (cuts.payload_in link)) (out Cut kind) ∙ carry link mtu frame to_be ∙ same_payload link mtu frame here ∙ k.same;
    }

pub clean_written : CarryThePayload → PlainHeadersAreWhole → (settings : PlainSettings) (link : Link) (trace : List Item) → InRange settings.mtu → AllByRecursion (IsOutgoing link) trace
    → HaveFrameOctets settings.mtu trace → CleanIsKept settings link trace → CleanIsWritten settings link trace
clean_written carry whole settings link [] range each octets kept = tt
clean_written carry whole settings link (item ∷ older) range each octets kept = (
  clean_written carry whole settings link older range each.1 octets.1 kept.0,
  λ clean. writes_payload carry settings.mtu link item range (all_sent whole link item.frames each.0.each) octets.0 (kept.1 clean),
)

-- The frames that are written of a lawful trace: none is too long for a capture, and those written
-- inwards are plain.

-- a frame with an MTU in its range, which may be written
record MayBeCut (link : Link) (mtu : ℕ) (frame : List ℕ) : Type 0 where
  sent : IsSent link frame
  octets : AreOctets frame
  least : 576 ≤ mtu
  most : mtu ≤ 65535

to_be_cut : (link : Link) (mtu : ℕ) (frame : List ℕ) → MayBeCut link mtu frame → long_kind link mtu frame ≡ Cut → IsToBeCut link mtu frame
to_be_cut link mtu frame may is = let most = may.most in record { sent = may.sent; octets = may.octets; cut = is; least = may.least; most = omega (arith, most) }

-- all frames of an item
may_all : (link : Link) (mtu : ℕ) (frames : List (List ℕ)) → InRange (Some mtu) → All (IsSent link) frames → All AreOctets frames → AllByRecursion (MayBeCut link mtu) frames
may_all link mtu [] range sent octets = tt
may_all link mtu (frame ∷ frames) range sent octets = (
  record { sent = sent 0 frame (omega arith); octets = octets 0 frame (omega arith); least = range.0; most = range.1 },
  may_all link mtu frames range (λ k d l. sent (suc k) d (omega (arith, l))) (λ k d l. octets (suc k) d (omega (arith, l))),
)

-- what holds for the frames that are written for each frame holds for all
each_for : (P : List ℕ → Type 0) (Q : List ℕ → Type 0) (link : Link) (mtu : ℕ) → ((frame : List ℕ) → MayBeCut link mtu frame → Q frame → AllByRecursion P (frames_for link mtu frame))
    → (frames : List (List ℕ)) → AllByRecursion (MayBeCut link mtu) frames → AllByRecursion Q frames → AllByRecursion P (flat_map (frames_for link mtu) frames)
each_for P Q link mtu one [] may all = tt
each_for P Q link mtu one (frame ∷ frames) may all = all-append P (frames_for link mtu frame) (flat_map (frames_for link mtu) frames) (one frame may.0 all.0) (each_for P Q link mtu one frames may.1 all.1)

-- ---- plain

plain_for : ArePlain → (hops : ℕ) (link : Link) (mtu : ℕ) (frame : List ℕ) → MayBeCut link mtu frame → Plain hops (packet_in link frame) → AllByRecursion (λ f. Plain hops (packet_in link f)) (frames_for link mtu frame)
plain_for cut hops link mtu frame may plain = by (long_kind link mtu frame) refl
  where
    by : (kind : LongKind) → long_kind link mtu frame ≡ kind → AllByRecursion (λ f. Plain hops (packet_in link f)) (frames_of kind link mtu frame)
    by Fits is = (plain, tt)
    by Drop is = tt
    by Cut is = recursion_from_All (λ f. Plain hops (packet_in link f)) _ (cut link mtu frame hops (to_be_cut link mtu frame may is) plain)

arp_for : (link : Link) (mtu : ℕ) (frame : List ℕ) → kind_of link frame ≡ Arp → AllByRecursion (λ f. kind_of link f ≡ Arp) (frames_for link mtu frame)
arp_for link mtu frame arp =
    let p = packet_in link frame in
    let fits : long_kind link mtu frame ≡ Fits = fits_by (is_long link mtu frame) (may_be_cut p) (ap (λ k. is_ip k && nat_lt mtu (ip.total_length p)) arp) in
    subst (λ kind. AllByRecursion (λ f. kind_of link f ≡ Arp) (frames_of kind link mtu frame)) (sym fits) (arp, tt)

plain_item : ArePlain → PlainHeadersAreWhole → (mtu : Option ℕ) (hops : ℕ) (link : Link) (item : Item) → InRange mtu → IsOutgoing link item → FramesHaveOctets mtu item.frames
    → IsPlainInwards hops link item → IsPlainInwards hops link (item_written mtu link item)
plain_item cut whole None hops link item range goes octets plain = record { inward = plain.inward; sideless = plain.sideless }
plain_item cut whole (Some mtu) hops link item range goes octets plain =
    let may = may_all link mtu item.frames range (all_sent whole link item.frames goes.each) octets in
    record {
      inward = λ side. each_for (λ f. Plain hops (packet_in link f)) (λ f. Plain hops (packet_in link f)) link mtu (plain_for cut hops link mtu) item.frames may (plain.inward side);
      sideless = λ side. each_for (λ f. kind_of link f ≡ Arp) (λ f. kind_of link f ≡ Arp) link mtu (λ frame may. arp_for link mtu frame) item.frames may (plain.sideless side);
    }

pub plain_written : ArePlain → PlainHeadersAreWhole → (mtu : Option ℕ) (hops : ℕ) (link : Link) (trace : List Item) → InRange mtu → AllByRecursion (IsOutgoing link) trace → HaveFrameOctets mtu trace
    → ArePlainInwards hops link trace → ArePlainInwards hops link (map (item_written mtu link) trace)
plain_written cut whole mtu hops link [] range goes octets plain = tt
plain_written cut whole mtu hops link (item ∷ older) range goes octets plain =
    (plain_item cut whole mtu hops link item range goes.0 octets.0 plain.0, plain_written cut whole mtu hops link older range goes.1 octets.1 plain.1)

-- ---- short

short_segments : (link : Link) (mtu : ℕ) (frames : List (List ℕ)) → mtu ≤ 65535 → AllByRecursion (λ f. length (packet_in link f) ≤ mtu) frames → AllByRecursion (λ f. length f ≤ 65549) frames
short_segments link mtu [] most all = tt
short_segments link mtu (frame ∷ frames) most all =
    let few = frame_few link frame in
    let one = all.0 in
    (omega (arith, few, one, most), short_segments link mtu frames most all.1)

short_for : NoCutIsLong → (link : Link) (mtu : ℕ) (frame : List ℕ) → MayBeCut link mtu frame → length frame ≤ 65549 → AllByRecursion (λ f. length f ≤ 65549) (frames_for link mtu frame)
short_for fit link mtu frame may short = by (long_kind link mtu frame) refl
  where
    by : (kind : LongKind) → long_kind link mtu frame ≡ kind → AllByRecursion (λ f. length f ≤ 65549) (frames_of kind link mtu frame)
    by Fits is = (short, tt)
    by Drop is = tt
    by Cut is = short_segments link mtu _ may.most (recursion_from_All (λ f. length (packet_in link f) ≤ mtu) _ (fit link mtu frame (to_be_cut link mtu frame may is)))

short_item : NoCutIsLong → PlainHeadersAreWhole → (mtu : Option ℕ) (link : Link) (item : Item) → InRange mtu → IsOutgoing link item → FramesHaveOctets mtu item.frames
    → HasShortFrames item → HasShortFrames (item_written mtu link item)
short_item fit whole None link item range goes octets short = short
short_item fit whole (Some mtu) link item range goes octets short =
    each_for (λ f. length f ≤ 65549) (λ f. length f ≤ 65549) link mtu (short_for fit link mtu) item.frames (may_all link mtu item.frames range (all_sent whole link item.frames goes.each) octets) short

pub short_written : NoCutIsLong → PlainHeadersAreWhole → (mtu : Option ℕ) (link : Link) (trace : List Item) → InRange mtu → AllByRecursion (IsOutgoing link) trace → HaveFrameOctets mtu trace
    → AllByRecursion HasShortFrames trace → AllByRecursion HasShortFrames (map (item_written mtu link) trace)
short_written fit whole mtu link [] range goes octets short = tt
short_written fit whole mtu link (item ∷ older) range goes octets short =
    (short_item fit whole mtu link item range goes.0 octets.0 short.0, short_written fit whole mtu link older range goes.1 octets.1 short.1)

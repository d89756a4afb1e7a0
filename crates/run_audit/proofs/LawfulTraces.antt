-- Each frame of a lawful trace belongs to the entry of its own item, and has no fault; so the audit
-- answers yes.
use Rattle.std.proofs.Common.{◌≡◌, ℕ, zero, suc, ◌≤◌, ◌==◌, ◌&&◌, not, cond, Bool, true, false, List, [], ◌∷◌, ◌++◌, length, map, reverse, replicate, Option, Some, None, refl, sym, ap, ap₂, ◌∙◌, subst, arith, append-nil, append_assoc, length-append, eq-eqb, slice_get, if◌then◌else◌, All, IsSome, is_ok}
use Rattle.std.specs.List.{AllByRecursion}
use Rattle.std.proofs.lemmas.Bool.Decides.{nat_tests}
use Rattle.std.proofs.lemmas.List.{reverse-append, length-reverse}
use Rattle.std.proofs.lemmas.List.Concat.{flat_map-append}
use Rattle.std.proofs.lemmas.List.Elements.{All-drop, recursion_from_All}
use Rattle.std.proofs.Math.Seq.{drop-append_seam}
use Rattle.wire_base.specs.ParseResults.{value_or_fault}
use Rattle.wire_base.specs.declared.address.Link.{Link}
use Rattle.wire_base.specs.declared.address.Side.{Side}
use Rattle.wire_base.specs.declared.address.Side.TheVariants.{Inward, Outward}
use Rattle.wire_base.specs.Frames.{packet_in}
use Rattle.wire_base.specs.Ipv4 as ip
use Rattle.wire_base.specs.Tcp as tcp
use Rattle.wire_base.specs.Plain.{Plain}
use Rattle.wire_base.specs.Segments.{Written, segment_of}
use Rattle.ipv4_codec.specs.HeaderFields as header
use Rattle.ipv4_codec.specs.declared.header.IpFault.TheVariants as ip_faults
use Rattle.tcp_codec.specs.HeaderFields as segment
use Rattle.tcp_codec.specs.declared.header.SumRule.TheVariants.{Skip}
use Rattle.tcp_codec.specs.declared.header.TcpFault.TheVariants as tcp_faults
use Rattle.rule_book.specs.Entries.{PlainEntry}
use Rattle.norm_settings.specs.SettingValues.{PlainSettings}
use Rattle.ip_rules.specs.RuleRows as engine_rows
use Rattle.era_state.specs.Emission.{AreEmitted}
use Rattle.era_agreement.specs.SentPackets.{is_era, aside_packets, written_as, segments_in, written_in}
use Rattle.era_agreement.specs.Agreement.{IsSilentPacket}
use Rattle.era_agreement.specs.AgreementLaws.{IsEmittedEra}
use Rattle.tcp_norm.specs.Calls.{is_written}
use Rattle.norm_engine.specs.Items.{Item, entries}
use Rattle.norm_engine.specs.Agreement.{sent_in}
use Rattle.norm_engine.specs.TraceLaws.{IsSound, ItemsAreCounted}
use Rattle.norm_engine.specs.CertainReading as engine
use Rattle.norm_engine.specs.CertainReading.{IsWholeSegment, ItemsAreCertain, LawfulIsEmitted}
use Rattle.norm_engine.proofs.ItemFrames.{none_before}
use Rattle.run_audit.specs.EmittedFrames.{Marked, IsCertain, NoneAcksUnbased, EmittedHasNoFault, frames_in, sent_as}
use Rattle.run_audit.specs.FrameFaults.{is_segment, IsWellReadAs}
use Rattle.run_audit.specs.FirstFault.{AreFaultless, NoFault}
use Rattle.run_audit.specs.OwnedFrames.{Frame, frame_of, is_inward, owned, owners, with_frame}
use Rattle.run_audit.specs.LawfulFiles.{ResetsAreLast, frames_written, entries_written, LawfulHasNoFault, LawfulIsYes}
use Rattle.run_audit.proofs.Resets.{unbased_acks}

-- the frames of one entry after others, each marked by the verdict of its item

marked_onto : Link → PlainEntry → (written : Bool) → List (List ℕ) → List Marked → List Marked
marked_onto link entry written [] older = older
marked_onto link entry written (octets ∷ more) older = marked_onto link entry written more (record { frame = frame_of link octets entry; written = written } ∷ older)

marked : Link → List Item → List Marked
marked link [] = []
marked link (item ∷ older) = marked_onto link item.entry (is_written item.entry.verdict) item.frames (marked link older)

frames_onto : Link → PlainEntry → List (List ℕ) → List Frame → List Frame
frames_onto link entry [] older = older
frames_onto link entry (octets ∷ more) older = frames_onto link entry more (frame_of link octets entry ∷ older)

frames_marked : (link : Link) (entry : PlainEntry) (written : Bool) (frames : List (List ℕ)) (older : List Marked)
    → frames_in (marked_onto link entry written frames older) ≡ frames_onto link entry frames (frames_in older)
unfolding marked_onto frames_onto
frames_marked link entry written [] older = refl
frames_marked link entry written (octets ∷ more) older = frames_marked link entry written more (record { frame = frame_of link octets entry; written = written } ∷ older)

-- each frame belongs to its own entry

-- the owner after others
slice_behind : (os more : List PlainEntry) (e : PlainEntry) (n : ℕ) → n ≡ length os → slice_get (os ++ e ∷ more) n ≡ Some e
slice_behind [] more e zero h = refl
slice_behind [] more e (suc n) h = absurd (omega arith)
slice_behind (o ∷ os) more e zero h = absurd (omega arith)
slice_behind (o ∷ os) more e (suc n) h = slice_behind os more e n (omega (arith, h))

slice_before : (os more : List PlainEntry) (n : ℕ) → suc n ≤ length os → slice_get (os ++ more) n ≡ slice_get os n
slice_before [] more n h = absurd (omega arith)
slice_before (o ∷ os) more zero h = refl
slice_before (o ∷ os) more (suc n) h = slice_before os more n (omega (arith, h))

owned_before : (link : Link) (os more : List PlainEntry) (frames : List (List ℕ)) → length frames ≤ length os → owned link (os ++ more) frames ≡ owned link os frames
owned_before link os more [] h = refl
owned_before link os more (octets ∷ older) h =
    ap₂ (λ o fs. with_frame link octets o fs) (slice_before os more (length older) h) (owned_before link os more older (omega (arith, h)))

owned_one : (link : Link) (os : List PlainEntry) (e : PlainEntry) (octets : List ℕ) (older : List (List ℕ)) → length older ≡ length os
    → owned link (os ++ e ∷ []) (octets ∷ older) ≡ frame_of link octets e ∷ owned link os older
owned_one link os e octets older h =
    ap₂ (λ o fs. with_frame link octets o fs) (slice_behind os [] e (length older) h) (owned_before link os (e ∷ []) older (omega (arith, h)))

reverse_one : (x : List ℕ) (xs ys : List (List ℕ)) → reverse (x ∷ xs) ++ ys ≡ reverse xs ++ (x ∷ ys)
reverse_one x xs ys = ap (λ zs. zs ++ ys) (reverse-append (x ∷ []) xs) ∙ append_assoc (reverse xs) (x ∷ []) ys

owned_onto : (link : Link) (e : PlainEntry) (frames : List (List ℕ)) (os : List PlainEntry) (older : List (List ℕ)) → length older ≡ length os
    → owned link (os ++ replicate (length frames) e) (reverse frames ++ older) ≡ frames_onto link e frames (owned link os older)
unfolding frames_onto
owned_onto link e [] os older h = ap (λ xs. owned link xs older) (append-nil os)
owned_onto link e (octets ∷ more) os older h =
    (λ i. owned link (sym (append_assoc os (e ∷ []) (replicate (length more) e)) i) (reverse_one octets more older i))
    ∙ owned_onto link e more (os ++ e ∷ []) (octets ∷ older) (let size = length-append os (e ∷ []) in omega (arith, size, h))
    ∙ ap (frames_onto link e more) (owned_one link os e octets older h)

-- the owners of all frames of a trace, with those of its newest item
owners_with : (e : PlainEntry) (es : List PlainEntry) → owners (reverse (e ∷ es)) ≡ owners (reverse es) ++ replicate e.packets e
owners_with e es =
    ap owners (reverse-append (e ∷ []) es)
    ∙ flat_map-append (λ (x : PlainEntry). replicate x.packets x) (reverse es) (e ∷ [])
    ∙ ap (λ xs. owners (reverse es) ++ xs) (append-nil (replicate e.packets e))

replicate_long : (n : ℕ) (e : PlainEntry) → length (replicate n e) ≡ n
replicate_long zero e = refl
replicate_long (suc n) e = ap suc (replicate_long n e)

-- each entry has the number of the frames of its item
AreCounted : List Item → Type 0
AreCounted [] = Unit {0}
AreCounted (item ∷ older) = AreCounted older × (item.entry.packets ≡ length item.frames)

as_many : (trace : List Item) → AreCounted trace → length (frames_written trace) ≡ length (owners (entries_written trace))
unfolding AreCounted
as_many [] c = refl
as_many (item ∷ older) c =
    let none_before = as_many older c.0 in
    let counted = c.1 in
    let frames = length-append (reverse item.frames) (frames_written older) in
    let turned = length-reverse item.frames in
    let with_item = ap length (owners_with item.entry (entries older)) in
    let both = length-append (owners (entries_written older)) (replicate item.entry.packets item.entry) in
    let long = replicate_long item.entry.packets item.entry in
    omega (arith, none_before, counted, frames, turned, with_item, both, long)

owned_is : (link : Link) (trace : List Item) → AreCounted trace → frames_in (marked link trace) ≡ owned link (owners (entries_written trace)) (frames_written trace)
unfolding AreCounted marked
owned_is link [] c = refl
owned_is link (item ∷ older) c =
    frames_marked link item.entry (is_written item.entry.verdict) item.frames (marked link older)
    ∙ ap (frames_onto link item.entry item.frames) (owned_is link older c.0)
    ∙ sym (owned_onto link item.entry item.frames (owners (entries_written older)) (frames_written older) (as_many older c.0))
    ∙ ap (λ n. owned link (owners (entries_written older) ++ replicate n item.entry) (frames_written (item ∷ older))) (sym c.1)
    ∙ ap (λ os. owned link os (frames_written (item ∷ older))) (sym (owners_with item.entry (entries older)))

-- the segments written are those of the items

same_side : (side : Option Side) → engine_rows.is_inward side ≡ is_inward side
same_side (Some Inward) = refl
same_side (Some Outward) = refl
same_side None = refl

abbrev if_named : Bool → List Written → List Written
if_named b xs = if b then xs else []

written_onto : (link : Link) (era : ℕ) (entry : PlainEntry) (written : Bool) (frames : List (List ℕ)) (older : List Marked)
    → written_in era (map sent_as (marked_onto link entry written frames older))
    ≡ written_in era (map sent_as older) ++ if_named (is_era era entry.era && written) (segments_in (is_inward entry.side) (map (packet_in link) frames))
unfolding marked_onto
written_onto link era entry written [] older = by (is_era era entry.era && written)
  where
    by : (b : Bool) → written_in era (map sent_as older) ≡ written_in era (map sent_as older) ++ if_named b []
    by true = sym (append-nil (written_in era (map sent_as older)))
    by false = sym (append-nil (written_in era (map sent_as older)))
written_onto link era entry written (octets ∷ more) older =
    written_onto link era entry written more (record { frame = frame_of link octets entry; written = written } ∷ older) ∙ by (is_era era entry.era && written)
  where
    by : (b : Bool) → (written_in era (map sent_as older) ++ if_named b (written_as (is_inward entry.side) (segment_of (packet_in link octets)) ++ [])) ++ if_named b (segments_in (is_inward entry.side) (map (packet_in link) more))
        ≡ written_in era (map sent_as older) ++ if_named b (segments_in (is_inward entry.side) (map (packet_in link) (octets ∷ more)))
    by true =
        let ws = written_in era (map sent_as older) in
        let one = written_as (is_inward entry.side) (segment_of (packet_in link octets)) in
        let rest = segments_in (is_inward entry.side) (map (packet_in link) more) in
        ap (λ xs. (ws ++ xs) ++ rest) (append-nil one) ∙ append_assoc ws one rest
    by false = append-nil (written_in era (map sent_as older) ++ [])

written_same : (link : Link) (era : ℕ) (trace : List Item) → written_in era (map sent_as (marked link trace)) ≡ written_in era (sent_in link trace)
unfolding marked
written_same link era [] = refl
written_same link era (item ∷ older) =
    written_onto link era item.entry (is_written item.entry.verdict) item.frames (marked link older)
    ∙ ap₂ (λ xs inward. xs ++ if_named (is_era era item.entry.era && is_written item.entry.verdict) (segments_in inward (map (packet_in link) item.frames)))
    (written_same link era older) (sym (same_side item.entry.side))

-- the headers of a whole segment have no fault
module _ (p : List ℕ) (s : IsWholeSegment p) where
  abbrev m : List ℕ
  m = ip.payload p

  header_read : is_ok (header.parsed p) ≡ true
  header_read =
      let long = s.header.whole_header in
      let size = s.header.header_length in
      let total = s.header.total_length in
      let short : ip.is_short p ≡ false = grind (arith, nat_tests, long) in
      let version : ip.has_other_version p ≡ false = ap (λ n. not (n == 4)) s.header.version in
      let first : ip.has_bad_header_length p ≡ false = grind (arith, nat_tests, long, size) in
      let whole : ip.has_bad_total_length p ≡ false = grind (arith, nat_tests, long, size, total) in
      let sum : ip.has_wrong_sum p ≡ false = ap not s.header.sum in
      λ i. is_ok (value_or_fault (header.fields_of p)
      (cond (short i) (Some ip_faults.Short) (cond (version i) (Some ip_faults.Version) (cond (first i) (Some ip_faults.HeaderLength) (cond (whole i) (Some ip_faults.Length) (cond (sum i) (Some ip_faults.Sum) None))))))

  segment_read : is_ok (segment.parsed Skip 0 m) ≡ true
  segment_read =
      let least = s.least in
      let inside = s.inside in
      let short : tcp.is_short m ≡ false = grind (arith, nat_tests, least, inside) in
      let first : tcp.has_bad_header_length m ≡ false = grind (arith, nat_tests, least, inside) in
      let legal : tcp.has_illegal_flags m ≡ false = ap not s.legal in
      let formed : tcp.has_bad_options m ≡ false = ap not s.formed in
      λ i. is_ok (value_or_fault (segment.fields_of 0 m)
      (cond (short i) (Some tcp_faults.Short) (cond (first i) (Some tcp_faults.DataOffset) (cond (legal i) (Some tcp_faults.Flags) (cond (formed i) (Some tcp_faults.Options) None)))))

  is_read : is_segment p ≡ true
  is_read = λ i. header_read i && (s.protocol i == 6) && segment_read i

-- the facts about the frames of an item
module _ (hops : ℕ) (link : Link) (item : Item) (older : List Item) (certain : engine.IsCertain hops link item)
    (emitted : (era : ℕ) → IsEmittedEra hops era (sent_in link (item ∷ older))) where
  abbrev side : Option Side
  side = item.entry.side

  abbrev era : Option ℕ
  era = item.entry.era

  -- the facts about one frame
  record OneIs (octets : List ℕ) : Type 0 where
    plain : side ≡ Some Inward → Plain hops (packet_in link octets)
    whole : IsSome era → IsWholeSegment (packet_in link octets)
    silent : is_written item.entry.verdict ≡ false → side ≡ Some Inward → IsSome era → IsSilentPacket (packet_in link octets)

  -- frames that are no written segments have no SYN, no FIN and no octets
  silent_ones : is_written item.entry.verdict ≡ false → side ≡ Some Inward → (number : ℕ) → era ≡ Some number → All IsSilentPacket (map (packet_in link) item.frames)
  silent_ones unwritten inward number named =
      let xs = aside_packets number (sent_in link older) in
      let here : (if is_era number era && engine_rows.is_inward side && not (is_written item.entry.verdict) then map (packet_in link) item.frames else []) ≡ map (packet_in link) item.frames =
      (λ i. if is_era number (named i) && engine_rows.is_inward (inward i) && not (unwritten i) then map (packet_in link) item.frames else [])
      ∙ ap (λ b. if b && true && true then map (packet_in link) item.frames else []) (eq-eqb number number refl) in
      let all = (emitted number).silent in
      subst (All IsSilentPacket) (drop-append_seam xs _ ∙ here) (All-drop IsSilentPacket (length xs) (xs ++ _) all)

  each_one : (frames : List (List ℕ)) → (side ≡ Some Inward → AllByRecursion (λ f. Plain hops (packet_in link f)) frames) → (IsSome era → AllByRecursion (λ f. IsWholeSegment (packet_in link f)) frames)
      → (is_written item.entry.verdict ≡ false → side ≡ Some Inward → IsSome era → AllByRecursion IsSilentPacket (map (packet_in link) frames)) → AllByRecursion OneIs frames
  each_one [] plain whole silent = tt
  each_one (f ∷ fs) plain whole silent = (
    record { plain = λ e. (plain e).0; whole = λ e. (whole e).0; silent = λ u e n. (silent u e n).0 },
    each_one fs (λ e. (plain e).1) (λ e. (whole e).1) (λ u e n. (silent u e n).1),
  )

  -- so the frame is well read, and silent unless it is a written segment
  certain_one : (octets : List ℕ) → OneIs octets → IsCertain hops (record { frame = frame_of link octets item.entry; written = is_written item.entry.verdict })
  certain_one octets one = record {
    read = by side refl;
    silent = one.silent;
    outward = λ unwritten outward there. let written = certain.written outward there in absurd (cc (unwritten, written));
  }
    where
      none : (named : Option ℕ) → era ≡ named → side ≡ None → named ≡ None
      none None e s = refl
      none (Some n) e s =
          let there : IsSome era = ap (λ (o : Option ℕ). elim o as (λ _. Bool) [ Some k ↦ true | None ↦ false ]) e in
          let told = certain.sided there in
          absurd (cc (s, told))

      by : (s : Option Side) → side ≡ s → IsWellReadAs hops (packet_in link octets) s era
      by (Some Inward) s = (one.plain s, λ there. (one.whole there).protocol)
      by (Some Outward) s = λ there. is_read (packet_in link octets) (one.whole there)
      by None s = none era refl s

  onto : (frames : List (List ℕ)) (none_before : List Marked) → AllByRecursion OneIs frames → AllByRecursion (IsCertain hops) none_before
      → AllByRecursion (IsCertain hops) (marked_onto link item.entry (is_written item.entry.verdict) frames none_before)
  unfolding marked_onto
  onto [] none_before all certain_before = certain_before
  onto (f ∷ fs) none_before all certain_before = onto fs (record { frame = frame_of link f item.entry; written = is_written item.entry.verdict } ∷ none_before) all.1 (certain_one f all.0, certain_before)

  all_certain : (none_before : List Marked) → AllByRecursion (IsCertain hops) none_before → AllByRecursion (IsCertain hops) (marked_onto link item.entry (is_written item.entry.verdict) item.frames none_before)
  all_certain none_before h = onto item.frames none_before (each_one item.frames certain.plain certain.segments silent) h
    where
      silent : is_written item.entry.verdict ≡ false → side ≡ Some Inward → IsSome era → AllByRecursion IsSilentPacket (map (packet_in link) item.frames)
      silent unwritten inward there = at era refl there
        where
          at : (o : Option ℕ) → era ≡ o → IsSome o → AllByRecursion IsSilentPacket (map (packet_in link) item.frames)
          at None e s = absurd (cc s)
          at (Some n) e s = recursion_from_All IsSilentPacket (map (packet_in link) item.frames) (silent_ones unwritten inward n e)

-- the laws that are cited
pub record Laws : Type 0 where
  pub counted : ItemsAreCounted
  pub certain : ItemsAreCertain
  pub emitted : LawfulIsEmitted
  pub faultless : EmittedHasNoFault
  pub resets : ResetsAreLast

all_marked : Laws → (settings : PlainSettings) (link : Link) (trace : List Item) → IsSound settings link trace → AllByRecursion (IsCertain settings.hops) (marked link trace)
unfolding marked
all_marked laws settings link [] sound = tt
all_marked laws settings link (item ∷ older) sound =
    all_certain settings.hops link item older
    (subst (engine.IsCertain settings.hops link) (sym sound.lawful.1) (laws.certain settings link older item.packet sound.hops sound.octets.0 sound.octets.1))
    (laws.emitted settings link (item ∷ older) sound)
    (marked link older) (all_marked laws settings link older (none_before settings link item older sound))

all_counted : Laws → (settings : PlainSettings) (link : Link) (trace : List Item) → IsSound settings link trace → AreCounted trace
unfolding AreCounted
all_counted laws settings link [] sound = tt
all_counted laws settings link (item ∷ older) sound = (
  all_counted laws settings link older (none_before settings link item older sound),
  subst (λ (x : Item). x.entry.packets ≡ length x.frames) (sym sound.lawful.1) (laws.counted settings link older item.packet).packets,
)

pub no_fault : Laws → LawfulHasNoFault
no_fault laws settings link trace sound =
    let counted = all_counted laws settings link trace sound in
    record {
      as_many = as_many trace counted;
      faultless =
          subst (AreFaultless settings.hops) (owned_is link trace counted)
          (laws.faultless settings.hops (marked link trace) (record {
            certain = all_marked laws settings link trace sound;
            emitted = λ era. subst (AreEmitted []) (sym (written_same link era trace)) (laws.emitted settings link trace sound era).emitted;
            acks = λ era. subst NoneAcksUnbased (sym (written_same link era trace)) (unbased_acks (written_in era (sent_in link trace)) (laws.resets settings link trace sound era));
          }));
    }

pub is_yes : LawfulHasNoFault → LawfulIsYes
is_yes none settings head trace packets report capture sound is same finished = record {
  entries = entries_written trace;
  finished = finished;
  sound = record {
    head = head;
    accepted = is.accepted;
    behind = record { packets = packets; reads = is.whole; none = subst (NoFault settings.hops head.link (entries_written trace)) (sym same) (none settings head.link trace sound); count = refl };
  };
  eras_are = refl;
}

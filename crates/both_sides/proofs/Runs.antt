-- A run by one engine or two: what they represent after each record, whose trace the outputs are,
-- and that records have one run.
use Rattle.std.proofs.Common.{◌≡◌, ℕ, ◌+◌, Bool, true, false, List, [], ◌∷◌, ◌++◌, length, take, drop, refl, sym, ap, ap₂, subst, ◌∙◌, arith, append_assoc, Option, Result, map, suc, append-nil, flat_map}
use Rattle.std.proofs.Math.Seq.{drop-append_seam}
use Rattle.std.proofs.lemmas.List.{length-append, length-map, take_at}
use Rattle.std.proofs.lemmas.Grind.{flat_map-append}
use Rattle.wire_base.specs.declared.address.Link.{Link}
use Rattle.pcap_file.specs.declared.record.Order.{Order}
use Rattle.pcap_file.specs.Records.{Packet, record_octets}
use Rattle.rule_book.specs.Text.{entry_text, lines_text, last_text}
use Rattle.norm_settings.specs.SettingValues.{PlainSettings, AreInRange}
use Rattle.norm_engine.specs.Items.{Item, entries, packets, frame_count}
use Rattle.norm_engine.specs.Trace.{Lawful, item_of}
use Rattle.norm_engine.specs.EngineState.{Engaged}
use Rattle.norm_engine.specs.EngineState as single
use Rattle.norm_engine.specs.TraceLaws.{IsSound, LawfulIsWithin, LawfulKeepsClean, LawfulMissesNothing, LawfulIsOne, LawfulReadsOneStream}
use Rattle.norm_engine.specs.SentFrames.{LawfulIsPlainInwards, LawfulIsShort}
use Rattle.both_sides.specs.Traces.{behind, mirrored, record_of, records_for, records_of}
use Rattle.norm_engine.specs.WrittenTrace.{item_written, written, LawfulIsWrittenSoundly}
use Rattle.both_sides.specs.Frames.{frames_octets, item_octets}
use Rattle.both_sides.specs.RunLaws.{Begins, PutsItsTrace, RunsGoOn, RunsAreWrittenSoundly, LawfulRunsAreOne, TwoPutTheirMirror}
use Rattle.both_sides.specs.Outputs.{heading}
use Rattle.both_sides.specs.RecordOutputs.{count_put, octets_put, put_by_two, puts, puts_by_two, text_put, next_put, answers_frames, put_octets}
use Rattle.both_sides.specs.RunTraces.{answers, empty_run, one, two, RunHasOctets, RunTrace, next_run}
use Rattle.both_sides.specs.TwoEngines.{Joined}
use Rattle.both_sides.specs.TwoEngines as double
use Rattle.both_sides.specs.EngineLaws.{AreSound, BothAgree, FramesGoThrough}
use Rattle.both_sides.specs.declared.engines.Engines.{Engines}
use Rattle.both_sides.specs.declared.engines.Engines.TheVariants.{One, Two}
use Rattle.both_sides.specs.declared.fault.RelayFault.{RelayFault}
use Rattle.both_sides.specs.working.RelayState.{CanRead, IsKept, IsReady}
use Rattle.both_sides.specs.RelayState.{StandsForRun, link_of, settings_of}
use Rattle.both_sides.specs.Sinks.{Sinks}
use Rattle.both_sides.specs.working.RecordEffects.{HasRead, HaveRead}
use Rattle.both_sides.specs.WrittenRecord.{IsWritten}

-- How a run continues from record to record.

-- ---- the items of the second engine for the frames of a record

module _ (settings : PlainSettings) (link : Link) where
  abbrev told : List Item → Packet → Item
  told mirror r = item_of (mirrored settings) link mirror r

  -- its items, oldest first
  apart : (mirror : List Item) (r : Packet) (more : List Packet)
      → answers settings link mirror (r ∷ more) ++ mirror ≡ answers settings link (told mirror r ∷ mirror) more ++ (told mirror r ∷ mirror)
  apart mirror r more = append_assoc (answers settings link (told mirror r ∷ mirror) more) (told mirror r ∷ []) mirror

  answers_lawful : (mirror : List Item) (records : List Packet) → Lawful (mirrored settings) link mirror → Lawful (mirrored settings) link (answers settings link mirror records ++ mirror)
  answers_lawful mirror [] lawful = lawful
  answers_lawful mirror (r ∷ more) lawful = subst (Lawful (mirrored settings) link) (sym (apart mirror r more)) (answers_lawful (told mirror r ∷ mirror) more (lawful, refl))

  answers_handed : (mirror : List Item) (records : List Packet) → packets (answers settings link mirror records ++ mirror) ≡ behind records (packets mirror)
  answers_handed mirror [] = refl
  answers_handed mirror (r ∷ more) = ap packets (apart mirror r more) ∙ answers_handed (told mirror r ∷ mirror) more

  length-answers : (mirror : List Item) (records : List Packet) → length (answers settings link mirror records) ≡ length records
  length-answers mirror [] = refl
  length-answers mirror (r ∷ more) =
      let size = length-append (answers settings link (told mirror r ∷ mirror) more) (told mirror r ∷ []) in
      let left = length-answers (told mirror r ∷ mirror) more in
      omega (arith, size, left)

-- the first of two lists, and the second
first_taken : {X : Type 0} (xs ys : List X) (n : ℕ) → n ≡ length xs → take n (xs ++ ys) ≡ xs
first_taken xs ys n is = take_at xs ys n (sym is)

others_left : {X : Type 0} (xs ys : List X) (n : ℕ) → n ≡ length xs → drop n (xs ++ ys) ≡ ys
others_left xs ys n is = ap (λ k. drop k (xs ++ ys)) is ∙ drop-append_seam xs ys

-- ---- runs

pub begun : (settings : PlainSettings) (link : Link) (both : Bool) → settings.both ≡ both → Begins settings link (empty_run both)
begun settings link false is = record { lawful = (is, tt); taken = refl; put = refl; octets = (tt, tt); sideless = tt }
begun settings link true is = record { lawful = (is, record { first = tt; second = tt; handed = refl }); taken = refl; put = refl; octets = (tt, tt); sideless = tt }

pub goes_on : RunsGoOn
goes_on settings link (one trace) r = record { lawful = λ l. (l.0, (l.1, refl)); taken = refl; put = refl; sideless = λ s e. tt }
goes_on settings link (two trace mirror) r =
    let item = item_of settings link trace r in
    let records = records_for item in
    let more = answers settings link mirror records in
    let size : length item.frames ≡ length more = sym (length-answers settings link mirror records ∙ length-map item.frames (record_of r.seconds r.fraction)) in
    record {
      lawful = λ l. (
        l.0,
        record {
          first = (l.1.first, refl);
          second = answers_lawful settings link mirror records l.1.second;
          handed = answers_handed settings link mirror records ∙ ap (behind records) l.1.handed;
        },
      );
      taken = refl;
      put = ap₂ (λ xs ys. put_by_two item xs ∷ puts_by_two trace ys) (first_taken more mirror (length item.frames) size) (others_left more mirror (length item.frames) size);
      sideless = λ s e. (s, e);
    }

-- ---- by one engine

module _ (settings : PlainSettings) (link : Link) where
  octets_are : (order : Order) (trace : List Item) → octets_put order (puts settings link (one trace)) ≡ frames_octets order (written settings link trace)
  octets_are order [] = refl
  octets_are order (item ∷ older) = ap (λ l. l ++ item_octets order (item_written settings.mtu link item)) (octets_are order older)

  count_is : (trace : List Item) → count_put (puts settings link (one trace)) ≡ frame_count (written settings link trace)
  count_is [] = refl
  count_is (item ∷ older) = ap (λ n. n + length (item_written settings.mtu link item).frames) (count_is older)

  text_is : (trace : List Item) → text_put (puts settings link (one trace)) ≡ lines_text (entries (written settings link trace))
  text_is [] = refl
  text_is (item ∷ older) = ap (λ l. l ++ entry_text (item_written settings.mtu link item).entry) (text_is older)

  pub puts_trace : (trace : List Item) → PutsItsTrace settings link trace
  puts_trace trace = record {
    octets = λ order. octets_are order trace;
    count = count_is trace;
    report = λ last. ap (λ l. heading false ++ l ++ last_text last) (text_is trace);
  }

-- What one engine or two represent, and what is written of a run.

-- ---- before the first record

pub no_octets : (settings : PlainSettings) (both : Bool) → RunHasOctets settings (empty_run both)
no_octets settings false = (tt, tt)
no_octets settings true = (tt, tt)

no_record : (pending older : List Packet) → [] ≡ behind pending older → (pending ≡ []) × (older ≡ [])
no_record [] older is = (refl, sym is)
no_record (r ∷ more) older is = let some : r ∷ older ≡ [] = (no_record more (r ∷ older) is).1 in absurd (cc)

pub ready_first : (engines : Engines) (settings : PlainSettings) (both : Bool) (mtu : Option ℕ) → settings_of engines ≡ settings → AreInRange settings
    → StandsForRun engines (empty_run both) → settings.mtu ≡ mtu → IsReady engines mtu
ready_first (One engine) settings both mtu same range stands bound = (ap (λ (s : PlainSettings). s.mtu) same ∙ bound, subst AreInRange (sym same) range)
ready_first (Two joined) settings false mtu same range stands bound = absurd stands
ready_first (Two joined) settings true mtu same range stands bound = ap length (no_record joined.pending [] stands.handed).0

-- ---- one engine and a record

-- an engine that is kept can read
pub can_read : (engine : Engaged) (mtu : Option ℕ) (link : Link) → engine.link ≡ link → IsReady (One engine) mtu
    → (run : RunTrace) → StandsForRun (One engine) run → RunHasOctets engine.settings run → CanRead engine mtu link
can_read engine mtu link same ready (one trace) stands octets =
    record { bound = ready.0; same = same; range = ready.1; history = trace; stands = stands; octets = octets.0 }
can_read engine mtu link same ready (two trace mirror) stands octets = absurd stands

module _ (order : Order) (engine new : Engaged) (r : Packet) (result : Result ℕ RelayFault) (before now : Sinks)
    (read : (history : List Item) → single.StandsFor engine history → HasRead order engine new history r result before now) where
  -- each run writes its output
  pub written_one : (run : RunTrace) → StandsForRun (One engine) run → IsWritten order (next_put engine.settings engine.link run r) result before now
  written_one (one trace) s = (read trace s).written
  written_one (two trace mirror) s = absurd s

  pub stands_one : (run : RunTrace) → StandsForRun (One engine) run → StandsForRun (One new) (next_run engine.settings engine.link run r)
  stands_one (one trace) s = (read trace s).stands
  stands_one (two trace mirror) s = absurd s

  pub octets_one : (run : RunTrace) → StandsForRun (One engine) run → RunHasOctets engine.settings run → RunHasOctets engine.settings (next_run engine.settings engine.link run r)
  octets_one (one trace) s has = let said = read trace s in ((has.0, said.octets), (said.frames, has.1))
  octets_one (two trace mirror) s has = absurd s

  pub kept_one : (mtu mtu' : Option ℕ) → new.settings ≡ engine.settings → mtu' ≡ mtu → IsKept (One engine) mtu → IsKept (One new) mtu'
  kept_one mtu mtu' settled same kept = record {
    ready = (ap (λ (s : PlainSettings). s.mtu) settled ∙ kept.ready.0 ∙ sym same, subst AreInRange (sym settled) kept.ready.1);
    run = next_run engine.settings engine.link kept.run r;
    stands = stands_one kept.run kept.stands;
    octets = subst (λ s. RunHasOctets s (next_run engine.settings engine.link kept.run r)) (sym settled) (octets_one kept.run kept.stands kept.octets);
  }

-- ---- two engines and a record

module _ (order : Order) (both new : Joined) (r : Packet) (result : Result ℕ RelayFault) (before now : Sinks)
    (read : (trace mirror : List Item) → double.StandsFor both trace mirror → HaveRead order both new trace mirror r result before now) where
  pub written_two : (run : RunTrace) → StandsForRun (Two both) run → IsWritten order (next_put both.first.settings both.first.link run r) result before now
  written_two (one trace) s = absurd s
  written_two (two trace mirror) s = (read trace mirror s).written

  pub stands_two : (run : RunTrace) → StandsForRun (Two both) run → StandsForRun (Two new) (next_run both.first.settings both.first.link run r)
  stands_two (one trace) s = absurd s
  stands_two (two trace mirror) s = (read trace mirror s).stands

  pub octets_two : (settings : PlainSettings) (run : RunTrace) → StandsForRun (Two both) run → RunHasOctets settings run → RunHasOctets settings (next_run both.first.settings both.first.link run r)
  octets_two settings (one trace) s has = absurd s
  octets_two settings (two trace mirror) s has = let said = read trace mirror s in ((has.0, said.octets), (said.stands).octets)

  pub kept_two : (mtu mtu' : Option ℕ) → new.first.settings ≡ both.first.settings → length new.pending ≡ 0 → IsKept (Two both) mtu → IsKept (Two new) mtu'
  kept_two mtu mtu' settled empty kept = record {
    ready = empty;
    run = next_run both.first.settings both.first.link kept.run r;
    stands = stands_two kept.run kept.stands;
    octets = subst (λ s. RunHasOctets s (next_run both.first.settings both.first.link kept.run r)) (sym settled) (octets_two both.first.settings kept.run kept.stands kept.octets);
  }

-- ---- what is written

-- the laws that this is based on
pub record SoundLaws : Type 0 where
  pub written : LawfulIsWrittenSoundly
  pub clean : LawfulKeepsClean
  pub within : LawfulIsWithin
  pub through : FramesGoThrough
  pub agree : BothAgree
  pub reads : LawfulReadsOneStream
  pub misses : LawfulMissesNothing
  pub plain : LawfulIsPlainInwards
  pub short : LawfulIsShort

pub soundly : SoundLaws → RunsAreWrittenSoundly
soundly laws settings link (one trace) range together lawful octets sideless =
    laws.written settings link trace range (record { hops = range.hops; octets = octets.0; lawful = lawful.1 }) octets.1
soundly laws settings link (two trace mirror) range together lawful octets sideless =
    let pair : AreSound settings link trace mirror =
    record { hops = range.hops; upright = together.mirror lawful.0; octets = octets.0; sideless = sideless; frames = octets.1; lawful = lawful.1 } in
    let front : IsSound settings link trace = record { hops = range.hops; octets = octets.0; lawful = lawful.1.first } in
    let back : IsSound (mirrored settings) link mirror = record { hops = range.hops; octets = octets.1; lawful = lawful.1.second } in
    let agree = laws.agree settings link trace mirror range.hops octets.0 octets.1 lawful.1 in
    record {
      clean_kept = laws.clean settings link trace front;
      clean_kept_behind = laws.clean (mirrored settings) link mirror back;
      within = laws.within settings link trace front;
      within_behind = laws.within (mirrored settings) link mirror back;
      agree = agree.0;
      agree_behind = agree.1;
      reads = laws.reads settings link trace front;
      reads_behind = laws.reads (mirrored settings) link mirror back;
      monitor = laws.misses settings link trace front;
      monitor_behind = laws.misses (mirrored settings) link mirror back;
      through = laws.through settings link trace mirror pair;
      plain = laws.plain settings link trace front;
      plain_behind = laws.plain (mirrored settings) link mirror back;
      short = laws.short (mirrored settings) link mirror back;
    }

-- ---- engines by another name

pub written_along : (x y : Engines) → x ≡ y → (order : Order) (r : Packet) (result : Result ℕ RelayFault) (before now : Sinks)
    → ((run : RunTrace) → StandsForRun x run → IsWritten order (next_put (settings_of x) (link_of x) run r) result before now)
    → (run : RunTrace) → StandsForRun y run → IsWritten order (next_put (settings_of y) (link_of y) run r) result before now
written_along x y same order r result before now says =
    subst (λ (z : Engines). (run : RunTrace) → StandsForRun z run → IsWritten order (next_put (settings_of z) (link_of z) run r) result before now) same says

-- What two engines write is the trace of the second, and records have one lawful run.

-- ---- the items of the second engine for one record

-- each has this time
abbrev Timed : (seconds fraction : ℕ) → List Item → Type 0
Timed seconds fraction [] = Unit {0}
Timed seconds fraction (item ∷ older) = (item.packet.seconds ≡ seconds) × (item.packet.fraction ≡ fraction) × Timed seconds fraction older

timed-append : (seconds fraction : ℕ) (xs ys : List Item) → Timed seconds fraction xs → Timed seconds fraction ys → Timed seconds fraction (xs ++ ys)
timed-append seconds fraction [] ys p q = q
timed-append seconds fraction (x ∷ xs) ys p q = (p.0, p.1, timed-append seconds fraction xs ys p.2 q)

-- `count` items with this time precede those of these records
record Parted (seconds fraction count : ℕ) (mirror : List Item) (older : List Packet) : Type 0 where
  front : List Item
  back : List Item
  are : mirror ≡ front ++ back
  size : count ≡ length front
  timed : Timed seconds fraction front
  rest : packets back ≡ older

module _ (seconds fraction : ℕ) where
  one_more : (frame : List ℕ) (count : ℕ) (mirror : List Item) (older : List Packet) → Parted seconds fraction count mirror (record_of seconds fraction frame ∷ older)
      → Parted seconds fraction (suc count) mirror older
  one_more frame count mirror older p = by p.back p.are p.rest where
    by : (back : List Item) → mirror ≡ p.front ++ back → packets back ≡ record_of seconds fraction frame ∷ older → Parted seconds fraction (suc count) mirror older
    by [] are rest = absurd cc
    by (item ∷ back) are rest =
        let head : item.packet ≡ record_of seconds fraction frame = cc in
        let others : packets back ≡ older = cc in
        record {
          front = p.front ++ item ∷ [];
          back = back;
          are = are ∙ sym (append_assoc p.front (item ∷ []) back);
          size = let longer = length-append p.front (item ∷ []) in let size = p.size in omega (arith, longer, size);
          timed = timed-append seconds fraction p.front (item ∷ []) p.timed (ap (λ (r : Packet). r.seconds) head, ap (λ (r : Packet). r.fraction) head, tt);
          rest = others;
        }

  parted : (frames : List (List ℕ)) (mirror : List Item) (older : List Packet) → packets mirror ≡ behind (map (record_of seconds fraction) frames) older
      → Parted seconds fraction (length frames) mirror older
  parted [] mirror older is = record { front = []; back = mirror; are = refl; size = refl; timed = tt; rest = is }
  parted (frame ∷ more) mirror older is = one_more frame (length more) mirror older (parted more mirror (record_of seconds fraction frame ∷ older) is)

-- ---- their frames

frames_octets-append : (order : Order) (xs ys : List Item) → frames_octets order (xs ++ ys) ≡ frames_octets order ys ++ frames_octets order xs
frames_octets-append order [] ys = sym (append-nil (frames_octets order ys))
frames_octets-append order (x ∷ xs) ys =
    ap (λ l. l ++ item_octets order x) (frames_octets-append order xs ys) ∙ append_assoc (frames_octets order ys) (frames_octets order xs) (item_octets order x)

frame_count-append : (xs ys : List Item) → frame_count (xs ++ ys) ≡ frame_count ys + frame_count xs
frame_count-append [] ys = omega arith
frame_count-append (x ∷ xs) ys = let others = frame_count-append xs ys in omega (arith, others)

timed_octets : (order : Order) (seconds fraction : ℕ) (xs : List Item) → Timed seconds fraction xs
    → frames_octets order xs ≡ flat_map (λ frame. record_octets order seconds fraction frame) (answers_frames xs)
timed_octets order seconds fraction [] p = refl
timed_octets order seconds fraction (x ∷ xs) p =
    ap₂ (λ a b. a ++ b) (timed_octets order seconds fraction xs p.2) (ap₂ (λ s f. flat_map (λ frame. record_octets order s f frame) x.frames) p.0 p.1)
    ∙ sym (flat_map-append (λ frame. record_octets order seconds fraction frame) (answers_frames xs) x.frames)

count_of : (xs : List Item) → frame_count xs ≡ length (answers_frames xs)
count_of [] = refl
count_of (x ∷ xs) = let others = count_of xs in let size = length-append (answers_frames xs) x.frames in omega (arith, others, size)

-- ---- all outputs

none_left : (mirror : List Item) → packets mirror ≡ [] → mirror ≡ []
none_left [] is = refl
none_left (x ∷ xs) is = absurd cc

module _ (item : Item) (older : List Item) (mirror : List Item) (handed : packets mirror ≡ records_of (item ∷ older)) where
  abbrev parts : Parted item.packet.seconds item.packet.fraction (length item.frames) mirror (records_of older)
  parts = parted item.packet.seconds item.packet.fraction item.frames mirror (records_of older) handed

  taken : take (length item.frames) mirror ≡ parts.front
  taken = ap (take (length item.frames)) parts.are ∙ take_at parts.front parts.back (length item.frames) (sym parts.size)

  left : drop (length item.frames) mirror ≡ parts.back
  left = ap₂ drop parts.size parts.are ∙ drop-append_seam parts.front parts.back

mirror_octets : (order : Order) (trace mirror : List Item) → packets mirror ≡ records_of trace → octets_put order (puts_by_two trace mirror) ≡ frames_octets order mirror
mirror_octets order [] mirror handed = sym (ap (frames_octets order) (none_left mirror handed))
mirror_octets order (item ∷ older) mirror handed =
    let p = parts item older mirror handed in
    ap₂ (λ a b. octets_put order (puts_by_two older b) ++ put_octets order (put_by_two item a)) (taken item older mirror handed) (left item older mirror handed)
    ∙ ap₂ (λ a b. a ++ b) (mirror_octets order older p.back p.rest) (sym (timed_octets order item.packet.seconds item.packet.fraction p.front p.timed))
    ∙ sym (frames_octets-append order p.front p.back) ∙ ap (frames_octets order) (sym p.are)

mirror_count : (trace mirror : List Item) → packets mirror ≡ records_of trace → count_put (puts_by_two trace mirror) ≡ frame_count mirror
mirror_count [] mirror handed = sym (ap frame_count (none_left mirror handed))
mirror_count (item ∷ older) mirror handed =
    let p = parts item older mirror handed in
    ap₂ (λ a b. count_put (puts_by_two older b) + length (answers_frames a)) (taken item older mirror handed) (left item older mirror handed)
    ∙ ap₂ (λ a b. a + b) (mirror_count older p.back p.rest) (sym (count_of p.front))
    ∙ sym (frame_count-append p.front p.back) ∙ ap frame_count (sym p.are)

pub puts_mirror : TwoPutTheirMirror
puts_mirror settings link trace mirror lawful = record {
  octets = λ order. mirror_octets order trace mirror lawful.handed;
  count = mirror_count trace mirror lawful.handed;
}

-- ---- one lawful run

pub runs_one : LawfulIsOne → LawfulRunsAreOne
runs_one law settings link (one t) (one o) p q same = ap one (law settings settings.seed link t o p.1 q.1 same)
runs_one law settings link (one t) (two o n) p q same = absurd (let wrong : true ≡ false = sym q.0 ∙ p.0 in cc)
runs_one law settings link (two t m) (one o) p q same = absurd (let wrong : true ≡ false = sym p.0 ∙ q.0 in cc)
runs_one law settings link (two t m) (two o n) p q same =
    let firsts = law settings settings.seed link t o p.1.first q.1.first same in
    let handed : packets m ≡ packets n = p.1.handed ∙ ap records_of firsts ∙ sym q.1.handed in
    ap₂ two firsts (law (mirrored settings) settings.seed link m n p.1.second q.1.second handed)

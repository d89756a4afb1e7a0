-- The numbers in the entries of a lawful trace are in the ranges of a report, if frames and records
-- are fewer than 2^32.
use Rattle.std.proofs.Common.{◌≡◌, ℕ, ◌+◌, ◌^◌, ◌<◌, ◌≤◌, ◌==◌, ◌&&◌, ◌||◌, not, cond, Bool, true, false, List, [], ◌∷◌, ◌++◌, length, map, take, find, reverse, filter, Option, Some, None, refl, sym, subst, arith, append-nil, length-append, if◌then◌else◌, IfSome, option_map, is_some, nat_lt}
use Rattle.std.specs.List.{AllByRecursion}
use Rattle.std.specs.Option.{option_or}
use Rattle.std.proofs.lemmas.List.{length-reverse, length-map}
use Rattle.wire_base.specs.declared.address.Link.{Link}
use Rattle.wire_base.specs.Segments.{Written}
use Rattle.wire_base.specs.Tcp as tcp
use Rattle.pcap_file.specs.Records as records
use Rattle.rule_book.specs.declared.entry.Ended.{Ended}
use Rattle.rule_book.specs.declared.entry.Reason.{Reason}
use Rattle.rule_book.specs.declared.entry.Reason.TheVariants as reasons
use Rattle.rule_book.specs.declared.rule.Rule.{Rule}
use Rattle.rule_book.specs.ReportReading.{EndedFits, EntryFits}
use Rattle.rule_book.proofs.Lines.{all-append}
use Rattle.norm_settings.specs.SettingValues.{PlainSettings}
use Rattle.ip_rules.specs.Datagrams.{Datagram, Packet, goes_in}
use Rattle.era_state.specs.Emission.{AreEmitted}
use Rattle.era_state.specs.QuantityLaws.{AckedGrowsNear}
use Rattle.era_state.specs.Quantities.{base_of, octets_of, octets_with}
use Rattle.era_state.proofs.Quantities.{octets_are_below_top}
use Rattle.era_state.proofs.EmittedSegments.{bounded}
use Rattle.tcp_norm.specs.Calls.{Call, Alive, Outcome, read, is_era, is_key, is_written, eras, begun_in, datagram, key_of, live, segment_in, segments, written_by}
use Rattle.tcp_norm.specs.HeldOctets.{evictable, held_in}
use Rattle.tcp_norm.specs.LiveEras.{LivesAreLast}
use Rattle.tcp_norm.specs.Outcomes.{ends, expiry_of, outcome_by}
use Rattle.tcp_norm.specs.RuleRows as era
use Rattle.tcp_norm.specs.SegmentPackets.{CallsAreEmitted}
use Rattle.tcp_norm.specs.IdleEnds.{idled}
use Rattle.tcp_norm.specs.RuleViews.{View, head_of, idle_at, number_of, segments_of, view_of}
use Rattle.tcp_norm.proofs.Lists.{all_filter, all_map, all_weaker}
use Rattle.norm_engine.specs.Calls.{expiry_in, flow_calls, outcome_in, packet_of, segment_after, with_asked}
use Rattle.norm_engine.specs.CleanRecords.{HasOctets}
use Rattle.norm_engine.specs.Items.{Item, entries, now_with}
use Rattle.norm_engine.specs.TraceLaws.{IsSound, ItemsAreCounted, LawfulCallsAreMade}
use Rattle.norm_engine.specs.OutgoingFrames.{ItemsGoOut}
use Rattle.norm_engine.specs.Trace.{Read, begun_by, ended_by, era_by, item_of, outcome_of, read_after}
use Rattle.norm_engine.proofs.EngineStates.{few_idle}
use Rattle.norm_engine.proofs.ItemFrames.{none_before}
use Rattle.run_audit.specs.LawfulFiles.{frames_written}
use Rattle.run_audit.proofs.Ledgers.{acked_small}

-- an era has at most as many segments as there are frames, and at most as many eras begin as there
-- are records

frames_more : (item : Item) (older : List Item) → length (frames_written (item ∷ older)) ≡ length (frames_written older) + length item.frames
frames_more item older =
    let both = length-append (reverse item.frames) (frames_written older) in
    let turned = length-reverse item.frames in
    omega (arith, both, turned)

written_few : (link : Link) (item : Item) (d : Datagram) (b : Bool)
    → length (if b then map (λ (p : Packet). read (goes_in d.side) p.octets) (map (packet_of link) item.frames) else []) ≤ length item.frames
written_few link item d true =
    let outer = length-map (map (packet_of link) item.frames) (λ (p : Packet). read (goes_in d.side) p.octets) in
    let inner = length-map item.frames (packet_of link) in
    omega (arith, outer, inner)
written_few link item d false = omega arith

segments_few : (settings : PlainSettings) (link : Link) (trace : List Item) (number : ℕ) → length (segments number (flow_calls settings link trace)) ≤ length (frames_written trace)
segments_few settings link [] number = omega arith
segments_few settings link (item ∷ older) number =
    let more = frames_more item older in
    let h = segments_few settings link older number in
    let e = length-append (segments number (flow_calls settings link older)) [] in
    let k = by (segment_after settings link older item.packet) in
    omega (arith, more, h, e, k)
  where
    by : (o : Option Datagram)
        → length (segments number (with_asked o (now_with older item.packet) (outcome_in link item) (expiry_in older item ∷ flow_calls settings link older)))
        ≤ length (segments number (flow_calls settings link older) ++ []) + length item.frames
    by None = omega arith
    by (Some d) =
        let e = length-append (segments number (flow_calls settings link older) ++ []) (written_by number (datagram (now_with older item.packet) d (outcome_in link item))) in
        let k = written_few link item d (is_era number item.entry.era && is_written item.entry.verdict) in
        omega (arith, e, k)

one_at_most : (b : Bool) → (if b then 1 else 0) ≤ 1
one_at_most true = omega arith
one_at_most false = omega arith

begun_few : (settings : PlainSettings) (link : Link) (trace : List Item) → begun_in (flow_calls settings link trace) ≤ length trace
begun_few settings link [] = omega arith
begun_few settings link (item ∷ older) =
    let h = begun_few settings link older in
    let k = by (segment_after settings link older item.packet) in
    omega (arith, h, k)
  where
    by : (o : Option Datagram)
        → begun_in (with_asked o (now_with older item.packet) (outcome_in link item) (expiry_in older item ∷ flow_calls settings link older)) ≤ begun_in (flow_calls settings link older) + 1
    by None = omega arith
    by (Some d) = let k = one_at_most (is_some item.entry.begun) in omega (arith, k)

-- an era has fewer than 2^64 octets
octets_few : AckedGrowsNear → (ws : List Written) → AreEmitted [] ws → length ws < 2 ^ 32 → octets_of ws < 2 ^ 64
octets_few near ws emitted few = by (base_of ws) refl
  where
    by : (o : Option ℕ) → base_of ws ≡ o → octets_with o ws < 2 ^ 64
    by None e = omega arith
    by (Some base) e =
        let most = (octets_are_below_top base ws).most in
        let bounds = bounded base ws (λ number f. cc (e, f)) emitted in
        let top = bounds.top_in_window in
        let edge = bounds.small in
        let acked = acked_small near base ws in
        omega (arith, most, top, edge, acked, few)

-- an optional number is at most `given`, if there is one
abbrev IsGiven : (given : ℕ) → Option ℕ → Type 0
IsGiven given o = IfSome o (λ number. number ≤ given)

-- an optional number has at most 32 bits, if there is one
abbrev IsNarrow : Option ℕ → Type 0
IsNarrow o = IfSome o (λ number. number < 2 ^ 32)

given_narrow : (given : ℕ) (o : Option ℕ) → given < 2 ^ 32 → IsGiven given o → IsNarrow o
given_narrow given None few is = tt
given_narrow given (Some number) few is = omega (arith, few, is)

found_given : (given : ℕ) (q : Alive → Bool) (xs : List Alive) → AllByRecursion (λ a. a.number ≤ given) xs → IsGiven given (number_of (find q xs))
found_given given q [] all = tt
found_given given q (x ∷ xs) all = by (q x) (found_given given q xs all.1)
  where
    by : (b : Bool) → IsGiven given (number_of (find q xs)) → IsGiven given (number_of (cond b (Some x) (find q xs)))
    by true later = all.0
    by false later = later

head_given : (given : ℕ) (xs : List Alive) → AllByRecursion (λ a. a.number ≤ given) xs → IsGiven given (number_of (head_of xs))
head_given given [] all = tt
head_given given (x ∷ xs) all = all.0

-- the bounds of the calls before a record
record Before (given : ℕ) (cs : List Call) : Type 0 where
  numbers : AllByRecursion (λ a. a.number ≤ given) (eras cs)
  begun : begun_in cs ≤ given
  octets : (number : ℕ) → octets_of (segments number cs) < 2 ^ 64

-- the values that the rules read of these calls are in these bounds
record IsNear (given : ℕ) (v : View) : Type 0 where
  era : IsGiven given v.era
  evictable : IsGiven given v.evictable
  next : v.next ≤ given + 1
  octets : octets_of v.segments < 2 ^ 64
  evicted : v.evictable_octets < 2 ^ 64

view_near : (settings : PlainSettings) (cs : List Call) (d : Datagram) (given : ℕ) → Before given cs → IsNear given (view_of settings cs d)
view_near settings cs d given b = record {
  era = found_given given (λ a. is_key a.key (key_of d)) (eras cs) b.numbers;
  evictable = head_given given (evictable cs) (all_filter (λ (a : Alive). a.number ≤ given) (λ a. held_in cs a == 0) (eras cs) b.numbers);
  next = let few = b.begun in omega (arith, few);
  octets = of (live cs (key_of d));
  evicted = of (head_of (evictable cs));
}
  where
    of : (o : Option Alive) → octets_of (segments_of (λ number. segments number cs) o) < 2 ^ 64
    of None = let none : octets_of [] ≡ 0 = refl in omega (arith, none)
    of (Some a) = b.octets a.number

-- at most one era ends with a segment, and its numbers are in their ranges
record EndsOne (ended : List Ended) : Type 0 where
  few : length ended ≤ 1
  fit : AllByRecursion EndedFits ended

ends_one : (given : ℕ) (o : Option ℕ) (octets : ℕ) (reason : Reason) → given < 2 ^ 32 → IsGiven given o → octets < 2 ^ 64 → EndsOne (ends o octets reason)
ends_one given None octets reason few is fits = record { few = omega arith; fit = tt }
ends_one given (Some number) octets reason few is fits = record { few = omega arith; fit = (record { era = omega (arith, few, is); octets = fits }, tt) }

ended_one : (given : ℕ) (v : View) (again taken reset : Bool) → given < 2 ^ 32 → IsNear given v
    → EndsOne (cond again (ends v.era (octets_of v.segments) reasons.Reopened) (cond taken (ends v.evictable v.evictable_octets reasons.Evicted) (cond reset (ends v.era (octets_of v.segments) reasons.Reset) [])))
ended_one given v true taken reset few near = ends_one given v.era (octets_of v.segments) reasons.Reopened few near.era near.octets
ended_one given v false true reset few near = ends_one given v.evictable v.evictable_octets reasons.Evicted few near.evictable near.evicted
ended_one given v false false true few near = ends_one given v.era (octets_of v.segments) reasons.Reset few near.era near.octets
ended_one given v false false false few near = record { few = omega arith; fit = tt }

-- the eras of an outcome are in their ranges
record SaysFew (o : Outcome) : Type 0 where
  era : IsNarrow o.era
  begun : IsNarrow o.begun
  ended : EndsOne o.ended

outcome_few : (settings : PlainSettings) (v : View) (d : Datagram) (dropped : Option Rule) (mended : List Rule) (given : ℕ) → given + 1 < 2 ^ 32 → IsNear given v
    → SaysFew (outcome_by settings v d dropped mended)
outcome_few settings v d (Some rule) mended given few near =
    record { era = given_narrow given v.era (omega (arith, few)) near.era; begun = tt; ended = record { few = omega arith; fit = tt } }
outcome_few settings v d None mended given few near =
    let w = segment_in d in
    record {
      era = own ((era.begins v w && not (era.t_full v w)) || era.reopens v w);
      begun = next ((era.begins v w && not (era.t_full v w)) || era.reopens v w);
      ended = ended_one given v (era.reopens v w) (era.begins v w && v.is_full) (not w.inward && tcp.has_rst w.flags) (omega (arith, few)) near;
    }
  where
    next : (b : Bool) → IsNarrow (if b then Some v.next else None)
    next true = let n = near.next in omega (arith, few, n)
    next false = tt

    own : (b : Bool) → IsNarrow (option_or (if b then Some v.next else None) v.era)
    own true = let n = near.next in omega (arith, few, n)
    own false = given_narrow given v.era (omega (arith, few)) near.era

-- the same of an optional outcome
record SaysFewOf (o : Option Outcome) : Type 0 where
  era : IsNarrow (era_by o)
  begun : IsNarrow (begun_by o)
  ended : EndsOne (ended_by o)

segment_few : (settings : PlainSettings) (read : Read) (o : Option Datagram) (given : ℕ) → given + 1 < 2 ^ 32 → Before given read.past.calls → SaysFewOf (option_map (outcome_of settings read) o)
segment_few settings read None given few b = record { era = tt; begun = tt; ended = record { few = omega arith; fit = tt } }
segment_few settings read (Some d) given few b =
    let v = view_of settings read.past.calls d in
    let says = outcome_few settings v d (era.dropped_by settings v d) (era.mended_by settings v d) given few (view_near settings read.past.calls d given b) in
    record { era = says.era; begun = says.begun; ended = says.ended }

take_all : (P : Alive → Type 0) (xs : List Alive) → AllByRecursion P xs → AllByRecursion P (take 2 xs)
take_all P [] all = tt
take_all P (x ∷ []) all = (all.0, tt)
take_all P (x ∷ y ∷ more) all = (all.0, (all.1.0, tt))

idle_fit : (given : ℕ) (numbers : List ℕ) (ws : ℕ → List Written) → given < 2 ^ 32 → ((number : ℕ) → octets_of (ws number) < 2 ^ 64)
    → AllByRecursion (λ number. number ≤ given) numbers → AllByRecursion EndedFits (idled ws numbers)
idle_fit given [] ws few octets all = tt
idle_fit given (number ∷ more) ws few octets all = (record { era = let small = all.0 in omega (arith, few, small); octets = octets number }, idle_fit given more ws few octets all.1)

idle_given : (settings : PlainSettings) (now : ℕ) (cs : List Call) (given : ℕ) → Before given cs → AllByRecursion (λ number. number ≤ given) (idle_at settings now cs)
idle_given settings now cs given b =
    let late : Alive → Bool = λ a. nat_lt (a.touched + settings.idle) now in
    all_map (λ number. number ≤ given) (λ (a : Alive). a.number) (take 2 (filter late (eras cs)))
    (take_all (λ (a : Alive). a.number ≤ given) (filter late (eras cs)) (all_filter (λ (a : Alive). a.number ≤ given) late (eras cs) b.numbers))

-- the laws that are cited
pub record RangeLaws : Type 0 where
  pub counted : ItemsAreCounted
  pub outgoing : ItemsGoOut
  pub made : LawfulCallsAreMade
  pub lives : LivesAreLast
  pub emitted : CallsAreEmitted
  pub near : AckedGrowsNear

module _ (laws : RangeLaws) (settings : PlainSettings) (link : Link) where
  octets_before : (older : List Item) → IsSound settings link older → length (frames_written older) < 2 ^ 32 → (number : ℕ) → octets_of (segments number (flow_calls settings link older)) < 2 ^ 64
  octets_before older sound few number =
      let made = laws.made settings link older sound in
      let h = segments_few settings link older number in
      octets_few laws.near (segments number (flow_calls settings link older)) (laws.emitted settings (flow_calls settings link older) made number) (omega (arith, h, few))

  calls_before : (older : List Item) → IsSound settings link older → length (frames_written older) < 2 ^ 32 → Before (length older) (flow_calls settings link older)
  calls_before older sound few =
      let lives = laws.lives settings (flow_calls settings link older) (laws.made settings link older sound).made in
      let begun = begun_few settings link older in
      record {
        numbers = all_weaker (λ (a : Alive). a.number ≤ begun_in (flow_calls settings link older)) (λ (a : Alive). a.number ≤ length older) (λ a h. omega (arith, h, begun)) (eras (flow_calls settings link older)) lives.given;
        begun = begun;
        octets = octets_before older sound few;
      }

  -- the same after the idle eras have ended
  calls_idled : (older : List Item) (now : ℕ) → IsSound settings link older → length (frames_written older) < 2 ^ 32
      → Before (length older) (expiry_of settings (flow_calls settings link older) now ∷ flow_calls settings link older)
  calls_idled older now sound few =
      let calls = flow_calls settings link older in
      let lives = laws.lives settings (expiry_of settings calls now ∷ calls) (refl, (laws.made settings link older sound).made) in
      let begun = begun_few settings link older in
      record {
        numbers = all_weaker (λ (a : Alive). a.number ≤ begun_in (expiry_of settings calls now ∷ calls)) (λ (a : Alive). a.number ≤ length older) (λ a h. omega (arith, h, begun)) (eras (expiry_of settings calls now ∷ calls)) lives.given;
        begun = omega (arith, begun);
        octets = λ number. subst (λ ws. octets_of ws < 2 ^ 64) (sym (append-nil (segments number calls))) (octets_before older sound few number);
      }

  entry_fits : (older : List Item) (r : records.Packet) → IsSound settings link older → HasOctets r → length (frames_written older) < 2 ^ 32 → length older + 1 < 2 ^ 32
      → EntryFits (item_of settings link older r).entry
  entry_fits older r sound octets few lines =
      let calls = flow_calls settings link older in
      let now = now_with older r in
      let read = read_after settings link older r in
      let ws : ℕ → List Written = λ number. segments number calls in
      let says = segment_few settings read read.segment (length older) lines (calls_idled older now sound few) in
      let counted = laws.counted settings link older r in
      let packets = counted.packets in
      let two = counted.few in
      let named = (laws.outgoing settings link older r sound.hops sound.octets octets).few in
      let idle = few_idle settings now calls ws in
      let one = says.ended.few in
      let both = length-append (idled ws (idle_at settings now calls)) (ended_by (option_map (outcome_of settings read) read.segment)) in
      record {
        number = lines;
        packets = omega (arith, packets, two);
        rules = omega (arith, named);
        era = says.era;
        begun = says.begun;
        ended = omega (arith, idle, one, both);
        eras = all-append EndedFits (idled ws (idle_at settings now calls)) (ended_by (option_map (outcome_of settings read) read.segment))
            (idle_fit (length older) (idle_at settings now calls) ws (omega (arith, lines)) (octets_before older sound few) (idle_given settings now calls (length older) (calls_before older sound few)))
            says.ended.fit;
      }

  pub entries_fit : (trace : List Item) → IsSound settings link trace → length (frames_written trace) < 2 ^ 32 → length trace < 2 ^ 32 → AllByRecursion EntryFits (entries trace)
  entries_fit [] sound few lines = tt
  entries_fit (item ∷ older) sound few lines =
      let past = none_before settings link item older sound in
      let more = frames_more item older in
      let fewer : length (frames_written older) < 2 ^ 32 = omega (arith, more, few) in (
        subst (λ (x : Item). EntryFits x.entry) (sym sound.lawful.1) (entry_fits older item.packet past sound.octets.1 fewer (omega (arith, lines))),
        entries_fit older past fewer (omega (arith, lines)),
      )

-- What two engines represent, and what they answer for a record and for each of its frames.
use Rattle.std.proofs.Common.{◌≡◌, ℕ, suc, ◌+◌, ◌*◌, ◌-◌, ◌^◌, ◌<◌, ◌≤◌, List, [], ◌∷◌, length, map, drop, slice_get, Some, add-one, refl, sym, ap, ap₂, subst, ◌∙◌, arith, ◌++◌, Option, append-nil, IfSome}
use Rattle.std.proofs.Math.Logic.{∥∥₁_map, ∥∥₁_elim}
use Rattle.std.proofs.Math.Seq.{drop-cons}
use Rattle.std.specs.Coded.{le_prop}
use Rattle.std.proofs.lemmas.List.{length-map, length-append}
use Rattle.std.proofs.lemmas.Option.{slice_get_within, get_or_from_slice_get}
use Rattle.wire_base.specs.declared.address.Link.{Link}
use Rattle.pcap_file.specs.Records.{Packet}
use Rattle.rule_book.specs.Entries.{PlainEntry, IsOfVersion}
use Rattle.norm_engine.specs.Items.{Item, packets}
use Rattle.norm_engine.specs.Trace.{Lawful, item_of}
use Rattle.norm_engine.specs.CleanRecords.{HasOctets}
use Rattle.norm_engine.specs.TraceLaws.{ItemsAreCounted}
use Rattle.norm_engine.specs.EngineState.{Engaged}
use Rattle.norm_engine.specs.EngineState as engine
use Rattle.norm_settings.specs.SettingValues.{PlainSettings}
use Rattle.both_sides.specs.Traces.{mirrored, record_of, records_for, behind}
use Rattle.both_sides.specs.TwoEngines.{Joined, StandsFor, joined}
use Rattle.both_sides.specs.working.TwoEngines.{StandsForSome, IsWithin}
use Rattle.both_sides.specs.working.FrameAnswers.{Answers, IsJudged, line_for}
use Rattle.both_sides.specs.RecordOutputs.{answer_text, answers_frames, answers_text}
use Rattle.both_sides.specs.RunTraces.{answers}

-- What two engines represent, as records and frames are read, and how many there are.

-- both engines with another link type
abbrev pub on_link : Link → Joined → Joined
on_link link both = record both { first = record both.first { link = link }; second = record both.second { link = link } }

stays : (e : Engaged) (link : Link) → engine.StandsFor e [] → engine.StandsFor (record e { link = link }) []
stays e link s = record { counted = s.counted; latest = s.latest; flows = s.flows; pieces = s.pieces }

pub stands_on_link : (link : Link) (both : Joined) → StandsFor both [] [] → StandsFor (on_link link both) [] []
stands_on_link link both s = record {
  first = stays both.first link s.first;
  second = stays both.second link s.second;
  settings = s.settings;
  link = refl;
  lawful = tt;
  octets = tt;
  handed = s.handed;
}

no_item : (items : List Item) → length items ≡ 0 → items ≡ []
no_item [] h = refl
no_item (item ∷ older) h = absurd (cc)

-- the same of some traces, before the first record
pub some_on_link : (link : Link) (both : Joined) → both.first.records ≡ 0 → IsWithin both → StandsForSome both → StandsForSome (on_link link both)
some_on_link link both none within some =
    let s = some.stands in
    let first = s.first.counted in
    let second = s.second.counted in
    let few = within.frames in
    let trace : some.trace ≡ [] = no_item some.trace (omega (arith, first, none)) in
    let mirror : some.mirror ≡ [] = no_item some.mirror (omega (arith, second, few, none)) in
    record { trace = []; mirror = []; stands = stands_on_link link both (subst (λ xs. StandsFor both xs []) trace (subst (StandsFor both some.trace) mirror s)) }

-- a record, whose frames are then pending

pub none_pending : (pending : List Packet) → length pending ≡ 0 → pending ≡ []
none_pending [] h = refl
none_pending (r ∷ more) h = absurd (cc)

module _ (old new : Joined) (trace mirror : List Item) (r : Packet) (s : StandsFor old trace mirror) (empty : old.pending ≡ []) (same : new.second ≡ old.second)
    (settings : new.first.settings ≡ old.first.settings) (link : new.first.link ≡ old.first.link)
    (stands : engine.StandsFor new.first (item_of old.first.settings old.first.link trace r ∷ trace)) (pending : new.pending ≡ records_for (item_of old.first.settings old.first.link trace r)) where
  pub front_stands : StandsFor new (item_of old.first.settings old.first.link trace r ∷ trace) mirror
  front_stands = record {
    first = stands;
    second = subst (λ e. engine.StandsFor e mirror) (sym same) s.second;
    settings = ap (λ (e : Engaged). e.settings) same ∙ (s.settings ∙ ap mirrored (sym settings));
    link = ap (λ (e : Engaged). e.link) same ∙ (s.link ∙ sym link);
    lawful = subst (λ (e : Engaged). Lawful e.settings e.link mirror) (sym same) s.lawful;
    octets = s.octets;
    handed = ap₂ behind (sym pending) (s.handed ∙ ap (λ rs. behind rs (packets mirror)) empty);
  }

  pub front_within : ItemsAreCounted → IsWithin old → old.first.records < 2 ^ 31 - 1 → (new.first.records < 2 ^ 31) × (new.second.records + length new.pending ≤ 2 * new.first.records)
  front_within counts within few =
      let item = item_of old.first.settings old.first.link trace r in
      let now = stands.counted in
      let before = s.first.counted in
      let frames = within.frames in
      let two = (counts old.first.settings old.first.link trace r).few in
      let long : length new.pending ≡ length item.frames = ap length pending ∙ length-map item.frames (record_of r.seconds r.fraction) in
      let second : new.second.records ≡ old.second.records = ap (λ (e : Engaged). e.records) same in
      (omega (arith, now, before, few), omega (arith, now, before, frames, two, long, second))

-- a frame, which the second engine has then read

module _ (old new : Joined) (trace mirror : List Item) (r : Packet) (more : List Packet) (s : StandsFor old trace mirror) (next : old.pending ≡ r ∷ more) (same : new.first ≡ old.first)
    (settings : new.second.settings ≡ old.second.settings) (link : new.second.link ≡ old.second.link) (octets : HasOctets r) (pending : new.pending ≡ more)
    (stands : engine.StandsFor new.second (item_of old.second.settings old.second.link mirror r ∷ mirror)) where
  pub item_is : item_of old.second.settings old.second.link mirror r ≡ item_of (mirrored old.first.settings) old.first.link mirror r
  item_is = ap₂ (λ a b. item_of a b mirror r) s.settings s.link

  pub back_stands : StandsFor new trace (item_of (mirrored old.first.settings) old.first.link mirror r ∷ mirror)
  back_stands = record {
    first = subst (λ e. engine.StandsFor e trace) (sym same) s.first;
    second = subst (λ item. engine.StandsFor new.second (item ∷ mirror)) item_is stands;
    settings = settings ∙ (s.settings ∙ ap (λ (e : Engaged). mirrored e.settings) (sym same));
    link = link ∙ (s.link ∙ ap (λ (e : Engaged). e.link) (sym same));
    lawful = (
      subst (λ a. Lawful a new.second.link mirror) (sym settings) (subst (λ b. Lawful old.second.settings b mirror) (sym link) s.lawful),
      ap₂ (λ a b. item_of a b mirror r) (sym (settings ∙ s.settings)) (sym (link ∙ s.link)),
    );
    octets = (s.octets, octets);
    handed = s.handed ∙ (ap (λ rs. behind rs (packets mirror)) next ∙ ap (λ rs. behind rs (r ∷ packets mirror)) (sym pending));
  }

  pub back_within : IsWithin old → (new.first.records < 2 ^ 31) × (new.second.records + length new.pending ≤ 2 * new.first.records)
  back_within within =
      let now = stands.counted in
      let before = s.second.counted in
      let records = within.records in
      let frames = within.frames in
      let first : new.first.records ≡ old.first.records = ap (λ (e : Engaged). e.records) same in
      let long : length old.pending ≡ suc (length more) = ap length next in
      let left : length new.pending ≡ length more = ap length pending in
      (omega (arith, first, records), omega (arith, now, before, frames, first, long, left))

-- the contract of the engine's step for a record

pub record Steps (old new : Engaged) (r : Packet) (frames : List (List ℕ)) (entry : PlainEntry) : Type 0 where
  pub settings : new.settings ≡ old.settings
  pub link : new.link ≡ old.link
  pub entry_is : (history : List Item) → engine.StandsFor old history → entry ≡ (item_of old.settings old.link history r).entry
  pub frames_are : (history : List Item) → engine.StandsFor old history → frames ≡ (item_of old.settings old.link history r).frames
  pub stands : (history : List Item) → engine.StandsFor old history → engine.StandsFor new (item_of old.settings old.link history r ∷ history)

module _ (old : Joined) (first' : Engaged) (r : Packet) (frames : List (List ℕ)) (entry : PlainEntry) (steps : Steps old.first first' r frames entry) (none : length old.pending ≡ 0) where
  abbrev given : Joined
  given = joined first' old.second r.seconds r.fraction frames 0

  pub front_pending : (trace mirror : List Item) → StandsFor old trace mirror → given.pending ≡ records_for (item_of old.first.settings old.first.link trace r)
  front_pending trace mirror s = ap (map (record_of r.seconds r.fraction)) (steps.frames_are trace s.first)

  pub front_given : (trace mirror : List Item) → StandsFor old trace mirror → StandsFor given (item_of old.first.settings old.first.link trace r ∷ trace) mirror
  front_given trace mirror s =
      front_stands old given trace mirror r s (none_pending old.pending none) refl steps.settings steps.link (steps.stands trace s.first) (front_pending trace mirror s)

  pub front_bounds : ItemsAreCounted → IsWithin old → old.first.records < 2 ^ 31 - 1 → ∥ StandsForSome old ∥₁ → IsWithin given × ∥ StandsForSome given ∥₁
  front_bounds counts within few some = (
    record { records = ∥∥₁_elim some le_prop (λ k. (bounds k).0); frames = ∥∥₁_elim some le_prop (λ k. (bounds k).1) },
    ∥∥₁_map some (λ k. record { trace = item_of old.first.settings old.first.link k.trace r ∷ k.trace; mirror = k.mirror; stands = front_given k.trace k.mirror k.stands }),
  )
    where
      bounds : (k : StandsForSome old) → (given.first.records < 2 ^ 31) × (given.second.records + length given.pending ≤ 2 * given.first.records)
      bounds k =
          front_within old given k.trace k.mirror r k.stands (none_pending old.pending none) refl steps.settings steps.link (steps.stands k.trace k.stands.first) (front_pending k.trace k.mirror k.stands)
          counts within few

-- the next frame
pub left_next : (seconds fraction : ℕ) (frames : List (List ℕ)) (had : ℕ) (frame : List ℕ) → slice_get frames had ≡ Some frame
    → map (record_of seconds fraction) (drop had frames) ≡ record_of seconds fraction frame ∷ map (record_of seconds fraction) (drop (had + 1) frames)
left_next seconds fraction frames had frame h =
    ap (map (record_of seconds fraction))
    (drop-cons frames had frame (slice_get_within frames had frame h)
    ∙ ap₂ (λ x n. x ∷ drop n frames) (get_or_from_slice_get frames had frame frame h) (sym (add-one had)))

pub is_next : (x y : Packet) (xs ys : List Packet) → x ∷ xs ≡ y ∷ ys → (x ≡ y) × (xs ≡ ys)
is_next x y xs ys h = (cc, cc)

module _ (first second second' : Engaged) (seconds fraction had : ℕ) (frames : List (List ℕ)) (frame : List ℕ) (out : List (List ℕ)) (entry : PlainEntry) (next : slice_get frames had ≡ Some frame)
    (octets : HasOctets (record_of seconds fraction frame)) (steps : Steps second second' (record_of seconds fraction frame) out entry) where
  abbrev before : Joined
  before = joined first second seconds fraction frames had

  abbrev given_back : Joined
  given_back = joined first second' seconds fraction frames (had + 1)

  abbrev packet : Packet
  packet = record_of seconds fraction frame

  pub back_item : (trace mirror : List Item) → StandsFor before trace mirror → item_of second.settings second.link mirror packet ≡ item_of (mirrored first.settings) first.link mirror packet
  back_item trace mirror s = ap₂ (λ a b. item_of a b mirror packet) s.settings s.link

  pub back_given : (trace mirror : List Item) → StandsFor before trace mirror → StandsFor given_back trace (item_of (mirrored first.settings) first.link mirror packet ∷ mirror)
  back_given trace mirror s =
      back_stands before given_back trace mirror packet given_back.pending s (left_next seconds fraction frames had frame next) refl steps.settings steps.link octets refl (steps.stands mirror s.second)

  pub back_bounds : IsWithin before → ∥ StandsForSome before ∥₁ → IsWithin given_back × ∥ StandsForSome given_back ∥₁
  back_bounds within some = (
    record { records = ∥∥₁_elim some le_prop (λ k. (bounds k).0); frames = ∥∥₁_elim some le_prop (λ k. (bounds k).1) },
    ∥∥₁_map some (λ k. record { trace = k.trace; mirror = item_of (mirrored first.settings) first.link k.mirror packet ∷ k.mirror; stands = back_given k.trace k.mirror k.stands }),
  )
    where
      bounds : (k : StandsForSome before) → (given_back.first.records < 2 ^ 31) × (given_back.second.records + length given_back.pending ≤ 2 * given_back.first.records)
      bounds k =
          back_within before given_back k.trace k.mirror packet given_back.pending k.stands (left_next seconds fraction frames had frame next) refl steps.settings steps.link octets refl
          (steps.stands k.mirror k.stands.second) within

  -- the next record is that of the frame
  same : (r : Packet) (more : List Packet) → before.pending ≡ r ∷ more → (packet ≡ r) × (given_back.pending ≡ more)
  same r more is = is_next packet r given_back.pending more (sym (left_next seconds fraction frames had frame next) ∙ is)

  pub back_pending : (r : Packet) (more : List Packet) → before.pending ≡ r ∷ more → given_back.pending ≡ more
  back_pending r more is = (same r more is).1

  pub back_entry : (trace mirror : List Item) (r : Packet) (more : List Packet) → StandsFor before trace mirror → before.pending ≡ r ∷ more
      → entry ≡ (item_of (mirrored first.settings) first.link mirror r).entry
  back_entry trace mirror r more s is =
      subst (λ x. entry ≡ (item_of (mirrored first.settings) first.link mirror x).entry) (same r more is).0
      (steps.entry_is mirror s.second ∙ ap (λ (x : Item). x.entry) (back_item trace mirror s))

  pub back_frames : (trace mirror : List Item) (r : Packet) (more : List Packet) → StandsFor before trace mirror → before.pending ≡ r ∷ more
      → out ≡ (item_of (mirrored first.settings) first.link mirror r).frames
  back_frames trace mirror r more s is =
      subst (λ x. out ≡ (item_of (mirrored first.settings) first.link mirror x).frames) (same r more is).0
      (steps.frames_are mirror s.second ∙ ap (λ (x : Item). x.frames) (back_item trace mirror s))

  pub back_next : (trace mirror : List Item) (r : Packet) (more : List Packet) → StandsFor before trace mirror → before.pending ≡ r ∷ more
      → StandsFor given_back trace (item_of (mirrored first.settings) first.link mirror r ∷ mirror)
  back_next trace mirror r more s is =
      subst (λ x. StandsFor given_back trace (item_of (mirrored first.settings) first.link mirror x ∷ mirror)) (same r more is).0 (back_given trace mirror s)

-- The answers of two engines for one record, frame by frame.

-- ---- one frame

-- the next one was read
module _ (old new : Joined) (entry : PlainEntry) (out : List (List ℕ))
    (entry_is : (trace mirror : List Item) (r : Packet) (more : List Packet) → StandsFor old trace mirror → old.pending ≡ r ∷ more → entry ≡ (item_of (mirrored old.first.settings) old.first.link mirror r).entry)
    (frames_are : (trace mirror : List Item) (r : Packet) (more : List Packet) → StandsFor old trace mirror → old.pending ≡ r ∷ more → out ≡ (item_of (mirrored old.first.settings) old.first.link mirror r).frames)
    (stands : (trace mirror : List Item) (r : Packet) (more : List Packet) → StandsFor old trace mirror → old.pending ≡ r ∷ more
    → StandsFor new trace (item_of (mirrored old.first.settings) old.first.link mirror r ∷ mirror))
    (left : (r : Packet) (more : List Packet) → old.pending ≡ r ∷ more → new.pending ≡ more) where
  pub next_had : (trace mirror : List Item) (pending : List Packet) → old.pending ≡ pending → 0 < length pending → StandsFor old trace mirror
      → Answers old new trace mirror pending (Some entry) out
  next_had trace mirror [] is some s = absurd (omega (arith, some))
  next_had trace mirror (r ∷ more) is some s = record {
    told = ap Some (entry_is trace mirror r more s is);
    frames = frames_are trace mirror r more s is;
    stands = stands trace mirror r more s is;
    pending = left r more is;
  }

  pub one_left : (pending : List Packet) → old.pending ≡ pending → 0 < length pending → length new.pending + 1 ≡ length pending
  one_left [] is some = absurd (omega (arith, some))
  one_left (r ∷ more) is some = let size = ap length (left r more is) in omega (arith, size)

-- ---- all frames of a record

-- the answers of both engines for the frames of the newest record of a trace
record Behind (settings : PlainSettings) (link : Link) (trace mirror : List Item) (records : List Packet) (now : Joined) (first second : Option PlainEntry) (frames : List (List ℕ)) : Type 0 where
  text_is : line_for first ++ line_for second ≡ answers_text (answers settings link mirror records)
  frames_are : frames ≡ answers_frames (answers settings link mirror records)
  few : length frames ≤ 4
  first_told : IfSome first (IsOfVersion 2)
  second_told : IfSome second (IsOfVersion 2)
  stands : StandsFor now trace (answers settings link mirror records ++ mirror)

module _ (counts : ItemsAreCounted) (settings : PlainSettings) (link : Link) (trace mirror : List Item) (a b now : Joined) (first second : Option PlainEntry) (out behind : List (List ℕ))
    (settings_a : a.first.settings ≡ settings) (link_a : a.first.link ≡ link) (settings_b : b.first.settings ≡ settings) (link_b : b.first.link ≡ link)
    (after : (mirror' : List Item) (pending : List Packet) → StandsFor b trace mirror' → b.pending ≡ pending → Answers b now trace mirror' pending second behind) where
  abbrev told_of : List Item → Packet → Item
  told_of history r = item_of (mirrored settings) link history r

  same_a : (r : Packet) → item_of (mirrored a.first.settings) a.first.link mirror r ≡ told_of mirror r
  same_a r = ap₂ (λ s l. item_of (mirrored s) l mirror r) settings_a link_a

  same_b : (history : List Item) (r : Packet) → item_of (mirrored b.first.settings) b.first.link history r ≡ told_of history r
  same_b history r = ap₂ (λ s l. item_of (mirrored s) l history r) settings_b link_b

  all_had : (records : List Packet) → length records ≤ 2 → Answers a b trace mirror records first out → Behind settings link trace mirror records now first second (out ++ behind)
  all_had [] two had =
      let none = after mirror [] had.stands had.pending in
      let are : out ++ behind ≡ [] = ap₂ (λ x y. x ++ y) had.empty none.empty in
      record {
        text_is = ap₂ (λ x y. line_for x ++ line_for y) had.none none.none;
        frames_are = are;
        few = subst (λ (l : List (List ℕ)). length l ≤ 4) (sym are) (omega arith);
        first_told = subst (λ x. IfSome x (IsOfVersion 2)) (sym had.none) tt;
        second_told = subst (λ x. IfSome x (IsOfVersion 2)) (sym none.none) tt;
        stands = none.stands;
      }
  all_had (r ∷ []) two had =
      let item = told_of mirror r in
      let counted = counts (mirrored settings) link mirror r in
      let told : first ≡ Some item.entry = had.told ∙ ap (λ (i : Item). Some i.entry) (same_a r) in
      let stood : StandsFor b trace (item ∷ mirror) = subst (λ (i : Item). StandsFor b trace (i ∷ mirror)) (same_a r) had.stands in
      let none = after (item ∷ mirror) [] stood had.pending in
      let are : out ++ behind ≡ item.frames = ap₂ (λ x y. x ++ y) (had.frames ∙ ap (λ (i : Item). i.frames) (same_a r)) none.empty ∙ append-nil item.frames in
      let most = counted.few in
      record {
        text_is = ap₂ (λ x y. line_for x ++ line_for y) told none.none ∙ append-nil (answer_text item.entry);
        frames_are = are;
        few = subst (λ (l : List (List ℕ)). length l ≤ 4) (sym are) (omega (arith, most));
        first_told = subst (λ x. IfSome x (IsOfVersion 2)) (sym told) counted.octets;
        second_told = subst (λ x. IfSome x (IsOfVersion 2)) (sym none.none) tt;
        stands = none.stands;
      }
  all_had (r ∷ q ∷ []) two had =
      let item = told_of mirror r in
      let next = told_of (item ∷ mirror) q in
      let counted = counts (mirrored settings) link mirror r in
      let counted_next = counts (mirrored settings) link (item ∷ mirror) q in
      let told : first ≡ Some item.entry = had.told ∙ ap (λ (i : Item). Some i.entry) (same_a r) in
      let stood : StandsFor b trace (item ∷ mirror) = subst (λ (i : Item). StandsFor b trace (i ∷ mirror)) (same_a r) had.stands in
      let more = after (item ∷ mirror) (q ∷ []) stood had.pending in
      let told_next : second ≡ Some next.entry = more.told ∙ ap (λ (i : Item). Some i.entry) (same_b (item ∷ mirror) q) in
      let are : out ++ behind ≡ item.frames ++ next.frames =
      ap₂ (λ x y. x ++ y) (had.frames ∙ ap (λ (i : Item). i.frames) (same_a r)) (more.frames ∙ ap (λ (i : Item). i.frames) (same_b (item ∷ mirror) q)) in
      let most = counted.few in
      let most_next = counted_next.few in
      let size = length-append item.frames next.frames in
      record {
        text_is = ap₂ (λ x y. line_for x ++ line_for y) told told_next;
        frames_are = are;
        few = subst (λ (l : List (List ℕ)). length l ≤ 4) (sym are) (omega (arith, most, most_next, size));
        first_told = subst (λ x. IfSome x (IsOfVersion 2)) (sym told) counted.octets;
        second_told = subst (λ x. IfSome x (IsOfVersion 2)) (sym told_next) counted_next.octets;
        stands = subst (λ (i : Item). StandsFor now trace (i ∷ item ∷ mirror)) (same_b (item ∷ mirror) q) more.stands;
      }
  all_had (r ∷ q ∷ s ∷ records) two had = absurd (omega (arith, two))

-- the record and all its frames
pub judged : ItemsAreCounted → (old a b now : Joined) (trace mirror : List Item) (r : Packet) (own : PlainEntry) (first second : Option PlainEntry) (out behind : List (List ℕ))
    → a.first.settings ≡ old.first.settings → a.first.link ≡ old.first.link → b.first.settings ≡ old.first.settings → b.first.link ≡ old.first.link
    → own ≡ (item_of old.first.settings old.first.link trace r).entry
    → a.pending ≡ records_for (item_of old.first.settings old.first.link trace r)
    → StandsFor a (item_of old.first.settings old.first.link trace r ∷ trace) mirror
    → ((trace mirror : List Item) → StandsFor a trace mirror → Answers a b trace mirror a.pending first out)
    → ((trace mirror : List Item) → StandsFor b trace mirror → Answers b now trace mirror b.pending second behind)
    → IsJudged old now trace mirror r own first second (out ++ behind)
judged counts old a b now trace mirror r own first second out behind settings_a link_a settings_b link_b own_is pending stands had after =
    let settings = old.first.settings in
    let link = old.first.link in
    let item = item_of settings link trace r in
    let counted = counts settings link trace r in
    let size = length-map item.frames (record_of r.seconds r.fraction) in
    let few = counted.few in
    let all =
    all_had counts settings link (item ∷ trace) mirror a b now first second out behind settings_a link_a settings_b link_b
    (λ mirror' left s is. subst (λ p. Answers b now (item ∷ trace) mirror' p second behind) is (after (item ∷ trace) mirror' s))
    (records_for item) (omega (arith, size, few)) (subst (λ p. Answers a b (item ∷ trace) mirror p first out) pending (had (item ∷ trace) mirror stands)) in
    record {
      own_is = own_is;
      text_is = all.text_is;
      frames_are = all.frames_are;
      few = all.few;
      own_told = subst (IsOfVersion 2) (sym own_is) counted.octets;
      first_told = all.first_told;
      second_told = all.second_told;
      stands = all.stands;
    }

-- Calls that write in one live era and begin and end none: its new value and chain, numbers in
-- bounds.
use Rattle.std.proofs.Common.{not, ℕ, ◌≡◌, ◌==◌, ◌≤◌, ◌<◌, ◌^◌, ◌∙◌, sym, ap, subst, Bool, true, false, cond, List, ◌∷◌, ◌++◌, filter, arith, ◌+◌, ◌≢◌, [], length, map, ap₂, ◌&&◌, Some, None, is_some, refl, ◌*◌, take}
use Rattle.std.specs.List.{All, AllByRecursion, count_by, range_with_len}
use Rattle.std.proofs.lemmas.List.Elements.{recursion_from_All, All-from_recursion}
use Rattle.std.specs.Option.{option_or}
use Rattle.std.proofs.lemmas.List.{append-nil, length-take-le, map-append}
use Rattle.linked_table.specs.declared.table.Slot.{Slot}
use Rattle.linked_table.specs.EntryTable.{Entry, IsIn, Wherever, with_value, revalued, SplitAt}
use Rattle.linked_table.specs.EntryTable as table
use Rattle.era_state.specs.declared.era.Era.{Era}
use Rattle.era_state.specs.Eras.{acked_in}
use Rattle.linked_table.proofs.Lists.{all_weaker, all_join, all_after}
use Rattle.wire_base.specs.Segments.{Written}
use Rattle.retain_store.specs.Maps.{Store, chain_of, ChangesOnly, IsMap, IsWithin, holds}
use Rattle.era_state.specs.Eras as era
use Rattle.linked_table.proofs.Entries.{split_at, wherever}
use Rattle.rule_book.specs.declared.rule.Rule.{Rule}
use Rattle.rule_book.specs.declared.rule.Rule.TheVariants as rules
use Rattle.norm_settings.specs.SettingValues.{PlainSettings}
use Rattle.era_state.specs.declared.offset.Interval.{Interval}
use Rattle.era_state.specs.KeptIntervals.{KeptOf}
use Rattle.ip_rules.specs.Datagrams.{Datagram, Packet, goes_in}
use Rattle.era_state.specs.QuantityLaws.{FirstStays, AckedNeverFalls}
use Rattle.retain_store.proofs.Blocks.{others_same}
use Rattle.tcp_norm.specs.declared.key.Flow.{Flow}
use Rattle.tcp_norm.specs.declared.key.EraKey.{EraKey}
use Rattle.tcp_norm.specs.working.EraBounds.{IsNear, AreNear}
use Rattle.tcp_norm.specs.working.SpareSlots.{written_back}
use Rattle.tcp_norm.specs.Calls.{Alive, segments, without, datagram, Outcome, read, segment_in, key_of, is_written, alive_at, Call, eras, begins_by, written_by}
use Rattle.tcp_norm.specs.HeldOctets.{held_of}
use Rattle.tcp_norm.specs.working.Rulings.{IsHeld, taken, Extends, Touches}
use Rattle.tcp_norm.specs.working.LiveSlots.{Live}
use Rattle.tcp_norm.specs.TableAndStore.{HoldsFor, alive_in, IsFor, StandsFor}
use Rattle.tcp_norm.specs.KeptChains.{Keeps}
use Rattle.tcp_norm.specs.RuleViews.{View}
use Rattle.tcp_norm.specs.EraWrites.{WritesIn}
use Rattle.tcp_norm.specs.RuleRows.{is_live, t_quota, t_room, t_full, clashes, dropped_by, noted}
use Rattle.tcp_norm.specs.EmittedPackets.{packet_by, packets_passed}
use Rattle.tcp_norm.specs.Outcomes.{outcome_at, outcome_by, verdict_of}
use Rattle.tcp_norm.specs.working.RewriteTests.{stream_rows}
use Rattle.tcp_norm.specs.declared.state.TcpNorm.{TcpNorm}
use Rattle.tcp_norm.specs.working.LiveWrites.{WritesAll}
use Rattle.tcp_norm.specs.declared.step.Taking.{Taking}
use Rattle.tcp_norm.specs.working.EraSteps.{Does, continued_in}
use Rattle.tcp_norm.proofs.Lists.{all_filter, number_other, number_same}
use Rattle.tcp_norm.proofs.EraTable.{take_out, change, add, put_touch, none_left, Other, at_slot, none_changed, same_value}
use Rattle.tcp_norm.proofs.SegmentRules.{OfStream, stream_dropped, stream_mended, stream_begins_none, stream_ends_none, header_mended}
use Rattle.tcp_norm.proofs.KeptOctets.{count_is, keeps_same}
use Rattle.tcp_norm.proofs.CallEffects.{lives_touch, stands_next, own_by, others_by}

-- The numbers kept of each era stay in their bounds, even where a filter leaves some eras out.

-- The numbers kept of each era stay in their bounds.

pub near_weaker : (a b : ℕ) (e : Era) → a ≤ b → IsNear a e → IsNear b e
near_weaker a b e le n = (omega (arith, n.0, le), omega (arith, n.1, le))

-- of an entry
abbrev Near : ℕ → Entry EraKey Flow → Type 0
Near calls e = IsNear calls e.value.era

pub nears_weaker : (a b : ℕ) (entries : List (Entry EraKey Flow)) → a ≤ b → AreNear a entries → AreNear b entries
nears_weaker a b entries le near =
    All-from_recursion (Near b) entries (all_weaker (Near a) (Near b) (λ e n. near_weaker a b e.value.era le n) entries (recursion_from_All (Near a) entries near))

valued_one : (calls : ℕ) (slot : Slot) (value : Flow) (e : Entry EraKey Flow) → IsNear calls value.era → Near calls e → Near calls (revalued slot value e)
valued_one calls slot value e is near = elim (e.slot.0 == slot.0) as (λ b. Near calls (cond b (record e { value = value }) e)) [ true ↦ is | false ↦ near ]

near_valued : (calls : ℕ) (slot : Slot) (value : Flow) (entries : List (Entry EraKey Flow)) → IsNear calls value.era → AllByRecursion (Near calls) entries → AllByRecursion (Near calls) (with_value entries slot value)
near_valued calls slot value [] is near = tt
near_valued calls slot value (e ∷ es) is near = (valued_one calls slot value e is near.0, near_valued calls slot value es is near.1)

-- a filter keeps them near
pub near_left : (calls : ℕ) (p : Entry EraKey Flow → Bool) (entries : List (Entry EraKey Flow)) → AreNear calls entries → AreNear calls (filter p entries)
near_left calls p entries near = All-from_recursion (Near calls) (filter p entries) (all_filter (Near calls) p entries (recursion_from_All (Near calls) entries near))

pub near_touched : (calls : ℕ) (slot : Slot) (value : Flow) (entries : List (Entry EraKey Flow)) → IsNear calls value.era → AreNear calls entries
    → AreNear calls (written_back entries slot value)
near_touched calls slot value entries is near =
    let valued = near_valued calls slot value entries is (recursion_from_All (Near calls) entries near) in
    All-from_recursion (Near calls) (written_back entries slot value)
    (all_join (Near calls) (table.without (with_value entries slot value) slot) (table.only (with_value entries slot value) slot)
    (all_filter (Near calls) (λ (e : Entry EraKey Flow). not (e.slot.0 == slot.0)) (with_value entries slot value) valued)
    (all_filter (Near calls) (λ (e : Entry EraKey Flow). e.slot.0 == slot.0) (with_value entries slot value) valued))

pub near_added : (calls : ℕ) (e : Entry EraKey Flow) (entries : List (Entry EraKey Flow)) → IsNear calls e.value.era → AreNear calls entries → AreNear calls (entries ++ e ∷ [])
near_added calls e entries is near =
    All-from_recursion (Near calls) (entries ++ e ∷ []) (all_join (Near calls) entries (e ∷ []) (recursion_from_All (Near calls) entries near) (is, tt))

-- of the entry in a slot
pub near_at : (calls : ℕ) (entries : List (Entry EraKey Flow)) (slot : Slot) (flow : Flow) → IsIn entries slot → Wherever entries slot (λ e. flow ≡ e.value) → AreNear calls entries → IsNear calls flow.era
near_at calls entries slot flow (k, x, below, reads, named) was near =
    let here = ap (λ (e : Entry EraKey Flow). e.slot) reads ∙ named in
    subst (λ (f : Flow). IsNear calls f.era) (sym (was k x below here)) (near k x below)

-- the acknowledged offset is far below 2^64
pub acked_small : (calls : ℕ) (entries : List (Entry EraKey Flow)) → calls < 2 ^ 32 → AreNear calls entries → All (λ e. acked_in e.value.era < 2 ^ 63) entries
acked_small calls entries few near k x below = let n = near k x below in omega (arith, n.0, few)

-- Calls that write in one live era, and begin and end none.

-- Segments are written in one era, and none begins and none ends.

-- the entry's segments are followed by the new ones, all others stay
writes_in : (lives : List Alive) (segments later : ℕ → List Written) (begun : ℕ) (entries : List (Entry EraKey Flow)) (store new : Store) (slot : Slot) (a : SplitAt entries slot) (value : Flow) (more : List Written) (now : ℕ)
    → HoldsFor lives segments begun entries store
    → later a.here.value.number ≡ segments a.here.value.number ++ more → ((m : ℕ) → m ≢ a.here.value.number → later m ≡ segments m)
    → value.number ≡ a.here.value.number → value.touched ≡ now
    → ((chain : ℕ) → chain ≢ slot.0 → chain_of new chain ≡ chain_of store chain)
    → era.StandsFor value.era (segments a.here.value.number ++ more)
    → Keeps (chain_of new slot.0) (segments a.here.value.number ++ more)
    → length (chain_of new slot.0) ≡ held_of (segments a.here.value.number ++ more)
    → HoldsFor (without (a.here.value.number ∷ []) lives ++ record { number = a.here.value.number; key = a.here.key.0; touched = now } ∷ []) later begun
    (written_back entries slot value) new
writes_in lives segments later begun entries store new slot a value more now h is other numbered touched chains stands keeps count =
    let n = a.here.value.number in
    let named : a.here.slot.0 ≡ slot.0 = ap (λ (s : Slot). s.0) a.named in
    let e : Entry EraKey Flow = record a.here { value = value } in
    let own : later value.number ≡ segments n ++ more = ap later numbered ∙ is in
    let given : n ≤ begun = number_given in
    let rest = change later begun new chains
    (all_weaker (λ (b : Alive). b.number ≢ n) (λ (b : Alive). later b.number ≡ segments b.number) (λ b ne. other b.number ne) (without (n ∷ []) lives) (none_left n lives))
    (omega arith) (λ m above. other m (λ same. absurd (omega arith)) ∙ h.given.fresh m above) (take_out slot a h) in
    let whole = add e named
    (subst (λ m. Other m (without (n ∷ []) lives)) (sym numbered) (none_left n lives)) (omega arith)
    (record {
      era = subst (era.StandsFor value.era) (sym own) stands;
      octets = subst (Keeps (chain_of new a.here.slot.0)) (sym own) (subst (λ s. Keeps (chain_of new s) (segments n ++ more)) (sym named) keeps);
      count = ap (λ s. length (chain_of new s)) named ∙ (count ∙ ap held_of (sym own));
    }) rest in
    let alive_is : alive_in e ≡ record { number = n; key = a.here.key.0; touched = now } = ap₂ (λ m t. record { number = m; key = a.here.key.0; touched = t }) numbered touched in
    subst (λ l. HoldsFor (without (n ∷ []) lives ++ record { number = n; key = a.here.key.0; touched = now } ∷ []) later begun l new) (sym (put_touch entries slot a value))
    (subst (λ x. HoldsFor (without (n ∷ []) lives ++ x ∷ []) later begun ((a.before ++ a.after) ++ e ∷ []) new) alive_is whole)
  where
    number_given : a.here.value.number ≤ begun
    number_given =
        let below = subst (AllByRecursion (λ (b : Alive). b.number ≤ begun)) (sym h.eras_are ∙ (ap (map alive_in) a.splits ∙ map-append alive_in a.before (a.here ∷ a.after))) h.given.below in
        (all_after (λ (b : Alive). b.number ≤ begun) (map alive_in a.before) (alive_in a.here ∷ map alive_in a.after) below).0

-- the same by the names that are known of the era
pub written_holds : (lives : List Alive) (segments later : ℕ → List Written) (begun : ℕ) (t : table.Table EraKey Flow) (store new : Store) (live : Live) (value : Flow) (more : List Written) (now : ℕ)
    → HoldsFor lives segments begun t.entries store → IsHeld t live
    → later live.flow.number ≡ segments live.flow.number ++ more → ((m : ℕ) → m ≢ live.flow.number → later m ≡ segments m)
    → value.number ≡ live.flow.number → value.touched ≡ now
    → ((chain : ℕ) → chain ≢ live.slot.0 → chain_of new chain ≡ chain_of store chain)
    → era.StandsFor value.era (segments live.flow.number ++ more) → Keeps (chain_of new live.slot.0) (segments live.flow.number ++ more)
    → length (chain_of new live.slot.0) ≡ held_of (segments live.flow.number ++ more)
    → HoldsFor (without (live.flow.number ∷ []) lives ++ record { number = live.flow.number; key = live.key; touched = now } ∷ []) later begun (written_back t.entries live.slot value) new
written_holds lives segments later begun t store new live value more now h held own others numbered touched chains stands keeps count =
    let entries = t.entries in
    let a = split_at entries live.slot held.inside held.slots_apart held.keys_apart in
    let key_is : a.here.key.0 ≡ live.key = wherever (λ (e : Entry EraKey Flow). e.key.0 ≡ live.key) entries live.slot a held.keyed in
    let n_is : a.here.value.number ≡ live.flow.number = ap (λ (v : Flow). v.number) (wherever (λ (e : Entry EraKey Flow). e.value ≡ live.flow) entries live.slot a held.entry) in
    let back = sym n_is in
    subst (λ k. HoldsFor (without (live.flow.number ∷ []) lives ++ record { number = live.flow.number; key = k; touched = now } ∷ []) later begun (written_back entries live.slot value) new) key_is
    (subst (λ n. HoldsFor (without (n ∷ []) lives ++ record { number = n; key = a.here.key.0; touched = now } ∷ []) later begun (written_back entries live.slot value) new) n_is
    (writes_in lives segments later begun entries store new live.slot a value more now h (subst (λ n. later n ≡ segments n ++ more) back own) (λ m ne. others m (λ same. ne (same ∙ back)))
    (numbered ∙ back) touched chains (subst (λ n. era.StandsFor value.era (segments n ++ more)) back stands) (subst (λ n. Keeps (chain_of new live.slot.0) (segments n ++ more)) back keeps)
    (count ∙ ap (λ n. held_of (segments n ++ more)) back)))

-- The call of a datagram that passes in its live era writes in it, and one that is dropped leaves
-- all eras.

passed_in : (d : Datagram) (o : Outcome) (n now : ℕ) → is_written o.verdict ≡ true → WritesIn (datagram now d (record o { era = Some n; begun = None; ended = [] })) n (key_of d) now (map (λ p. read (goes_in d.side) p.octets) o.packets)
passed_in d o n now written = record {
  own = ap₂ (λ a b. cond (a && b) (map (λ (p : Packet). read (goes_in d.side) p.octets) o.packets) []) (number_same n) written;
  others = λ m ne. ap (λ a. cond (a && is_written o.verdict) (map (λ (p : Packet). read (goes_in d.side) p.octets) o.packets) []) (number_other n m (λ same. ne (sym same)));
  touched = ap (λ b. cond b (alive_at now (key_of d) (Some n)) []) written;
  ended = refl;
  begun = refl;
  time = refl;
}

pub passed_writes : (d : Datagram) (o : Outcome) (n now : ℕ) → is_written o.verdict ≡ true → o.era ≡ Some n → o.begun ≡ None → o.ended ≡ []
    → WritesIn (datagram now d o) n (key_of d) now (map (λ p. read (goes_in d.side) p.octets) o.packets)
passed_writes d o n now written era begun ended =
    let same : record o { era = Some n; begun = None; ended = [] } ≡ o = λ i. record o { era = (sym era) i; begun = (sym begun) i; ended = (sym ended) i } in
    subst (λ x. WritesIn (datagram now d x) n (key_of d) now (map (λ (p : Packet). read (goes_in d.side) p.octets) o.packets)) same (passed_in d o n now written)

pub fixed_or_passed : (named : List Rule) → is_written (verdict_of named) ≡ true
fixed_or_passed [] = refl
fixed_or_passed (x ∷ xs) = refl

pub no_note : (v : View) (d : Datagram) → goes_in d.side ≡ true → noted v d ≡ []
no_note v d side = ap (λ b. cond (not b && t_full v (segment_in d)) (rules.TFull ∷ []) []) side

-- the packets of a segment of the stream: its own alone
own_packet : (settings : PlainSettings) (v : View) (d : Datagram) (mended : List Rule) → is_live v ≡ true → OfStream v.segments (segment_in d)
    → packets_passed settings v d mended ≡ packet_by settings v.segments d d.fixes mended ∷ []
own_packet settings v d mended live f = rw (live, f.inward, f.no_rst) refl

-- what becomes of a segment of the stream that the cells can hold
pub stream_outcome : (settings : PlainSettings) (v : View) (d : Datagram) (i : Interval) (clash : Bool) (n : ℕ) → v.era ≡ Some n → OfStream v.segments (segment_in d)
    → KeptOf v.segments (segment_in d) i → clash ≡ clashes v.segments (segment_in d) → t_quota settings v (segment_in d) ≡ false → t_room v (segment_in d) ≡ false
    → let named = stream_rows (header_mended settings v d) i clash in
    outcome_at settings v d ≡ record {
      verdict = verdict_of (d.fixes ++ named);
      rules = d.fixes ++ named;
      era = Some n;
      begun = None;
      ended = [];
      packets = packet_by settings v.segments d d.fixes named ∷ [];
    }
stream_outcome settings v d i clash n era f is clashed quota room =
    let named = stream_rows (header_mended settings v d) i clash in
    let live : is_live v ≡ true = ap is_some era in
    let dropped : dropped_by settings v d ≡ None = stream_dropped settings v d live f ∙ ap₂ (λ a b. cond a (Some rules.TQuota) (cond b (Some rules.TRoom) None)) quota room in
    let mended = stream_mended settings v d i clash live f is clashed in
    let begun = stream_begins_none v (segment_in d) live f in
    let ended = stream_ends_none v (segment_in d) live f in
    ap₂ (outcome_by settings v d) dropped mended
    ∙ (λ k. record {
      verdict = verdict_of (d.fixes ++ named);
      rules = no_note v d f.inward k ++ d.fixes ++ named;
      era = option_or (begun k) (era k);
      begun = begun k;
      ended = ended k;
      packets = own_packet settings v d named live f k;
    })

-- its call writes the one segment that is read of the packet
pub stream_writes : (settings : PlainSettings) (v : View) (d : Datagram) (i : Interval) (clash : Bool) (n now : ℕ) → v.era ≡ Some n → OfStream v.segments (segment_in d)
    → KeptOf v.segments (segment_in d) i → clash ≡ clashes v.segments (segment_in d) → t_quota settings v (segment_in d) ≡ false → t_room v (segment_in d) ≡ false
    → WritesIn (datagram now d (outcome_at settings v d)) n (key_of d) now
    (read true (packet_by settings v.segments d d.fixes (stream_rows (header_mended settings v d) i clash)).octets ∷ [])
stream_writes settings v d i clash n now era f is clashed quota room =
    let named = stream_rows (header_mended settings v d) i clash in
    let outcome = stream_outcome settings v d i clash n era f is clashed quota room in
    let plain : Outcome = record { verdict = verdict_of (d.fixes ++ named); rules = d.fixes ++ named; era = Some n; begun = None; ended = []; packets = packet_by settings v.segments d d.fixes named ∷ [] } in
    let writes = passed_writes d plain n now (fixed_or_passed (d.fixes ++ named)) refl refl refl in
    subst (λ (x : Outcome). WritesIn (datagram now d x) n (key_of d) now (read true (packet_by settings v.segments d d.fixes named).octets ∷ [])) (sym outcome)
    (subst (λ b. WritesIn (datagram now d plain) n (key_of d) now (read b (packet_by settings v.segments d d.fixes named).octets ∷ [])) f.inward writes)

-- A call that writes in one live era and begins and ends none.

-- what the call writes in its era
own_of : (now n : ℕ) (d : Datagram) (ws : List Written) (o : Outcome) → WritesAll d n ws o → written_by n (datagram now d o) ≡ ws
own_of now n d ws o does = own_by now n d o does.era_is does.written ∙ does.packets_are

-- these segments, if the call wrote them in its era
pub wrote_these : (now n : ℕ) (d : Datagram) (more ws : List Written) (o : Outcome) → WritesAll d n more o → written_by n (datagram now d o) ≡ ws → WritesAll d n ws o
wrote_these now n d more ws o does own =
    record { written = does.written; era_is = does.era_is; begun_is = does.begun_is; ended_are = does.ended_are; packets_are = does.packets_are ∙ (sym (own_of now n d more o does) ∙ own) }

-- one segment
pub writes_one : (d : Datagram) (n : ℕ) (w : Written) (o : Outcome) → Does d w (continued_in n) o → WritesAll d n (w ∷ []) o
writes_one d n w o does = record { written = does.written; era_is = does.era_is; begun_is = does.begun_is; ended_are = does.ended_are; packets_are = does.packets_are }

-- as many octets are taken as the interval has
pub taken_long : (t : Taking) (scratch : List ℕ) → length t.own.now ≤ length scratch → length (taken t scratch) ≡ length t.own.now
taken_long t scratch room =
    let size = length t.own.now in
    elim t.as_read as (λ b. length (cond b t.own.now (take size scratch)) ≡ size) [ true ↦ refl | false ↦ length-take-le size scratch room ]

-- the entry of the era has another value, its era these segments more, and its chain what is kept
-- of them
pub stands_written : (settings : PlainSettings) (old new : TcpNorm) (cs : List Call) (now : ℕ) (d : Datagram) (live : Live) (value : Flow) (ws : List Written) (o : Outcome)
    → StandsFor settings old cs → IsFor settings new → new.begun ≡ old.begun → new.calls ≡ old.calls + 1 → new.latest ≡ now → old.latest ≤ now
    → IsHeld old.table live → live.key ≡ key_of d → value.number ≡ live.flow.number → value.touched ≡ now
    → new.table ≡ record old.table { entries = written_back old.table.entries live.slot value } → ChangesOnly old.store new.store live.slot.0
    → era.StandsFor value.era (segments live.flow.number cs ++ ws) → Keeps (chain_of new.store live.slot.0) (segments live.flow.number cs ++ ws)
    → IsMap (chain_of new.store live.slot.0)
    → ((m : ℕ) → IsWithin (chain_of new.store live.slot.0) (256 * m) → length (chain_of new.store live.slot.0) ≡ count_by (holds (chain_of new.store live.slot.0)) (range_with_len 0 m))
    → WritesAll d live.flow.number ws o → StandsFor settings new (datagram now d o ∷ cs)
stands_written settings old new cs now d live value ws o st opened begun calls latest later held key numbered touched written changed stands keeps mapped counted does =
    let n = live.flow.number in
    let c = datagram now d o in
    let begins : begins_by c ≡ 0 = ap (λ b. cond {A = ℕ} (is_some b) 1 0) does.begun_is in
    let after : ℕ → List Written = λ m. segments m (c ∷ cs) in
    let holds' = written_holds (eras cs) (λ m. segments m cs) after old.begun old.table old.store new.store live value ws now st.holds held (ap (λ l. segments n cs ++ l) (own_of now n d ws o does)) (λ m ne. ap (λ l. segments m cs ++ l) (others_by now n m d o does.era_is ne) ∙ append-nil (segments m cs))
    numbered touched (others_same old.store new.store live.slot.0 changed) stands keeps (count_is (chain_of new.store live.slot.0) (segments n cs ++ ws) mapped keeps counted) in
    stands_next settings old new cs c _ st opened
    (subst (λ k. HoldsFor (without (n ∷ []) (eras cs) ++ record { number = n; key = k; touched = now } ∷ []) after new.begun new.table.entries new.store) key
    (subst (λ (t : table.Table EraKey Flow). HoldsFor (without (n ∷ []) (eras cs) ++ record { number = n; key = live.key; touched = now } ∷ []) after new.begun t.entries new.store) (sym written)
    (subst (λ b. HoldsFor (without (n ∷ []) (eras cs) ++ record { number = n; key = live.key; touched = now } ∷ []) after b (written_back old.table.entries live.slot value) new.store) (sym begun) holds')))
    (lives_touch c cs (record { number = n; key = key_of d; touched = now }) (ap (map (λ e. e.era)) does.ended_are)
    (ap₂ (λ a b. cond b (alive_at now (key_of d) a) []) does.era_is does.written))
    (omega (arith, begun, begins)) latest later calls

-- A call that touches a live era, of which no more is acknowledged and no octet is brought.

-- the value that the entry had is that of the live era
pub touched_is : (old new : table.Table EraKey Flow) (live : Live) (now : ℕ) (flow : Flow) (era : Era) → IsHeld old live → Touches old new live.slot now flow era → flow ≡ live.flow
touched_is old new live now flow era held touches = same_value old.entries live.slot flow live.flow held.inside touches.was held.entry

-- the chain of the era is a map, and its blocks are counted
pub record IsChain (store : Store) (chain : ℕ) : Type 0 where
  pub map : IsMap (chain_of store chain)
  pub held : (n : ℕ) → IsWithin (chain_of store chain) (256 * n) → length (chain_of store chain) ≡ count_by (holds (chain_of store chain)) (range_with_len 0 n)

pub stands_touched : FirstStays → AckedNeverFalls → (settings : PlainSettings) (old new : TcpNorm) (calls : List Call) (now : ℕ) (d : Datagram) (live : Live) (flow : Flow) (era : Era) (ws : List Written) (o : Outcome)
    → StandsFor settings old calls → IsFor settings new → new.begun ≡ old.begun → new.calls ≡ old.calls + 1 → new.latest ≡ now → old.latest ≤ now → new.store ≡ old.store → IsChain old.store live.slot.0
    → IsHeld old.table live → Touches old.table new.table live.slot now flow era → Extends calls d live era ws o → StandsFor settings new (datagram now d o ∷ calls)
stands_touched stays grows settings old new calls now d live flow era ws o st opened begun count latest later store chain held touches e =
    let same = touched_is old.table new.table live now flow era held touches in
    let at = at_slot (eras calls) (λ m. segments m calls) _ _ old.store live.slot live.flow st.holds held.inside held.slots_apart held.keys_apart held.entry in
    let keeps = keeps_same stays grows live.flow.era era (segments live.flow.number calls) ws (chain_of old.store live.slot.0) at.era e.stands (touches.same ∙ ap (λ (f : Flow). acked_in f.era) same) e.none at.octets in
    let entries = touches.entries ∙ ap (λ (f : Flow). record old.table { entries = written_back old.table.entries live.slot (record { era = era; number = f.number; touched = now }) }) same in
    stands_written settings old new calls now d live (record { era = era; number = live.flow.number; touched = now }) ws o st opened begun count latest later held e.key_is refl refl entries
    (subst (λ s. ChangesOnly old.store s live.slot.0) (sym store) (none_changed old.store live.slot.0)) e.stands (subst (λ (s : Store). Keeps (chain_of s live.slot.0) (segments live.flow.number calls ++ ws)) (sym store) keeps)
    (subst (λ (s : Store). IsMap (chain_of s live.slot.0)) (sym store) chain.map) (subst (λ (s : Store). IsChain s live.slot.0) (sym store) chain).held e.writes

-- its numbers stay in their bounds
pub near_marked : (calls : ℕ) (old new : table.Table EraKey Flow) (slot : Slot) (now : ℕ) (flow : Flow) (era : Era) → table.IsIn old.entries slot → Touches old new slot now flow era
    → AreNear calls old.entries → AreNear (calls + 1) new.entries
near_marked calls old new slot now flow era inside touches near =
    let was = near_at calls old.entries slot flow inside touches.was near in
    subst (λ (t : table.Table EraKey Flow). AreNear (calls + 1) t.entries) (sym touches.entries)
    (near_touched (calls + 1) slot _ old.entries (omega (arith, was.0, touches.same), omega (arith, was.1, touches.octets_are)) (nears_weaker calls (calls + 1) old.entries (omega arith) near))

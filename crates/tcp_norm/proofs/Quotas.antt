-- No era holds more blocks than its quota, nor all together more than there are; then T_ROOM drops
-- nothing.
use Rattle.std.proofs.Common.{◌≡◌, ℕ, ◌+◌, ◌*◌, ◌/◌, ◌%◌, ◌==◌, ◌<◌, ◌≤◌, Bool, true, false, cond, List, length, get_or, Option, Some, None, is_some, inl, inr, refl, sym, ap, subst, ◌∙◌, arith, ◌≢◌, ◌-◌, ◌&&◌, find, ap₂, not, [], ◌∷◌, ◌++◌, filter, nat_lt, append-nil}
use Rattle.std.specs.List.{count_by, range_with_len, AllByRecursion, sum_by}
use Rattle.std.proofs.lemmas.Bool.{cases_eq, not-true, and_parts}
use Rattle.std.proofs.lemmas.Bool.Decides.{nat_tests}
use Rattle.std.proofs.lemmas.List.Sums.{sum_by-cons, sum_by-append}
use Rattle.std.proofs.Math.Nat.{suc-mul, mul-le-mul_right}
use Rattle.retain_store.specs.Maps.{Block, Store, ChangesOnly, ForgetsBelow, IsMap, IsWithin, block_at, chain_of, holds, octet_at}
use Rattle.retain_store.proofs.Room.{holds_are}
use Rattle.rule_book.specs.declared.rule.Rule.TheVariants as rules
use Rattle.norm_settings.specs.SettingValues.{PlainSettings}
use Rattle.era_state.specs.Rules.{is_of_stream}
use Rattle.ip_rules.specs.Datagrams.{Datagram, goes_in}
use Rattle.linked_table.proofs.Lists.{all_weaker, all_join}
use Rattle.retain_store.proofs.Blocks.{others_same}
use Rattle.wire_base.specs.Segments.{Written}
use Rattle.era_state.specs.Emission.{AreEmitted}
use Rattle.era_state.specs.States.{state_of, is_acknowledged}
use Rattle.retain_store.proofs.Counts.{sum_agree}
use Rattle.tcp_norm.specs.working.EraBounds.{AreBounded}
use Rattle.tcp_norm.specs.QuotaBounds.{IsAtMost}
use Rattle.tcp_norm.specs.RuleRows.{exceeds, is_live, holds_era, dropped_by, wanted_of}
use Rattle.tcp_norm.specs.Calls.{Call, eras, segments, live, is_key, key_of, segment_in, expiry, datagram, Alive, is_among, written_by, touched_by, ended_by, begun_in, numbers_of, without}
use Rattle.tcp_norm.specs.HeldOctets.{held_all, held_in, held_of}
use Rattle.tcp_norm.specs.RuleViews.{view_of, number_of, segments_of, View}
use Rattle.tcp_norm.specs.TableAndStore.{HoldsFor, EntryStands, alive_in}
use Rattle.tcp_norm.specs.Outcomes.{call_of}
use Rattle.tcp_norm.specs.LiveEras.{AreMade, made_of, writes_in}
use Rattle.tcp_norm.specs.SegmentPackets.{IsSegment, AsksSegment, AreOfSegments, CallsAreEmitted, IsBounded, HeldIsBounded, QuotaLeavesRoom}
use Rattle.tcp_norm.specs.working.EmptySegments.{BringsNone}
use Rattle.tcp_norm.proofs.Lists.{all_map, any_weaker, count_below, all_filter, all_passed, found_is, number_same, everywhere}
use Rattle.tcp_norm.proofs.CallKinds.{Moves, Kind, stays, goes_on, ends_own, begins_beside, evicts, reopens_one, kind}
use Rattle.tcp_norm.proofs.EraCounts.{flows_are_bounded}
use Rattle.tcp_norm.proofs.HeldBlocks.{Laws, silent_all, frame_grows}
use Rattle.tcp_norm.proofs.Payloads.{Writes, silent, framed, call_writes, first_is_silent}
use Rattle.tcp_norm.proofs.EmittedSegments.{acknowledged_based}
use Rattle.tcp_norm.proofs.EmittedCalls.{unwritten, none_to_come}
use Rattle.linked_table.specs.EntryTable.{Entry}
use Rattle.tcp_norm.specs.declared.key.Flow.{Flow}
use Rattle.tcp_norm.specs.declared.key.EraKey.{EraKey}

-- No era holds more cells than the quota allows; where all eras together have theirs, T_ROOM drops
-- nothing.

-- No chain grows above the quota.

pub at_most : (quota : Option ℕ) (n : ℕ) → exceeds quota n ≡ false → IsAtMost quota n
at_most None n e most is = cc
at_most (Some m) n e most is = let same : m ≡ most = cc in grind (arith, nat_tests, e, same)

-- a number above those of all blocks
abbrev end_of : List Block → ℕ
end_of [] = 0
end_of (b ∷ bs) = b.number + 1 + end_of bs

inside : (blocks : List Block) (o : ℕ) → is_some (octet_at blocks o) ≡ true → o / 256 < end_of blocks
inside [] o some = cc
inside (b ∷ bs) o some = cases (b.number == o / 256) refl (inside bs o) some
  where
    cases : (t : Bool) → (b.number == o / 256) ≡ t → (is_some (octet_at bs o) ≡ true → o / 256 < end_of bs) → is_some (get_or (cond t b.octets (block_at bs (o / 256))) (o % 256) None) ≡ true → o / 256 < b.number + 1 + end_of bs
    cases true e rest got = let same : b.number ≡ o / 256 = grind (arith, nat_tests, e) in omega (arith, same)
    cases false e rest got = let lt = rest got in omega (arith, lt)

within_end : (blocks : List Block) → IsWithin blocks (256 * end_of blocks)
within_end blocks o some = let lt = inside blocks o some in omega (arith, lt)

-- where octets are forgotten a chain has no more blocks
pub shorter_below : (old new : List Block) (at : ℕ) → IsMap old → IsMap new → ForgetsBelow old new at
    → ((n : ℕ) → IsWithin old (256 * n) → length old ≡ count_by (holds old) (range_with_len 0 n))
    → ((n : ℕ) → IsWithin new (256 * n) → length new ≡ count_by (holds new) (range_with_len 0 n))
    → length new ≤ length old
shorter_below old new at was map forgets counted counts =
    let n = end_of old in
    let fewer : (o : ℕ) → is_some (octet_at new o) ≡ true → is_some (octet_at old o) ≡ true =
    λ o some. left (nat_lt o at) (octet_at old o) (sym (ap is_some (forgets o)) ∙ some) in
    let goes : (m : ℕ) → holds new m ≡ true → holds old m ≡ true = λ m e.
    holds_are old (octet_at old) m was (λ o. refl)
    ∙ any_weaker (λ o. is_some (octet_at new o)) (λ o. is_some (octet_at old o)) (range_with_len (256 * m) 256) fewer (sym (holds_are new (octet_at new) m map (λ o. refl)) ∙ e) in
    omega (arith, counted n (within_end old), counts n (λ o some. within_end old o (fewer o some)), count_below (holds new) (holds old) (range_with_len 0 n) goes)
  where
    left : (b : Bool) (x : Option ℕ) → is_some (cond b None x) ≡ true → is_some x ≡ true
    left true x e = cc
    left false x e = e

-- a store of which one chain changes
pub stays_bounded : (quota : Option ℕ) (store new : Store) (hole : ℕ) → AreBounded quota store → ChangesOnly store new hole → IsAtMost quota (length (chain_of new hole)) → AreBounded quota new
stays_bounded quota store new hole was changed here chain most is =
    elim (cases_eq chain hole) [
      | inl same ↦ subst (λ k. length (chain_of new k) ≤ most) (sym same) (here most is)
      | inr ne ↦ subst (λ (l : List Block). length l ≤ most) (sym (others_same store new hole changed chain ne)) (was chain most is)
    ]

-- What a quota bounds: the cells of each live era, and where all eras together have theirs, T_ROOM.

pub each_at_most : (quota : Option ℕ) (cs : List Call) (begun : ℕ) (entries : List (Entry EraKey Flow)) (store : Store)
    → HoldsFor (eras cs) (λ n. segments n cs) begun entries store → AreBounded quota store → AllByRecursion (λ (a : Alive). IsAtMost quota (held_in cs a)) (eras cs)
each_at_most quota cs begun entries store h bounded =
    subst (AllByRecursion (λ (a : Alive). IsAtMost quota (held_in cs a))) h.eras_are
    (all_map (λ (a : Alive). IsAtMost quota (held_in cs a)) alive_in entries
    (all_weaker (EntryStands (λ n. segments n cs) store) (λ (e : Entry EraKey Flow). IsAtMost quota (held_in cs (alive_in e)))
    (λ e s most is. subst (λ n. n ≤ most) s.count (bounded e.slot.0 most is)) entries h.each))

sum_most : (f : Alive → ℕ) (most : ℕ) (xs : List Alive) → AllByRecursion (λ (a : Alive). f a ≤ most) xs → sum_by f xs ≤ length xs * most
sum_most f most [] all = omega arith
sum_most f most (x ∷ xs) all =
    let rest = sum_most f most xs all.1 in
    omega (arith, rest, all.0, sum_by-cons f x xs, suc-mul (length xs) most)

-- all but the one that is found have at most this number
sum_at : (f : Alive → ℕ) (p : Alive → Bool) (most : ℕ) (xs : List Alive) (a : Alive) → find p xs ≡ Some a → AllByRecursion (λ (b : Alive). f b ≤ most) xs
    → sum_by f xs + most ≤ length xs * most + f a
sum_at f p most [] a found all = cc
sum_at f p most (x ∷ xs) a found all = cases (p x) refl (λ later. sum_at f p most xs a later all.1)
  where
    got : {y z : Alive} → Some y ≡ Some z → y ≡ z
    got e = cc

    cases : (b : Bool) → p x ≡ b → (find p xs ≡ Some a → sum_by f xs + most ≤ length xs * most + f a) → sum_by f (x ∷ xs) + most ≤ length (x ∷ xs) * most + f a
    cases true e rest =
        let same : x ≡ a = got (ap (λ b. cond b (Some x) (find p xs)) (sym e) ∙ found) in
        omega (arith, ap f same, sum_most f most xs all.1, sum_by-cons f x xs, suc-mul (length xs) most)
    cases false e rest =
        let below = rest (ap (λ b. cond b (Some x) (find p xs)) (sym e) ∙ found) in
        omega (arith, below, all.0, sum_by-cons f x xs, suc-mul (length xs) most)

-- of the rules that drop, T_ROOM is tested last
room_last : (s a b c e f g h : Bool) → cond s (cond a (Some rules.TCold) (cond b (Some rules.TState) (cond c (Some rules.TSyn) (cond e (Some rules.TRst) (cond f (Some rules.TFull) (cond g (Some rules.TQuota) (cond h (Some rules.TRoom) None))))))) None ≡ Some rules.TRoom
    → (g ≡ false) × (h ≡ true)
room_last true false false false false false false true is = (refl, refl)
room_last true false false false false false false false is = cc
room_last true false false false false false true h is = cc
room_last true false false false false true g h is = cc
room_last true false false false true f g h is = cc
room_last true false false true e f g h is = cc
room_last true false true c e f g h is = cc
room_last true true b c e f g h is = cc
room_last false a b c e f g h is = cc

pub never_for_room : (settings : PlainSettings) (cs : List Call) (d : Datagram) (most : ℕ) → AllByRecursion (λ (a : Alive). IsAtMost settings.quota (held_in cs a)) (eras cs)
    → length (eras cs) ≤ settings.flows → settings.quota ≡ Some most → settings.flows * most ≤ settings.cells → dropped_by settings (view_of settings cs d) d ≢ Some rules.TRoom
never_for_room settings cs d most each few is ample drops =
    let v = view_of settings cs d in
    let w = segment_in d in
    let p = holds_era settings v d in
    let rows = room_last (goes_in d.side) (p rules.TCold) (p rules.TState) (p rules.TSyn) (p rules.TRst) (p rules.TFull) (p rules.TQuota) (p rules.TRoom) drops in
    let room = and_parts (is_live v && is_of_stream v.segments w) (nat_lt v.room (wanted_of v.segments w)) rows.1 in
    let stream = and_parts (is_live v) (is_of_stream v.segments w) room.0 in
    let within : exceeds settings.quota (held_of v.segments + wanted_of v.segments w) ≡ false =
    sym (ap₂ (λ a b. a && b && exceeds settings.quota (held_of v.segments + wanted_of v.segments w)) stream.0 stream.1) ∙ rows.0 in
    found (live cs (key_of d)) refl stream.0 room.1 (at_most settings.quota _ within most is)
  where
    found : (x : Option Alive) → live cs (key_of d) ≡ x → is_live (view_of settings cs d) ≡ true
        → nat_lt (view_of settings cs d).room (wanted_of (view_of settings cs d).segments (segment_in d)) ≡ true
        → held_of (view_of settings cs d).segments + wanted_of (view_of settings cs d).segments (segment_in d) ≤ most → ⊥
    found None e named short fits = cc (sym (ap (λ x. is_some (number_of x)) e) ∙ named)
    found (Some a) e named short fits =
        let held : held_of (view_of settings cs d).segments ≡ held_in cs a = ap (λ x. held_of (segments_of (λ n. segments n cs) x)) e in
        let lt : settings.cells - held_all cs < wanted_of (view_of settings cs d).segments (segment_in d) = grind (arith, nat_tests, short) in
        let all = all_weaker (λ (b : Alive). IsAtMost settings.quota (held_in cs b)) (λ (b : Alive). held_in cs b ≤ most) (λ b le. le most is) (eras cs) each in
        let sum = sum_at (held_in cs) (λ b. is_key b.key (key_of d)) most (eras cs) a e all in
        let product = mul-le-mul_right most few in
        omega (arith, held, lt, fits, sum, product, ample)

-- What is held after calls that the rules make: no more blocks than there are cells, and of no era
-- more than the quota.

-- an era in which the call does not write
same_in : (cs : List Call) (c : Call) (n : ℕ) → writes_in n c ≡ false → segments n (c ∷ cs) ≡ segments n cs
same_in cs c n e = ap (λ l. segments n cs ++ l) (unwritten n c e) ∙ append-nil (segments n cs)

-- the live era of a datagram, and its segments
seen : (settings : PlainSettings) (cs : List Call) (d : Datagram) (n : ℕ) → (view_of settings cs d).era ≡ Some n
    → (a : Alive) × (live cs (key_of d) ≡ Some a) × (a.number ≡ n)
seen settings cs d n is = cases (live cs (key_of d)) refl is
  where
    cases : (l : Option Alive) → live cs (key_of d) ≡ l → number_of l ≡ Some n → (a : Alive) × (live cs (key_of d) ≡ Some a) × (a.number ≡ n)
    cases None e named = cc
    cases (Some a) e named = let number : a.number ≡ n = cc in (a, e, number)

-- what is held for an era, before and after, and the cells that it takes
record Room (settings : PlainSettings) (cs : List Call) (old new : ℕ) : Type 0 where
  more : ℕ
  grows : new ≤ old + more
  fits : held_all cs ≤ settings.cells → held_all cs + more ≤ settings.cells
  quota : IsAtMost settings.quota old → IsAtMost settings.quota new

no_more : (settings : PlainSettings) (cs : List Call) (old new : ℕ) → new ≤ old → Room settings cs old new
no_more settings cs old new le = record {
  more = 0;
  grows = omega (arith, le);
  fits = λ within. omega (arith, within);
  quota = λ was most is. let under = was most is in omega (arith, le, under);
}

-- what is held for an era after the call of a datagram
abbrev held_after : PlainSettings → List Call → (now n : ℕ) → Datagram → ℕ
held_after settings cs now n d = held_of (segments n (call_of settings cs now d ∷ cs))

-- the live era
live_room : Laws → (settings : PlainSettings) (cs : List Call) (now n : ℕ) (d : Datagram) → IsSegment settings d → (view_of settings cs d).era ≡ Some n
    → AreEmitted [] (segments n (call_of settings cs now d ∷ cs)) → Room settings cs (held_of (segments n cs)) (held_after settings cs now n d)
live_room l settings cs now n d is named emitted = by _ refl (call_writes l settings v d now n is)
  where
    v : View
    v = view_of settings cs d

    by : (more : List Written) → written_by n (call_of settings cs now d) ≡ more → Writes settings v d more → Room settings cs (held_of (segments n cs)) (held_after settings cs now n d)
    by more same (silent all) =
        let new = ap (λ x. segments n cs ++ x) same in
        let le = silent_all l (segments n cs) more (subst (AreEmitted []) new emitted) all in
        no_more settings cs (held_of (segments n cs)) (held_after settings cs now n d) (omega (arith, le, ap held_of new))
    by more same (framed frame one s quota room stands) =
        let a = seen settings cs d n named in
        let wanted = wanted_of v.segments (segment_in d) in
        let ws : v.segments ≡ segments n cs = ap (segments_of (λ m. segments m cs)) a.1 ∙ ap (λ m. segments m cs) a.2 in
        let new : segments n (call_of settings cs now d ∷ cs) ≡ v.segments ++ frame ∷ [] = ap₂ (λ x y. x ++ y) (sym ws) (same ∙ one) in
        let based = acknowledged_based v.segments (and_parts _ (is_acknowledged (state_of v.segments)) s.stream).1 in
        let le = frame_grows l v.segments (segment_in d) frame based stands in
        let free : nat_lt v.room wanted ≡ false = sym (λ k. s.live k && s.stream k && nat_lt v.room wanted) ∙ room in
        let within : exceeds settings.quota (held_of v.segments + wanted) ≡ false =
        sym (λ k. s.live k && s.stream k && exceeds settings.quota (held_of v.segments + wanted)) ∙ quota in
        let few : wanted ≤ settings.cells - held_all cs = grind (arith, nat_tests, free) in
        let held = ap held_of ws in
        let next = ap held_of new in
        record {
          more = wanted;
          grows = omega (arith, le, held, next);
          fits = λ under. omega (arith, few, under);
          quota = λ was most at. let top = at_most settings.quota _ within most at in omega (arith, le, next, top);
        }

-- an era that begins
new_room : Laws → (settings : PlainSettings) (cs : List Call) (now n : ℕ) (d : Datagram) → IsSegment settings d → segments n cs ≡ []
    → AreEmitted [] (segments n (call_of settings cs now d ∷ cs)) → held_after settings cs now n d ≤ 0
new_room l settings cs now n d is none emitted = by _ refl (call_writes l settings (view_of settings cs d) d now n is)
  where
    quiet : (more : List Written) → written_by n (call_of settings cs now d) ≡ more → (AreEmitted [] more → AllByRecursion BringsNone more) → held_after settings cs now n d ≤ 0
    quiet more same all =
        let new : segments n (call_of settings cs now d ∷ cs) ≡ [] ++ more = ap₂ (λ x y. x ++ y) none same in
        let sent = subst (AreEmitted []) new emitted in
        let le : held_of ([] ++ more) ≤ held_of [] = silent_all l [] more sent (all sent) in
        let zero : held_of [] ≡ 0 = refl in
        omega (arith, le, zero, ap held_of new)

    by : (more : List Written) → written_by n (call_of settings cs now d) ≡ more → Writes settings (view_of settings cs d) d more → held_after settings cs now n d ≤ 0
    by more same (silent all) = quiet more same (λ sent. all)
    by more same (framed frame one s quota room stands) = quiet (frame ∷ []) (same ∙ one) (λ sent. (first_is_silent frame sent, tt))

-- sums over what is left
sum_left : (f : Alive → ℕ) (p : Alive → Bool) (xs : List Alive) → sum_by f (filter p xs) ≤ sum_by f xs
sum_left f p [] = omega arith
sum_left f p (x ∷ xs) = cases (p x) (sum_left f p xs)
  where
    cases : (b : Bool) → sum_by f (filter p xs) ≤ sum_by f xs → sum_by f (cond b (x ∷ filter p xs) (filter p xs)) ≤ sum_by f (x ∷ xs)
    cases true le = omega (arith, le, sum_by-cons f x (filter p xs), sum_by-cons f x xs)
    cases false le = omega (arith, le, sum_by-cons f x xs)

sum_found : (f : Alive → ℕ) (q : Alive → Bool) (xs : List Alive) (a : Alive) → find q xs ≡ Some a
    → sum_by f (without (a.number ∷ []) xs) + f a ≤ sum_by f xs
sum_found f q [] a found = cc
sum_found f q (x ∷ xs) a found = cases (q x) found (sum_found f q xs a)
  where
    stays : Alive → Bool
    stays b = not (is_among (a.number ∷ []) b.number)

    kept : (b : Bool) → sum_by f (filter stays xs) + f a ≤ sum_by f xs → sum_by f (cond b (x ∷ filter stays xs) (filter stays xs)) + f a ≤ sum_by f (x ∷ xs)
    kept true le = omega (arith, le, sum_by-cons f x (filter stays xs), sum_by-cons f x xs)
    kept false le = omega (arith, le, sum_by-cons f x xs)

    cases : (b : Bool) → cond b (Some x) (find q xs) ≡ Some a → (find q xs ≡ Some a → sum_by f (filter stays xs) + f a ≤ sum_by f xs)
        → sum_by f (filter stays (x ∷ xs)) + f a ≤ sum_by f (x ∷ xs)
    cases true is rest =
        let same : x ≡ a = cc in
        let out : stays x ≡ false = rw same (rw (number_same a.number) refl) in
        rw out (omega (arith, sum_left f stays xs, sum_by-cons f x xs, ap f same))
    cases false is rest = kept (stays x) (rest is)

-- what is held after a call that writes in these eras alone
module _ (cs : List Call) (c : Call) (ts : List Alive) (touched : touched_by c ≡ ts) (writes : (n : ℕ) → writes_in n c ≡ is_among (numbers_of ts) n) where
  eras_are : eras (c ∷ cs) ≡ without (ended_by c) (without (numbers_of ts) (eras cs) ++ ts)
  eras_are = ap (λ t. without (ended_by c) (without (numbers_of t) (eras cs) ++ t)) touched

  abbrev other : Alive → Bool
  other a = not (is_among (numbers_of ts) a.number)

  same_held : (a : Alive) → other a ≡ true → held_in (c ∷ cs) a ≡ held_in cs a
  same_held a out = ap held_of (same_in cs c a.number (writes a.number ∙ not-true (is_among (numbers_of ts) a.number) out))

  total : held_all (c ∷ cs) ≤ sum_by (held_in cs) (without (numbers_of ts) (eras cs)) + sum_by (held_in (c ∷ cs)) ts
  total =
      let f = held_in (c ∷ cs) in
      let olds = without (numbers_of ts) (eras cs) in
      let others = all_passed (λ a. f a ≡ held_in cs a) other (eras cs) (everywhere (λ a. other a ≡ true → f a ≡ held_in cs a) (eras cs) same_held) in
      omega (arith, ap (sum_by f) eras_are, sum_left f (λ a. not (is_among (ended_by c) a.number)) (olds ++ ts), sum_by-append f olds ts, sum_agree f (held_in cs) olds others)

  each : (quota : Option ℕ) → AllByRecursion (λ a. IsAtMost quota (held_in cs a)) (eras cs) → AllByRecursion (λ a. IsAtMost quota (held_in (c ∷ cs) a)) ts
      → AllByRecursion (λ a. IsAtMost quota (held_in (c ∷ cs) a)) (eras (c ∷ cs))
  each quota was new =
      let P = λ (a : Alive). IsAtMost quota (held_in (c ∷ cs) a) in
      let still = λ (a : Alive) (le : IsAtMost quota (held_in cs a)) (out : other a ≡ true). subst (IsAtMost quota) (sym (same_held a out)) le in
      let left = all_passed P other (eras cs) (all_weaker (λ a. IsAtMost quota (held_in cs a)) (λ a. other a ≡ true → P a) still (eras cs) was) in
      subst (AllByRecursion P) (sym eras_are) (all_filter P (λ a. not (is_among (ended_by c) a.number)) (without (numbers_of ts) (eras cs) ++ ts) (all_join P (without (numbers_of ts) (eras cs)) ts left new))

module _ (settings : PlainSettings) (cs : List Call) (c : Call) (b : IsBounded settings cs) where
  bounded_still : touched_by c ≡ [] → ((n : ℕ) → writes_in n c ≡ false) → IsBounded settings (c ∷ cs)
  bounded_still touched writes = record {
    cells = omega (arith, b.cells, total cs c [] touched writes, sum_left (held_in cs) (λ (a : Alive). not (is_among [] a.number)) (eras cs));
    quota = each cs c [] touched writes settings.quota b.quota tt;
  }

  bounded_live : (a new : Alive) (q : Alive → Bool) → find q (eras cs) ≡ Some a → new.number ≡ a.number → touched_by c ≡ new ∷ []
      → ((n : ℕ) → writes_in n c ≡ is_among (new.number ∷ []) n) → Room settings cs (held_in cs a) (held_in (c ∷ cs) new) → IsBounded settings (c ∷ cs)
  bounded_live a new q found same touched writes r =
      let was = (found_is (λ (x : Alive). IsAtMost settings.quota (held_in cs x)) q (eras cs) a b.quota found).0 in
      let left : sum_by (held_in cs) (without (new.number ∷ []) (eras cs)) + held_in cs a ≤ held_all cs =
      subst (λ n. sum_by (held_in cs) (without (n ∷ []) (eras cs)) + held_in cs a ≤ held_all cs) (sym same) (sum_found (held_in cs) q (eras cs) a found) in
      record {
        cells = omega (arith, r.fits b.cells, r.grows, left, total cs c (new ∷ []) touched writes, sum_by-cons (held_in (c ∷ cs)) new []);
        quota = each cs c (new ∷ []) touched writes settings.quota b.quota (r.quota was, tt);
      }

  bounded_new : (new : Alive) → touched_by c ≡ new ∷ [] → ((n : ℕ) → writes_in n c ≡ is_among (new.number ∷ []) n) → held_in (c ∷ cs) new ≤ 0
      → IsBounded settings (c ∷ cs)
  bounded_new new touched writes none =
      let left = sum_left (held_in cs) (λ (a : Alive). not (is_among (new.number ∷ []) a.number)) (eras cs) in
      record {
        cells = omega (arith, b.cells, none, total cs c (new ∷ []) touched writes, left, sum_by-cons (held_in (c ∷ cs)) new []);
        quota = each cs c (new ∷ []) touched writes settings.quota b.quota ((λ most is. omega (arith, none)), tt);
      }

-- all segments of each era are emitted
abbrev EachEmitted : List Call → Type 0
EachEmitted cs = (n : ℕ) → AreEmitted [] (segments n cs)

-- after the call of a datagram
bounded_call : Laws → (settings : PlainSettings) (cs : List Call) (now : ℕ) (d : Datagram) → IsSegment settings d → AreMade settings cs
    → EachEmitted (call_of settings cs now d ∷ cs) → IsBounded settings cs → IsBounded settings (call_of settings cs now d ∷ cs)
bounded_call l settings cs now d is made emitted b = by (kind settings cs now d)
  where
    c : Call
    c = call_of settings cs now d

    at : ℕ → Alive
    at n = record { number = n; key = key_of d; touched = now }

    goes : (n : ℕ) (out : List ℕ) → (view_of settings cs d).era ≡ Some n → Moves c (key_of d) (at n ∷ []) None out → IsBounded settings (c ∷ cs)
    goes n out named m =
        let a = seen settings cs d n named in
        let r = live_room l settings cs now n d is named (emitted n) in
        bounded_live settings cs c b a.0 (at n) (λ x. is_key x.key (key_of d)) a.1 (sym a.2) m.touched_is m.writes
        (subst (λ k. Room settings cs (held_of (segments k cs)) (held_of (segments n (c ∷ cs)))) (sym a.2) r)

    begins : (out : List ℕ) → Moves c (key_of d) (at (begun_in cs + 1) ∷ []) (Some (begun_in cs + 1)) out → IsBounded settings (c ∷ cs)
    begins out m =
        let next = begun_in cs + 1 in
        bounded_new settings cs c b (at next) m.touched_is m.writes (new_room l settings cs now next d is (none_to_come settings cs made next (omega arith)) (emitted next))

    by : Kind (view_of settings cs d) c (key_of d) now → IsBounded settings (c ∷ cs)
    by (stays m) = bounded_still settings cs c b m.touched_is m.writes
    by (goes_on n named m) = goes n [] named m
    by (ends_own n named m) = goes n (n ∷ []) named m
    by (begins_beside cold full m) = begins [] m
    by (evicts k cold place m) = begins (k ∷ []) m
    by (reopens_one k named m) = begins (k ∷ []) m

bounded_next : Laws → (settings : PlainSettings) (cs : List Call) (c : Call) → c ≡ made_of settings cs c → AsksSegment settings c → AreMade settings cs
    → EachEmitted (c ∷ cs) → IsBounded settings cs → IsBounded settings (c ∷ cs)
bounded_next l settings cs (expiry now ended) is asks made emitted b = bounded_still settings cs (expiry now ended) b refl (λ n. refl)
bounded_next l settings cs (datagram now d o) is asks made emitted b =
    subst (λ c. EachEmitted (c ∷ cs) → IsBounded settings (c ∷ cs)) (sym is) (λ sent. bounded_call l settings cs now d asks made sent b) emitted

pub held_bounded : Laws → CallsAreEmitted → HeldIsBounded
held_bounded l emit settings [] calls = record { cells = omega arith; quota = tt }
held_bounded l emit settings (c ∷ cs) calls =
    let before : AreOfSegments settings cs = record { made = calls.made.1; asked = calls.asked.1 } in
    bounded_next l settings cs c calls.made.0 calls.asked.0 calls.made.1 (emit settings (c ∷ cs) calls) (held_bounded l emit settings cs before)

pub leaves_room : HeldIsBounded → QuotaLeavesRoom
leaves_room bounded settings cs d most calls is ample =
    never_for_room settings cs d most (bounded settings cs calls).quota (flows_are_bounded settings cs calls.made) is ample

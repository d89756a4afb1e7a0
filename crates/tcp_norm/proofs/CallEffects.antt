-- What a call changes: the era that it names gets segments, one may begin or end, all others stay.
use Rattle.std.proofs.Common.{◌≡◌, ◌≢◌, ℕ, ◌+◌, ◌<◌, ◌≤◌, ◌&&◌, not, Bool, true, false, cond, List, [], ◌∷◌, ◌++◌, map, filter, Option, Some, None, is_some, refl, sym, ap, ap₂, subst, ◌∙◌, arith, pos, ◌==◌, append-nil, nat_lt}
use Rattle.std.proofs.lemmas.List.Elements.{filter-append}
use Rattle.std.specs.List.{AllByRecursion}
use Rattle.wire_base.specs.Segments.{Written}
use Rattle.wire_base.specs.declared.address.FlowKey.{FlowKey}
use Rattle.norm_settings.specs.SettingValues.{PlainSettings}
use Rattle.linked_table.specs.EntryTable.{Entry}
use Rattle.retain_store.specs.Maps.{Store}
use Rattle.ip_rules.specs.Datagrams.{Datagram, Packet, goes_in}
use Rattle.linked_table.proofs.Lists.{all_weaker, all_join, filter_all, filter_under}
use Rattle.era_state.specs.Quantities.{base_at, acked, first}
use Rattle.rule_book.specs.declared.entry.Ended.{Ended}
use Rattle.rule_book.specs.declared.entry.Reason.{Reason}
use Rattle.era_state.specs.declared.era.Era.{Era}
use Rattle.era_state.specs.Eras as era
use Rattle.tcp_norm.specs.declared.key.Flow.{Flow}
use Rattle.tcp_norm.specs.declared.key.EraKey.{EraKey}
use Rattle.tcp_norm.specs.declared.state.TcpNorm.{TcpNorm}
use Rattle.tcp_norm.specs.declared.step.Step.{Step}
use Rattle.tcp_norm.specs.Calls.{Call, expiry, datagram, Outcome, Alive, read, is_era, is_written, segments, eras, written_by, touched_by, ended_by, begins_by, asks_by, time_of, alive_at, key_of, without, numbers_of, is_among, names}
use Rattle.tcp_norm.specs.TableAndStore.{HoldsFor, IsFor, IsTimely, StandsFor, EntryStands, alive_in}
use Rattle.tcp_norm.specs.working.TableChanges.{Holds, Begins, ChangesTables}
use Rattle.tcp_norm.specs.working.EraSteps.{listed, one, Does, number_ended, place_of}
use Rattle.tcp_norm.specs.HeldOctets.{kept_at}
use Rattle.tcp_norm.specs.declared.step.Place.{Place}
use Rattle.tcp_norm.specs.working.ColdDatagrams.{IsUnheard}
use Rattle.tcp_norm.specs.CallLaws.{Leaves, of_era}
use Rattle.tcp_norm.proofs.Lists.{all_unmap, pairs_push, everywhere, all_filter, pairs_passed, number_other, number_same}
use Rattle.tcp_norm.proofs.EraTable.{still, others_before, none_left}

-- What the call of a datagram leaves of the live eras, by what it does.

-- what is written in the era that it names, and in no other
pub own_by : (now n : ℕ) (d : Datagram) (o : Outcome) → o.era ≡ Some n → is_written o.verdict ≡ true → written_by n (datagram now d o) ≡ map (λ (p : Packet). read (goes_in d.side) p.octets) o.packets
own_by now n d o era written =
    ap₂ (λ a b. cond (is_era n a && b) (map (λ (p : Packet). read (goes_in d.side) p.octets) o.packets) []) era written
    ∙ ap (λ b. cond (b && true) (map (λ (p : Packet). read (goes_in d.side) p.octets) o.packets) []) (number_same n)

pub others_by : (now n m : ℕ) (d : Datagram) (o : Outcome) → o.era ≡ Some n → m ≢ n → written_by m (datagram now d o) ≡ []
others_by now n m d o era ne =
    ap (λ a. cond (is_era m a && is_written o.verdict) (map (λ (p : Packet). read (goes_in d.side) p.octets) o.packets) []) era
    ∙ ap (λ b. cond (b && is_written o.verdict) (map (λ (p : Packet). read (goes_in d.side) p.octets) o.packets) []) (number_other n m (λ same. ne (sym same)))

pub touched_of : (now : ℕ) (d : Datagram) (w : Written) (s : Step) (o : Outcome) (era : Option ℕ) → Does d w s o → s.era ≡ era → touched_by (datagram now d o) ≡ alive_at now (key_of d) era
touched_of now d w s o era does is = ap₂ (λ a b. cond b (alive_at now (key_of d) a) []) (does.era_is ∙ is) does.written

pub ended_of : (now : ℕ) (d : Datagram) (w : Written) (s : Step) (o : Outcome) → Does d w s o → ended_by (datagram now d o) ≡ map (λ e. e.era) (listed s.ended)
ended_of now d w s o does = ap (map (λ e. e.era)) does.ended_are

pub begins_of : (now : ℕ) (d : Datagram) (w : Written) (s : Step) (o : Outcome) (begun : Option ℕ) → Does d w s o → s.begun ≡ begun → begins_by (datagram now d o) ≡ cond (is_some begun) 1 0
begins_of now d w s o begun does is = ap (λ b. cond {A = ℕ} (is_some b) 1 0) (does.begun_is ∙ is)

pub without_none : (xs : List Alive) → without [] xs ≡ xs
without_none xs = filter_all (λ (b : Alive). not (is_among [] b.number)) xs (whole xs)
  where
    whole : (ys : List Alive) → AllByRecursion (λ (b : Alive). not (is_among [] b.number) ≡ true) ys
    whole [] = tt
    whole (y ∷ ys) = (refl, whole ys)

lives_by : (c : Call) (cs : List Call) (ended : List ℕ) (touched : List Alive) → ended_by c ≡ ended → touched_by c ≡ touched
    → eras (c ∷ cs) ≡ without ended (without (numbers_of touched) (eras cs) ++ touched)
lives_by c cs ended touched e t = ap₂ (λ x y. without x (without (numbers_of y) (eras cs) ++ y)) e t

-- none is touched, none ends
pub lives_stay : (c : Call) (cs : List Call) → ended_by c ≡ [] → touched_by c ≡ [] → eras (c ∷ cs) ≡ eras cs
lives_stay c cs e t = lives_by c cs [] [] e t ∙ (without_none (without [] (eras cs) ++ []) ∙ (append-nil (without [] (eras cs)) ∙ without_none (eras cs)))

-- one is touched, none ends
pub lives_touch : (c : Call) (cs : List Call) (a : Alive) → ended_by c ≡ [] → touched_by c ≡ a ∷ [] → eras (c ∷ cs) ≡ without (a.number ∷ []) (eras cs) ++ a ∷ []
lives_touch c cs a e t = lives_by c cs [] (a ∷ []) e t ∙ without_none (without (a.number ∷ []) (eras cs) ++ a ∷ [])

twice_step : {X : Type 0} (p : X → Bool) (x : X) (xs : List X) (b : Bool) → p x ≡ b → filter p (filter p xs) ≡ filter p xs
    → filter p (cond b (x ∷ filter p xs) (filter p xs)) ≡ cond b (x ∷ filter p xs) (filter p xs)
twice_step p x xs true e rest = ap (λ c. cond c (x ∷ filter p (filter p xs)) (filter p (filter p xs))) e ∙ ap (λ l. x ∷ l) rest
twice_step p x xs false e rest = rest

twice_filtered : {X : Type 0} (p : X → Bool) (xs : List X) → filter p (filter p xs) ≡ filter p xs
twice_filtered p [] = refl
twice_filtered p (x ∷ xs) = twice_step p x xs (p x) refl (twice_filtered p xs)

twice : (n : ℕ) (xs : List Alive) → without (n ∷ []) (without (n ∷ []) xs) ≡ without (n ∷ []) xs
twice n xs = twice_filtered (λ (a : Alive). not (is_among (n ∷ []) a.number)) xs

one_out : (n : ℕ) (a : Alive) → a.number ≡ n → without (n ∷ []) (a ∷ []) ≡ []
one_out n a same = rw same (rw (number_same n) refl)

one_in : (k : ℕ) (a : Alive) → a.number ≢ k → without (k ∷ []) (a ∷ []) ≡ a ∷ []
one_in k a ne = rw (number_other k a.number (λ same. ne (sym same))) refl

-- one is touched, and ends
pub lives_end : (c : Call) (cs : List Call) (a : Alive) → ended_by c ≡ a.number ∷ [] → touched_by c ≡ a ∷ [] → eras (c ∷ cs) ≡ without (a.number ∷ []) (eras cs)
lives_end c cs a e t =
    lives_by c cs (a.number ∷ []) (a ∷ []) e t
    ∙ (filter-append (λ (b : Alive). not (is_among (a.number ∷ []) b.number)) (without (a.number ∷ []) (eras cs)) (a ∷ [])
    ∙ (ap₂ (λ l m. l ++ m) (twice a.number (eras cs)) (one_out a.number a refl) ∙ append-nil (without (a.number ∷ []) (eras cs))))

-- a new one is touched, and another ends or none
pub lives_begin : (c : Call) (cs : List Call) (a : Alive) (begun : ℕ) (out : Option ℕ) → AllByRecursion (λ (b : Alive). b.number ≤ begun) (eras cs) → begun < a.number
    → ((k : ℕ) → out ≡ Some k → k ≢ a.number) → ended_by c ≡ one out → touched_by c ≡ a ∷ [] → eras (c ∷ cs) ≡ without (one out) (eras cs) ++ a ∷ []
lives_begin c cs a begun out below above others e t =
    lives_by c cs (one out) (a ∷ []) e t
    ∙ (ap (λ l. without (one out) (l ++ a ∷ [])) unchanged
    ∙ (filter-append (λ (b : Alive). not (is_among (one out) b.number)) (eras cs) (a ∷ []) ∙ ap (λ l. without (one out) (eras cs) ++ l) (stays out others)))
  where
    unchanged : without (a.number ∷ []) (eras cs) ≡ eras cs
    unchanged = filter_all (λ (b : Alive). not (is_among (a.number ∷ []) b.number)) (eras cs)
        (all_weaker (λ (b : Alive). b.number ≢ a.number) (λ (b : Alive). not (is_among (a.number ∷ []) b.number) ≡ true)
        (λ b ne. rw (number_other a.number b.number (λ same. ne (sym same))) refl) (eras cs) (others_before a.number (eras cs) begun below above))

    stays : (x : Option ℕ) → ((k : ℕ) → x ≡ Some k → k ≢ a.number) → without (one x) (a ∷ []) ≡ a ∷ []
    stays None ne = refl
    stays (Some k) ne = one_in k a (λ same. ne k refl (sym same))

-- times rise
timely_left : (now : ℕ) (numbers : List ℕ) (xs : List Alive) → IsTimely now xs → IsTimely now (without numbers xs)
timely_left now numbers xs t =
    record {
      most = all_filter (λ (a : Alive). a.touched ≤ now) (λ (a : Alive). not (is_among numbers a.number)) xs t.most;
      rises = pairs_passed (λ (a b : Alive). a.touched ≤ b.touched) (λ (a : Alive). not (is_among numbers a.number)) xs t.rises;
    }

timely_later : (t now : ℕ) (xs : List Alive) → t ≤ now → IsTimely t xs → IsTimely now xs
timely_later t now xs le is = record { most = all_weaker (λ (a : Alive). a.touched ≤ t) (λ (a : Alive). a.touched ≤ now) (λ a under. omega (arith, under, le)) xs is.most; rises = is.rises }

timely_push : (t now : ℕ) (xs : List Alive) (a : Alive) → t ≤ now → a.touched ≡ now → IsTimely t xs → IsTimely now (xs ++ a ∷ [])
timely_push t now xs a le here is =
    record {
      most = all_join (λ (b : Alive). b.touched ≤ now) xs (a ∷ []) (timely_later t now xs le is).most (omega (arith, here), tt);
      rises = pairs_push (λ (b c : Alive). b.touched ≤ c.touched) xs a is.rises (all_weaker (λ (b : Alive). b.touched ≤ t) (λ (b : Alive). b.touched ≤ a.touched) (λ b under. omega (arith, under, le, here)) xs is.most);
    }

-- those of a call's own time
timely_with : (t now : ℕ) (xs : List Alive) (key : FlowKey) (era : Option ℕ) (b : Bool) → t ≤ now → IsTimely t xs → IsTimely now (xs ++ cond b (alive_at now key era) [])
timely_with t now xs key None true le is = subst (IsTimely now) (sym (append-nil xs)) (timely_later t now xs le is)
timely_with t now xs key (Some n) true le is = timely_push t now xs (record { number = n; key = key; touched = now }) le refl is
timely_with t now xs key era false le is = subst (IsTimely now) (sym (append-nil xs)) (timely_later t now xs le is)

pub timely_next : (t : ℕ) (c : Call) (cs : List Call) → t ≤ time_of c → IsTimely t (eras cs) → IsTimely (time_of c) (eras (c ∷ cs))
timely_next t (expiry now ended) cs le is =
    timely_left now ended (without [] (eras cs) ++ []) (subst (IsTimely now) (sym (append-nil (without [] (eras cs)))) (timely_later t now (without [] (eras cs)) le (timely_left t [] (eras cs) is)))
timely_next t (datagram now d o) cs le is =
    timely_left now (ended_by (datagram now d o)) (without (numbers_of (touched_by (datagram now d o))) (eras cs) ++ touched_by (datagram now d o))
    (timely_with t now (without (numbers_of (touched_by (datagram now d o))) (eras cs)) (key_of d) o.era (is_written o.verdict) le (timely_left t (numbers_of (touched_by (datagram now d o))) (eras cs) is))

-- what was kept of the calls represents them with one more
pub stands_next : (settings : PlainSettings) (old new : TcpNorm) (cs : List Call) (c : Call) (lives : List Alive) → StandsFor settings old cs
    → IsFor settings new → HoldsFor lives (λ n. segments n (c ∷ cs)) new.begun new.table.entries new.store → eras (c ∷ cs) ≡ lives
    → new.begun ≡ old.begun + begins_by c → new.latest ≡ time_of c → old.latest ≤ time_of c → new.calls ≡ old.calls + asks_by c
    → StandsFor settings new (c ∷ cs)
stands_next settings old new cs c lives st opened holds lives_are begun now later asked = record {
  opened = opened;
  holds = subst (λ l. HoldsFor l (λ n. segments n (c ∷ cs)) new.begun new.table.entries new.store) (sym lives_are) holds;
  begun_is = omega (arith, begun, st.begun_is);
  latest_is = omega (arith, now, later, st.latest_is);
  calls_is = omega (arith, asked, st.calls_is);
  timely = subst (λ t. IsTimely t (eras (c ∷ cs))) (sym now) (timely_next old.latest c cs later st.timely);
}

-- segments of numbers that are not live may change
pub relabel : (lives : List Alive) (segments later : ℕ → List Written) (begun : ℕ) (entries : List (Entry EraKey Flow)) (store : Store)
    → AllByRecursion (λ (a : Alive). later a.number ≡ segments a.number) lives → ((m : ℕ) → begun < m → later m ≡ [])
    → HoldsFor lives segments begun entries store → HoldsFor lives later begun entries store
relabel lives segments later begun entries store same fresh h = record {
  eras_are = h.eras_are;
  each = each_still entries (all_unmap (λ (a : Alive). later a.number ≡ segments a.number) alive_in entries
      (subst (AllByRecursion (λ (a : Alive). later a.number ≡ segments a.number)) (sym h.eras_are) same)) h.each;
  free = h.free;
  given = record { below = h.given.below; apart = h.given.apart; fresh = fresh };
}
  where
    each_still : (es : List (Entry EraKey Flow)) → AllByRecursion (λ (e : Entry EraKey Flow). later e.value.number ≡ segments e.value.number) es
        → AllByRecursion (EntryStands segments store) es → AllByRecursion (EntryStands later store) es
    each_still [] same each = tt
    each_still (e ∷ es) same each = (still segments later store store e refl each.0 same.0, each_still es same.1 each.1)

-- What was kept represents the calls with the one of an outbound segment, by what it does.

-- what was opened stays, and the numbers of what is kept advance by one call
pub record GoesOn (settings : PlainSettings) (old new : TcpNorm) (now more : ℕ) : Type 0 where
  pub opened : IsFor settings new
  pub begun : new.begun ≡ old.begun + more
  pub calls : new.calls ≡ old.calls + 1
  pub latest : new.latest ≡ now
  pub later : old.latest ≤ now

-- where the tables change after a call was counted
pub tables_go_on : (settings : PlainSettings) (old counted new : TcpNorm) (now more begun : ℕ) → ChangesTables counted new begun → begun ≡ old.begun + more → IsFor settings counted → counted.calls ≡ old.calls + 1
    → counted.latest ≡ now → old.latest ≤ now → GoesOn settings old new now more
tables_go_on settings old counted new now more begun changes same opened calls latest later = record {
  opened = changes.opened settings opened;
  begun = changes.begun_is ∙ same;
  calls = changes.calls_are ∙ calls;
  latest = changes.latest_is ∙ latest;
  later = later;
}

-- the segments with those of one more call: in the era that it names, and in another
own_then : (cs : List Call) (now n : ℕ) (d : Datagram) (w : Written) (s : Step) (o : Outcome) → Does d w s o → s.era ≡ Some n
    → segments n (datagram now d o ∷ cs) ≡ segments n cs ++ w ∷ []
own_then cs now n d w s o does era = ap (λ l. segments n cs ++ l) (own_by now n d o (does.era_is ∙ era) does.written ∙ does.packets_are)

other_then : (cs : List Call) (now n m : ℕ) (d : Datagram) (w : Written) (s : Step) (o : Outcome) → Does d w s o → s.era ≡ Some n → m ≢ n
    → segments m (datagram now d o ∷ cs) ≡ segments m cs
other_then cs now n m d w s o does era ne = ap (λ l. segments m cs ++ l) (others_by now n m d o (does.era_is ∙ era) ne) ∙ append-nil (segments m cs)

-- a segment that ends its era
pub ends_within : (settings : PlainSettings) (old new : TcpNorm) (cs : List Call) (now n : ℕ) (d : Datagram) (w : Written) (o : Outcome) (reason : Reason) (octets : Option ℕ)
    → StandsFor settings old cs → GoesOn settings old new now 0 → n ≤ old.begun
    → Does d w (record { era = Some n; begun = None; ended = Some (record { era = n; reason = reason; octets = octets }); full = false }) o
    → Holds new (without (n ∷ []) (eras cs)) (λ m. segments m cs) → StandsFor settings new (datagram now d o ∷ cs)
ends_within settings old new cs now n d w o reason octets st goes given does holds =
    let s : Step = record { era = Some n; begun = None; ended = Some (record { era = n; reason = reason; octets = octets }); full = false } in
    let c = datagram now d o in
    let begins = begins_of now d w s o None does refl in
    let other : (m : ℕ) → m ≢ n → segments m (c ∷ cs) ≡ segments m cs = λ m ne. other_then cs now n m d w s o does refl ne in
    stands_next settings old new cs c (without (n ∷ []) (eras cs)) st goes.opened
    (relabel (without (n ∷ []) (eras cs)) (λ m. segments m cs) (λ m. segments m (c ∷ cs)) new.begun new.table.entries new.store
    (all_weaker (λ (a : Alive). a.number ≢ n) (λ (a : Alive). segments a.number (c ∷ cs) ≡ segments a.number cs) (λ a ne. other a.number ne) (without (n ∷ []) (eras cs)) (none_left n (eras cs)))
    (λ m above. other m (λ same. absurd (omega (arith, goes.begun, given, above, same))) ∙ holds.given.fresh m above) holds)
    (lives_end c cs (record { number = n; key = key_of d; touched = now }) (ended_of now d w s o does) (touched_of now d w s o (Some n) does refl))
    (omega (arith, goes.begun, begins)) goes.latest goes.later goes.calls

-- a segment that begins an era, where another may end
pub begins_then : (settings : PlainSettings) (old new : TcpNorm) (cs : List Call) (now : ℕ) (d : Datagram) (w : Written) (o : Outcome) (s : Step) (out : Option ℕ)
    → StandsFor settings old cs → GoesOn settings old new now 1 → ((k : ℕ) → out ≡ Some k → k ≤ old.begun)
    → s.era ≡ Some (old.begun + 1) → s.begun ≡ Some (old.begun + 1) → map (λ e. e.era) (listed s.ended) ≡ one out → Does d w s o
    → Holds new (without (one out) (eras cs) ++ record { number = old.begun + 1; key = key_of d; touched = now } ∷ []) (λ m. segments m (datagram now d o ∷ cs))
    → StandsFor settings new (datagram now d o ∷ cs)
begins_then settings old new cs now d w o s out st goes given era begun ended does holds =
    let n = old.begun + 1 in
    let c = datagram now d o in
    let begins = begins_of now d w s o (Some n) does begun in
    stands_next settings old new cs c _ st goes.opened holds
    (lives_begin c cs (record { number = n; key = key_of d; touched = now }) old.begun out st.holds.given.below (omega arith)
    (λ k is same. let le = given k is in absurd (omega (arith, le, same)))
    (ended_of now d w s o does ∙ ended) (touched_of now d w s o (Some n) does era))
    (omega (arith, goes.begun, begins)) goes.latest goes.later goes.calls

-- its first segment
pub begins_with : (settings : PlainSettings) (old : TcpNorm) (cs : List Call) (now : ℕ) (d : Datagram) (w : Written) (o : Outcome) (s : Step) (e : Era) → StandsFor settings old cs → s.era ≡ Some (old.begun + 1) → Does d w s o
    → era.StandsFor e (w ∷ []) → ((offset : ℕ) → kept_at (w ∷ []) offset ≡ None) → Begins e (old.begun + 1) (λ m. segments m cs) (λ m. segments m (datagram now d o ∷ cs))
begins_with settings old cs now d w o s e st named does stands none =
    let n = old.begun + 1 in
    let own : segments n (datagram now d o ∷ cs) ≡ w ∷ [] = own_then cs now n d w s o does named ∙ ap (λ l. l ++ w ∷ []) (st.holds.given.fresh n (omega arith)) in
    record {
      stands = subst (era.StandsFor e) (sym own) stands;
      none = λ offset. ap (λ l. kept_at l offset) own ∙ none offset;
      others = λ m ne. other_then cs now n m d w s o does named ne;
    }

-- of an era of one outbound segment nothing is kept
pub none_kept : (w : Written) → w.inward ≡ false → (offset : ℕ) → kept_at (w ∷ []) offset ≡ None
none_kept w out offset = cases (nat_lt offset (acked (base_at (w ∷ [])) (w ∷ [])))
  where
    nothing : first (base_at (w ∷ [])) (w ∷ []) (pos offset) ≡ None
    nothing = rw out refl

    cases : (b : Bool) → cond b None (first (base_at (w ∷ [])) (w ∷ []) (pos offset)) ≡ None
    cases true = refl
    cases false = nothing

pub given_some : {begun : ℕ} (n k : ℕ) → n ≤ begun → Some n ≡ Some k → k ≤ begun
given_some n k le is = let same : n ≡ k = cc in omega (arith, le, same)

-- the era that ends is the one whose slot is taken
pub ended_by_place : (out : Option Ended) → map (λ e. e.era) (listed out) ≡ one (number_ended out)
ended_by_place None = refl
ended_by_place (Some k) = refl

-- an era that begins is the next one
pub begun_place : (full : Bool) (first : Option Ended) (next : ℕ) (p : Place) → Some p ≡ place_of full first next → p.begun ≡ next
begun_place false first next p is = let same : p ≡ record { begun = next; evicted = None } = cc in ap (λ (q : Place). q.begun) same
begun_place true None next p is = cc
begun_place true (Some k) next p is = let same : p ≡ record { begun = next; evicted = Some k } = cc in ap (λ (q : Place). q.begun) same

-- A call of which no era hears leaves them all.

none_written : (now m : ℕ) (d : Datagram) (o : Outcome) (b : Bool) → is_written o.verdict ≡ b → IsUnheard o → written_by m (datagram now d o) ≡ []
none_written now m d o true e u = ap (λ a. cond (is_era m a && is_written o.verdict) (map (λ (p : Packet). read (goes_in d.side) p.octets) o.packets) []) (u.era e)
none_written now m d o false e u = ap (λ b. cond (is_era m o.era && b) (map (λ (p : Packet). read (goes_in d.side) p.octets) o.packets) []) e ∙ never (is_era m o.era) _
  where
    never : {X : Type 0} (a : Bool) (xs : List X) → cond (a && false) xs [] ≡ []
    never true xs = refl
    never false xs = refl

none_touched : (now : ℕ) (d : Datagram) (o : Outcome) (b : Bool) → is_written o.verdict ≡ b → IsUnheard o → touched_by (datagram now d o) ≡ []
none_touched now d o true e u = ap₂ (λ b a. cond b (alive_at now (key_of d) a) []) e (u.era e)
none_touched now d o false e u = ap (λ b. cond b (alive_at now (key_of d) o.era) []) e

-- a segment of no era
pub outside_unheard : (d : Datagram) (w : Written) (o : Outcome) (full : Bool) → Does d w (record { era = None; begun = None; ended = None; full = full }) o → IsUnheard o
outside_unheard d w o full does = record { era = λ written. does.era_is; begun = does.begun_is; ended = does.ended_are }

pub stays_unheard : (settings : PlainSettings) (old new : TcpNorm) (cs : List Call) (now : ℕ) (d : Datagram) (o : Outcome)
    → StandsFor settings old cs → GoesOn settings old new now 0 → IsUnheard o → Holds new (eras cs) (λ m. segments m cs) → StandsFor settings new (datagram now d o ∷ cs)
stays_unheard settings old new cs now d o st goes u holds =
    let c = datagram now d o in
    let same : (m : ℕ) → segments m (c ∷ cs) ≡ segments m cs = λ m. ap (λ l. segments m cs ++ l) (none_written now m d o (is_written o.verdict) refl u) ∙ append-nil (segments m cs) in
    let begins : begins_by c ≡ 0 = ap (λ b. cond {A = ℕ} (is_some b) 1 0) u.begun in
    stands_next settings old new cs c (eras cs) st goes.opened
    (relabel (eras cs) (λ m. segments m cs) (λ m. segments m (c ∷ cs)) new.begun new.table.entries new.store (everywhere (λ (a : Alive). segments a.number (c ∷ cs) ≡ segments a.number cs) (eras cs) (λ a. same a.number)) (λ m above. same m ∙ holds.given.fresh m above) holds)
    (lives_stay c cs (ap (map (λ e. e.era)) u.ended) (none_touched now d o (is_written o.verdict) refl u))
    (omega (arith, goes.begun, begins)) goes.latest goes.later goes.calls

-- A call leaves each era that it neither names nor ends.

-- nothing is written in it
written_nothing : (era : ℕ) (c : Call) → names c era ≡ false → written_by era c ≡ []
written_nothing era (expiry now ended) e = refl
written_nothing era (datagram now asked outcome) e = rw e refl

-- it is not touched
alive_other : (era now : ℕ) (d : Datagram) (named : Option ℕ) → is_era era named ≡ false → of_era era (alive_at now (key_of d) named) ≡ []
alive_other era now d None e = refl
alive_other era now d (Some n) e = rw e refl

touched_other : (era : ℕ) (c : Call) → names c era ≡ false → of_era era (touched_by c) ≡ []
touched_other era (expiry now ended) e = refl
touched_other era (datagram now asked outcome) e =
    elim (is_written outcome.verdict) as (λ b. of_era era (cond b (alive_at now (key_of asked) outcome.era) []) ≡ []) [
      | true ↦ alive_other era now asked outcome.era e
      | false ↦ refl
    ]

-- its number is not among those of what is touched
untouched : (era : ℕ) (c : Call) → names c era ≡ false → is_among (numbers_of (touched_by c)) era ≡ false
untouched era (expiry now ended) e = refl
untouched era (datagram now asked outcome) e =
    elim (is_written outcome.verdict) as (λ b. is_among (numbers_of (cond b (alive_at now (key_of asked) outcome.era) [])) era ≡ false) [
      | true ↦ in_named outcome.era e
      | false ↦ refl
    ]
  where
    in_named : (named : Option ℕ) → is_era era named ≡ false → is_among (numbers_of (alive_at now (key_of asked) named)) era ≡ false
    in_named None h = refl
    in_named (Some n) h = rw h refl

-- the entries of an era stay where the others of some numbers are left out
pub kept_without : (era : ℕ) (numbers : List ℕ) (lives : List Alive) → is_among numbers era ≡ false → of_era era (without numbers lives) ≡ of_era era lives
kept_without era numbers lives e =
    filter_under (λ (a : Alive). a.number == era) (λ (a : Alive). not (is_among numbers a.number)) (λ (a : Alive) same. here a same) lives
  where
    here : (a : Alive) → (a.number == era) ≡ true → not (is_among numbers a.number) ≡ true
    here a same = let is : a.number ≡ era = grind arith in rw is (rw e refl)

pub leaves : (era : ℕ) (c : Call) (cs : List Call) → names c era ≡ false → is_among (ended_by c) era ≡ false → Leaves era c cs
leaves era c cs unnamed stays = record {
  segments_are = ap (λ l. segments era cs ++ l) (written_nothing era c unnamed) ∙ append-nil (segments era cs);
  live_is =
      kept_without era (ended_by c) (without (numbers_of (touched_by c)) (eras cs) ++ touched_by c) stays
      ∙ (filter-append (λ (a : Alive). a.number == era) (without (numbers_of (touched_by c)) (eras cs)) (touched_by c)
      ∙ (ap (λ l. of_era era (without (numbers_of (touched_by c)) (eras cs)) ++ l) (touched_other era c unnamed)
      ∙ (append-nil (of_era era (without (numbers_of (touched_by c)) (eras cs)))
      ∙ kept_without era (numbers_of (touched_by c)) (eras cs) (untouched era c unnamed))));
}

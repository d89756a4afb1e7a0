-- A fragment that is taken: the first of its datagram, a further one, and the one that completes
-- it.
use Rattle.std.specs.List.{AllPairs, range_with_len, AllByRecursion, count_by, list_any}
use Rattle.std.proofs.lemmas.List.Elements.{recursion_from_All}
use Rattle.std.proofs.lemmas.List.Sums.{sum_by-cons}
use Rattle.std.proofs.lemmas.Bool.Decides.{nat_tests}
use Rattle.linked_table.specs.declared.table.Slot.{Slot}
use Rattle.retain_store.proofs.Counts.{each}
use Rattle.rule_book.specs.declared.rule.Rule.{Rule}
use Rattle.rule_book.specs.declared.rule.Rule.TheVariants.{FEnd, FClash}
use Rattle.linked_table.proofs.Lists.{all_weaker, all_before, filter_all}
use Rattle.norm_settings.specs.SettingValues.{PlainSettings}
use Rattle.reassembly.specs.declared.id.DatagramId.{DatagramId}
use Rattle.reassembly.specs.declared.progress.Progress.{Progress}
use Rattle.reassembly.specs.DatagramFragments.{Fragment, octet_of, total_of, front_of, is_filled, is_whole, datagram_octets, whole_of, cells_of, missing_of, has_block, end_of, IsMadeOf}
use Rattle.reassembly.specs.working.CompleteDatagram.{whole_if}
use Rattle.reassembly.specs.Calls.{Gathered, pieces_in, after, of_others, with_piece, done, held, is_id, Answer, dropped, Call, gathered}
use Rattle.reassembly.specs.declared.assembly.Assembly.{Assembly}
use Rattle.reassembly.specs.working.FragmentAnswers.{IsAnswered}
use Rattle.reassembly.specs.AssemblyState.{KeepsFor}
use Rattle.std.proofs.Common.{is_none, append-nil, ◌≡◌, ◌≢◌, ℕ, ◌+◌, ◌<◌, ◌≤◌, Bool, true, false, cond, List, [], ◌∷◌, ◌++◌, length, map, take, Option, Some, None, is_some, refl, sym, ap, ap₂, subst, ◌∙◌, arith, zero, suc, ◌*◌, ◌/◌, not, ◌&&◌, unwrap_or, Result, Ok, Err, IfOk, OnErr, slice_index, nat_lt, nat_le}
use Rattle.std.proofs.lemmas.List.FromFn.{fill_by_all}
use Rattle.std.proofs.Math.Seq.{take-append_seam}
use Rattle.std.proofs.lemmas.Bool.{and_right}
use Rattle.std.proofs.lemmas.List.Quantifiers.{Any-push}
use Rattle.linked_table.specs.EntryTable.{Table, IsNotIn, Entry, IsIn, Wherever, with_value, HasNone}
use Rattle.linked_table.specs.EntryTable as table
use Rattle.retain_store.specs.Maps.{Covers, touched, Block, Store, ChangesOnly, chain_of, octet_at, missing}
use Rattle.retain_store.proofs.Blocks.{others_same}
use Rattle.reassembly.specs.declared.piece.Whole.{Whole}
use Rattle.reassembly.specs.RuleRows.{offered, Carries, offered_at, JoinsPieces, ends_otherwise, f_end, own_rows, first_row, answer_by, clashes, odd_rows, f_clash, is_none_held, answer_at, view_of, AreAnswered}
use Rattle.reassembly.specs.declared.piece.Offered.TheVariants as offers
use Rattle.reassembly.specs.working.JoinedFragments.{IsJoined, Gathers}
use Rattle.reassembly.specs.TableAndStore.{HoldsFor, Keeps, ProgressOf, EntryStands, IsFree}
use Rattle.reassembly.specs.declared.piece.Offered.{Offered}
use Rattle.reassembly.proofs.Entries.{Found, found, progress_of, forget_holds, put_holds, joined, lengths, ids_other, id_same, pieces_none, pieces_at, with_new, with_own, others_at}
use Rattle.reassembly.proofs.Datagrams.{len_is, whole_is_its_pieces}
use Rattle.reassembly.proofs.Pieces.{whole_is, none_not}

-- A fragment that no rule drops: what is held afterwards, and the datagram if it is complete.

-- a complete datagram: its total is its length, at most the longest, and each offset below it has
-- an octet
pub record IsWhole (ps : List Fragment) (len : ℕ) : Type 0 where
  pub total_is : total_of ps ≡ Some len
  pub short : len ≤ 65515
  pub there : (i : ℕ) → i < len → is_some (octet_of ps i) ≡ true

pub is_whole_at : (v : Progress) (ps : List Fragment) → ProgressOf v ps → is_whole ps ≡ true → IsWhole ps (whole_of ps).len
is_whole_at v ps h whole = subst (IsWhole ps) (sym (len_is (total_of ps) (front_of ps))) (by_total (total_of ps) refl)
  where
    by_total : (t : Option ℕ) → total_of ps ≡ t → IsWhole ps (unwrap_or (total_of ps) 0)
    by_total None e = absurd (false_is (sym (ap (is_filled ps) e) ∙ whole))
      where
        false_is : false ≡ true → ⊥
        false_is w = cc
    by_total (Some t) e =
        let all : is_filled ps (Some t) ≡ true = sym (ap (is_filled ps) e) ∙ whole in
        let at = h.ends t e in
        let low = h.short in
        subst (IsWhole ps) (sym (ap (λ o. unwrap_or o 0) e))
        (record {
          total_is = e;
          short = omega (arith, at, low);
          there = λ i lt. ap (λ o. is_some (octet_of ps o)) (omega arith) ∙ each (λ o. is_some (octet_of ps o)) (λ o. is_none (octet_of ps o)) 0 t (λ m. none_not (octet_of ps m)) all i lt;
        })

pub whole_covers : (blocks : List Block) (ps : List Fragment) (len n : ℕ) → Keeps blocks ps → IsWhole ps len → n ≤ len → Covers blocks 0 n
whole_covers blocks ps len n keeps w le i lt =
    let place : 0 + i ≡ i = omega arith in
    ap is_some (keeps (0 + i)) ∙ (ap (λ o. is_some (octet_of ps o)) place ∙ w.there i (omega arith))

pub whole_octets : (blocks : List Block) (ps : List Fragment) (len : ℕ) (out rest : List ℕ) → Keeps blocks ps → IsWhole ps len → length out ≡ len
    → ((i : ℕ) → i < length out → octet_at blocks (0 + i) ≡ Some (slice_index out i)) → take len (out ++ rest) ≡ datagram_octets ps
whole_octets blocks ps len out rest keeps w long copied =
    ap (λ n. take n (out ++ rest)) (sym long) ∙ (take-append_seam out rest
    ∙ (fill_by_all (λ o. unwrap_or (octet_of ps o) 0) out len 0 long (λ i lt. sym (ap (λ o. unwrap_or o 0) (ap (octet_of ps) (omega arith) ∙ (sym (keeps (0 + i)) ∙ copied i (omega (arith, long))))))
    ∙ sym (ap (λ t. map (λ o. unwrap_or (octet_of ps o) 0) (range_with_len 0 (unwrap_or t 0))) w.total_is)))

-- after the octets of the fragment joined those of its datagram
pub record Taken (gs : List Gathered) (p : Fragment) (entries : List (Entry DatagramId Progress)) (store new : Store) (slot : Slot) (next : Progress) : Type 0 where
  pub place : Found gs entries store slot p.id
  pub progress : ProgressOf next (p ∷ pieces_in gs p.id)
  pub keeps : Keeps (chain_of new slot.0) (p ∷ pieces_in gs p.id)
  pub count : length (chain_of new slot.0) ≡ cells_of (p ∷ pieces_in gs p.id)

pub taken : (gs : List Gathered) (p : Fragment) (entries : List (Entry DatagramId Progress)) (store new : Store) (slot : Slot) (progress next : Progress)
    → HoldsFor gs entries store → IsIn entries slot → AllPairs (λ e f. e.slot ≢ f.slot) entries → AllPairs (λ e f. e.key ≢ f.key) entries
    → Wherever entries slot (λ e. e.key ≡ p.id) → Wherever entries slot (λ e. e.value ≡ progress)
    → first_row (own_rows p) ≡ None → ends_otherwise progress.total progress.reach p ≡ false
    → ((ps : List Fragment) → Keeps (chain_of store slot.0) ps → IsJoined ps p progress next (chain_of new slot.0)) → Taken gs p entries store new slot next
taken gs p entries store new slot progress next h inside slots keys keyed valued own ends joins =
    let f = found gs entries store slot p.id h inside slots keys keyed in
    let was = progress_of gs entries store slot p.id progress f valued in
    let j = joins (pieces_in gs p.id) f.keeps in
    let fits : f_end (pieces_in gs p.id) p ≡ false = ap₂ (λ t r. ends_otherwise t r p) (sym was.total_is) (sym was.reach_is) ∙ ends in
    record { place = f; progress = j.progress was own fits; keeps = j.octets; count = j.count }

-- the values that the code computes of the complete datagram
pub record TellsWhole (ps : List Fragment) (w : Whole) : Type 0 where
  pub whole : is_whole ps ≡ true
  pub value : w ≡ whole_of ps
  pub long : IsWhole ps w.len

pub tells_whole : (v : Progress) (ps : List Fragment) (w : Whole) (r : Option Whole) → ProgressOf v ps → r ≡ whole_if v.total v.filled v.front → r ≡ Some w → TellsWhole ps w
tells_whole v ps w r h is some = by_whole (is_whole ps) refl (sym (is ∙ whole_is v ps h) ∙ some)
  where
    by_whole : (b : Bool) → is_whole ps ≡ b → cond b (Some (whole_of ps)) None ≡ Some w → TellsWhole ps w
    by_whole true e got =
        let value : w ≡ whole_of ps = cc in
        record { whole = e; value = value; long = subst (λ (x : Whole). IsWhole ps x.len) (sym value) (is_whole_at v ps h e) }
    by_whole false e got = let bad : ⊥ = cc in absurd bad

pub tells_none : (v : Progress) (ps : List Fragment) (r : Option Whole) → ProgressOf v ps → r ≡ whole_if v.total v.filled v.front → r ≡ None → is_whole ps ≡ false
tells_none v ps r h is none = by_whole (is_whole ps) refl (sym (is ∙ whole_is v ps h) ∙ none)
  where
    by_whole : (b : Bool) → is_whole ps ≡ b → cond b (Some (whole_of ps)) None ≡ None → is_whole ps ≡ false
    by_whole true e got = cc
    by_whole false e got = e

pub done_says : (ps : List Fragment) (w : Whole) → TellsWhole ps w → offers.Done w ≡ offered (answer_by None (is_whole ps)) (whole_of ps)
done_says ps w t = ap offers.Done t.value ∙ sym (ap (λ b. offered (cond b done held) (whole_of ps)) t.whole)

pub held_says : (ps : List Fragment) → is_whole ps ≡ false → offers.Held ≡ offered (answer_by None (is_whole ps)) (whole_of ps)
held_says ps none = sym (ap (λ b. offered (cond b done held) (whole_of ps)) none)

-- the datagram is completed and removed
pub done_holds : (now : ℕ) (gs : List Gathered) (p : Fragment) (old left : Table DatagramId Progress) (store mid new : Store) (slot : Slot) (next : Progress) (w : Whole)
    → HoldsFor gs old.entries store → Taken gs p old.entries store mid slot next → TellsWhole (p ∷ pieces_in gs p.id) w → ChangesOnly store mid slot.0 → ChangesOnly mid new slot.0
    → chain_of new slot.0 ≡ [] → left ≡ record old { entries = table.without old.entries slot }
    → HoldsFor (after now p (answer_by None (is_whole (p ∷ pieces_in gs p.id))) gs) left.entries new
done_holds now gs p old left store mid new slot next w h t whole first second empty is =
    subst (λ b. HoldsFor (after now p (answer_by None b) gs) left.entries new) (sym whole.whole)
    (subst (λ (u : Table DatagramId Progress). HoldsFor (of_others p.id gs) u.entries new) (sym is)
    (forget_holds gs old.entries store new slot p.id h t.place (λ chain ne. others_same mid new slot.0 second chain ne ∙ others_same store mid slot.0 first chain ne) empty))

-- the fragment is held
pub held_holds : (now : ℕ) (gs : List Gathered) (p : Fragment) (old put : Table DatagramId Progress) (store new : Store) (slot : Slot) (progress next : Progress)
    → HoldsFor gs old.entries store → Taken gs p old.entries store new slot next → is_whole (p ∷ pieces_in gs p.id) ≡ false → Wherever old.entries slot (λ e. e.value ≡ progress)
    → ChangesOnly store new slot.0 → next.since ≡ progress.since → put ≡ record old { entries = with_value old.entries slot next }
    → HoldsFor (after now p (answer_by None (is_whole (p ∷ pieces_in gs p.id))) gs) put.entries new
held_holds now gs p old put store new slot progress next h t none valued changed since is =
    subst (λ b. HoldsFor (after now p (answer_by None b) gs) put.entries new) (sym none)
    (subst (λ (u : Table DatagramId Progress). HoldsFor (with_piece now p gs) u.entries new) (sym is)
    (put_holds now p gs old.entries store new slot progress next h t.place valued (others_same store new slot.0 changed) since t.progress t.keeps t.count))

-- The first fragment of a datagram.

-- before its first fragment
abbrev pub blank : (now : ℕ) → Progress
blank now = record { since = now; total = None; reach = 0; filled = 0; front = None }

abbrev pub fresh_entry : Slot → DatagramId → (now : ℕ) → Entry DatagramId Progress
fresh_entry slot id now = record { slot = slot; key = id; value = blank now }

abbrev pub fresh_datagram : DatagramId → (now : ℕ) → Gathered
fresh_datagram id now = record { id = id; since = now; pieces = [] }

not_free : (entries : List (Entry DatagramId Progress)) (slot : Slot) → IsNotIn entries slot → IsFree entries slot.0
not_free entries slot out =
    let mk : ℕ → Slot = λ n. record { 0 = n } in
    all_weaker (λ (e : Entry DatagramId Progress). e.slot ≢ slot) (λ (e : Entry DatagramId Progress). e.slot.0 ≢ slot.0) (λ e ne same. ne (ap mk same)) entries
    (recursion_from_All (λ (e : Entry DatagramId Progress). e.slot ≢ slot) entries out)

blank_progress : (now : ℕ) → ProgressOf (blank now) []
blank_progress now = record { total_is = refl; reach_is = refl; filled_is = refl; front_is = refl; short = omega arith; ends = λ t e. cc }

-- the chain of a free slot is empty
pub chain_free : (gs : List Gathered) (entries : List (Entry DatagramId Progress)) (store : Store) (slot : Slot) → HoldsFor gs entries store → IsNotIn entries slot → chain_of store slot.0 ≡ []
chain_free gs entries store slot h out = h.free slot.0 (not_free entries slot out)

pub blank_holds : (gs : List Gathered) (entries : List (Entry DatagramId Progress)) (store : Store) (slot : Slot) (id : DatagramId) (now : ℕ)
    → HoldsFor gs entries store → IsNotIn entries slot → HoldsFor (gs ++ fresh_datagram id now ∷ []) (entries ++ fresh_entry slot id now ∷ []) store
blank_holds gs entries store slot id now h out =
    let empty = chain_free gs entries store slot h out in
    let stands : EntryStands store (fresh_entry slot id now) (fresh_datagram id now) =
    record { id = refl; since = refl; progress = blank_progress now; octets = λ o. ap (λ b. octet_at b o) empty; count = ap length empty } in
    record {
      each = joined store entries (fresh_entry slot id now ∷ []) gs (fresh_datagram id now ∷ []) h.each (stands, tt);
      free = λ chain is. h.free chain (all_before (λ (e : Entry DatagramId Progress). e.slot.0 ≢ chain) entries (fresh_entry slot id now ∷ []) is);
    }

blank_after : (gs : List Gathered) (p : Fragment) (now : ℕ) (whole : Bool) → AllByRecursion (λ (g : Gathered). is_id g.id p.id ≡ false) gs
    → after now p (answer_by None whole) (gs ++ fresh_datagram p.id now ∷ []) ≡ after now p (answer_by None whole) gs
blank_after gs p now true none =
    others_at gs (fresh_datagram p.id now) [] p.id none (id_same p.id) tt
    ∙ (append-nil gs ∙ sym (filter_all (λ (k : Gathered). not (is_id k.id p.id)) gs
    (all_weaker (λ (k : Gathered). is_id k.id p.id ≡ false) (λ (k : Gathered). not (is_id k.id p.id) ≡ true) (λ k e. ap not e) gs none)))
blank_after gs p now false none = with_own now p gs (fresh_datagram p.id now) [] none (id_same p.id) ∙ sym (with_new now p gs none)

-- without held fragments there is no contradiction
clashes_none : (from : ℕ) (xs : List ℕ) → clashes [] from xs ≡ false
clashes_none from [] = refl
clashes_none from (x ∷ xs) = clashes_none (from + 1) xs

no_odds : (p : Fragment) → first_row (odd_rows [] p) ≡ None
no_odds p =
    let below : nat_lt (end_of p) 0 ≡ false = grind (arith, nat_tests) in
    let ends : (not p.more && nat_lt (end_of p) 0) ≡ false = and_right (not p.more) _ below in
    ap (λ b. cond {A = Option Rule} b (Some FEnd) (cond (f_clash [] p) (Some FClash) None)) ends
    ∙ ap (λ b. cond {A = Option Rule} b (Some FClash) None) (clashes_none p.offset p.octets)

pub is_many : (ps : List Fragment) (max count : ℕ) → ps ≡ [] → max ≤ count → (is_none_held ps && nat_le max count) ≡ true
is_many ps max count none le = let full : nat_le max count ≡ true = grind (arith, nat_tests) in ap₂ (λ a b. a && b) (ap is_none_held none) full

pub not_full : (ps : List Fragment) (max count : ℕ) → ps ≡ [] → count < max → (is_none_held ps && nat_le max count) ≡ false
not_full ps max count none lt = let free : nat_le max count ≡ false = grind (arith, nat_tests) in ap₂ (λ a b. a && b) (ap is_none_held none) free

-- no fragment of its datagram is held
pub record IsFirst (gs : List Gathered) (p : Fragment) (entries : List (Entry DatagramId Progress)) : Type 0 where
  pub new : AllByRecursion (λ (g : Gathered). is_id g.id p.id ≡ false) gs
  pub none : pieces_in gs p.id ≡ []
  pub odd : first_row (odd_rows (pieces_in gs p.id) p) ≡ None
  pub long : length entries ≡ length gs

pub is_first : (gs : List Gathered) (entries : List (Entry DatagramId Progress)) (store : Store) (p : Fragment) → HoldsFor gs entries store → HasNone entries p.id → IsFirst gs p entries
is_first gs entries store p h absent =
    let new = ids_other store entries gs p.id h.each (recursion_from_All (λ (e : Entry DatagramId Progress). e.key ≢ p.id) entries absent) in
    let none : pieces_in gs p.id ≡ [] = pieces_none gs p.id new in
    record { new = new; none = none; odd = ap (λ l. first_row (odd_rows l p)) none ∙ no_odds p; long = lengths store entries gs h.each }

-- an answer with its empty datagram added is the answer without
pub blank_answered : (now : ℕ) (gs : List Gathered) (p : Fragment) (r : Offered) (old new : List ℕ) (a : Assembly) → AllByRecursion (λ (g : Gathered). is_id g.id p.id ≡ false) gs
    → IsAnswered now (gs ++ fresh_datagram p.id now ∷ []) p (answer_by None (is_whole (p ∷ pieces_in (gs ++ fresh_datagram p.id now ∷ []) p.id))) r old new a
    → IsAnswered now gs p (answer_by None (is_whole (p ∷ pieces_in gs p.id))) r old new a
blank_answered now gs p r old new a none x =
    let same : pieces_in (gs ++ fresh_datagram p.id now ∷ []) p.id ≡ pieces_in gs p.id = pieces_at gs (fresh_datagram p.id now) [] p.id none (id_same p.id) ∙ sym (pieces_none gs p.id none) in
    record {
      says = subst (λ l. r ≡ offered (answer_by None (is_whole (p ∷ l))) (whole_of (p ∷ l))) same x.says;
      holds = subst (λ l. HoldsFor l a.table.entries a.store) (blank_after gs p now (is_whole (p ∷ pieces_in gs p.id)) none)
          (subst (λ l. HoldsFor (after now p (answer_by None (is_whole (p ∷ l))) (gs ++ fresh_datagram p.id now ∷ [])) a.table.entries a.store) same x.holds);
      octets = subst (λ l. Carries r old new (p ∷ l)) same x.octets;
    }

-- none of the blocks touched has an octet
pub any_none : (xs : List ℕ) → list_any (λ (n : ℕ). false) xs ≡ false
any_none [] = refl
any_none (x ∷ xs) = any_none xs

count_all : (p : ℕ → Bool) (a n : ℕ) → ((m : ℕ) → p m ≡ true) → count_by p (range_with_len a n) ≡ n
count_all p a zero all = refl
count_all p a (suc n) all =
    let here : cond {A = ℕ} (p a) 1 0 ≡ 1 = ap (λ b. cond b 1 0) (all a) in
    omega (arith, here, count_all p (a + 1) n all, sum_by-cons (λ k. cond {A = ℕ} (p k) 1 0) a (range_with_len (a + 1) n))

pub touched_at : (a n from len blocks : ℕ) → a ≡ from → n ≡ len → touched a n ≡ range_with_len (a / 256) blocks → touched from len ≡ range_with_len (from / 256) blocks
touched_at a n from len blocks begins long is = ap₂ touched (sym begins) (sym long) ∙ (is ∙ ap (λ k. range_with_len (k / 256) blocks) begins)

pub blocks_missing : (from len blocks : ℕ) → touched from len ≡ range_with_len (from / 256) blocks → missing [] from len ≡ blocks
blocks_missing from len blocks is = ap (count_by (λ n. true)) is ∙ count_all (λ n. true) (from / 256) blocks (λ m. refl)

pub blocks_missing_of : (from len blocks : ℕ) → touched from len ≡ range_with_len (from / 256) blocks → missing_of [] from len ≡ blocks
blocks_missing_of from len blocks is =
    ap (count_by (λ n. not (has_block [] n))) is ∙ count_all (λ n. not (has_block [] n)) (from / 256) blocks (λ m. ap not (any_none (range_with_len (256 * m) 256)))

-- the table with a further entry, or unchanged
pub entries_added : (old new : Table DatagramId Progress) (slot : Slot) (key id : DatagramId) (value : Progress) (now : ℕ)
    → new ≡ record old { entries = old.entries ++ record { slot = slot; key = key; value = value } ∷ [] } → key ≡ id → value ≡ blank now
    → new.entries ≡ old.entries ++ fresh_entry slot id now ∷ []
entries_added old new slot key id value now added key_is value_is =
    ap (λ (t : Table DatagramId Progress). t.entries) added ∙ ap₂ (λ k v. old.entries ++ record { slot = slot; key = k; value = v } ∷ []) key_is value_is

pub inserted : (old new : Table DatagramId Progress) (store : Store) (key id : DatagramId) (value : Progress) (now : ℕ) (r : Result Slot (DatagramId × Progress))
    → OnErr r (new ≡ old) → IfOk r (IsNotIn old.entries) → IfOk r (λ slot. new ≡ record old { entries = old.entries ++ record { slot = slot; key = key; value = value } ∷ [] })
    → key ≡ id → value ≡ blank now → Gathers old.entries store → Gathers new.entries store
inserted old new store key id value now (Ok slot) same out added key_is value_is g =
    record {
      datagrams = g.datagrams ++ fresh_datagram id now ∷ [];
      holds = subst (λ l. HoldsFor (g.datagrams ++ fresh_datagram id now ∷ []) l store) (sym (entries_added old new slot key id value now added key_is value_is))
          (blank_holds g.datagrams old.entries store slot id now g.holds out);
    }
inserted old new store key id value now (Err pair) same out added key_is value_is g =
    subst (λ (t : Table DatagramId Progress). Gathers t.entries store) (sym same) g

pub max_stays : (old new : Table DatagramId Progress) (key : DatagramId) (value : Progress) (r : Result Slot (DatagramId × Progress))
    → OnErr r (new ≡ old) → IfOk r (λ slot. new ≡ record old { entries = old.entries ++ record { slot = slot; key = key; value = value } ∷ [] }) → new.max ≡ old.max
max_stays old new key value (Ok slot) same added = ap (λ (t : Table DatagramId Progress). t.max) added
max_stays old new key value (Err pair) same added = ap (λ (t : Table DatagramId Progress). t.max) same

pub in_added : (entries : List (Entry DatagramId Progress)) (e : Entry DatagramId Progress) → IsIn (entries ++ e ∷ []) e.slot
in_added entries e = Any-push (λ (f : Entry DatagramId Progress). f.slot ≡ e.slot) entries e refl

-- An assembly after a call, with the time of the call.

-- with the same table and store
pub later : (settings : PlainSettings) (a b : Assembly) (calls : List Call) → b.table ≡ a.table → b.store ≡ a.store → b.cells ≡ a.cells → b.time ≡ a.time
    → KeepsFor settings a calls → KeepsFor settings b calls
later settings a b calls table store cells time k =
    record {
      opened = record {
        datagrams = ap (λ (t : Table DatagramId Progress). t.max) table ∙ k.opened.datagrams;
        chains = ap (λ (s : Store). length s.chains) store ∙ k.opened.chains;
        cells = cells ∙ k.opened.cells;
        store = ap (λ (s : Store). s.cells) store ∙ k.opened.store;
        time = time ∙ k.opened.time;
      };
      holds = subst (λ (t : Table DatagramId Progress). HoldsFor (gathered settings.frag_time calls) t.entries b.store) (sym table)
          (subst (HoldsFor (gathered settings.frag_time calls) a.table.entries) (sym store) k.holds);
      order = k.order;
    }

was_done : (a : Answer) (whole w : Whole) → offers.Done w ≡ offered a whole → a ≡ done
was_done held whole w e = cc
was_done done whole w e = refl
was_done (dropped rule) whole w e = cc

pub joins : (settings : PlainSettings) (calls : List Call) (p : Fragment) (r : Offered) (old new : List ℕ) → AreAnswered settings calls → r ≡ offered_at (view_of settings calls p) p
    → Carries r old new (p ∷ (view_of settings calls p).pieces) → JoinsPieces r new (p ∷ (view_of settings calls p).pieces)
joins settings calls p offers.Held old new answered is carries = tt
joins settings calls p (offers.Done w) old new answered is carries =
    let ps = p ∷ (view_of settings calls p).pieces in
    subst (λ l. IsMadeOf l ps) (sym carries)
    (whole_is_its_pieces settings calls p answered (was_done (answer_at (view_of settings calls p) p) (whole_of ps) w is)).octets
joins settings calls p (offers.Drop rule) old new answered is carries = tt

-- The table of datagrams and the store of octets: what they represent, and how a change of one
-- entry changes it.
use Rattle.std.proofs.lemmas.List.Sums.{sum_by-cons}
use Rattle.std.proofs.lemmas.List.Elements.{recursion_from_All}
use Rattle.retain_store.specs.Maps.{Store, chain_of, octet_at}
use Rattle.linked_table.specs.declared.table.Slot.{Slot}
use Rattle.norm_settings.specs.SettingValues.{PlainSettings}
use Rattle.reassembly.specs.declared.id.DatagramId.{DatagramId}
use Rattle.reassembly.specs.declared.progress.Progress.{Progress}
use Rattle.reassembly.specs.DatagramFragments.{Fragment, cells_of}
use Rattle.reassembly.specs.Calls.{Gathered, is_id, of_others, pieces_in, with_piece, cells_in, Call, gathered}
use Rattle.reassembly.specs.declared.assembly.Assembly.{Assembly}
use Rattle.reassembly.specs.AssemblyState.{KeepsFor}
use Rattle.std.proofs.Common.{inl, inr, ◌≡◌, ◌≢◌, ℕ, not, true, false, cond, List, [], ◌∷◌, ◌++◌, length, refl, ap, ◌∙◌, arith, sym, subst, ◌<◌, ◌+◌, ◌-◌}
use Rattle.std.specs.List.{sum_by, All, AllByRecursion, AllPairs}
use Rattle.std.proofs.lemmas.Bool.{cases_eq}
use Rattle.linked_table.specs.EntryTable.{SplitAt, Entry, IsIn, Wherever, with_value, Pairwise}
use Rattle.linked_table.proofs.Lists.{filter_rest, all_join, all_weaker, all_before, all_after, pairwise}
use Rattle.linked_table.specs.EntryTable as table
use Rattle.linked_table.proofs.Entries.{wherever, left_out, valued, split_at}
use Rattle.retain_store.proofs.Counts.{AreApart, sum_chains}
use Rattle.reassembly.specs.TableAndStore.{EachStands, EntryStands, IsFree, HoldsFor, Keeps, ProgressOf}

-- Entries and the datagrams that they represent, at a slot and elsewhere.

pub id_same : (a : DatagramId) → is_id a a ≡ true
id_same a = grind arith

pub id_is : (a b : DatagramId) → is_id a b ≡ true → a ≡ b
id_is a b e = grind arith

pub id_other : (a b : DatagramId) → a ≢ b → is_id a b ≡ false
id_other a b ne = elim (is_id a b) as (λ t. is_id a b ≡ t → t ≡ false) [
  | true ↦ λ e. absurd (ne (id_is a b e))
  | false ↦ λ e. refl
] refl

-- the datagrams split where the entries are
pub record Parted (store : Store) (before : List (Entry DatagramId Progress)) (here : Entry DatagramId Progress) (after : List (Entry DatagramId Progress)) (gs : List Gathered) : Type 0 where
  pub left : List Gathered
  pub datagram : Gathered
  pub right : List Gathered
  pub splits : gs ≡ left ++ datagram ∷ right
  pub left_stands : EachStands store before left
  pub here_stands : EntryStands store here datagram
  pub right_stands : EachStands store after right

pub parted : (store : Store) (before : List (Entry DatagramId Progress)) (here : Entry DatagramId Progress) (after : List (Entry DatagramId Progress)) (gs : List Gathered)
    → EachStands store (before ++ here ∷ after) gs → Parted store before here after gs
parted store [] here after [] h = absurd h
parted store [] here after (g ∷ gs) h = record { left = []; datagram = g; right = gs; splits = refl; left_stands = tt; here_stands = h.0; right_stands = h.1 }
parted store (e ∷ es) here after [] h = absurd h
parted store (e ∷ es) here after (g ∷ gs) h =
    let r = parted store es here after gs h.1 in
    record {
      left = g ∷ r.left;
      datagram = r.datagram;
      right = r.right;
      splits = ap (λ l. g ∷ l) r.splits;
      left_stands = (h.0, r.left_stands);
      here_stands = r.here_stands;
      right_stands = r.right_stands;
    }

pub joined : (store : Store) (es fs : List (Entry DatagramId Progress)) (gs hs : List Gathered) → EachStands store es gs → EachStands store fs hs → EachStands store (es ++ fs) (gs ++ hs)
joined store [] fs [] hs h k = k
joined store [] fs (g ∷ gs) hs h k = absurd h
joined store (e ∷ es) fs [] hs h k = absurd h
joined store (e ∷ es) fs (g ∷ gs) hs h k = (h.0, joined store es fs gs hs h.1 k)

pub lengths : (store : Store) (es : List (Entry DatagramId Progress)) (gs : List Gathered) → EachStands store es gs → length es ≡ length gs
lengths store [] [] h = refl
lengths store [] (g ∷ gs) h = absurd h
lengths store (e ∷ es) [] h = absurd h
lengths store (e ∷ es) (g ∷ gs) h = let rest : length es ≡ length gs = lengths store es gs h.1 in omega (arith, rest)

-- the cells of the entries' chains are those of the datagrams
pub cells_are : (store : Store) (es : List (Entry DatagramId Progress)) (gs : List Gathered) → EachStands store es gs
    → sum_by (λ (e : Entry DatagramId Progress). length (chain_of store e.slot.0)) es ≡ cells_in gs
cells_are store [] [] h = refl
cells_are store [] (g ∷ gs) h = absurd h
cells_are store (e ∷ es) [] h = absurd h
cells_are store (e ∷ es) (g ∷ gs) h =
    let rest = cells_are store es gs h.1 in
    let here = h.0.count in
    omega (arith, rest, here, sum_by-cons (λ (f : Entry DatagramId Progress). length (chain_of store f.slot.0)) e es, sum_by-cons (λ (k : Gathered). cells_of k.pieces) g gs)

-- if the chains of the entries are unchanged, they represent the same
pub still : (hole : ℕ) (store new : Store) (es : List (Entry DatagramId Progress)) (gs : List Gathered) → ((chain : ℕ) → chain ≢ hole → chain_of new chain ≡ chain_of store chain)
    → IsFree es hole → EachStands store es gs → EachStands new es gs
still hole store new [] [] chains free h = tt
still hole store new [] (g ∷ gs) chains free h = absurd h
still hole store new (e ∷ es) [] chains free h = absurd h
still hole store new (e ∷ es) (g ∷ gs) chains free h =
    let chain = chains e.slot.0 free.0 in
    let s = h.0 in (
      record { id = s.id; since = s.since; progress = s.progress; octets = λ o. ap (λ b. octet_at b o) chain ∙ s.octets o; count = ap length chain ∙ s.count },
      still hole store new es gs chains free.1 h.1,
    )

-- no datagram has an identification that no entry has
pub ids_other : (store : Store) (es : List (Entry DatagramId Progress)) (gs : List Gathered) (id : DatagramId) → EachStands store es gs
    → AllByRecursion (λ (e : Entry DatagramId Progress). e.key ≢ id) es → AllByRecursion (λ (g : Gathered). is_id g.id id ≡ false) gs
ids_other store [] [] id h ne = tt
ids_other store [] (g ∷ gs) id h ne = absurd h
ids_other store (e ∷ es) [] id h ne = absurd h
ids_other store (e ∷ es) (g ∷ gs) id h ne = (id_other g.id id (λ same. ne.0 (h.0.id ∙ same)), ids_other store es gs id h.1 ne.1)

-- the datagrams at one of them, and without it
pub pieces_none : (gs : List Gathered) (id : DatagramId) → AllByRecursion (λ (g : Gathered). is_id g.id id ≡ false) gs → pieces_in gs id ≡ []
pieces_none [] id none = refl
pieces_none (g ∷ gs) id none = ap (λ b. cond b g.pieces (pieces_in gs id)) none.0 ∙ pieces_none gs id none.1

pub pieces_at : (left : List Gathered) (g : Gathered) (right : List Gathered) (id : DatagramId) → AllByRecursion (λ (k : Gathered). is_id k.id id ≡ false) left → is_id g.id id ≡ true
    → pieces_in (left ++ g ∷ right) id ≡ g.pieces
pieces_at [] g right id none same = ap (λ b. cond b g.pieces (pieces_in right id)) same
pieces_at (k ∷ left) g right id none same = ap (λ b. cond b k.pieces (pieces_in (left ++ g ∷ right) id)) none.0 ∙ pieces_at left g right id none.1 same

pub with_new : (now : ℕ) (p : Fragment) (gs : List Gathered) → AllByRecursion (λ (g : Gathered). is_id g.id p.id ≡ false) gs
    → with_piece now p gs ≡ gs ++ record { id = p.id; since = now; pieces = p ∷ [] } ∷ []
with_new now p [] none = refl
with_new now p (g ∷ gs) none =
    ap (λ b. cond b (record g { pieces = p ∷ g.pieces } ∷ gs) (g ∷ with_piece now p gs)) none.0 ∙ ap (λ l. g ∷ l) (with_new now p gs none.1)

pub with_own : (now : ℕ) (p : Fragment) (left : List Gathered) (g : Gathered) (right : List Gathered) → AllByRecursion (λ (k : Gathered). is_id k.id p.id ≡ false) left
    → is_id g.id p.id ≡ true → with_piece now p (left ++ g ∷ right) ≡ left ++ record g { pieces = p ∷ g.pieces } ∷ right
with_own now p [] g right none same = ap (λ b. cond b (record g { pieces = p ∷ g.pieces } ∷ right) (g ∷ with_piece now p right)) same
with_own now p (k ∷ left) g right none same =
    ap (λ b. cond b (record k { pieces = p ∷ k.pieces } ∷ (left ++ g ∷ right)) (k ∷ with_piece now p (left ++ g ∷ right))) none.0
    ∙ ap (λ l. k ∷ l) (with_own now p left g right none.1 same)

pub others_at : (left : List Gathered) (g : Gathered) (right : List Gathered) (id : DatagramId) → AllByRecursion (λ (k : Gathered). is_id k.id id ≡ false) left → is_id g.id id ≡ true
    → AllByRecursion (λ (k : Gathered). is_id k.id id ≡ false) right → of_others id (left ++ g ∷ right) ≡ left ++ right
others_at left g right id none same after =
    filter_rest (λ (k : Gathered). not (is_id k.id id)) left g right
    (all_weaker (λ (k : Gathered). is_id k.id id ≡ false) (λ (k : Gathered). not (is_id k.id id) ≡ true) (λ k e. ap not e) left none)
    (ap not same)
    (all_weaker (λ (k : Gathered). is_id k.id id ≡ false) (λ (k : Gathered). not (is_id k.id id) ≡ true) (λ k e. ap not e) right after)

-- Changes of what the table and the store represent: one datagram has a fragment more, is removed,
-- or is new.

-- an entry of this identification and the datagram that it represents
pub record Found (gs : List Gathered) (entries : List (Entry DatagramId Progress)) (store : Store) (slot : Slot) (id : DatagramId) : Type 0 where
  pub entry : SplitAt entries slot
  pub part : Parted store entry.before entry.here entry.after gs
  pub key_is : entry.here.key ≡ id
  pub none_left : AllByRecursion (λ (g : Gathered). is_id g.id id ≡ false) part.left
  pub same : is_id part.datagram.id id ≡ true
  pub none_right : AllByRecursion (λ (g : Gathered). is_id g.id id ≡ false) part.right
  pub pieces_are : pieces_in gs id ≡ part.datagram.pieces
  pub keeps : Keeps (chain_of store slot.0) (pieces_in gs id)

pub found_at : (gs : List Gathered) (entries : List (Entry DatagramId Progress)) (store : Store) (slot : Slot) (id : DatagramId)
    → HoldsFor gs entries store → (a : SplitAt entries slot) → a.here.key ≡ id → Found gs entries store slot id
found_at gs entries store slot id h a key_is =
    let pr = parted store a.before a.here a.after gs (subst (λ l. EachStands store l gs) a.splits h.each) in
    let left = ids_other store a.before pr.left id pr.left_stands (all_weaker (λ (e : Entry DatagramId Progress). e.key ≢ a.here.key) _ (λ e ne same. ne (same ∙ sym key_is)) a.before a.keys_before) in
    let right = ids_other store a.after pr.right id pr.right_stands (all_weaker (λ (e : Entry DatagramId Progress). e.key ≢ a.here.key) _ (λ e ne same. ne (same ∙ sym key_is)) a.after a.keys_after) in
    let same : is_id pr.datagram.id id ≡ true = ap (λ d. is_id d id) (sym pr.here_stands.id ∙ key_is) ∙ id_same id in
    let pieces : pieces_in gs id ≡ pr.datagram.pieces = ap (λ l. pieces_in l id) pr.splits ∙ pieces_at pr.left pr.datagram pr.right id left same in
    let named : a.here.slot.0 ≡ slot.0 = ap (λ (s : Slot). s.0) a.named in
    record {
      entry = a;
      part = pr;
      key_is = key_is;
      none_left = left;
      same = same;
      none_right = right;
      pieces_are = pieces;
      keeps = subst (λ l. Keeps (chain_of store slot.0) l) (sym pieces) (subst (λ s. Keeps (chain_of store s) pr.datagram.pieces) named pr.here_stands.octets);
    }

pub found : (gs : List Gathered) (entries : List (Entry DatagramId Progress)) (store : Store) (slot : Slot) (id : DatagramId)
    → HoldsFor gs entries store → IsIn entries slot → AllPairs (λ e f. e.slot ≢ f.slot) entries → AllPairs (λ e f. e.key ≢ f.key) entries
    → Wherever entries slot (λ e. e.key ≡ id) → Found gs entries store slot id
found gs entries store slot id h inside slots keys keyed =
    let a = split_at entries slot inside slots keys in
    found_at gs entries store slot id h a (wherever (λ (e : Entry DatagramId Progress). e.key ≡ id) entries slot a keyed)

pub progress_of : (gs : List Gathered) (entries : List (Entry DatagramId Progress)) (store : Store) (slot : Slot) (id : DatagramId) (progress : Progress)
    → Found gs entries store slot id → Wherever entries slot (λ e. e.value ≡ progress) → ProgressOf progress (pieces_in gs id)
progress_of gs entries store slot id progress f valued_so =
    let value_is : f.entry.here.value ≡ progress = wherever (λ (e : Entry DatagramId Progress). e.value ≡ progress) entries slot f.entry valued_so in
    subst (λ l. ProgressOf progress l) (sym f.pieces_are) (subst (λ v. ProgressOf v f.part.datagram.pieces) value_is f.part.here_stands.progress)

-- the slot of an entry of another slot is not `slot`
apart : (entries : List (Entry DatagramId Progress)) (slot : Slot) (here : Entry DatagramId Progress) → here.slot ≡ slot
    → AllByRecursion (λ (e : Entry DatagramId Progress). e.slot ≢ here.slot) entries → IsFree entries slot.0
apart entries slot here named ne =
    let mk : ℕ → Slot = λ n. record { 0 = n } in
    let number : here.slot.0 ≡ slot.0 = ap (λ (s : Slot). s.0) named in
    all_weaker (λ (e : Entry DatagramId Progress). e.slot ≢ here.slot) (λ (e : Entry DatagramId Progress). e.slot.0 ≢ slot.0) (λ e other same. other (ap mk (same ∙ sym number))) entries ne

-- the datagram is removed
pub forget_holds : (gs : List Gathered) (entries : List (Entry DatagramId Progress)) (store new : Store) (slot : Slot) (id : DatagramId)
    → HoldsFor gs entries store → Found gs entries store slot id → ((chain : ℕ) → chain ≢ slot.0 → chain_of new chain ≡ chain_of store chain)
    → chain_of new slot.0 ≡ [] → HoldsFor (of_others id gs) (table.without entries slot) new
forget_holds gs entries store new slot id h f chains empty =
    let a = f.entry in
    let left = apart a.before slot a.here a.named a.slots_before in
    let right = apart a.after slot a.here a.named a.slots_after in
    let rest : of_others id gs ≡ f.part.left ++ f.part.right = ap (of_others id) f.part.splits ∙ others_at f.part.left f.part.datagram f.part.right id f.none_left f.same f.none_right in
    subst (λ l. HoldsFor l (table.without entries slot) new) (sym rest)
    (subst (λ l. HoldsFor (f.part.left ++ f.part.right) l new) (sym (left_out entries slot a))
    (record {
      each = joined new a.before a.after f.part.left f.part.right (still slot.0 store new a.before f.part.left chains left f.part.left_stands)
          (still slot.0 store new a.after f.part.right chains right f.part.right_stands);
      free = λ chain is. elim (cases_eq chain slot.0) [
        | inl same ↦ ap (chain_of new) same ∙ empty
        | inr ne ↦ chains chain ne ∙ h.free chain (subst (λ l. IsFree l chain) (sym a.splits)
            (all_join (λ (e : Entry DatagramId Progress). e.slot.0 ≢ chain) a.before (a.here ∷ a.after) (all_before (λ (e : Entry DatagramId Progress). e.slot.0 ≢ chain) a.before a.after is)
            ((λ same. ne (sym same ∙ ap (λ (s : Slot). s.0) a.named)), all_after (λ (e : Entry DatagramId Progress). e.slot.0 ≢ chain) a.before a.after is)))
      ];
    }))

-- the datagram has a fragment more
pub put_holds : (now : ℕ) (p : Fragment) (gs : List Gathered) (entries : List (Entry DatagramId Progress)) (store new : Store) (slot : Slot) (progress next : Progress)
    → HoldsFor gs entries store → Found gs entries store slot p.id → Wherever entries slot (λ e. e.value ≡ progress)
    → ((chain : ℕ) → chain ≢ slot.0 → chain_of new chain ≡ chain_of store chain)
    → next.since ≡ progress.since → ProgressOf next (p ∷ pieces_in gs p.id) → Keeps (chain_of new slot.0) (p ∷ pieces_in gs p.id)
    → length (chain_of new slot.0) ≡ cells_of (p ∷ pieces_in gs p.id)
    → HoldsFor (with_piece now p gs) (with_value entries slot next) new
put_holds now p gs entries store new slot progress next h f valued_so chains since progresses keeps count =
    let a = f.entry in
    let left = apart a.before slot a.here a.named a.slots_before in
    let right = apart a.after slot a.here a.named a.slots_after in
    let value_is : a.here.value ≡ progress = wherever (λ (e : Entry DatagramId Progress). e.value ≡ progress) entries slot a valued_so in
    let named : a.here.slot.0 ≡ slot.0 = ap (λ (s : Slot). s.0) a.named in
    let later : Gathered = record f.part.datagram { pieces = p ∷ f.part.datagram.pieces } in
    let shown : with_piece now p gs ≡ f.part.left ++ later ∷ f.part.right =
    ap (with_piece now p) f.part.splits ∙ with_own now p f.part.left f.part.datagram f.part.right f.none_left f.same in
    let stands : EntryStands new (record a.here { value = next }) later =
    record {
      id = f.part.here_stands.id;
      since = since ∙ (sym (ap (λ (v : Progress). v.since) value_is) ∙ f.part.here_stands.since);
      progress = subst (λ l. ProgressOf next (p ∷ l)) f.pieces_are progresses;
      octets = subst (λ s. Keeps (chain_of new s) (p ∷ f.part.datagram.pieces)) (sym named) (subst (λ l. Keeps (chain_of new slot.0) (p ∷ l)) f.pieces_are keeps);
      count = ap (λ s. length (chain_of new s)) named ∙ (count ∙ ap (λ l. cells_of (p ∷ l)) f.pieces_are);
    } in
    subst (λ l. HoldsFor l (with_value entries slot next) new) (sym shown)
    (subst (λ l. HoldsFor (f.part.left ++ later ∷ f.part.right) l new) (sym (valued entries slot a next))
    (record {
      each = joined new a.before (record a.here { value = next } ∷ a.after) f.part.left (later ∷ f.part.right) (still slot.0 store new a.before f.part.left chains left f.part.left_stands)
          (stands, still slot.0 store new a.after f.part.right chains right f.part.right_stands);
      free = λ chain is.
          let at_slot = (all_after (λ (e : Entry DatagramId Progress). e.slot.0 ≢ chain) a.before (record a.here { value = next } ∷ a.after) is).0 in
          let past = (all_after (λ (e : Entry DatagramId Progress). e.slot.0 ≢ chain) a.before (record a.here { value = next } ∷ a.after) is).1 in
          chains chain (λ same. at_slot (named ∙ sym same))
          ∙ h.free chain (subst (λ l. IsFree l chain) (sym a.splits)
          (all_join (λ (e : Entry DatagramId Progress). e.slot.0 ≢ chain) a.before (a.here ∷ a.after)
          (all_before (λ (e : Entry DatagramId Progress). e.slot.0 ≢ chain) a.before (record a.here { value = next } ∷ a.after) is) (at_slot, past)));
    }))

-- The store holds what the datagrams hold.

slots_apart : (entries : List (Entry DatagramId Progress)) → Pairwise (λ (e f : Entry DatagramId Progress). e.slot ≢ f.slot) entries
    → AreApart (λ (e : Entry DatagramId Progress). e.slot.0) entries
slots_apart [] pairs = tt
slots_apart (e ∷ es) pairs =
    let mk : ℕ → Slot = λ n. record { 0 = n } in
    (all_weaker (λ (f : Entry DatagramId Progress). e.slot ≢ f.slot) (λ (f : Entry DatagramId Progress). e.slot.0 ≢ f.slot.0) (λ f ne same. ne (ap mk same)) es pairs.0, slots_apart es pairs.1)

pub held_is : (gs : List Gathered) (entries : List (Entry DatagramId Progress)) (store : Store) (max : ℕ) → HoldsFor gs entries store
    → length store.chains ≡ max → All (λ e. e.slot.0 < max) entries → AllPairs (λ e f. e.slot ≢ f.slot) entries
    → sum_by length store.chains ≡ cells_in gs
held_is gs entries store max h chains below apart =
    let inside = all_weaker (λ (e : Entry DatagramId Progress). e.slot.0 < max) (λ (e : Entry DatagramId Progress). e.slot.0 < length store.chains) (λ e lt. omega arith) entries
    (recursion_from_All (λ (e : Entry DatagramId Progress). e.slot.0 < max) entries below) in
    sum_chains (λ (e : Entry DatagramId Progress). e.slot.0) entries store.chains (slots_apart entries (pairwise (λ (e f : Entry DatagramId Progress). e.slot ≢ f.slot) entries apart)) inside h.free
    ∙ cells_are store entries gs h.each

-- The number of free cells.

pub free_is : (a : Assembly) (settings : PlainSettings) (calls : List Call) → All (λ e. e.slot.0 < a.table.max) a.table.entries → AllPairs (λ e f. e.slot ≢ f.slot) a.table.entries
    → a.store.free + sum_by length a.store.chains ≡ a.store.cells → KeepsFor settings a calls
    → a.store.free ≡ settings.frag_cells - cells_in (gathered settings.frag_time calls)
free_is a settings calls below apart total st =
    let sum = held_is (gathered settings.frag_time calls) a.table.entries a.store a.table.max st.holds a.sized below apart in
    omega (arith, sum, total, st.opened.store)

-- The era that is evicted holds nothing, and is the one least recently touched of those that hold
-- nothing.
use Rattle.std.proofs.Common.{◌≡◌, ◌≢◌, true, false, List, ◌∷◌, map, Option, Some, None, refl, sym, ap, ◌∙◌, arith, ℕ, ◌==◌, Bool, cond, ◌++◌, length, filter, subst, suc, ◌<◌, not, ap₂, if◌then◌else◌, eq-eqb, ne_eqb, []}
use Rattle.std.specs.List.{AllPairs, AllByRecursion, sum_by, All}
use Rattle.std.proofs.lemmas.List.Elements.{recursion_from_All, filter-append}
use Rattle.std.proofs.lemmas.List.{append-nil, map-append}
use Rattle.linked_table.specs.declared.table.Slot.{Slot}
use Rattle.linked_table.specs.EntryTable.{Entry, IsIn, SplitAt, Pairwise, IsNotIn}
use Rattle.linked_table.proofs.Entries.{split_at}
use Rattle.linked_table.proofs.Lists.{all_weaker, pairwise, filter_rest}
use Rattle.wire_base.specs.Segments.{Written}
use Rattle.rule_book.specs.declared.entry.Ended.{Ended}
use Rattle.rule_book.specs.declared.entry.Reason.TheVariants as reasons
use Rattle.era_state.specs.Quantities.{octets_of}
use Rattle.linked_table.specs.Listing.{first_of, others, Listing}
use Rattle.retain_store.specs.Maps.{Store, chain_of, ChangesOnly, Block}
use Rattle.retain_store.proofs.Counts.{AreApart, sum_chains, sum_agree, sum_map, blocks_at}
use Rattle.linked_table.specs.EntryTable as table
use Rattle.retain_store.proofs.Blocks.{others_same}
use Rattle.tcp_norm.specs.declared.key.Flow.{Flow}
use Rattle.tcp_norm.specs.declared.key.EraKey.{EraKey}
use Rattle.tcp_norm.specs.Calls.{Alive, Call, eras, segments}
use Rattle.tcp_norm.specs.TableAndStore.{alive_in, HoldsFor, EntryStands}
use Rattle.tcp_norm.specs.HeldOctets.{held_of, held_all, held_in}
use Rattle.tcp_norm.specs.RuleViews.{head_of}
use Rattle.tcp_norm.specs.working.EraSteps.{evicted_of, first_empty}
use Rattle.tcp_norm.specs.working.SpareSlots.{spares, is_empty, settled, written_back}
use Rattle.tcp_norm.proofs.EraTable.{put_touch}

-- The least recently touched era that holds nothing, as the table finds it.

-- an era that ends since its slot is needed
abbrev pub ended_at : (ℕ → List Written) → ℕ → Ended
ended_at segments number = record { era = number; reason = reasons.Evicted; octets = Some (octets_of (segments number)) }

-- the chain of an entry has no block
abbrev pub IsEmpty : Store → Entry EraKey Flow → Bool
IsEmpty store e = length (chain_of store e.slot.0) == 0

skip_one : (p : Alive → Bool) (a : Alive) (xs : List Alive) → p a ≡ false → filter p (a ∷ xs) ≡ filter p xs
skip_one p a xs none = ap (λ b. cond b (a ∷ filter p xs) (filter p xs)) none

take_one : (p : Alive → Bool) (a : Alive) (xs : List Alive) → p a ≡ true → filter p (a ∷ xs) ≡ a ∷ filter p xs
take_one p a xs some = ap (λ b. cond b (a ∷ filter p xs) (filter p xs)) some

-- its Held by its chain
holds_by : (segments : ℕ → List Written) (store : Store) (e : Entry EraKey Flow) (b : Bool) → EntryStands segments store e → IsEmpty store e ≡ b → (held_of (segments (alive_in e).number) == 0) ≡ b
holds_by segments store e b stands is = ap (λ n. n == 0) (sym stands.count) ∙ is

first_found : (segments : ℕ → List Written) (store : Store) (before : List (Entry EraKey Flow)) (here : Entry EraKey Flow) (after : List (Entry EraKey Flow))
    → AllByRecursion (EntryStands segments store) (before ++ here ∷ after) → AllByRecursion (λ (e : Entry EraKey Flow). IsEmpty store e ≡ false) before → IsEmpty store here ≡ true
    → evicted_of segments (head_of (filter (λ (a : Alive). held_of (segments a.number) == 0) (map alive_in (before ++ here ∷ after)))) ≡ Some (ended_at segments here.value.number)
first_found segments store [] here after stands none some =
    ap (λ l. evicted_of segments (head_of l)) (take_one (λ (a : Alive). held_of (segments a.number) == 0) (alive_in here) (map alive_in after) (holds_by segments store here true stands.0 some))
first_found segments store (e ∷ before) here after stands none some =
    ap (λ l. evicted_of segments (head_of l)) (skip_one (λ (a : Alive). held_of (segments a.number) == 0) (alive_in e) (map alive_in (before ++ here ∷ after)) (holds_by segments store e false stands.0 none.0))
    ∙ first_found segments store before here after stands.1 none.1 some

none_found : (segments : ℕ → List Written) (store : Store) (entries : List (Entry EraKey Flow))
    → AllByRecursion (EntryStands segments store) entries → AllByRecursion (λ (e : Entry EraKey Flow). IsEmpty store e ≡ false) entries
    → filter (λ (a : Alive). held_of (segments a.number) == 0) (map alive_in entries) ≡ []
none_found segments store [] stands none = refl
none_found segments store (e ∷ es) stands none =
    skip_one (λ (a : Alive). held_of (segments a.number) == 0) (alive_in e) (map alive_in es) (holds_by segments store e false stands.0 none.0) ∙ none_found segments store es stands.1 none.1

pub first_is : (lives : List Alive) (segments : ℕ → List Written) (begun : ℕ) (entries : List (Entry EraKey Flow)) (store : Store) (before : List (Entry EraKey Flow)) (here : Entry EraKey Flow) (after : List (Entry EraKey Flow))
    → HoldsFor lives segments begun entries store → entries ≡ before ++ here ∷ after → AllByRecursion (λ (e : Entry EraKey Flow). IsEmpty store e ≡ false) before → IsEmpty store here ≡ true
    → first_empty lives segments ≡ Some (ended_at segments here.value.number)
first_is lives segments begun entries store before here after h splits none some =
    ap (λ l. evicted_of segments (head_of (filter (λ (a : Alive). held_of (segments a.number) == 0) l))) (sym h.eras_are ∙ ap (map alive_in) splits)
    ∙ first_found segments store before here after (subst (AllByRecursion (EntryStands segments store)) splits h.each) none some

pub first_none : (lives : List Alive) (segments : ℕ → List Written) (begun : ℕ) (entries : List (Entry EraKey Flow)) (store : Store)
    → HoldsFor lives segments begun entries store → AllByRecursion (λ (e : Entry EraKey Flow). IsEmpty store e ≡ false) entries → first_empty lives segments ≡ None
first_none lives segments begun entries store h none =
    ap (λ l. evicted_of segments (head_of l)) (ap (filter (λ (a : Alive). held_of (segments a.number) == 0)) (sym h.eras_are) ∙ none_found segments store entries h.each none)

-- the first of the listed slots: of the entry that holds nothing, after those that hold something
pub record IsFirstSpare (store : Store) (entries : List (Entry EraKey Flow)) (slot : Slot) : Type 0 where
  pub before : List (Entry EraKey Flow)
  pub entry : Entry EraKey Flow
  pub after : List (Entry EraKey Flow)
  pub splits : entries ≡ before ++ entry ∷ after
  pub named : entry.slot ≡ slot
  pub passes : IsEmpty store entry ≡ true
  pub earlier : AllByRecursion (λ (e : Entry EraKey Flow). IsEmpty store e ≡ false) before
  pub inside : IsIn entries slot

-- where none is listed all hold something
abbrev pub Finds : Store → List (Entry EraKey Flow) → Option Slot → Type 0
Finds store entries None = AllByRecursion (λ (e : Entry EraKey Flow). IsEmpty store e ≡ false) entries
Finds store entries (Some slot) = IsFirstSpare store entries slot

finds_later : (store : Store) (e : Entry EraKey Flow) (es : List (Entry EraKey Flow)) (r : Option Slot) → IsEmpty store e ≡ false → Finds store es r → Finds store (e ∷ es) r
finds_later store e es None none all = (none, all)
finds_later store e es (Some slot) none first = record {
  before = e ∷ first.before;
  entry = first.entry;
  after = first.after;
  splits = ap (λ l. e ∷ l) first.splits;
  named = first.named;
  passes = first.passes;
  earlier = (none, first.earlier);
  inside = later first.inside;
}
  where
    later : IsIn es slot → IsIn (e ∷ es) slot
    later (k, x, below, reads, is) = (suc k, x, omega (arith, below), reads, is)

found_first : (store : Store) (e : Entry EraKey Flow) (es : List (Entry EraKey Flow)) → IsEmpty store e ≡ true → IsFirstSpare store (e ∷ es) e.slot
found_first store e es is = record { before = []; entry = e; after = es; splits = refl; named = refl; passes = is; earlier = tt; inside = (0, e, omega arith, refl, refl) }

finds_by : (store : Store) (e : Entry EraKey Flow) (es : List (Entry EraKey Flow)) (b : Bool) → IsEmpty store e ≡ b → Finds store es (first_of (spares store es)) → Finds store (e ∷ es) (first_of (spares store (e ∷ es)))
finds_by store e es true is rest = rw is (found_first store e es is)
finds_by store e es false is rest = rw is (finds_later store e es (first_of (spares store es)) is rest)

pub spare_finds : (store : Store) (entries : List (Entry EraKey Flow)) → Finds store entries (first_of (spares store entries))
spare_finds store [] = tt
spare_finds store (e ∷ es) = finds_by store e es (IsEmpty store e) refl (spare_finds store es)

-- the first of slots that are those
pub found : (store : Store) (entries : List (Entry EraKey Flow)) (slots : List Slot) → slots ≡ spares store entries → (r : Option Slot) → r ≡ first_of slots → Finds store entries r
found store entries slots listed r first = subst (Finds store entries) (sym (first ∙ ap first_of listed)) (spare_finds store entries)

-- What the store holds is what the live eras hold.

slots_apart : (entries : List (Entry EraKey Flow)) → Pairwise (λ (e f : Entry EraKey Flow). e.slot ≢ f.slot) entries → AreApart (λ (e : Entry EraKey Flow). e.slot.0) entries
slots_apart [] pairs = tt
slots_apart (e ∷ es) pairs =
    let mk : ℕ → Slot = λ n. record { 0 = n } in
    (all_weaker (λ (f : Entry EraKey Flow). e.slot ≢ f.slot) (λ (f : Entry EraKey Flow). e.slot.0 ≢ f.slot.0) (λ f ne same. ne (ap mk same)) es pairs.0, slots_apart es pairs.1)

pub held_is : (cs : List Call) (begun : ℕ) (entries : List (Entry EraKey Flow)) (store : Store) (max : ℕ)
    → HoldsFor (eras cs) (λ number. segments number cs) begun entries store
    → length store.chains ≡ max → All (λ e. e.slot.0 < max) entries → AllPairs (λ e f. e.slot ≢ f.slot) entries
    → sum_by length store.chains ≡ held_all cs
held_is cs begun entries store max h chains below apart =
    let inside = all_weaker (λ (e : Entry EraKey Flow). e.slot.0 < max) (λ (e : Entry EraKey Flow). e.slot.0 < length store.chains) (λ e lt. omega arith) entries
    (recursion_from_All (λ (e : Entry EraKey Flow). e.slot.0 < max) entries below) in
    sum_chains (λ (e : Entry EraKey Flow). e.slot.0) entries store.chains (slots_apart entries (pairwise (λ (e f : Entry EraKey Flow). e.slot ≢ f.slot) entries apart)) inside h.free
    ∙ (sum_agree (λ (e : Entry EraKey Flow). length (blocks_at store.chains e.slot.0)) (λ (e : Entry EraKey Flow). held_in cs (alive_in e)) entries
    (all_weaker (EntryStands (λ number. segments number cs) store) _ (λ e s. s.count) entries h.each)
    ∙ (sym (sum_map (held_in cs) alive_in entries) ∙ ap (sum_by (held_in cs)) h.eras_are))

-- The slots of eras that hold no octet, where one of them is touched, begins or ends.

spares-join : (store : Store) (xs ys : List (Entry EraKey Flow)) → spares store (xs ++ ys) ≡ spares store xs ++ spares store ys
spares-join store xs ys =
    ap (map (λ (e : Entry EraKey Flow). e.slot)) (filter-append (λ (e : Entry EraKey Flow). is_empty store e.slot) xs ys)
    ∙ map-append (λ (e : Entry EraKey Flow). e.slot) (filter (λ (e : Entry EraKey Flow). is_empty store e.slot) xs) (filter (λ (e : Entry EraKey Flow). is_empty store e.slot) ys)

spares-cons : (store : Store) (e : Entry EraKey Flow) (es : List (Entry EraKey Flow)) → spares store (e ∷ es) ≡ (if is_empty store e.slot then e.slot ∷ spares store es else spares store es)
spares-cons store e es = by (is_empty store e.slot) refl
  where
    by : (b : Bool) → is_empty store e.slot ≡ b → spares store (e ∷ es) ≡ (if b then e.slot ∷ spares store es else spares store es)
    by true is = rw is refl
    by false is = rw is refl

-- only the chains of these entries are asked for
spares-same : (store new : Store) (slot : Slot) (xs : List (Entry EraKey Flow)) → ((chain : ℕ) → chain ≢ slot.0 → chain_of new chain ≡ chain_of store chain)
    → AllByRecursion (λ (e : Entry EraKey Flow). e.slot ≢ slot) xs → spares new xs ≡ spares store xs
spares-same store new slot [] chains apart = refl
spares-same store new slot (e ∷ es) chains apart =
    let mk : ℕ → Slot = λ n. record { 0 = n } in
    let other : e.slot.0 ≢ slot.0 = λ same. apart.0 (ap mk same) in
    let here : is_empty new e.slot ≡ is_empty store e.slot = ap (λ (l : List Block). length l == 0) (chains e.slot.0 other) in
    spares-cons new e es ∙ (ap₂ (λ b l. if b then e.slot ∷ l else l) here (spares-same store new slot es chains apart.1) ∙ sym (spares-cons store e es))

others-step : (slot s : Slot) (slots : List Slot) → s ≢ slot → others (s ∷ slots) slot ≡ s ∷ others slots slot
others-step slot s slots ne =
    let mk : ℕ → Slot = λ n. record { 0 = n } in
    ap (λ b. cond (not b) (s ∷ others slots slot) (others slots slot)) (ne_eqb s.0 slot.0 (λ same. ne (ap mk same)))

-- a slot of another entry is not listed
apart-by : (slot own : Slot) (slots : List Slot) → own ≢ slot → others slots slot ≡ slots → (b : Bool) → others (if b then own ∷ slots else slots) slot ≡ (if b then own ∷ slots else slots)
apart-by slot own slots ne rest true = others-step slot own slots ne ∙ ap (λ l. own ∷ l) rest
apart-by slot own slots ne rest false = rest

others-apart : (store : Store) (slot : Slot) (xs : List (Entry EraKey Flow)) → AllByRecursion (λ (e : Entry EraKey Flow). e.slot ≢ slot) xs → others (spares store xs) slot ≡ spares store xs
others-apart store slot [] apart = refl
others-apart store slot (e ∷ es) apart =
    ap (λ l. others l slot) (spares-cons store e es)
    ∙ (apart-by slot e.slot (spares store es) apart.0 (others-apart store slot es apart.1) (is_empty store e.slot) ∙ sym (spares-cons store e es))

-- nothing but the slot itself goes
others-own : (store : Store) (slot : Slot) (e : Entry EraKey Flow) → e.slot ≡ slot → others (spares store (e ∷ [])) slot ≡ []
others-own store slot e same = ap (λ l. others l slot) (spares-cons store e []) ∙ by (is_empty store e.slot)
  where
    by : (b : Bool) → others (if b then e.slot ∷ [] else []) slot ≡ []
    by true = ap (λ b. cond (not b) (e.slot ∷ []) []) (eq-eqb e.slot.0 slot.0 (ap (λ (s : Slot). s.0) same))
    by false = refl

others-join : (slots more : List Slot) (slot : Slot) → others (slots ++ more) slot ≡ others slots slot ++ others more slot
others-join slots more slot = filter-append (λ (s : Slot). not (s.0 == slot.0)) slots more

-- the slot after others, where its chain has no block
settled-last : (new : Store) (e : Entry EraKey Flow) (slot : Slot) (rest : List (Entry EraKey Flow)) (slots : List Slot) → e.slot ≡ slot → others slots slot ≡ spares new rest
    → spares new (rest ++ e ∷ []) ≡ settled new slot slots
settled-last new e slot rest slots same is =
    spares-join new rest (e ∷ []) ∙ (ap (λ l. spares new rest ++ l) (spares-cons new e [] ∙ ap (λ (s : Slot). if is_empty new s then s ∷ [] else []) same) ∙ (ap (λ l. l ++ (if is_empty new slot then slot ∷ [] else [])) (sym is) ∙ by (is_empty new slot)))
  where
    by : (b : Bool) → others slots slot ++ (if b then slot ∷ [] else []) ≡ (if b then others slots slot ++ slot ∷ [] else others slots slot)
    by true = refl
    by false = append-nil (others slots slot)

module _ (store new : Store) (entries : List (Entry EraKey Flow)) (slot : Slot) (a : SplitAt entries slot) (chains : (chain : ℕ) → chain ≢ slot.0 → chain_of new chain ≡ chain_of store chain) where
  apart_before : AllByRecursion (λ (e : Entry EraKey Flow). e.slot ≢ slot) a.before
  apart_before = subst (λ s. AllByRecursion (λ (e : Entry EraKey Flow). e.slot ≢ s) a.before) a.named a.slots_before

  apart_after : AllByRecursion (λ (e : Entry EraKey Flow). e.slot ≢ slot) a.after
  apart_after = subst (λ s. AllByRecursion (λ (e : Entry EraKey Flow). e.slot ≢ s) a.after) a.named a.slots_after

  -- the others are listed as before
  others-rest : others (spares store entries) slot ≡ spares new (a.before ++ a.after)
  others-rest =
      let parts : spares store entries ≡ spares store a.before ++ (spares store (a.here ∷ []) ++ spares store a.after) =
      ap (spares store) a.splits ∙ (spares-join store a.before (a.here ∷ a.after) ∙ ap (λ l. spares store a.before ++ l) (spares-join store (a.here ∷ []) a.after)) in
      let left : others (spares store a.before) slot ≡ spares new a.before = others-apart store slot a.before apart_before ∙ sym (spares-same store new slot a.before chains apart_before) in
      let right : others (spares store a.after) slot ≡ spares new a.after = others-apart store slot a.after apart_after ∙ sym (spares-same store new slot a.after chains apart_after) in
      let own : others (spares store (a.here ∷ [])) slot ≡ [] = others-own store slot a.here a.named in
      ap (λ l. others l slot) parts
      ∙ (others-join (spares store a.before) (spares store (a.here ∷ []) ++ spares store a.after) slot
      ∙ (ap (λ l. others (spares store a.before) slot ++ l) (others-join (spares store (a.here ∷ [])) (spares store a.after) slot)
      ∙ (ap₂ (λ l m. l ++ m) left (ap₂ (λ l m. l ++ m) own right) ∙ sym (spares-join new a.before a.after))))

-- an entry has another value and was touched, and no other chain has changed
pub spares-touched : (store new : Store) (entries : List (Entry EraKey Flow)) (slot : Slot) (value : Flow) → IsIn entries slot
    → AllPairs (λ e f. e.slot ≢ f.slot) entries → AllPairs (λ e f. e.key ≢ f.key) entries → ((chain : ℕ) → chain ≢ slot.0 → chain_of new chain ≡ chain_of store chain)
    → spares new (written_back entries slot value) ≡ settled new slot (spares store entries)
spares-touched store new entries slot value inside slots keys chains =
    let a = split_at entries slot inside slots keys in
    ap (spares new) (put_touch entries slot a value)
    ∙ settled-last new (record a.here { value = value }) slot (a.before ++ a.after) (spares store entries) a.named (others-rest store new entries slot a chains)

-- an entry is added after the others
pub spares-added : (store : Store) (entries : List (Entry EraKey Flow)) (e : Entry EraKey Flow) → IsNotIn entries e.slot → spares store (entries ++ e ∷ []) ≡ settled store e.slot (spares store entries)
spares-added store entries e fresh =
    settled-last store e e.slot entries (spares store entries) refl (others-apart store e.slot entries (recursion_from_All (λ (f : Entry EraKey Flow). f.slot ≢ e.slot) entries fresh))

-- an entry goes, and no chain but its own has changed
pub spares-left : (store new : Store) (entries : List (Entry EraKey Flow)) (slot : Slot) → IsIn entries slot
    → AllPairs (λ e f. e.slot ≢ f.slot) entries → AllPairs (λ e f. e.key ≢ f.key) entries → ((chain : ℕ) → chain ≢ slot.0 → chain_of new chain ≡ chain_of store chain)
    → spares new (table.without entries slot) ≡ others (spares store entries) slot
spares-left store new entries slot inside slots keys chains =
    let a = split_at entries slot inside slots keys in
    let mk : ℕ → Slot = λ n. record { 0 = n } in
    let apart : (e : Entry EraKey Flow) → e.slot ≢ slot → not (e.slot.0 == slot.0) ≡ true = λ e ne. ap not (ne_eqb e.slot.0 slot.0 (λ same. ne (ap mk same))) in
    let here : not (a.here.slot.0 == slot.0) ≡ false = ap not (eq-eqb a.here.slot.0 slot.0 (ap (λ (s : Slot). s.0) a.named)) in
    let out : table.without entries slot ≡ a.before ++ a.after =
    ap (λ l. table.without l slot) a.splits
    ∙ filter_rest (λ (e : Entry EraKey Flow). not (e.slot.0 == slot.0)) a.before a.here a.after
    (all_weaker (λ (e : Entry EraKey Flow). e.slot ≢ slot) (λ (e : Entry EraKey Flow). not (e.slot.0 == slot.0) ≡ true) apart a.before (apart_before store new entries slot a chains)) here
    (all_weaker (λ (e : Entry EraKey Flow). e.slot ≢ slot) (λ (e : Entry EraKey Flow). not (e.slot.0 == slot.0) ≡ true) apart a.after (apart_after store new entries slot a chains)) in
    ap (spares new) out ∙ sym (others-rest store new entries slot a chains)

-- the same of the list of slots
pub touched_listed : (old new : Listing) (store later : Store) (t : table.Table EraKey Flow) (touched : List (Entry EraKey Flow)) (slot : Slot) (value : Flow) → IsIn t.entries slot
    → AllPairs (λ e f. e.slot ≢ f.slot) t.entries → AllPairs (λ e f. e.key ≢ f.key) t.entries → ChangesOnly store later slot.0
    → old.slots ≡ spares store t.entries → new ≡ record old { slots = settled later slot old.slots } → touched ≡ written_back t.entries slot value → new.slots ≡ spares later touched
touched_listed old new store later t touched slot value inside slots keys changed listed new_is touched_is =
    ap (λ (l : Listing). l.slots) new_is
    ∙ (ap (settled later slot) listed
    ∙ sym (ap (spares later) touched_is ∙ spares-touched store later t.entries slot value inside slots keys (others_same store later slot.0 changed)))

pub added_listed : (old new : Listing) (store : Store) (entries added : List (Entry EraKey Flow)) (e : Entry EraKey Flow) → IsNotIn entries e.slot
    → old.slots ≡ spares store entries → new ≡ record old { slots = settled store e.slot old.slots } → added ≡ entries ++ e ∷ [] → new.slots ≡ spares store added
added_listed old new store entries added e fresh listed new_is added_is =
    ap (λ (l : Listing). l.slots) new_is ∙ (ap (settled store e.slot) listed ∙ sym (ap (spares store) added_is ∙ spares-added store entries e fresh))

pub left_listed : (old new : Listing) (store later : Store) (entries left : List (Entry EraKey Flow)) (slot : Slot) → IsIn entries slot
    → AllPairs (λ e f. e.slot ≢ f.slot) entries → AllPairs (λ e f. e.key ≢ f.key) entries → ((chain : ℕ) → chain ≢ slot.0 → chain_of later chain ≡ chain_of store chain)
    → old.slots ≡ spares store entries → new ≡ record old { slots = others old.slots slot } → left ≡ table.without entries slot → new.slots ≡ spares later left
left_listed old new store later entries left slot inside slots keys chains listed new_is left_is =
    ap (λ (l : Listing). l.slots) new_is ∙ (ap (λ l. others l slot) listed ∙ sym (ap (spares later) left_is ∙ spares-left store later entries slot inside slots keys chains))

-- The front of a chain: the chain without its first cell, and with a first block that has lost
-- octets.
use Rattle.std.proofs.Common.{◌≡◌, ◌≢◌, ℕ, ◌+◌, ◌*◌, ◌<◌, ◌≤◌, ◌/◌, ◌%◌, inl, inr, nat_lt, Bool, true, false, List, [], ◌∷◌, ◌++◌, length, get_or, Option, Some, None, refl, sym, ap, subst, ◌∙◌, arith, lt-ltb, le-ltb, ltb-true, ltb-false, ◌-◌, ◌↔◌, IsTrue, min, if◌then◌else◌, drop, replicate, IsNone, is_some, length-append, length-drop}
use Rattle.std.proofs.lemmas.Bool.{cases_lt, cases_eq, cases_Bool, or_parts}
use Rattle.std.specs.List.{All, list_any}
use Rattle.std.proofs.lemmas.Bool.Decides.{nat_tests}
use Rattle.std.proofs.lemmas.List.{get_or_append_left, get_or-append_right, get_or-replicate, get_or-drop, get_or_past, length-replicate}
use Rattle.std.proofs.lemmas.List.Elements.{All-nil, All-cons}
use Rattle.cell_pool.specs.declared.cells.CellId.{CellId}
use Rattle.cell_pool.specs.ChainLists.{Lists, Held, IsRising, HasCellAfter, GivesBackAfter, chain_at, with_chain, first_id, BeginsAbove, Wherever, Writes, without_below}
use Rattle.cell_pool.proofs.Chains.{IsRising-octets}
use Rattle.cell_pool.proofs.Bits.{is_none_of}
use Rattle.retain_store.specs.Maps.{block_at, ForgetsBelow, Block, octet_at}
use Rattle.retain_store.specs.PoolBlocks.{blocks_of}
use Rattle.retain_store.specs.working.BlockCells.{blocks_in, AllFull, IsAt, IsKept}
use Rattle.retain_store.specs.working.PoolChanges.{IsAmongAbove, IsAbove, IsChanged, KeepsAbove, begins_below, Forgets}
use Rattle.retain_store.proofs.Blocks.{skips, none_above, chain_is, changed_by, begins, unchanged}
use Rattle.retain_store.proofs.Cells.{stands}
use Rattle.retain_store.proofs.Segments.{inside_then, changed_then}

-- The first cell of a chain, and the chain without it.

-- these begin with the cell with this identifier
pub record IsFirst (cells : List Held) (name : CellId) : Type 0 where
  pub cell : Held
  pub rest : List Held
  pub at : IsAt cells name [] cell rest

pub first_at : (cells : List Held) {name : CellId} → first_id cells ≡ Some name → IsFirst cells name
first_at [] named = cc
first_at (x ∷ xs) named = record { cell = x; rest = xs; at = record { splits = refl; named = cc } }

-- these begin with a cell below this number
pub record IsFirstBelow (cells : List Held) (number : ℕ) : Type 0 where
  pub cell : Held
  pub rest : List Held
  pub splits : cells ≡ cell ∷ rest
  pub below : cell.block < number

pub first_below : (cells : List Held) (number : ℕ) → begins_below cells number ≡ true → IsFirstBelow cells number
first_below [] number begins = cc
first_below (x ∷ xs) number begins = record { cell = x; rest = xs; splits = refl; below = ltb-true x.block number begins }

pub begins_is : (cells : List Held) (x : Held) (rest : List Held) (number : ℕ) (b : Bool) → cells ≡ x ∷ rest →
    b ≡ nat_lt x.block number → b ≡ begins_below cells number
begins_is cells x rest number b splits is = is ∙ ap (λ l. begins_below l number) (sym splits)

pub has_first : {cells : List Held} (x : Held) (rest : List Held) → cells ≡ x ∷ rest → HasCellAfter cells None
has_first x rest splits = record { before = []; cell = x; rest = rest; place = record { splits = splits; ends = refl } }

-- no cell before this number
pub none_before : (cells : List Held) (number n : ℕ) → IsRising cells → begins_below cells number ≡ false → n < number →
    block_at (blocks_of cells) n ≡ []
none_before [] number n rises begins lt = refl
none_before (x ∷ xs) number n rises begins lt =
    none_above n (x ∷ xs) rises (let above = ltb-false x.block number begins in omega arith)

-- a cell above this number stays in the chain if the first cell is removed and is not above the
-- number
among_behind : (b : Held) (rest : List Held) (number : ℕ) (name : CellId) (before : List Held) (x : Held) (after : List Held) →
    b.block ≤ number → number < x.block → x.id ≡ name → b ∷ rest ≡ before ++ x ∷ after → IsAmongAbove rest number name
among_behind b rest number name [] x after le above named splits =
    let same : b ≡ x = cc in
    let blocks = ap (λ (k : Held). k.block) same in
    absurd (omega arith)
among_behind b rest number name (y ∷ ys) x after le above named splits = record {
  before = ys;
  cell = x;
  after = after;
  at = record { splits = cc; named = named };
  above = above;
}

pub keeps_behind : (b : Held) (rest : List Held) (number : ℕ) → b.block ≤ number → KeepsAbove (b ∷ rest) rest number
keeps_behind b rest number le None above = tt
keeps_behind b rest number le (Some name) above =
    among_behind b rest number name above.before above.cell above.after le above.above above.at.named above.at.splits

-- without its first cell
module _ (old : Lists) {new : Lists} (c : ℕ) (x : Held) (rest : List Held) (inside : c < length old.chains)
    (splits : chain_at old c ≡ x ∷ rest) (gives : GivesBackAfter old new c None) where
  given : new ≡ with_chain old c rest (old.free + 1)
  given = gives [] x rest (record { splits = splits; ends = refl })

  pub rest_is : chain_at new c ≡ rest
  rest_is = chain_is old c rest (old.free + 1) inside given

  pub given_changed : IsChanged old new c
  given_changed = changed_by old c rest (old.free + 1) inside given (omega (arith, ap length splits))

  pub given_kept : IsKept (chain_at old c) → IsKept (chain_at new c)
  given_kept kept = record {
    rising = subst IsRising (sym rest_is) (subst IsRising splits kept.rising).1;
    full = subst AllFull (sym rest_is) (subst AllFull splits kept.full).1;
  }

  pub given_blocks : (n : ℕ) → x.block ≢ n → block_at (blocks_in new c) n ≡ block_at (blocks_in old c) n
  given_blocks n other = ap (λ l. block_at (blocks_of l) n) rest_is
      ∙ (sym (skips x rest n other) ∙ ap (λ l. block_at (blocks_of l) n) (sym splits))

  pub given_near : (number : ℕ) → x.block ≤ number → KeepsAbove (chain_at old c) (chain_at new c) number
  given_near number le near above = subst (λ l. IsAbove l number near) (sym rest_is)
      (keeps_behind x rest number le near (subst (λ l. IsAbove l number near) splits above))

-- octets below a block are removed if no block before it is left, and the others stay
pub forgets_blocks : (old new : List Held) (number : ℕ) → IsRising new → begins_below new number ≡ false →
    ((n : ℕ) → number ≤ n → block_at (blocks_of new) n ≡ block_at (blocks_of old) n) →
    ForgetsBelow (blocks_of old) (blocks_of new) (256 * number)
forgets_blocks old new number rises begins left offset =
    let at = offset % 256 in
    elim (cases_lt offset (256 * number)) [
      | inl lt ↦
          let below : offset / 256 < number = omega arith in
          rw (lt-ltb offset (256 * number) lt)
          (ap (λ l. get_or l at None) (none_before new number (offset / 256) rises begins below))
      | inr le ↦
          let above : number ≤ offset / 256 = omega arith in
          rw (le-ltb offset (256 * number) le) (ap (λ l. get_or l at None) (left (offset / 256) above))
    ]

-- A chain whose first block has lost octets.

pub length_without : (k : ℕ) (octets : List (Option ℕ)) → length (without_below k octets) ≡ length octets
length_without k octets =
    let none : Option ℕ = None in
    let part = min k (length octets) in
    omega (
      arith,
      length-append (replicate part none) (drop k octets),
      length-replicate part none,
      length-drop k octets,
    )

-- the octet left at an offset
pub got_without : (k : ℕ) (octets : List (Option ℕ)) (i : ℕ) →
    get_or (without_below k octets) i None ≡ (if nat_lt i k then None else get_or octets i None)
got_without k octets i =
    let none : Option ℕ = None in
    let part = min k (length octets) in
    let long = length-replicate part none in
    elim (cases_lt i k) [
      | inl lt ↦ rw (lt-ltb i k lt) (elim (cases_lt i part) [
        | inl inside ↦ get_or_append_left (replicate part none) (drop k octets) None i (omega arith)
            ∙ get_or-replicate part i none None inside
        | inr past ↦ get_or_past (without_below k octets) i None (omega (arith, length_without k octets))
      ])
      | inr le ↦ rw (le-ltb i k le) (elim (cases_lt k (length octets)) [
        | inl within ↦
            let at : k + (i - part) ≡ i = omega arith in
            get_or-append_right (replicate part none) (drop k octets) part i None long (omega arith)
            ∙ (get_or-drop k octets (i - part) None ∙ ap (λ j. get_or octets j None) at)
        | inr short ↦ get_or_past (without_below k octets) i None (omega (arith, length_without k octets))
            ∙ sym (get_or_past octets i None (omega arith))
      ])
    ]

-- no octet is left, or one is
none_used : (octets : List (Option ℕ)) → list_any is_some octets ≡ false → All (λ o. IsNone o) octets
none_used [] unused = All-nil (λ (o : Option ℕ). IsNone o)
none_used (o ∷ os) unused =
    let (first, rest) = or_parts (is_some o) (list_any is_some os) unused in
    All-cons (λ (o : Option ℕ). IsNone o) o os first (none_used os rest)

pub some_used : (octets : List (Option ℕ)) (none_left : Bool) → (All (λ o. IsNone o) octets → none_left ≡ true) →
    none_left ≡ false → list_any is_some octets ≡ true
some_used octets none_left all left = elim (cases_Bool (list_any is_some octets)) [
  | inl used ↦ used
  | inr unused ↦ let none = all (none_used octets unused) in cc
]

pub got_none : (octets : List (Option ℕ)) (i : ℕ) → All (λ o. IsNone o) octets → get_or octets i None ≡ None
got_none octets i all = elim (cases_lt i (length octets)) [
  | inl lt ↦ is_none_of (get_or octets i None) (all i None lt)
  | inr le ↦ get_or_past octets i None le
]

-- octets below an offset are removed if its block has lost those below and no block before it is
-- left
pub forgets_in_block : (old new : List Block) (at : ℕ) (octets : List (Option ℕ)) →
    ((n : ℕ) → at / 256 ≢ n → block_at new n ≡ block_at old n) →
    ((n : ℕ) → n < at / 256 → block_at old n ≡ []) → block_at old (at / 256) ≡ octets →
    ((i : ℕ) → get_or (block_at new (at / 256)) i None ≡ get_or (without_below (at % 256) octets) i None) →
    ForgetsBelow old new at
forgets_in_block old new at octets other before was got offset =
    let n = at / 256 in
    let i = offset % 256 in
    elim (cases_eq n (offset / 256)) [
      | inl same ↦
          let test : nat_lt i (at % 256) ≡ nat_lt offset at = grind (arith, nat_tests) in
          let was_here : get_or octets i None ≡ octet_at old offset =
          ap (λ l. get_or l i None) (sym was) ∙ ap (λ m. get_or (block_at old m) i None) same in
          ap (λ m. get_or (block_at new m) i None) (sym same) ∙ (got i ∙ (got_without (at % 256) octets i
          ∙ (ap (λ b. if b then None else get_or octets i None) test
          ∙ ap (λ o. if nat_lt offset at then None else o) was_here)))
      | inr differ ↦
          let unchanged = ap (λ l. get_or l i None) (other (offset / 256) differ) in
          elim (cases_lt offset at) [
            | inl lt ↦
                let below : offset / 256 < n = omega arith in
                rw (lt-ltb offset at lt) (unchanged ∙ ap (λ l. get_or l i None) (before (offset / 256) below))
            | inr le ↦ rw (le-ltb offset at le) unchanged
          ]
    ]

-- a later block
pub behind_first : (x : Held) (rest : List Held) (number : ℕ) → begins_below (x ∷ rest) number ≡ false →
    x.block ≢ number → number < x.block
behind_first x rest number begun other = let le = ltb-false x.block number begun in omega arith

-- no octet is below, if the chain begins after the block
nothing_below : (cells : List Held) (at : ℕ) → IsRising cells → BeginsAbove (at / 256) cells →
    ForgetsBelow (blocks_of cells) (blocks_of cells) at
nothing_below cells at rises above offset = elim (cases_lt offset at) [
  | inl lt ↦
      let none = none_above (offset / 256) cells rises (lower (offset / 256) cells (omega arith) above) in
      rw (lt-ltb offset at lt) (ap (λ l. get_or l (offset % 256) None) none)
  | inr le ↦ rw (le-ltb offset at le) refl
]
  where
    lower : (n : ℕ) (cells : List Held) → n ≤ at / 256 → BeginsAbove (at / 256) cells → BeginsAbove n cells
    lower n [] le above = tt
    lower n (x ∷ xs) le above = omega arith

pub forgets_nothing : {pool : Lists} {c at block : ℕ} {name : CellId} → c < length pool.chains → IsKept (chain_at pool c) →
    begins_below (chain_at pool c) (at / 256) ≡ false → first_id (chain_at pool c) ≡ Some name →
    Wherever pool name (λ x after. block ≡ x.block) → block ≢ at / 256 → Forgets pool pool c (at / 256) at
forgets_nothing {pool = pool} {c = c} {at = at} inside kept begun named block_is other =
    let first = first_at (chain_at pool c) named in
    let block = block_is _ _ _ _ (stands inside first.at) in
    let above = behind_first first.cell first.rest (at / 256)
    (subst (λ l. begins_below l (at / 256) ≡ false) first.at.splits begun) (λ e. other (block ∙ e)) in
    let begins_above : BeginsAbove (at / 256) (chain_at pool c) =
    subst (λ l. BeginsAbove (at / 256) l) (sym first.at.splits) above in
    record {
      kept = kept;
      changed = unchanged pool c;
      near = λ near above. above;
      octets = nothing_below (chain_at pool c) at kept.rising begins_above;
    }

near_before : (x : Held) (rest : List Held) (number : ℕ) (near : Option CellId) → IsAbove rest number near →
    IsAbove (x ∷ rest) number near
near_before x rest number None above = tt
near_before x rest number (Some name) above = record {
  before = x ∷ above.before;
  cell = above.cell;
  after = above.after;
  at = record { splits = ap (λ l. x ∷ l) above.at.splits; named = above.at.named };
  above = above.above;
}

-- the first cell has the block of an offset and lost the octets below it; `none_left` is true if it
-- has no other
pub record Clears (old mid : Lists) (c at : ℕ) (none_left : Bool) : Type 0 where
  pub cell : Held
  pub rest : List Held
  pub splits : chain_at old c ≡ cell ∷ rest
  pub numbered : cell.block ≡ at / 256
  pub is : mid ≡ with_chain old c (record cell { octets = without_below (at % 256) cell.octets } ∷ rest) old.free
  pub tells : IsTrue none_left ↔ All (λ o. IsNone o) (without_below (at % 256) cell.octets)

pub clears : {old mid : Lists} {c block k at : ℕ} {name : CellId} {none_left : Bool} → c < length old.chains →
    first_id (chain_at old c) ≡ Some name → Wherever old name (λ x after. block ≡ x.block) → block ≡ at / 256 →
    k ≡ at % 256 → Writes old mid name (without_below k) →
    Wherever old name (λ x after. IsTrue none_left ↔ All (λ o. IsNone o) (without_below k x.octets)) →
    Clears old mid c at none_left
clears {old = old} {c = c} {none_left = none_left} inside named block_of numbered same writes tells =
    let first = first_at (chain_at old c) named in
    let x = first.cell in
    let here = stands inside first.at in
    record {
      cell = x;
      rest = first.rest;
      splits = first.at.splits;
      numbered = sym (block_of _ _ _ _ here) ∙ numbered;
      is = writes _ _ _ _ here
          ∙ ap (λ j. with_chain old c (record x { octets = without_below j x.octets } ∷ first.rest) old.free) same;
      tells = subst (λ j. IsTrue none_left ↔ All (λ o. IsNone o) (without_below j x.octets)) same (tells _ _ _ _ here);
    }

module _ {old mid : Lists} {c at : ℕ} {none_left : Bool} (inside : c < length old.chains) (kept : IsKept (chain_at old c))
    (begun : begins_below (chain_at old c) (at / 256) ≡ false) (cleared : Clears old mid c at none_left) where
  rises : IsRising (cleared.cell ∷ cleared.rest)
  rises = subst IsRising cleared.splits kept.rising

  full : AllFull (cleared.cell ∷ cleared.rest)
  full = subst AllFull cleared.splits kept.full

  was : block_at (blocks_in old c) (at / 256) ≡ cleared.cell.octets
  was = ap (λ l. block_at (blocks_of l) (at / 256)) cleared.splits
      ∙ begins cleared.cell cleared.rest (at / 256) cleared.numbered

  before : (n : ℕ) → n < at / 256 → block_at (blocks_in old c) n ≡ []
  before n below = none_before (chain_at old c) (at / 256) n kept.rising begun below

  others : (n : ℕ) → at / 256 ≢ n → block_at (blocks_of cleared.rest) n ≡ block_at (blocks_in old c) n
  others n differ = sym (skips cleared.cell cleared.rest n (λ e. differ (sym cleared.numbered ∙ e)))
      ∙ ap (λ l. block_at (blocks_of l) n) (sym cleared.splits)

  stays : KeepsAbove (chain_at old c) cleared.rest (at / 256)
  stays near above = keeps_behind cleared.cell cleared.rest (at / 256) (omega (arith, cleared.numbered)) near
      (subst (λ l. IsAbove l (at / 256) near) cleared.splits above)

  pub mid_changed : IsChanged old mid c
  mid_changed = changed_by old c (record cleared.cell { octets = without_below (at % 256) cleared.cell.octets } ∷ cleared.rest)
      old.free inside cleared.is (omega (arith, ap length cleared.splits))

  mid_is : chain_at mid c ≡ record cleared.cell { octets = without_below (at % 256) cleared.cell.octets } ∷ cleared.rest
  mid_is = chain_is old c (record cleared.cell { octets = without_below (at % 256) cleared.cell.octets } ∷ cleared.rest)
      old.free inside cleared.is

  pub mid_first : HasCellAfter (chain_at mid c) None
  mid_first = has_first _ _ mid_is

  -- it has another octet, and stays
  pub forgets_part : none_left ≡ false → Forgets old mid c (at / 256) at
  forgets_part some =
      let x = cleared.cell in
      let rest = cleared.rest in
      let y : Held = record x { octets = without_below (at % 256) x.octets } in
      let places : length y.octets ≡ 256 = length_without (at % 256) x.octets ∙ full.0.places in
      let used = some_used y.octets none_left cleared.tells.1 some in
      record {
        kept = record {
          rising = subst IsRising (sym mid_is) (IsRising-octets [] x rest y.octets rises);
          full = subst AllFull (sym mid_is) (record { places = places; used = used }, full.1);
        };
        changed = mid_changed;
        near = λ near above. subst (λ l. IsAbove l (at / 256) near) (sym mid_is)
            (near_before y rest (at / 256) near (stays near above));
        octets = forgets_in_block (blocks_in old c) (blocks_in mid c) at x.octets
            (λ n differ. ap (λ l. block_at (blocks_of l) n) mid_is
            ∙ (skips y rest n (λ e. differ (sym cleared.numbered ∙ e)) ∙ others n differ))
            before was
            (λ i. ap (λ l. get_or (block_at (blocks_of l) (at / 256)) i None) mid_is
            ∙ ap (λ l. get_or l i None) (begins y rest (at / 256) cleared.numbered));
      }

  -- it has none, and is freed
  pub forgets_all : {new : Lists} → none_left ≡ true → GivesBackAfter mid new c None → Forgets old new c (at / 256) at
  forgets_all {new = new} none gives =
      let x = cleared.cell in
      let rest = cleared.rest in
      let y : Held = record x { octets = without_below (at % 256) x.octets } in
      let within = inside_then inside mid_changed in
      let left = rest_is mid c y rest within mid_is gives in
      let changed = given_changed mid c y rest within mid_is gives in
      let gone : block_at (blocks_in new c) (at / 256) ≡ [] = ap (λ l. block_at (blocks_of l) (at / 256)) left
      ∙ none_above (at / 256) rest rises.1 (subst (λ n. BeginsAbove n rest) cleared.numbered rises.0) in
      record {
        kept = record { rising = subst IsRising (sym left) rises.1; full = subst AllFull (sym left) full.1 };
        changed = changed_then (chain_at new c) new.free inside mid_changed changed.others changed.cells;
        near = λ near above. subst (λ l. IsAbove l (at / 256) near) (sym left) (stays near above);
        octets = forgets_in_block (blocks_in old c) (blocks_in new c) at x.octets
            (λ n differ. ap (λ l. block_at (blocks_of l) n) left ∙ others n differ) before was
            (λ i. ap (λ l. get_or l i None) gone ∙ sym (got_none y.octets i (cleared.tells.0 none)));
      }

-- A cell is free or in the chain that owns it, and no cell occurs twice, so the lengths of all
-- lists add up to the number of cells.
use Rattle.std.proofs.Common.{◌≡◌, ℕ, zero, suc, ◌+◌, ◌<◌, ◌≤◌, ◌≢◌, ◌⊎◌, inl, inr, List, [], ◌∷◌, ◌++◌, map, length, get_or, Option, Some, None, true, false, refl, sym, ap, subst, ◌∙◌, arith, length-append}
use Rattle.std.specs.List.{sum_by, list_any, AllByRecursion, IsDistinct}
use Rattle.std.proofs.Math.Dec.{eqb}
use Rattle.std.proofs.lemmas.Bool.{cases_Bool, cases_eq}
use Rattle.std.proofs.lemmas.Bool.Decides.{nat_tests}
use Rattle.std.proofs.lemmas.List.{length-map}
use Rattle.std.proofs.lemmas.List.Sums.{sum_by-cons}
use Rattle.std.proofs.lemmas.Map.Steps.{length-le_from_distinct_below}
use Rattle.cell_pool.specs.declared.cells.Cell.{Cell}
use Rattle.cell_pool.specs.declared.cells.Head.{Head}
use Rattle.cell_pool.specs.declared.cells.CellId.{CellId}
use Rattle.cell_pool.specs.declared.cells.ChainId.{ChainId}
use Rattle.cell_pool.specs.ChainLists.{Lists, Held, Stands, StandsUpTo, chain_at, StandsOnce}
use Rattle.cell_pool.specs.CellLinks.{blank_cell, cell_at, next_at, held_at, walk, cells_of}
use Rattle.cell_pool.specs.working.SoundLinks.{head_at, owner_of, Leads, IsList}
use Rattle.cell_pool.proofs.Chains.{owner_number, Avoids, FoundAt, avoids_other, avoids_itself, Shows, within, chain_is, stands_is, Leads_unique, stands_at}

-- A cell whose owner is a chain is in that chain: the lengths of all lists add up to the number of
-- cells, and no cell occurs twice.

-- the index of a cell
abbrev index : Held → ℕ
index x = x.id.0

-- no cell occurs twice
abbrev IsApart : List Held → Type 0
IsApart [] = Unit {0}
IsApart (x ∷ xs) = Avoids x.id.0 xs × IsApart xs

-- each of the cells has an index below this one
abbrev IsBelow : ℕ → List Held → Type 0
IsBelow n [] = Unit {0}
IsBelow n (x ∷ xs) = (x.id.0 < n) × IsBelow n xs

-- a cell of this index is among these
record HasIndex (at : ℕ) (xs : List Held) : Type 0 where
  before : List Held
  cell : Held
  after : List Held
  splits : xs ≡ before ++ cell ∷ after
  named : cell.id.0 ≡ at

look : (at : ℕ) (xs : List Held) → Avoids at xs ⊎ HasIndex at xs
look at [] = inl tt
look at (x ∷ xs) = elim (cases_eq x.id.0 at) [
  | inl same ↦ inr (record { before = []; cell = x; after = xs; splits = refl; named = same })
  | inr ne ↦ elim (look at xs) [
    | inl rest ↦ inl (ne, rest)
    | inr has ↦ inr (record {
      before = x ∷ has.before;
      cell = has.cell;
      after = has.after;
      splits = ap (λ l. x ∷ l) has.splits;
      named = has.named;
    })
  ]
]

Avoids-append : (at : ℕ) (xs ys : List Held) → Avoids at xs → Avoids at ys → Avoids at (xs ++ ys)
Avoids-append at [] ys p q = q
Avoids-append at (x ∷ xs) ys p q = (p.0, Avoids-append at xs ys p.1 q)

IsBelow-append : (n : ℕ) (xs ys : List Held) → IsBelow n xs → IsBelow n ys → IsBelow n (xs ++ ys)
IsBelow-append n [] ys p q = q
IsBelow-append n (x ∷ xs) ys p q = (p.0, IsBelow-append n xs ys p.1 q)

-- cells that do not occur twice are at most as many as there are indices
differs : (at : ℕ) (xs : List Held) → Avoids at xs → AllByRecursion (λ y. eqb at y ≡ false) (map index xs)
differs at [] p = tt
differs at (x ∷ xs) p = (
  (let ne : x.id.0 ≢ at = p.0 in grind (arith, nat_tests)),
  differs at xs p.1,
)

distinct : (xs : List Held) → IsApart xs → IsDistinct eqb (map index xs)
unfolding IsDistinct
distinct [] p = tt
distinct (x ∷ xs) p = (differs x.id.0 xs p.0, distinct xs p.1)

below : (n : ℕ) (xs : List Held) → IsBelow n xs → (q : ℕ) → list_any (eqb q) (map index xs) ≡ true → q < n
below n [] p q has = cc
below n (x ∷ xs) p q has = elim (cases_Bool (eqb q x.id.0)) [
  | inl t ↦ let e : q ≡ x.id.0 = grind (arith, nat_tests) in omega (arith, p.0)
  | inr f ↦ below n xs p.1 q (rw f at has)
]

at_most : (n : ℕ) (xs : List Held) → IsApart xs → IsBelow n xs → length xs ≤ n
at_most n xs apart inside = rw length-map at (length-le_from_distinct_below (map index xs) n (distinct xs apart)
    (below n xs inside))

module _ (cells : List Cell) where
  leads_below : (o : Option ChainId) (link : Option CellId) (l : List Held) → Leads cells o link l →
      IsBelow (length cells) l
  leads_below o link [] p = tt
  leads_below o link (x ∷ xs) p = (p.0.inside, leads_below o (next_at cells x.id) xs p.1)

  -- a list of one owner, before others that do not contain its cells
  leads_apart : (o : Option ChainId) (link : Option CellId) (l others : List Held) → Leads cells o link l →
      IsApart others → ((i : ℕ) → (cell_at cells i).owner ≡ o → Avoids i others) → IsApart (l ++ others)
  leads_apart o link [] others p apart away = apart
  leads_apart o link (x ∷ xs) others p apart away =
      let at : FoundAt cells o x.id xs = record { inside = p.0.inside; owned = p.0.owned; leads = p.1 } in (
        Avoids-append x.id.0 xs others (avoids_itself cells o x.id xs at) (away x.id.0 p.0.owned),
        leads_apart o (next_at cells x.id) xs others p.1 apart away,
      )

  -- the cells of all chains
  abbrev gathered : List Head → List Held
  gathered [] = []
  gathered (h ∷ hs) = cells_of cells h ++ gathered hs

  -- the chains from this number on lead through their cells
  abbrev AreLists : ℕ → List Head → Type 0
  AreLists k [] = Unit {0}
  AreLists k (h ∷ hs) = IsList cells (owner_of k) h.first h.count × AreLists (suc k) hs

  lists_from : (k : ℕ) (heads : List Head) → ((c : ℕ) → c < length heads →
      IsList cells (owner_of (k + c)) (head_at heads c).first (head_at heads c).count) → AreLists k heads
  lists_from k [] each = tt
  lists_from k (h ∷ hs) each =
      let here : k + 0 ≡ k = omega arith in (
        subst (λ n. IsList cells (owner_of n) h.first h.count) here (each 0 (omega arith)),
        lists_from (suc k) hs (λ c lt.
            let next : k + suc c ≡ suc k + c = omega arith in
            subst (λ n. IsList cells (owner_of n) (head_at hs c).first (head_at hs c).count) next
            (each (suc c) (omega arith))),
      )

  -- chains that do not own a cell do not contain it
  away : (k : ℕ) (heads : List Head) → AreLists k heads → (i : ℕ) →
      ((j : ℕ) → k ≤ j → (cell_at cells i).owner ≢ owner_of j) → Avoids i (gathered heads)
  away k [] lists i other = tt
  away k (h ∷ hs) lists i other = Avoids-append i (cells_of cells h) (gathered hs)
      (avoids_other cells (owner_of k) i h.first (cells_of cells h) (other k (omega arith)) lists.0.leads)
      (away (suc k) hs lists.1 i (λ j le. other j (omega arith)))

  -- no chain contains the cell if the chain that owns it does not
  away_but : (k : ℕ) (heads : List Head) → AreLists k heads → (i c : ℕ) → (cell_at cells i).owner ≡ owner_of (k + c) →
      c < length heads → Avoids i (cells_of cells (head_at heads c)) → Avoids i (gathered heads)
  away_but k [] lists i c owned lt avoids = tt
  away_but k (h ∷ hs) lists i zero owned lt avoids = Avoids-append i (cells_of cells h) (gathered hs) avoids
      (away (suc k) hs lists.1 i (λ j le same. let e = ap owner_number (sym owned ∙ same) in omega arith))
  away_but k (h ∷ hs) lists i (suc c) owned lt avoids =
      let next : k + suc c ≡ suc k + c = omega arith in
      Avoids-append i (cells_of cells h) (gathered hs)
      (avoids_other cells (owner_of k) i h.first (cells_of cells h)
      (λ same. let e = ap owner_number (sym owned ∙ same) in omega arith) lists.0.leads)
      (away_but (suc k) hs lists.1 i c (owned ∙ ap owner_of next) (omega arith) avoids)

  gathered_apart : (k : ℕ) (heads : List Head) → AreLists k heads → IsApart (gathered heads)
  gathered_apart k [] lists = tt
  gathered_apart k (h ∷ hs) lists = leads_apart (owner_of k) h.first (cells_of cells h) (gathered hs) lists.0.leads
      (gathered_apart (suc k) hs lists.1)
      (λ i owned. away (suc k) hs lists.1 i
      (λ j le same. let e = ap owner_number (sym owned ∙ same) in omega arith))

  gathered_below : (k : ℕ) (heads : List Head) → AreLists k heads → IsBelow (length cells) (gathered heads)
  gathered_below k [] lists = tt
  gathered_below k (h ∷ hs) lists = IsBelow-append (length cells) (cells_of cells h) (gathered hs)
      (leads_below (owner_of k) h.first (cells_of cells h) lists.0.leads) (gathered_below (suc k) hs lists.1)

  gathered_count : (k : ℕ) (heads : List Head) → AreLists k heads →
      length (gathered heads) ≡ sum_by (λ h. h.count) heads
  gathered_count k [] lists = refl
  gathered_count k (h ∷ hs) lists = omega (
    arith,
    length-append (cells_of cells h) (gathered hs),
    lists.0.counted,
    sum_by-cons (λ (x : Head). x.count) h hs,
    gathered_count (suc k) hs lists.1,
  )

module _ {heads : List Head} {cells : List Cell} {spare : Option CellId} {free all : ℕ} {pool : Lists}
    (shows : Shows heads cells spare free all pool) {c : ℕ} (inside : c < length pool.chains) where
  lists : AreLists cells 0 heads
  lists = lists_from cells 0 heads (λ k lt.
      let same : k ≡ 0 + k = omega arith in
      subst (λ n. IsList cells (owner_of n) (head_at heads k).first (head_at heads k).count) same
      (shows.sound.chain_lists k lt))

  -- the list of the chain contains each cell of that owner
  not_avoided : (i : CellId) → i.0 < length cells → (cell_at cells i.0).owner ≡ owner_of c →
      Avoids i.0 (cells_of cells (head_at heads c)) → ⊥
  not_avoided i lt owned avoids =
      let spares = walk cells shows.sound.listed spare in
      let free_leads = shows.sound.free_list.leads in
      let others = gathered cells heads in
      let same : 0 + c ≡ c = omega arith in
      let not_free : (cell_at cells i.0).owner ≢ None = λ e. let own = owned in cc in
      let away_here : Avoids i.0 others = away_but cells 0 heads lists i.0 c
      (owned ∙ ap owner_of (sym same)) (within shows inside) avoids in
      let away_free : Avoids i.0 spares = avoids_other cells None i.0 spare spares not_free free_leads in
      let apart : IsApart (spares ++ others) = leads_apart cells None spare spares others free_leads
      (gathered_apart cells 0 heads lists)
      (λ j none. away cells 0 heads lists j (λ k le e. let f = none in cc)) in
      let all : IsApart (held_at cells i ∷ spares ++ others) =
      (Avoids-append i.0 spares others away_free away_here, apart) in
      let indices : IsBelow (length cells) (held_at cells i ∷ spares ++ others) = (
        lt,
        IsBelow-append (length cells) spares others (leads_below cells None spare spares free_leads)
            (gathered_below cells 0 heads lists),
      ) in
      omega (
        arith,
        at_most (length cells) (held_at cells i ∷ spares ++ others) all indices,
        length-append spares others,
        shows.sound.free_list.counted,
        gathered_count cells 0 heads lists,
        shows.sound.total,
        shows.sound.made,
      )

  -- a cell of this owner is in the chain
  pub owned_stands : (i : CellId) (block : ℕ) → i.0 < length cells → (cell_at cells i.0).owner ≡ owner_of c →
      (cell_at cells i.0).block ≤ block → StandsUpTo pool c block i
  owned_stands i block lt owned up_to = elim (look i.0 (cells_of cells (head_at heads c))) [
    | inl avoids ↦ absurd (not_avoided i lt owned avoids)
    | inr has ↦
        let named : has.cell.id ≡ i = ap (λ (n : ℕ). let k : CellId = record { 0 = n } in k) has.named in
        let stands : Stands pool c i has.before has.cell has.after = record {
          inside = inside;
          splits = sym (chain_is shows inside) ∙ has.splits;
          named = named;
        } in
        record {
          before = has.before;
          cell = has.cell;
          after = has.after;
          stands = stands;
          up_to = omega (arith, ap (λ (x : Held). x.block) (stands_is shows stands), up_to);
        }
  ]

  -- the same of a cell that was read
  pub read_stands : {i : CellId} {block : ℕ} {x : Cell} {owner : ChainId} {read : List Cell} → read ≡ cells →
      i.0 < length read → x ≡ get_or read i.0 blank_cell → x.owner ≡ Some owner → owner.0 ≡ c → x.block ≤ block →
      StandsUpTo pool c block i
  read_stands {i = i} {block = block} same lt is owned number up_to =
      let here = is ∙ ap (λ (l : List Cell). get_or l i.0 blank_cell) same in
      owned_stands i block (omega (arith, ap length same))
      (ap (λ (k : Cell). k.owner) (sym here) ∙ (owned ∙ ap owner_of number))
      (omega (arith, ap (λ (k : Cell). k.block) here))

-- What holds for every pool.

-- the counts of the heads are the lengths of the chains
counts_are : (cells : List Cell) (heads : List Head) →
    ((c : ℕ) → c < length heads → length (cells_of cells (head_at heads c)) ≡ (head_at heads c).count) →
    sum_by length (map (cells_of cells) heads) ≡ sum_by (λ h. h.count) heads
counts_are cells [] each = refl
counts_are cells (h ∷ hs) each =
    let first : length (cells_of cells h) ≡ h.count = each 0 (omega arith) in
    let rest = counts_are cells hs (λ c lt. each (suc c) (omega arith)) in
    omega (
      arith,
      sum_by-cons length (cells_of cells h) (map (cells_of cells) hs),
      sum_by-cons (λ (k : Head). k.count)
          h hs,
    )

same_front : (xs ys zs ws : List Held) → length xs ≡ length ys → xs ++ zs ≡ ys ++ ws → xs ≡ ys
same_front [] [] zs ws len e = refl
same_front [] (y ∷ ys) zs ws len e = absurd (omega arith)
same_front (x ∷ xs) [] zs ws len e = absurd (omega arith)
same_front (x ∷ xs) (y ∷ ys) zs ws len e =
    let tails : xs ++ zs ≡ ys ++ ws = cc in
    let rest = same_front xs ys zs ws (omega arith) tails in
    cc

module _ {heads : List Head} {cells : List Cell} {spare : Option CellId} {free all : ℕ} {pool : Lists}
    (shows : Shows heads cells spare free all pool) where
  pub total_is : pool.free + sum_by length pool.chains ≡ pool.cells
  total_is =
      let sum = counts_are cells heads (λ c lt. (shows.sound.chain_lists c lt).counted) in
      let here : free + sum_by length (map (cells_of cells) heads) ≡ all = omega
      (arith, shows.sound.total) in
      subst (λ (p : Lists). p.free + sum_by length p.chains ≡ p.cells) shows.is here

  pub stands_once : (name : CellId) → StandsOnce pool name
  stands_once name c d before other_before x y after other_after stands other =
      let at = stands_at shows stands in
      let at2 = stands_at shows other in
      let same : c ≡ d = ap owner_number (sym at.owned ∙ at2.owned) in
      let leads : Leads cells (owner_of c) (next_at cells name) other_after = subst
      (λ k. Leads cells (owner_of k) (next_at cells name) other_after) (sym same) at2.leads in
      let tails = ap length (Leads_unique cells (owner_of c) _ after other_after at.leads leads) in
      let lists : before ++ x ∷ after ≡ other_before ++ y ∷ other_after = sym stands.splits
      ∙ (ap (chain_at pool) same ∙ other.splits) in
      let long = ap length lists in
      let len : length before ≡ length other_before = omega
      (arith, length-append before (x ∷ after), length-append other_before (y ∷ other_after)) in
      record { chain_is = same; before_is = same_front before other_before (x ∷ after) (y ∷ other_after) len lists }

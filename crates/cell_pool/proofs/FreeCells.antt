-- Free cells: the free list, a pool after a free cell was taken into a chain, and after a cell of a
-- chain was freed.
use Rattle.std.proofs.Common.{◌≡◌, ℕ, zero, suc, ◌+◌, ◌-◌, ◌<◌, ◌≤◌, List, ◌∷◌, length, Option, Some, None, refl, sym, subst, arith, ◌≢◌, ◌++◌, get_or, set, IfSome, ap, ◌∙◌, length-append, []}
use Rattle.std.proofs.lemmas.List.{get_or-set_same, get_or_default}
use Rattle.cell_pool.specs.declared.cells.Cell.{Cell}
use Rattle.cell_pool.specs.declared.cells.Head.{Head}
use Rattle.cell_pool.specs.declared.cells.CellId.{CellId}
use Rattle.cell_pool.specs.ChainLists.{Lists, Held, IsRising, chain_at, with_chain, empty_cell, IsPlace, BeginsAbove, TakesAfter, HasPlaceFor, HasCellAfter}
use Rattle.cell_pool.specs.CellLinks.{cell_at, next_at, held_at, walk, blank_cell}
use Rattle.cell_pool.specs.working.SoundLinks.{owner_of, Leads, IsList, fresh_cell, head_at, with_next}
use Rattle.cell_pool.proofs.Chains.{FoundAt, Avoids, avoids_other, avoids_itself, Changes, Leads-kept, walked, Shows, no_last, insert_at, IsRising-more, chain_leads, chain_count, chain_rises, head_read, place_leads, place_last, is_other, found, remove_at, IsRising-less}
use Rattle.cell_pool.proofs.Pools.{IsUpdate, only_own, only_free, one_change, two_changes, linked_at, written_at}

-- The free list after a cell was taken from it or put in front of it.

-- the first free cell, and the free cells after it
pub record FreeFirst (cells : List Cell) (free : ℕ) (taken : CellId) : Type 0 where
  pub rest : List Held
  pub at : FoundAt cells None taken rest
  pub number : free ≡ suc (length rest)

free_first : (cells : List Cell) (free : ℕ) (taken : CellId) → IsList cells None (Some taken) free →
    FreeFirst cells free taken
free_first cells zero taken list = absurd (let e : Some taken ≡ None = list.leads in cc)
free_first cells (suc n) taken list = record {
  rest = walk cells n (next_at cells taken);
  at = record { inside = list.leads.0.inside; owned = list.leads.0.owned; leads = list.leads.1 };
  number = sym list.counted;
}

module _ {heads : List Head} {cells : List Cell} {spare : Option CellId} {free all : ℕ} {pool : Lists}
    (shows : Shows heads cells spare free all pool) where
  pub spare_first : {taken : CellId} → spare ≡ Some taken → FreeFirst cells shows.sound.listed taken
  spare_first {taken = taken} first = free_first cells shows.sound.listed taken
      (subst (λ s. IsList cells None s shows.sound.listed) first shows.sound.free_list)

  -- a cell is free
  pub free_some : {taken : CellId} → spare ≡ Some taken → 1 ≤ free
  free_some first = omega (arith, (spare_first first).number, shows.sound.made, shows.sound.fits)

  -- the free list without its first cell
  pub free_less : {new : List Cell} {a taken : CellId} → Changes cells new a.0 taken.0 →
      (first : spare ≡ Some taken) → Avoids a.0 (spare_first first).rest →
      IsList new None (next_at cells taken) (shows.sound.listed - 1)
  free_less {new = new} {a = a} {taken = taken} changes first avoids =
      let head = spare_first first in
      let kept = Leads-kept cells new a taken changes None _ head.rest avoids
      (avoids_itself cells None taken head.rest head.at) head.at.leads in
      (walked new None _ (shows.sound.listed - 1) head.rest kept (omega (arith, head.number))).list

  -- the free list with a cell in front
  pub free_more : {new : List Cell} {a given : CellId} {c : ℕ} → Changes cells new a.0 given.0 →
      (cell_at cells a.0).owner ≡ owner_of c → (cell_at cells given.0).owner ≡ owner_of c → given.0 < length cells →
      (cell_at new given.0).next ≡ spare → (cell_at new given.0).owner ≡ None →
      IsList new None (Some given) (shows.sound.listed + 1)
  free_more {new = new} {a = a} {given = given} changes own own2 inside to_spare freed =
      let list = shows.sound.free_list in
      let avoids_a = avoids_other cells None a.0 _ _ (λ same. cc) list.leads in
      let avoids_given = avoids_other cells None given.0 _ _ (λ same. cc) list.leads in
      let kept = Leads-kept cells new a given changes None _ _ avoids_a avoids_given list.leads in
      let leads : Leads new None (Some given) (held_at new given ∷ walk cells shows.sound.listed spare) = (
        record { named = refl; inside = omega (arith, inside, changes.len); owned = freed; is = refl },
        rw (next_at, to_spare) kept,
      ) in
      (walked new None (Some given) (shows.sound.listed + 1) (held_at new given ∷ walk cells shows.sound.listed spare) leads
      (omega (arith, list.counted))).list

-- A pool after a free cell was taken into a chain.

module _ {heads : List Head} {cells : List Cell} {spare : Option CellId} {free all : ℕ} {pool : Lists}
    (shows : Shows heads cells spare free all pool) {c : ℕ} (inside : c < length pool.chains) where
  -- a free cell is put at the front
  pub take_front : {taken : CellId} {block : ℕ} {x y : Cell} {h : Head} → spare ≡ Some taken →
      x ≡ get_or cells taken.0 x → h ≡ get_or heads c h →
      y ≡ fresh_cell h.first (record { 0 = c }) block →
      IsUpdate heads cells free all c (record { first = Some taken; count = h.count + 1 }) (set cells taken.0 y) x.next
      (free - 1) (empty_cell taken block ∷ chain_at pool c) taken taken
  take_front {taken = taken} {block = block} first x_read h_read y_is =
      let head = spare_first shows first in
      let z = fresh_cell (head_at heads c).first (record { 0 = c }) block in
      let new = set cells taken.0 z in
      let here : cell_at new taken.0 ≡ z = get_or-set_same cells taken.0 z blank_cell head.at.inside in
      let changes = one_change cells taken z in
      let chain = chain_leads shows inside in
      let avoids = avoids_other cells (owner_of c) taken.0 _ _ (λ same. let owned = head.at.owned in cc) chain in
      let kept = Leads-kept cells new taken taken changes (owner_of c) _ _ avoids avoids chain in
      let head_then : Head = record { first = Some taken; count = (head_at heads c).count + 1 } in
      let l = empty_cell taken block ∷ chain_at pool c in
      let update : IsUpdate heads cells free all c head_then new (next_at cells taken) (free - 1) l taken taken = record {
        listed = shows.sound.listed - 1;
        changes = changes;
        leads = (
          record {
            named = refl;
            inside = omega (arith, head.at.inside, changes.len);
            owned = rw here refl;
            is = rw here refl;
          },
          rw (here, next_at) kept,
        );
        counted = omega (arith, chain_count shows inside);
        first_place = only_free c _ head.at.owned;
        second_place = only_free c _ head.at.owned;
        free_list = free_less shows changes first (avoids_itself cells None taken head.rest head.at);
        made = omega (arith, head.number, free_some shows first, shows.sound.made);
        total = omega (arith, free_some shows first);
      } in
      rw (y_is, x_read ∙ get_or_default cells taken.0 _ blank_cell head.at.inside, head_read shows inside h_read)
      update

  -- a free cell is put after a cell
  pub take_behind : {taken a : CellId} {block : ℕ} {x y z : Cell} {mid : List Cell} {h : Head}
      {before rest : List Held} → spare ≡ Some taken → x ≡ get_or cells taken.0 x → y ≡ get_or cells a.0 y →
      mid ≡ with_next cells a.0 (Some taken) → z ≡ fresh_cell y.next (record { 0 = c }) block → h ≡ get_or heads c h → IsPlace (chain_at pool c) (Some a) before rest →
      IsUpdate heads cells free all c (record { first = h.first; count = h.count + 1 }) (set mid taken.0 z) x.next
      (free - 1) (before ++ empty_cell taken block ∷ rest) a taken
  take_behind {taken = taken} {a = a} {block = block} {before = before}
      {rest = rest} first x_read y_read mid_is z_is h_read place =
      let head = spare_first shows first in
      let last = place_last shows inside place in
      let w = fresh_cell (next_at cells a) (record { 0 = c }) block in
      let other : (cell_at cells taken.0).owner ≢ owner_of c = λ same. let owned = head.at.owned in cc in
      let apart : a.0 ≢ taken.0 = λ same. other (subst (λ k. (cell_at cells k).owner ≡ owner_of c) same last.owned) in
      let changes = two_changes cells a taken (Some taken) w in
      let linked = linked_at cells a taken (Some taken) w apart last.inside in
      let here = written_at cells a taken (Some taken) w head.at.inside in
      let new = set (with_next cells a.0 (Some taken)) taken.0 w in
      let cell_is : held_at new taken ≡ empty_cell taken block = rw here refl in
      let fresh = ap (λ (k : Cell). k.next) here in
      let owned = ap (λ (k : Cell). k.owner) here in
      let chain = place_leads shows inside place in
      let leads = insert_at cells new a taken changes (owner_of c) other linked fresh owned head.at.inside _ before rest
      chain place.ends in
      let head_then : Head = record { first = (head_at heads c).first; count = (head_at heads c).count + 1 } in
      let l = before ++ empty_cell taken block ∷ rest in
      let update : IsUpdate heads cells free all c head_then new (next_at cells taken) (free - 1) l a taken = record {
        listed = shows.sound.listed - 1;
        changes = changes;
        leads = rw (← cell_is) leads;
        counted = omega (
          arith,
          chain_count shows inside,
          ap length place.splits,
          length-append before rest,
          length-append before (empty_cell taken block ∷ rest),
        );
        first_place = only_own c _ last.owned;
        second_place = only_free c _ head.at.owned;
        free_list = free_less shows changes first (avoids_other cells None a.0 _ _
            (λ same. let own = last.owned in cc) head.at.leads);
        made = omega (arith, head.number, free_some shows first, shows.sound.made);
        total = omega (arith, free_some shows first);
      } in
      rw (
        z_is,
        mid_is,
        x_read ∙ get_or_default cells taken.0 _ blank_cell head.at.inside,
        y_read ∙ get_or_default cells a.0 _ blank_cell last.inside,
        head_read shows inside h_read,
      ) update

  -- a chain with a cell more still rises
  pub take_rises : {after : Option CellId} (cell : Held) → (has : HasPlaceFor (chain_at pool c) after cell.block) →
      IsRising (has.before ++ cell ∷ has.rest)
  take_rises cell has = IsRising-more has.before has.rest cell
      (subst IsRising has.place.splits (chain_rises shows inside)) has.above has.below

-- at the front no cell is before the new one
pub front_order : (l : List Held) (after : Option CellId) (block : ℕ) → after ≡ None → HasPlaceFor l after block →
    BeginsAbove block l
front_order l after block front has =
    let same : l ≡ has.rest = has.place.splits ∙ ap (λ xs. xs ++ has.rest)
    (no_last has.before (has.place.ends ∙ front)) in
    rw same has.below

pub takes_at_front : (r : Option CellId) (old new : Lists) (c : ℕ) (after : Option CellId) (block : ℕ) →
    after ≡ None → IfSome r (λ cell. new ≡ with_chain old c (empty_cell cell block ∷ chain_at old c) (old.free - 1)) →
    IfSome r (λ cell. TakesAfter old new c after (empty_cell cell block))
takes_at_front None old new c after block front taken = tt
takes_at_front (Some cell) old new c after block front taken = λ before rest place.
    let empty = no_last before (place.ends ∙ front) in
    let same : chain_at old c ≡ rest = place.splits ∙ ap (λ xs. xs ++ rest) empty in
    taken ∙ (ap (λ xs. with_chain old c (empty_cell cell block ∷ xs) (old.free - 1)) same
    ∙ ap (λ xs. with_chain old c (xs ++ empty_cell cell block ∷ rest) (old.free - 1)) (sym empty))

-- A pool after a cell of a chain was freed.

module _ {heads : List Head} {cells : List Cell} {spare : Option CellId} {free all : ℕ} {pool : Lists}
    (shows : Shows heads cells spare free all pool) {c : ℕ} (inside : c < length pool.chains) where
  -- the first cell of a chain
  front_cell : {before : List Held} {z : Held} {rest : List Held} → IsPlace (chain_at pool c) None before (z ∷ rest) →
      (before ≡ []) × ((head_at heads c).first ≡ Some z.id) × FoundAt cells (owner_of c) z.id rest
  front_cell {before = before} {z = z} {rest = rest} place =
      let empty = no_last before place.ends in
      let chain = place_leads shows inside place in
      let first = (head_at heads c).first in
      let leads = subst (λ (l : List Held). Leads cells (owner_of c) first (l ++ z ∷ rest)) empty chain in
      (empty, leads.0.named, (found cells (owner_of c) _ z.id [] z rest leads refl).0)

  -- the cell after a cell
  next_cell : {a : CellId} {before : List Held} {z : Held} {rest : List Held} →
      IsPlace (chain_at pool c) (Some a) before (z ∷ rest) →
      (next_at cells a ≡ Some z.id) × FoundAt cells (owner_of c) z.id rest
  next_cell {z = z} {rest = rest} place =
      let leads = (place_last shows inside place).leads in
      (leads.0.named, (found cells (owner_of c) _ z.id [] z rest leads refl).0)

  -- the first cell of a chain is freed
  pub give_front : {given : CellId} {x : Cell} (y : Cell) {h : Head} {before : List Held} {z : Held}
      {rest : List Held} → h ≡ get_or heads c h → h.first ≡ Some given → x ≡ get_or cells given.0 x → y.next ≡ spare →
      y.owner ≡ None → IsPlace (chain_at pool c) None before (z ∷ rest) →
      IsUpdate heads cells free all c (record { first = x.next; count = h.count - 1 }) (set cells given.0 y) (Some given)
      (free + 1) (before ++ rest) given given
  give_front {given = given} y {before = before} {z = z} {rest = rest} h_read first x_read to_spare freed place =
      let (empty, z_first, z_at) = front_cell place in
      let head_first = ap (λ (k : Head). k.first) (sym (head_read shows inside h_read)) in
      let named : z.id ≡ given = (let e : Some z.id ≡ Some given = sym z_first ∙ (head_first ∙ first) in cc) in
      let at = subst (λ (k : CellId). FoundAt cells (owner_of c) k rest) named z_at in
      let new = set cells given.0 y in
      let here : cell_at new given.0 ≡ y = get_or-set_same cells given.0 y blank_cell at.inside in
      let changes = one_change cells given y in
      let avoids = avoids_itself cells (owner_of c) given rest at in
      let kept = Leads-kept cells new given given changes (owner_of c) _ rest avoids avoids at.leads in
      let head_then : Head = record { first = next_at cells given; count = (head_at heads c).count - 1 } in
      let update : IsUpdate heads cells free all c head_then new (Some given) (free + 1) (before ++ rest) given given = record {
        listed = shows.sound.listed + 1;
        changes = changes;
        leads = rw empty kept;
        counted = rw empty (omega (
          arith,
          chain_count shows inside,
          ap length place.splits,
          ap length empty,
          length-append before (z ∷ rest),
        ));
        first_place = only_own c _ at.owned;
        second_place = only_own c _ at.owned;
        free_list = free_more shows changes at.owned at.owned at.inside (ap (λ (k : Cell). k.next) here ∙ to_spare)
            (ap (λ (k : Cell). k.owner) here ∙ freed);
        made = omega (arith, shows.sound.made);
        total = omega (arith, chain_count shows inside, ap length place.splits, length-append before (z ∷ rest));
      } in
      rw (x_read ∙ get_or_default cells given.0 _ blank_cell at.inside, head_read shows inside h_read) update

  -- the cell after a cell is freed
  pub give_behind : {given a : CellId} {x y : Cell} (w : Cell) {mid : List Cell} {h : Head} {before : List Held}
      {z : Held} {rest : List Held} → y ≡ get_or cells a.0 y → y.next ≡ Some given → x ≡ get_or cells given.0 x →
      mid ≡ with_next cells a.0 x.next → w.next ≡ spare → w.owner ≡ None → h ≡ get_or heads c h →
      IsPlace (chain_at pool c) (Some a) before (z ∷ rest) →
      IsUpdate heads cells free all c (record { first = h.first; count = h.count - 1 }) (set mid given.0 w) (Some given)
      (free + 1) (before ++ rest) a given
  give_behind {given = given} {a = a} w {before = before} {z = z}
      {rest = rest} y_read next x_read mid_is to_spare freed h_read place =
      let last = place_last shows inside place in
      let (z_next, z_at) = next_cell place in
      let y_is = y_read ∙ get_or_default cells a.0 _ blank_cell last.inside in
      let link = ap (λ (k : Cell). k.next) (sym y_is) in
      let named : z.id ≡ given = (let e : Some z.id ≡ Some given = sym z_next ∙ (link ∙ next) in cc) in
      let at = subst (λ (k : CellId). FoundAt cells (owner_of c) k rest) named z_at in
      let apart : a.0 ≢ given.0 = is_other cells (owner_of c) given a rest (z ∷ rest) at last (omega arith) in
      let changes = two_changes cells a given (next_at cells given) w in
      let linked = linked_at cells a given (next_at cells given) w apart last.inside in
      let here = written_at cells a given (next_at cells given) w at.inside in
      let new = set (with_next cells a.0 (next_at cells given)) given.0 w in
      let head_then : Head = record { first = (head_at heads c).first; count = (head_at heads c).count - 1 } in
      let update : IsUpdate heads cells free all c head_then new (Some given) (free + 1) (before ++ rest) a given = record {
        listed = shows.sound.listed + 1;
        changes = changes;
        leads = remove_at cells new a given changes (owner_of c) linked _ before z rest
            (place_leads shows inside place) place.ends named;
        counted = omega (
          arith,
          chain_count shows inside,
          ap length place.splits,
          length-append before (z ∷ rest),
          length-append before rest,
        );
        first_place = only_own c _ last.owned;
        second_place = only_own c _ at.owned;
        free_list = free_more shows changes last.owned at.owned at.inside (ap (λ (k : Cell). k.next) here ∙ to_spare)
            (ap (λ (k : Cell). k.owner) here ∙ freed);
        made = omega (arith, shows.sound.made);
        total = omega (arith, chain_count shows inside, ap length place.splits, length-append before (z ∷ rest));
      } in
      rw (mid_is, x_read ∙ get_or_default cells given.0 _ blank_cell at.inside, head_read shows inside h_read) update

  -- if there is a first cell, the head has its identifier
  pub front_given : {h : Head} → h ≡ get_or heads c h → HasCellAfter (chain_at pool c) None → h.first ≢ None
  front_given h_read has none =
      let (empty, z_first, z_at) = front_cell has.place in
      let head_first = ap (λ (k : Head). k.first) (sym (head_read shows inside h_read)) in
      let e : Some has.cell.id ≡ None = sym z_first ∙ (head_first ∙ none) in
      cc

  pub front_inside : {h : Head} {given : CellId} → h ≡ get_or heads c h → h.first ≡ Some given →
      HasCellAfter (chain_at pool c) None → given.0 < length cells
  front_inside {given = given} h_read first has =
      let (empty, z_first, z_at) = front_cell has.place in
      let head_first = ap (λ (k : Head). k.first) (sym (head_read shows inside h_read)) in
      let e : Some has.cell.id ≡ Some given = sym z_first ∙ (head_first ∙ first) in
      let named : has.cell.id ≡ given = cc in
      subst (λ (k : CellId). k.0 < length cells) named z_at.inside

  pub behind_inside : {a : CellId} → HasCellAfter (chain_at pool c) (Some a) → a.0 < length cells
  behind_inside has = (place_last shows inside has.place).inside

  -- if there is a cell after this one, its link has the identifier
  pub behind_given : {a : CellId} {y : Cell} → y ≡ get_or cells a.0 y → HasCellAfter (chain_at pool c) (Some a) →
      y.next ≢ None
  behind_given {a = a} y_read has none =
      let (z_next, z_at) = next_cell has.place in
      let link = ap (λ (k : Cell). k.next) (sym (y_read ∙ get_or_default cells a.0 _ blank_cell (behind_inside has))) in
      let e : Some has.cell.id ≡ None = sym z_next ∙ (link ∙ none) in
      cc

  pub given_inside : {a given : CellId} {y : Cell} → y ≡ get_or cells a.0 y → y.next ≡ Some given →
      HasCellAfter (chain_at pool c) (Some a) → given.0 < length cells
  given_inside {a = a} {given = given} y_read next has =
      let (z_next, z_at) = next_cell has.place in
      let link = ap (λ (k : Cell). k.next) (sym (y_read ∙ get_or_default cells a.0 _ blank_cell (behind_inside has))) in
      let e : Some has.cell.id ≡ Some given = sym z_next ∙ (link ∙ next) in
      let named : has.cell.id ≡ given = cc in
      subst (λ (k : CellId). k.0 < length cells) named z_at.inside

  -- a chain with a cell has a count of at least 1
  pub has_count : {after : Option CellId} {h : Head} → h ≡ get_or heads c h → HasCellAfter (chain_at pool c) after →
      1 ≤ h.count
  has_count h_read has =
      let split = length-append has.before (has.cell ∷ has.rest) in
      rw (head_read shows inside h_read) (omega (arith, chain_count shows inside, ap length has.place.splits))

  -- a chain without one of its cells still rises
  pub give_rises : {after : Option CellId} → (has : HasCellAfter (chain_at pool c) after) →
      IsRising (has.before ++ has.rest)
  give_rises has = IsRising-less has.before has.cell has.rest
      (subst IsRising has.place.splits (chain_rises shows inside))

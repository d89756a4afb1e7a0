-- The octets of segments: the one at an offset, and a chain to which those of one block were added.
use Rattle.std.proofs.Common.{◌≡◌, ◌≢◌, ℕ, zero, suc, ◌+◌, ◌-◌, ◌<◌, ◌≤◌, inl, inr, nat_lt, if◌then◌else◌, List, [], ◌∷◌, ◌++◌, length, map, get_or, take, drop, slice_get, Option, Some, None, IsSome, refl, sym, ap, ap₂, ◌∙◌, arith, lt-ltb, le-ltb, get_or-set_same, get_or-set_other, ◌*◌, ◌/◌, ◌%◌, true, cond, ◌||◌, ◌==◌, is_some, subst, length-append, length-set, eq-eqb, ne_eqb}
use Rattle.std.specs.Option.{option_or}
use Rattle.std.proofs.Math.Seq.{take-add}
use Rattle.std.proofs.lemmas.Bool.{cases_lt, cases_eq, or_right}
use Rattle.std.proofs.lemmas.Bool.Decides.{nat_tests}
use Rattle.std.proofs.lemmas.List.{length-map, get_or-map, same_lists, take_more, length-take-le, get_or_default, set-set, length-replicate}
use Rattle.std.proofs.lemmas.List.FromFn.{get_or-map-range_with_len, length-map-range_with_len}
use Rattle.std.proofs.lemmas.Option.{slice_get_past}
use borrow.Rule.Slice.PartMut.{put_mid}
use Rattle.std.specs.List.{list_any}
use Rattle.std.proofs.Math.Bool.{or-false}
use Rattle.std.proofs.lemmas.List.Folds.{list_any_at}
use Rattle.cell_pool.specs.ChainLists.{with_run, IsBlank, IsCovered, Lists, Held, HasPlaceFor, IsRising, TakesAfter, Writes, chain_at, empty_cell, with_chain}
use Rattle.cell_pool.proofs.Runs.{run_is, length-put, put_before, put_inside, put_behind}
use Rattle.cell_pool.specs.declared.cells.CellId.{CellId}
use Rattle.cell_pool.proofs.Chains.{IsRising-octets}
use Rattle.retain_store.specs.Maps.{Block, Places, octet_at, octet_in, IsFull, block_at, holds}
use Rattle.retain_store.specs.working.PoolChanges.{with_octet, with_octets, IsChanged, PlacesPiece}
use Rattle.retain_store.specs.working.BlockCells.{blocks_in, AllFull, IsCellOf, IsKept}
use Rattle.retain_store.proofs.Cells.{stands}
use Rattle.retain_store.proofs.Blocks.{found_in, full_more, other_in, Opens, chain_is, changed_by, no_octet, opened_cell, opens_found, opens_taken}

-- The octets that segments have at an offset.

pub or_assoc : (a b c : Option ℕ) → option_or (option_or a b) c ≡ option_or a (option_or b c)
or_assoc None b c = refl
or_assoc (Some x) b c = refl

pub or_none : (a : Option ℕ) → option_or a None ≡ a
or_none None = refl
or_none (Some x) = refl

-- a segment has no octet outside of its offsets
pub octet_before : (from : ℕ) (octets : List ℕ) (i : ℕ) → i < from → octet_in from octets i ≡ None
octet_before from octets i lt = rw (lt-ltb i from lt) refl

pub octet_past : (from : ℕ) (octets : List ℕ) (i : ℕ) → from + length octets ≤ i → octet_in from octets i ≡ None
octet_past from octets i le = rw (le-ltb i from (omega arith)) (slice_get_past octets (i - from) (omega arith))

-- after the octets that were added, nothing has changed
pub placed_behind : (old new : List Block) (from : ℕ) (octets : List ℕ) → Places old new from octets → (offset : ℕ) → from + length octets ≤ offset →
    octet_at new offset ≡ octet_at old offset
placed_behind old new from octets places offset le =
    places offset ∙ (ap (option_or (octet_at old offset)) (octet_past from octets offset le) ∙ or_none (octet_at old offset))

-- a segment of one octet has it at its first offset only
octet_here : (from y : ℕ) → octet_in from (y ∷ []) from ≡ Some y
octet_here from y =
    let zero_is : from - from ≡ 0 = omega arith in
    rw (le-ltb from from (omega arith), zero_is) refl

octet_elsewhere : (from y i : ℕ) → i ≢ from → octet_in from (y ∷ []) i ≡ None
octet_elsewhere from y i other = elim (cases_lt i from) [
  | inl lt ↦ octet_before from (y ∷ []) i lt
  | inr le ↦ octet_past from (y ∷ []) i (omega arith)
]

got_append : (xs ys : List ℕ) (j : ℕ) →
    slice_get (xs ++ ys) j ≡ option_or (slice_get xs j) (if nat_lt j (length xs) then None else slice_get ys (j - length xs))
got_append [] ys j =
    let same : j - 0 ≡ j = omega arith in
    rw (le-ltb j 0 (omega arith), same) refl
got_append (x ∷ xs) ys zero = refl
got_append (x ∷ xs) ys (suc j) =
    let less : suc j - suc (length xs) ≡ j - length xs = omega arith in
    let test : nat_lt (suc j) (suc (length xs)) ≡ nat_lt j (length xs) = grind (arith, nat_tests) in
    got_append xs ys j ∙ ap (option_or (slice_get xs j)) (rw (test, less) refl)

-- a segment after another
pub octet_append : (from : ℕ) (xs ys : List ℕ) (i : ℕ) →
    octet_in from (xs ++ ys) i ≡ option_or (octet_in from xs i) (octet_in (from + length xs) ys i)
octet_append from xs ys i = elim (cases_lt i from) [
  | inl lt ↦ octet_before from (xs ++ ys) i lt ∙ sym (ap₂ option_or (octet_before from xs i lt)
      (octet_before (from + length xs) ys i (omega arith)))
  | inr le ↦
      let less : i - from - length xs ≡ i - (from + length xs) = omega arith in
      let test : nat_lt (i - from) (length xs) ≡ nat_lt i (from + length xs) = grind (arith, nat_tests) in
      rw (le-ltb i from le) (got_append xs ys (i - from) ∙ ap (option_or (slice_get xs (i - from))) (rw (test, less) refl))
]

-- a segment without octets
pub octet_none : (from i : ℕ) → octet_in from [] i ≡ None
octet_none from i = elim (cases_lt i from) [
  | inl lt ↦ octet_before from [] i lt
  | inr le ↦ octet_past from [] i (omega arith)
]

-- the octet at an offset, after others were added
pub got_with : (octets : List (Option ℕ)) (at : ℕ) (piece : List ℕ) (i : ℕ) (d : Option ℕ) → i < length octets →
    get_or (with_octets octets at piece) i d ≡ option_or (get_or octets i None) (octet_in at piece i)
got_with octets at piece i d lt = get_or-map-range_with_len
    (λ k. option_or (get_or octets k None) (octet_in at piece k)) 0 (length octets) i i d lt (omega arith)

pub length_with : (octets : List (Option ℕ)) (at : ℕ) (piece : List ℕ) →
    length (with_octets octets at piece) ≡ length octets
length_with octets at piece = length-map-range_with_len
    (λ k. option_or (get_or octets k None) (octet_in at piece k)) 0 (length octets)

-- nothing is added
pub with_octets_none : (octets : List (Option ℕ)) (at : ℕ) → with_octets octets at [] ≡ octets
with_octets_none octets at = same_lists (with_octets octets at []) octets (length_with octets at [])
    (λ k d h.
    let lt : k < length octets = omega (arith, length_with octets at []) in
    got_with octets at [] k d lt ∙ (ap (option_or (get_or octets k None)) (octet_none at k)
    ∙ (or_none (get_or octets k None) ∙ get_or_default octets k None d lt)))

-- one octet more is added
pub with_octets_more : (octets : List (Option ℕ)) (at : ℕ) (piece : List ℕ) (k : ℕ) → k < length piece →
    with_octet (with_octets octets at (take k piece)) (at + k) (get_or piece k 0) ≡ with_octets octets at (take (k + 1) piece)
with_octets_more octets at piece k lt =
    let y = get_or piece k 0 in
    let part = take k piece in
    let filled = with_octets octets at part in
    let long : length part ≡ k = length-take-le k piece (omega arith) in
    let more : (i : ℕ) → octet_in at (take (k + 1) piece) i ≡ option_or (octet_in at part i) (octet_in (at + k) (y ∷ []) i) =
    λ i. ap (λ l. octet_in at l i) (take_more piece k 0 lt) ∙ (octet_append at part (y ∷ []) i
    ∙ ap (λ n. option_or (octet_in at part i) (octet_in (at + n) (y ∷ []) i)) long) in
    let new = with_octet filled (at + k) y in
    let new_length : length new ≡ length octets = length-set filled (at + k) _ ∙ length_with octets at part in
    same_lists new (with_octets octets at (take (k + 1) piece)) (new_length ∙ sym (length_with octets at (take (k + 1) piece)))
    (λ i d h.
    let inside : i < length octets = omega (arith, new_length) in
    let there = got_with octets at (take (k + 1) piece) i d inside in
    let goal_is = there ∙ (ap (option_or (get_or octets i None)) (more i)
    ∙ sym (or_assoc (get_or octets i None) (octet_in at part i) (octet_in (at + k) (y ∷ []) i))) in
    let front : ℕ → Option ℕ = λ j. option_or (get_or octets j None) (octet_in at part j) in
    elim (cases_eq i (at + k)) [
      | inl e ↦
          let within : at + k < length filled = omega (arith, length_with octets at part) in
          let within_octets : at + k < length octets = omega arith in
          ap (λ j. get_or new j d) e ∙ (get_or-set_same filled (at + k) _ d within
          ∙ (ap (λ o. option_or o (Some y)) (got_with octets at part (at + k) None within_octets)
          ∙ sym (goal_is ∙ (ap (λ j. option_or (front j) (octet_in (at + k) (y ∷ []) j)) e
          ∙ ap (option_or (front (at + k))) (octet_here (at + k) y)))))
      | inr other ↦ get_or-set_other filled (at + k) i _ d other ∙ (got_with octets at part i d inside
          ∙ sym (goal_is ∙ (ap (option_or (front i)) (octet_elsewhere (at + k) y i other) ∙ or_none (front i))))
    ])

-- two adjacent segments placed one after the other are both placed
pub places_then : (old mid new : List Block) (from n : ℕ) (xs ys : List ℕ) → length xs ≡ n → Places old mid from xs →
    Places mid new (from + n) ys → Places old new from (xs ++ ys)
places_then old mid new from n xs ys long first second offset =
    let was = octet_at old offset in
    second offset ∙ (ap (λ o. option_or o (octet_in (from + n) ys offset)) (first offset)
    ∙ (or_assoc was (octet_in from xs offset) (octet_in (from + n) ys offset)
    ∙ ap (option_or was) (ap (λ k. option_or (octet_in from xs offset) (octet_in (from + k) ys offset)) (sym long)
    ∙ sym (octet_append from xs ys offset))))

-- the octets up to one offset, and those from it to another
pub pieces_join : (done end : ℕ) (xs : List ℕ) → done ≤ end → take end xs ≡ take done xs ++ take (end - done) (drop done xs)
pieces_join done end xs le =
    let end_is : end ≡ done + (end - done) = omega arith in
    ap (λ n. take n xs) end_is ∙ take-add done (end - done) xs

-- the octet of a segment at one of its offsets
got_at : (xs : List ℕ) (j : ℕ) → j < length xs → slice_get xs j ≡ Some (get_or xs j 0)
got_at [] j lt = absurd (omega arith)
got_at (x ∷ xs) zero lt = refl
got_at (x ∷ xs) (suc j) lt = got_at xs j (omega arith)

octet_inside : (at : ℕ) (piece : List ℕ) (i : ℕ) → at ≤ i → i < at + length piece → octet_in at piece i ≡ Some (get_or piece (i - at) 0)
octet_inside at piece i le lt = rw (le-ltb i at le) (got_at piece (i - at) (omega arith))

or_some : (a b : Option ℕ) → IsSome a → option_or a b ≡ a
or_some None b some = cc
or_some (Some x) b some = refl

-- where each offset has an octet, placing adds none
pub places_nothing : (blocks : List Block) (from : ℕ) (octets : List ℕ) →
    ((i : ℕ) → i < length octets → IsSome (octet_at blocks (from + i))) → Places blocks blocks from octets
places_nothing blocks from octets covers offset =
    let here = octet_at blocks offset in
    elim (cases_lt offset from) [
      | inl lt ↦ sym (ap (option_or here) (octet_before from octets offset lt) ∙ or_none here)
      | inr le ↦ elim (cases_lt offset (from + length octets)) [
        | inl lt ↦
            let place : from + (offset - from) ≡ offset = omega arith in
            sym (or_some here (octet_in from octets offset) (subst (λ k. IsSome (octet_at blocks k)) place (covers (offset - from) (omega arith))))
        | inr past ↦ sym (ap (option_or here) (octet_past from octets offset past) ∙ or_none here)
      ]
    ]

-- if no offset has an octet, all octets of the run are added
pub with_blank : (octets : List (Option ℕ)) (at : ℕ) (piece : List ℕ) → at + length piece ≤ length octets → IsBlank at (length piece) octets →
    with_run at piece octets ≡ with_octets octets at piece
with_blank octets at piece fits blank =
    let some = map (λ octet. Some octet) piece in
    let some_size : length some ≡ length piece = length-map piece (λ octet. Some octet) in
    let long = length-put at (length piece) octets some some_size fits in
    run_is at piece octets ∙ same_lists (put_mid at (length piece) octets some) (with_octets octets at piece) (long ∙ sym (length_with octets at piece))
    (λ k d h.
    let lt : k < length octets = omega arith in
    elim (cases_lt k at) [
      | inl before ↦ put_before at (length piece) octets some some_size fits d k before ∙ (get_or_default octets k d None lt
          ∙ (sym (or_none (get_or octets k None)) ∙ (ap (option_or (get_or octets k None)) (sym (octet_before at piece k before))
          ∙ sym (got_with octets at piece k d lt))))
      | inr above ↦ elim (cases_lt k (at + length piece)) [
        | inl inside ↦
            let place : at + (k - at) ≡ k = omega arith in
            let none : get_or octets k None ≡ None = ap (λ j. get_or octets j None) (sym place) ∙ blank (k - at) (omega arith) in
            put_inside at (length piece) octets some some_size fits d k above inside
            ∙ (get_or-map (λ octet. Some octet) piece (k - at) 0 d (omega arith)
            ∙ (sym (octet_inside at piece k above inside) ∙ (ap (λ o. option_or o (octet_in at piece k)) (sym none)
            ∙ sym (got_with octets at piece k d lt))))
        | inr behind ↦ put_behind at (length piece) octets some some_size fits d k behind ∙ (get_or_default octets k d None lt
            ∙ (sym (or_none (get_or octets k None)) ∙ (ap (option_or (get_or octets k None)) (sym (octet_past at piece k behind))
            ∙ sym (got_with octets at piece k d lt))))
      ]
    ])

-- if each offset has an octet, none is added
pub with_covered : (octets : List (Option ℕ)) (at : ℕ) (piece : List ℕ) → IsCovered at (length piece) octets → octets ≡ with_octets octets at piece
with_covered octets at piece covered = same_lists octets (with_octets octets at piece) (sym (length_with octets at piece)) (λ k d lt.
    let same : (o : Option ℕ) → option_or (get_or octets k None) o ≡ get_or octets k None → octet_in at piece k ≡ o →
    get_or octets k d ≡ get_or (with_octets octets at piece) k d =
    λ o kept is. get_or_default octets k d None lt ∙ (sym kept ∙ (ap (option_or (get_or octets k None)) (sym is) ∙ sym (got_with octets at piece k d lt))) in
    elim (cases_lt k at) [
      | inl before ↦ same None (or_none (get_or octets k None)) (octet_before at piece k before)
      | inr above ↦ elim (cases_lt k (at + length piece)) [
        | inl inside ↦
            let place : at + (k - at) ≡ k = omega arith in
            let some : IsSome (get_or octets k None) = rw place at (covered (k - at) (omega arith)) in
            same (octet_in at piece k) (or_some (get_or octets k None) (octet_in at piece k) some) refl
        | inr behind ↦ same None (or_none (get_or octets k None)) (octet_past at piece k behind)
      ]
    ])

-- A chain to which octets of one block were added.

-- the chain is still one of the chains
pub inside_then : {old new : Lists} {c : ℕ} → c < length old.chains → IsChanged old new c → c < length new.chains
inside_then {old = old} {new = new} {c = c} inside changed =
    omega (arith, ap (λ (p : Lists). length p.chains) changed.others, length-set old.chains c (chain_at new c))

-- a change after a change
pub changed_then : {old mid new : Lists} {c : ℕ} (cells : List Held) (free : ℕ) → c < length old.chains →
    IsChanged old mid c → new ≡ with_chain mid c cells free →
    free + length cells ≡ mid.free + length (chain_at mid c) → IsChanged old new c
changed_then {old = old} {mid = mid} {c = c} cells free inside changed is total =
    changed_by old c cells free inside
    (is ∙ (ap (λ m. with_chain m c cells free) changed.others
    ∙ ap (λ l. record old { chains = l; free = free }) (set-set old.chains c (chain_at mid c) cells)))
    (omega (arith, changed.cells))

-- the same number added to both offsets
octet_shift : (k at i : ℕ) (piece : List ℕ) → octet_in (k + at) piece (k + i) ≡ octet_in at piece i
octet_shift k at i piece =
    let less : k + i - (k + at) ≡ i - at = omega arith in
    let test : nat_lt (k + i) (k + at) ≡ nat_lt i at = grind (arith, nat_tests) in
    rw (test, less) refl

-- a segment with an octet has one at its first offset
octet_first : (at : ℕ) (piece : List ℕ) → 0 < length piece → is_some (octet_in at piece at) ≡ true
octet_first at [] some = absurd (omega arith)
octet_first at (y ∷ ys) some =
    let less : at - at ≡ 0 = omega arith in
    rw (le-ltb at at (omega arith), less) refl

or_second : (a b : Option ℕ) → is_some b ≡ true → is_some (option_or a b) ≡ true
or_second None b some = some
or_second (Some x) b some = refl

-- octets of this block were added
pub places_piece : {old mid new : Lists} {c from : ℕ} {piece : List ℕ} {name : CellId} (at : ℕ) → c < length old.chains →
    at ≡ from % 256 → 0 < length piece → from % 256 + length piece ≤ 256 → (opens : Opens old mid c (from / 256) name) →
    new ≡ with_chain mid c (opens.before ++ record opens.cell { octets = with_octets opens.cell.octets at piece } ∷ opens.after) mid.free →
    PlacesPiece old new c from piece name
places_piece {old = old} {mid = mid} {new = new} {c = c} {from = from} {piece = piece} {name = name} at inside at_is some fits opens is =
    let n = from / 256 in
    let x = opens.cell in
    let y : Held = record x { octets = with_octets x.octets at piece } in
    let cells = opens.before ++ y ∷ opens.after in
    let within = inside_then inside opens.changed in
    let here = chain_is mid c cells mid.free within is in
    let old_rises = subst IsRising opens.at.splits opens.rising in
    let rises = IsRising-octets opens.before x opens.after y.octets old_rises in
    let places : length y.octets ≡ 256 = length_with x.octets at piece ∙ opens.places in
    let at_lt : at < length x.octets = omega (arith, opens.places) in
    let used : list_any is_some y.octets ≡ true = list_any_at is_some y.octets at None (omega arith)
    (ap is_some (got_with x.octets at piece at None at_lt) ∙ or_second (get_or x.octets at None) (octet_in at piece at) (octet_first at piece some)) in
    let full : IsFull y.octets = record { places = places; used = used } in
    let found : block_at (blocks_in new c) n ≡ y.octets = found_in {name = name} (subst IsRising (sym here) rises) (record {
      before = opens.before;
      cell = y;
      after = opens.after;
      at = record { splits = here; named = opens.at.named };
      numbered = opens.numbered;
    }) in
    let found_mid : block_at (blocks_in mid c) n ≡ x.octets = found_in {name = name} opens.rising (opened_cell opens) in
    let other : (m : ℕ) → n ≢ m → block_at (blocks_in new c) m ≡ block_at (blocks_in mid c) m =
    λ m differ.
    let differs : x.block ≢ m = λ e. differ (sym opens.numbered ∙ e) in
    other_in opens.before y opens.after m here differs ∙ sym (other_in opens.before x opens.after m opens.at.splits differs)
    in
    record {
      near = record { before = opens.before; cell = y; after = opens.after; at = record { splits = here; named = opens.at.named } };
      kept = record {
        rising = subst IsRising (sym here) rises;
        full = subst AllFull (sym here) (full_more opens.before y opens.after opens.full full);
      };
      changed = changed_then cells mid.free inside opens.changed is (omega (
        arith,
        ap length opens.at.splits,
        length-append opens.before (x ∷ opens.after),
        length-append opens.before (y ∷ opens.after),
      ));
      spent = ap (λ (p : Lists). p.free + cond (holds (blocks_in old c) n) 0 1) is ∙ opens.spent;
      octets = λ offset.
          let i = offset % 256 in
          elim (cases_eq n (offset / 256)) [
            | inl same ↦
                let i_lt : i < length x.octets = omega (arith, opens.places) in
                let from_is : 256 * n + at ≡ from = omega arith in
                let offset_is : 256 * n + i ≡ offset = omega arith in
                let kept : get_or x.octets i None ≡ octet_at (blocks_in old c) offset =
                ap (λ l. get_or l i None) (sym found_mid) ∙ (ap (λ j. get_or (block_at (blocks_in mid c) j) i None) same
                ∙ opens.octets offset) in
                let added : octet_in at piece i ≡ octet_in from piece offset =
                sym (octet_shift (256 * n) at i piece) ∙ ap₂ (λ a b. octet_in a piece b) from_is offset_is in
                ap (λ j. get_or (block_at (blocks_in new c) j) i None) (sym same) ∙ (ap (λ l. get_or l i None) found
                ∙ (got_with x.octets at piece i None i_lt ∙ ap₂ option_or kept added))
            | inr differ ↦
                let outside : octet_in from piece offset ≡ None = elim (cases_lt offset from) [
                  | inl before ↦ octet_before from piece offset before
                  | inr behind ↦ octet_past from piece offset (omega arith)
                ] in
                ap (λ l. get_or l i None) (other (offset / 256) differ) ∙ (opens.octets offset
                ∙ (sym (or_none (octet_at (blocks_in old c) offset))
                ∙ ap (option_or (octet_at (blocks_in old c) offset)) (sym outside)))
          ];
      held = λ m. elim (cases_eq n m) [
        | inl same ↦
            ap (λ k. holds (blocks_in new c) k) (sym same) ∙ (ap (list_any is_some) found
            ∙ (used ∙ sym (or_right (holds (blocks_in old c) m) (m == n) (eq-eqb m n (sym same)))))
        | inr differ ↦
            ap (list_any is_some) (other m differ) ∙ (opens.held m
            ∙ (sym (or-false (holds (blocks_in old c) m)) ∙ ap (λ b. holds (blocks_in old c) m || b) (sym (ne_eqb m n (λ e. differ (sym e))))))
      ];
    }

-- they were written into a cell of the block
pub places_found : {old new : Lists} {c from : ℕ} {piece : List ℕ} {name : CellId} (at : ℕ) → c < length old.chains →
    at ≡ from % 256 → 0 < length piece → from % 256 + length piece ≤ 256 → IsKept (chain_at old c) →
    IsCellOf (chain_at old c) (from / 256) name → Writes old new name (λ octets. with_octets octets at piece) →
    PlacesPiece old new c from piece name
places_found at inside at_is some fits kept cell writes =
    places_piece at inside at_is some fits (opens_found kept cell) (writes _ cell.before cell.cell cell.after (stands inside cell.at))

-- or into a cell that was taken for it
pub places_taken : {old mid new : Lists} {c from : ℕ} {piece : List ℕ} {after : Option CellId} {name : CellId} (at : ℕ) →
    c < length old.chains → at ≡ from % 256 → 0 < length piece → from % 256 + length piece ≤ 256 → IsKept (chain_at old c) →
    HasPlaceFor (chain_at old c) after (from / 256) → (old.free ≡ 0 → ⊥) →
    TakesAfter old mid c after (empty_cell name (from / 256)) → Writes mid new name (with_run at piece) →
    PlacesPiece old new c from piece name
places_taken {mid = mid} {c = c} {from = from} {piece = piece} {name = name} at inside at_is some fits kept has free takes writes =
    let x = empty_cell name (from / 256) in
    let blank : IsBlank at (length piece) x.octets = λ i lt. no_octet 256 (at + i) None refl in
    let run = with_blank x.octets at piece (omega (arith, length-replicate {A = Option ℕ} 256 None)) blank in
    let opens = opens_taken inside kept has free takes in
    places_piece at inside at_is some fits opens
    (writes c has.before x has.rest (stands (inside_then inside opens.changed) opens.at)
    ∙ ap (λ o. with_chain mid c (has.before ++ record x { octets = o } ∷ has.rest) mid.free) run)

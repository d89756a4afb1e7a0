-- The parts of a segment: their octets, from those of their cells, and what holds for each part
-- holds for the segment.
use Rattle.std.proofs.Common.{◌≡◌, ℕ, ◌+◌, ◌-◌, ◌<◌, ◌≤◌, ◌↔◌, ◌||◌, Bool, true, false, List, length, get_or, Some, refl, sym, ap, subst₂, ◌∙◌, arith, inl, inr, ◌/◌, ◌%◌, IsTrue, Option, None, is_some, is_none, IsSome, ap₂, subst, unwrap_or}
use Rattle.std.specs.List.{between}
use Rattle.std.proofs.lemmas.Bool.{cases_lt, or_parts, or_from}
use Rattle.std.proofs.lemmas.List.{same_lists, get_or_default}
use Rattle.std.proofs.lemmas.List.Edits.{get_or-between, length-between}
use borrow.Rule.Slice.PartMut.{put_mid}
use Rattle.cell_pool.proofs.Runs.{length-put, put_before, put_inside, put_behind}
use Rattle.cell_pool.specs.declared.cells.CellId.{CellId}
use Rattle.cell_pool.specs.ChainLists.{Lists, Held, HasPlaceFor, IsRising, IsBlank, IsCovered, IsHeldWith, StandsFrom, Wherever, chain_at}
use Rattle.retain_store.specs.Maps.{Block, octet_at, Agrees, Settles, block_at, fresh, Covers}
use Rattle.retain_store.specs.PoolBlocks.{blocks_of}
use Rattle.retain_store.specs.working.BlockCells.{blocks_in, IsCellOf}
use Rattle.retain_store.proofs.Cells.{stands}
use Rattle.retain_store.proofs.Blocks.{found_in, missing_at}
use Rattle.retain_store.proofs.Counts.{all_counted, none_counted, count_agree, count_most, parts}

-- What holds for the parts of a segment holds for all of it.

module _ (blocks : List Block) (from : ℕ) where
  -- an octet does not differ from the one that is kept
  abbrev AgreesAt : ℕ → ℕ → Type 0
  AgreesAt offset y = unwrap_or (octet_at blocks offset) y ≡ y

  abbrev pub AgreesTo : List ℕ → ℕ → Type 0
  AgreesTo bytes n = (i : ℕ) → i < n → AgreesAt (from + i) (get_or bytes i 0)

  module _ (bytes : List ℕ) (done end : ℕ) (order : done ≤ end) (within : end ≤ length bytes) where
    part_size : length (between done end bytes) ≡ end - done
    part_size = length-between bytes done end within

    pub agrees_then : AgreesTo bytes done → Agrees blocks (from + done) (between done end bytes) → AgreesTo bytes end
    agrees_then first second i lt = elim (cases_lt i done) [
      | inl low ↦ first i low
      | inr high ↦
          let place : from + done + (i - done) ≡ from + i = omega arith in
          let index : done + (i - done) ≡ i = omega arith in
          let octet : get_or (between done end bytes) (i - done) 0 ≡ get_or bytes i 0 =
          get_or-between bytes done end (i - done) 0 (omega arith) ∙ ap (λ k. get_or bytes k 0) index in
          subst₂ AgreesAt place octet (second (i - done) (omega (arith, part_size)))
    ]

    pub agrees_part : Agrees blocks from bytes → Agrees blocks (from + done) (between done end bytes)
    agrees_part agrees i lt =
        let place : from + (done + i) ≡ from + done + i = omega arith in
        let octet : get_or bytes (done + i) 0 ≡ get_or (between done end bytes) i 0 =
        sym (get_or-between bytes done end i 0 (omega (arith, part_size))) in
        subst₂ AgreesAt place octet (agrees (done + i) (omega (arith, part_size)))

  -- a part was written
  module _ (bytes : List ℕ) (done k : ℕ) (piece : List ℕ) (size : length piece ≡ k) (within : done + k ≤ length bytes) where
    abbrev pub written : List ℕ
    written = put_mid done k bytes piece

    abbrev pub CopiedTo : List ℕ → ℕ → Type 0
    CopiedTo out n = (i : ℕ) → i < n → octet_at blocks (from + i) ≡ Some (get_or out i 0)

    pub copied_then : CopiedTo bytes done → ((i : ℕ) → i < length piece → octet_at blocks (from + done + i) ≡ Some (get_or piece i 0)) →
        CopiedTo written (done + k)
    copied_then first second i lt = elim (cases_lt i done) [
      | inl low ↦ first i low ∙ ap (λ (y : ℕ). Some y) (sym (put_before done k bytes piece size within 0 i low))
      | inr high ↦
          let place : from + i ≡ from + done + (i - done) = omega arith in
          ap (octet_at blocks) place ∙ (second (i - done) (omega arith)
          ∙ ap (λ (y : ℕ). Some y) (sym (put_inside done k bytes piece size within 0 i high lt)))
    ]

    module _ (start : List ℕ) (left : (i : ℕ) → done ≤ i → get_or bytes i 0 ≡ get_or start i 0) where
      abbrev pub SettledTo : List ℕ → ℕ → Type 0
      SettledTo new n = (i : ℕ) → i < n → get_or new i 0 ≡ unwrap_or (octet_at blocks (from + i)) (get_or start i 0)

      pub settled_then : SettledTo bytes done → Settles blocks (from + done) (between done (done + k) bytes) piece → SettledTo written (done + k)
      settled_then first second i lt = elim (cases_lt i done) [
        | inl low ↦ put_before done k bytes piece size within 0 i low ∙ first i low
        | inr high ↦
            let part = length-between bytes done (done + k) within in
            let place : from + done + (i - done) ≡ from + i = omega arith in
            let index : done + (i - done) ≡ i = omega arith in
            let octet : get_or (between done (done + k) bytes) (i - done) 0 ≡ get_or start i 0 =
            get_or-between bytes done (done + k) (i - done) 0 (omega arith) ∙ (ap (λ j. get_or bytes j 0) index ∙ left i high) in
            put_inside done k bytes piece size within 0 i high lt
            ∙ subst₂ (λ o y. get_or piece (i - done) 0 ≡ unwrap_or (octet_at blocks o) y) place octet (second (i - done) (omega arith))
      ]

      pub left_then : (i : ℕ) → done + k ≤ i → get_or written i 0 ≡ get_or start i 0
      left_then i le = put_behind done k bytes piece size within 0 i le ∙ left i (omega arith)

      -- the octets written back are those that it had
      same_back : put_mid done k bytes (between done (done + k) bytes) ≡ bytes
      same_back =
          let part = length-between bytes done (done + k) within in
          same_lists (put_mid done k bytes (between done (done + k) bytes)) bytes
          (length-put done k bytes (between done (done + k) bytes) (omega arith) within) (λ i d lt.
          elim (cases_lt i done) [
            | inl low ↦ put_before done k bytes (between done (done + k) bytes) (omega arith) within d i low
            | inr high ↦ elim (cases_lt i (done + k)) [
              | inl inside ↦
                  let index : done + (i - done) ≡ i = omega arith in
                  put_inside done k bytes (between done (done + k) bytes) (omega arith) within d i high inside
                  ∙ (get_or-between bytes done (done + k) (i - done) d (omega arith) ∙ ap (λ j. get_or bytes j d) index)
              | inr behind ↦ put_behind done k bytes (between done (done + k) bytes) (omega arith) within d i behind
            ]
          ])

      -- if all octets are as at the start, so were those of the parts
      bytes_back : length bytes ≡ length start → written ≡ start → bytes ≡ start
      bytes_back long same = same_lists bytes start long (λ i d lt. elim (cases_lt i done) [
        | inl low ↦ sym (put_before done k bytes piece size within d i low) ∙ ap (λ l. get_or l i d) same
        | inr high ↦ get_or_default bytes i d 0 lt ∙ (left i high ∙ get_or_default start i 0 d (omega arith))
      ])

      piece_back : length bytes ≡ length start → written ≡ start → piece ≡ between done (done + k) bytes
      piece_back long same =
          let part = length-between bytes done (done + k) within in
          same_lists piece (between done (done + k) bytes) (omega arith) (λ i d lt.
          let index : done + i - done ≡ i = omega arith in
          ap (λ j. get_or piece j d) (sym index) ∙ (sym (put_inside done k bytes piece size within d (done + i) (omega arith) (omega arith))
          ∙ (ap (λ l. get_or l (done + i) d) (same ∙ sym (bytes_back long same))
          ∙ sym (get_or-between bytes done (done + k) i d (omega arith)))))

      pub same_then : (changed differs : Bool) → length bytes ≡ length start → (changed ≡ false) ↔ (bytes ≡ start) →
          (differs ≡ false) ↔ (piece ≡ between done (done + k) bytes) → ((changed || differs) ≡ false) ↔ (written ≡ start)
      same_then changed differs long first second = (
        (λ none.
            ap (put_mid done k bytes) (second.0 (or_parts changed differs none).1) ∙ (same_back
            ∙ first.0 (or_parts changed differs none).0)),
        (λ same. or_from changed differs (first.1 (bytes_back long same)) (second.1 (piece_back long same))),
      )

-- The octets at the offsets of one part of a segment, from those of its cell.

-- an offset of a part, by its position in the block
offset_in : (blocks : List Block) (from i : ℕ) → from % 256 + i < 256 →
    octet_at blocks (from + i) ≡ get_or (block_at blocks (from / 256)) (from % 256 + i) None
offset_in blocks from i lt =
    let block : (from + i) / 256 ≡ from / 256 = omega arith in
    let place : (from + i) % 256 ≡ from % 256 + i = omega arith in
    ap₂ (λ b p. get_or (block_at blocks b) p None) block place

-- without a cell, no offset has an octet
pub piece_missing : {cells : List Held} {link : Option CellId} (from : ℕ) → IsRising cells → HasPlaceFor cells link (from / 256) →
    (i : ℕ) → from % 256 + i < 256 → octet_at (blocks_of cells) (from + i) ≡ None
piece_missing {cells = cells} from rises has i lt =
    offset_in (blocks_of cells) from i lt ∙ ap (λ l. get_or l (from % 256 + i) None) (missing_at rises has)

some_not_none : (o : Option ℕ) → is_some o ≡ true → is_none o ≡ false
some_not_none None e = cc
some_not_none (Some x) e = refl

-- all offsets are fresh, or none is
pub fresh_all : (blocks : List Block) (from len : ℕ) → ((i : ℕ) → i < len → octet_at blocks (from + i) ≡ None) → fresh blocks from len ≡ len
fresh_all blocks from len none = all_counted (λ offset. is_none (octet_at blocks offset)) from len (λ m low high.
    let place : from + (m - from) ≡ m = omega arith in
    ap (λ o. is_none (octet_at blocks o)) (sym place) ∙ ap is_none (none (m - from) (omega arith)))

pub fresh_none : (blocks : List Block) (from len : ℕ) → Covers blocks from len → fresh blocks from len ≡ 0
fresh_none blocks from len some = none_counted (λ offset. is_none (octet_at blocks offset)) from len (λ m low high.
    let place : from + (m - from) ≡ m = omega arith in
    ap (λ o. is_none (octet_at blocks o)) (sym place) ∙ some_not_none (octet_at blocks (from + (m - from))) (some (m - from) (omega arith)))

-- if the octets from here on are the same, as many are fresh
pub fresh_same : (old new : List Block) (from len : ℕ) → ((offset : ℕ) → from ≤ offset → octet_at new offset ≡ octet_at old offset) →
    fresh new from len ≡ fresh old from len
fresh_same old new from len same = count_agree (λ offset. is_none (octet_at new offset)) (λ offset. is_none (octet_at old offset)) from len
    (λ offset low. ap is_none (same offset low))

-- the octets of a run are those that are kept
module _ (blocks : List Block) (from : ℕ) where
  -- each offset of the run has its octet
  abbrev pub AreKept : List ℕ → Type 0
  AreKept run = (i : ℕ) → i < length run → octet_at blocks (from + i) ≡ Some (get_or run i 0)

  pub none_agree : (run : List ℕ) → ((i : ℕ) → i < length run → octet_at blocks (from + i) ≡ None) → Agrees blocks from run
  none_agree run none i lt = ap (λ o. unwrap_or o (get_or run i 0)) (none i lt)

  pub kept_agree : (run : List ℕ) → AreKept run → Agrees blocks from run
  kept_agree run kept i lt = ap (λ o. unwrap_or o (get_or run i 0)) (kept i lt)

  some_is : (o : Option ℕ) (y : ℕ) → IsSome o → unwrap_or o y ≡ y → o ≡ Some y
  some_is None y some same = cc
  some_is (Some x) y some same = ap (λ (k : ℕ). Some k) same

  pub agree_kept : (run : List ℕ) → Covers blocks from (length run) → Agrees blocks from run → AreKept run
  agree_kept run covers agrees i lt = some_is (octet_at blocks (from + i)) (get_or run i 0) (covers i lt) (agrees i lt)

  pub none_settle : (run : List ℕ) → ((i : ℕ) → i < length run → octet_at blocks (from + i) ≡ None) → Settles blocks from run run
  none_settle run none i lt = sym (none_agree run none i lt)

  pub kept_settle : (old new : List ℕ) → length new ≡ length old → AreKept new → Settles blocks from old new
  kept_settle old new size kept i lt = sym (ap (λ o. unwrap_or o (get_or old i 0)) (kept i (omega arith)))

-- a part whose block has this cell
module _ (pool : Lists) (c from : ℕ) {name : CellId} (at : ℕ) (at_is : at ≡ from % 256) (inside : c < length pool.chains)
    (cell : IsCellOf (chain_at pool c) (from / 256) name) (rises : IsRising (chain_at pool c)) where
  piece_read : (i : ℕ) → at + i < 256 → octet_at (blocks_in pool c) (from + i) ≡ get_or cell.cell.octets (at + i) None
  piece_read i lt =
      offset_in (blocks_in pool c) from i (omega arith)
      ∙ ap₂ (λ l p. get_or l (p + i) None) (found_in rises cell) (sym at_is)

  module _ (len : ℕ) (fits : from % 256 + len ≤ 256) (r : Bool) where
    pub piece_blank : Wherever pool name (λ x after. IsTrue r ↔ IsBlank at len x.octets) → r ≡ true →
        (i : ℕ) → i < len → octet_at (blocks_in pool c) (from + i) ≡ None
    piece_blank told so i lt = piece_read i (omega arith) ∙ (told c cell.before cell.cell cell.after (stands inside cell.at)).0 so i lt

    pub covered_told : Wherever pool name (λ x after. IsTrue r ↔ IsCovered at len x.octets) → IsTrue r ↔ Covers (blocks_in pool c) from len
    covered_told told =
        let here = told c cell.before cell.cell cell.after (stands inside cell.at) in (
          (λ so i lt. subst (λ (o : Option ℕ). IsSome o) (sym (piece_read i (omega arith))) (here.0 so i lt)),
          (λ covers. here.1 (λ i lt. subst (λ (o : Option ℕ). IsSome o) (piece_read i (omega arith)) (covers i lt))),
        )

  module _ (len : ℕ) (fits : from % 256 + len ≤ 256) where
    pub held_covered : Covers (blocks_in pool c) from len → IsHeldWith pool name (IsCovered at len)
    held_covered covers = record {
      chain = c;
      before = cell.before;
      cell = cell.cell;
      after = cell.after;
      stands = stands inside cell.at;
      holds = λ i lt. subst (λ (o : Option ℕ). IsSome o) (piece_read i (omega arith)) (covers i lt);
    }

  pub run_kept : (run : List ℕ) → from % 256 + length run ≤ 256 → Wherever pool name (λ x after. StandsFrom at run x.octets) →
      AreKept (blocks_in pool c) from run
  run_kept run fits told i lt = piece_read i (omega arith) ∙ told c cell.before cell.cell cell.after (stands inside cell.at) i lt

  pub run_told : (run : List ℕ) → from % 256 + length run ≤ 256 → (r : Bool) →
      Wherever pool name (λ x after. IsTrue r ↔ StandsFrom at run x.octets) → IsTrue r ↔ AreKept (blocks_in pool c) from run
  run_told run fits r told =
      let here = told c cell.before cell.cell cell.after (stands inside cell.at) in (
        (λ so i lt. piece_read i (omega arith) ∙ here.0 so i lt),
        (λ kept. here.1 (λ i lt. sym (piece_read i (omega arith)) ∙ kept i lt)),
      )

-- what holds for one part and for the next holds for both
pub covers_then : (blocks : List Block) (from m n : ℕ) → Covers blocks from m → Covers blocks (from + m) n → Covers blocks from (m + n)
covers_then blocks from m n first second i lt = elim (cases_lt i m) [
  | inl low ↦ first i low
  | inr high ↦
      let place : from + m + (i - m) ≡ from + i = omega arith in
      subst (λ k. IsSome (octet_at blocks k)) place (second (i - m) (omega arith))
]

pub covers_part : (blocks : List Block) (from len m n : ℕ) → m + n ≤ len → Covers blocks from len → Covers blocks (from + m) n
covers_part blocks from len m n within covers i lt =
    let place : from + (m + i) ≡ from + m + i = omega arith in
    subst (λ k. IsSome (octet_at blocks k)) place (covers (m + i) (omega arith))

pub fresh_then : (blocks : List Block) (from m n : ℕ) → fresh blocks from (m + n) ≡ fresh blocks from m + fresh blocks (from + m) n
fresh_then blocks from m n = parts (λ offset. is_none (octet_at blocks offset)) from m n

pub fresh_most : (blocks : List Block) (from n : ℕ) → fresh blocks from n ≤ n
fresh_most blocks from n = count_most (λ offset. is_none (octet_at blocks offset)) from n

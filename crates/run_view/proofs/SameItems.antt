-- The items of a finished run with the same lines, records and frames as others: the record, the
-- frames and the first engine's entry of the next line.
use Rattle.std.proofs.Common.{◌≡◌, ◌⊎◌, ℕ, ◌+◌, Bool, true, false, List, [], ◌∷◌, ◌++◌, length, Option, Some, None, refl, sym, ap, ◌∙◌, inl, inr, arith, length-append, append_assoc, if◌then◌else◌}
use Rattle.pcap_file.specs.declared.head.Head.{Head}
use Rattle.pcap_file.specs.Records.{Packet}
use Rattle.capture_input.specs.Inputs.{IsInput}
use Rattle.rule_book.specs.Entries.{PlainEntry}
use Rattle.run_view.specs.declared.form.Form.{Form}
use Rattle.run_view.specs.Items.{AreItems, IsFirstLine, IsOfNewest, IsSecondLine, Item, Line, by_first, firsts, frames_of, is_second, line_of, lines_of, owed_of, packets_in, packets_of}
use Rattle.run_view.specs.working.LinePositions.{waits}
use Rattle.run_view.proofs.Numbered.{alone_is, newest_is}
use Rattle.run_view.specs.working.RecordReading.{PlainOriginal}
use Rattle.run_view.proofs.Oldest.{AreOldest, oldest_records, BeginsWithRecords}
use Rattle.run_view.proofs.Fronts.{frames_by}

-- ---- lists

-- lists with as many elements after others are the same
pub same_behind : (a b x y : List Packet) → a ++ x ≡ b ++ y → length x ≡ length y → x ≡ y
same_behind [] [] x y same long = same
same_behind [] (b ∷ bs) x y same long = absurd (omega (arith, ap length same, length-append (b ∷ bs) y, long))
same_behind (a ∷ us) [] x y same long = absurd (omega (arith, ap length same, length-append (a ∷ us) x, long))
same_behind (a ∷ us) (b ∷ bs) x y same long = same_behind us bs x y (let all : a ∷ (us ++ x) ≡ b ∷ (bs ++ y) = same in cc) long

-- and so are those before them
pub same_before : (a b x y : List Packet) → a ++ x ≡ b ++ y → length a ≡ length b → a ≡ b
same_before [] [] x y same long = refl
same_before [] (b ∷ bs) x y same long = absurd (omega (arith, long))
same_before (a ∷ us) [] x y same long = absurd (omega (arith, long))
same_before (a ∷ us) (b ∷ bs) x y same long =
    let all : a ∷ (us ++ x) ≡ b ∷ (bs ++ y) = same in
    let first : a ≡ b = cc in
    let rest : us ++ x ≡ bs ++ y = cc in
    (λ i. first i ∷ same_before us bs x y rest (omega (arith, long)) i)

-- ---- the item of a line

-- the item of a line, those before it and those after it
pub record HasLine (items : List Item) (line : Line) (xs : List Line) : Type 0 where
  pub after : List Item
  pub item : Item
  pub older : List Item
  pub are : items ≡ after ++ item ∷ older
  pub line_is : line_of item ≡ line
  pub lines_are : lines_of older ≡ xs

pub has_line : (items : List Item) (newer : List Line) (line : Line) (xs : List Line) → lines_of items ≡ newer ++ line ∷ xs → HasLine items line xs
has_line [] [] line xs same = absurd (omega (arith, ap length same))
has_line [] (n ∷ newer) line xs same = absurd (omega (arith, ap length same))
has_line (item ∷ items) [] line xs same =
    let all : line_of item ∷ lines_of items ≡ line ∷ xs = same in
    record { after = []; item = item; older = items; are = refl; line_is = cc; lines_are = cc }
has_line (item ∷ items) (n ∷ newer) line xs same =
    let all : line_of item ∷ lines_of items ≡ n ∷ (newer ++ line ∷ xs) = same in
    let rest = has_line items newer line xs cc in
    record {
      after = item ∷ rest.after;
      item = rest.item;
      older = rest.older;
      are = ap (λ l. item ∷ l) rest.are;
      line_is = rest.line_is;
      lines_are = rest.lines_are;
    }

pub items_behind : (form : Form) (after back : List Item) → AreItems form (after ++ back) → AreItems form back
items_behind form [] back are = are
items_behind form (item ∷ after) back are = items_behind form after back are.1

pub packets_behind : (after back : List Item) → (front : List Packet) × (packets_of (after ++ back) ≡ front ++ packets_of back)
packets_behind [] back = ([], refl)
packets_behind (item ∷ after) back = by (is_second item) (packets_behind after back) where
  by : (second : Bool) → (front : List Packet) × (packets_of (after ++ back) ≡ front ++ packets_of back)
      → (front : List Packet) × (packets_in (if second then firsts (after ++ back) else item ∷ firsts (after ++ back)) ≡ front ++ packets_of back)
  by true before = before
  by false before = (item.packet ∷ before.0, ap (λ l. item.packet ∷ l) before.1)

pub frames_behind : (after back : List Item) → frames_of (after ++ back) ≡ frames_of after ++ frames_of back
frames_behind [] back = refl
frames_behind (item ∷ after) back =
    ap (λ l. item.frames ++ l) (frames_behind after back) ∙ sym (append_assoc item.frames (frames_of after) (frames_of back))

pub frames_counted : (form : Form) (item : Item) (older : List Item) → IsFirstLine form older item ⊎ IsSecondLine older item
    → length item.frames ≡ frames_by (is_second item) form item.entry
frames_counted form item older (inl turn) = turn.frames ∙ ap (λ (b : Bool). frames_by b form item.entry) (sym (alone_is item turn.alone))
frames_counted form item older (inr turn) = turn.frames ∙ ap (λ (b : Bool). frames_by b form item.entry) (sym (newest_is older item turn.newest))

-- ---- what the first engine said, by the lines

abbrev pub first_entry : List Line → Option PlainEntry
first_entry [] = None
first_entry (line ∷ older) = if line.second then first_entry older else Some line.entry

entry_is : (first : Option PlainEntry) (item : Item) → item.first ≡ first → by_first item ≡ by_first (record item { first = first })
entry_is first item is = ap (λ o. by_first (record item { first = o })) is

pub first_is : (form : Form) (item : Item) (older : List Item) → AreItems form (item ∷ older) → Some (by_first item) ≡ first_entry (lines_of (item ∷ older))
first_is form item [] are = by are.0.turn where
  by : IsFirstLine form [] item ⊎ IsSecondLine [] item → Some (by_first item) ≡ first_entry (lines_of (item ∷ []))
  by (inr turn) = absurd turn.newest
  by (inl turn) =
      ap (λ e. Some e) (entry_is None item turn.alone)
      ∙ sym (ap (λ (b : Bool). if b then first_entry [] else Some item.entry) (alone_is item turn.alone))
first_is form item (newest ∷ rest) are = by (first_is form newest rest are.1) are.0.turn where
  by : Some (by_first newest) ≡ first_entry (lines_of (newest ∷ rest)) → IsFirstLine form (newest ∷ rest) item ⊎ IsSecondLine (newest ∷ rest) item
      → Some (by_first item) ≡ first_entry (lines_of (item ∷ newest ∷ rest))
  by before (inl turn) =
      ap (λ e. Some e) (entry_is None item turn.alone)
      ∙ sym (ap (λ (b : Bool). if b then first_entry (lines_of (newest ∷ rest)) else Some item.entry) (alone_is item turn.alone))
  by before (inr turn) =
      ap (λ e. Some e) (entry_is (Some (by_first newest)) item turn.newest.1) ∙ before
      ∙ sym
      (ap (λ (b : Bool). if b then first_entry (lines_of (newest ∷ rest)) else Some item.entry) (newest_is (newest ∷ rest) item turn.newest))

-- the newest record is that of the newest line
pub newest_packet : (form : Form) (item : Item) (older : List Item) → AreItems form (item ∷ older)
    → (rest : List Packet) × (packets_of (item ∷ older) ≡ item.packet ∷ rest)
newest_packet form item [] are = by are.0.turn where
  by : IsFirstLine form [] item ⊎ IsSecondLine [] item → (rest : List Packet) × (packets_of (item ∷ []) ≡ item.packet ∷ rest)
  by (inr turn) = absurd turn.newest
  by (inl turn) = ([], ap (λ (b : Bool). packets_in (if b then [] else item ∷ [])) (alone_is item turn.alone))
newest_packet form item (newest ∷ others) are = by (newest_packet form newest others are.1) are.0.turn where
  by : (rest : List Packet) × (packets_of (newest ∷ others) ≡ newest.packet ∷ rest)
      → IsFirstLine form (newest ∷ others) item ⊎ IsSecondLine (newest ∷ others) item
      → (rest : List Packet) × (packets_of (item ∷ newest ∷ others) ≡ item.packet ∷ rest)
  by before (inl turn) = (
    packets_of (newest ∷ others),
    ap (λ (b : Bool). packets_in (if b then firsts (newest ∷ others) else item ∷ firsts (newest ∷ others))) (alone_is item turn.alone),
  )
  by before (inr turn) = (
    before.0,
    ap (λ (b : Bool). packets_in (if b then firsts (newest ∷ others) else item ∷ firsts (newest ∷ others)))
        (newest_is (newest ∷ others) item turn.newest)
        ∙ before.1
        ∙ ap (λ p. p ∷ before.0) (sym turn.newest.0),
  )

-- ---- the next line

-- the record was read into what frames are compared with
pub record IsComparedWith (of : PlainOriginal) (packet : Packet) : Type 0 where
  pub octets_are : of.octets ≡ packet.octets
  pub seconds_is : of.seconds ≡ packet.seconds
  pub fraction_is : of.fraction ≡ packet.fraction

-- this is the record of the newest line, and what the first engine said of it
abbrev pub IsSaidOfNewest : List Item → Packet → PlainEntry → Type 0
IsSaidOfNewest [] packet first = ⊥
IsSaidOfNewest (newest ∷ older) packet first = (packet ≡ newest.packet) × (first ≡ by_first newest)

-- The next line of these items is of this record; if the line is one of the second engine, the
-- first said this of the record. A line of the first engine is of the next record of the input, and
-- one of the second of the record of the newest line.
abbrev pub IsOfNext : (input : Option (List ℕ)) → Head → List Item → Packet → (first : Option PlainEntry) → Type 0
IsOfNext input head items packet None = (owed_of items ≡ 0) × BeginsWithRecords input head (packet ∷ packets_of items)
IsOfNext input head items packet (Some first) =
    (waits (owed_of items) ≡ true) × BeginsWithRecords input head (packets_of items) × IsSaidOfNewest items packet first

-- in a run with the same lines before it, the line is of the same record, and the first engine said
-- the same
pub next_is : (form : Form) (input : List ℕ) (whole head : Head) (items older : List Item) (item : Item) (packet : Packet) (first : Option PlainEntry)
    (front : List Packet) → AreItems form items → AreItems form (item ∷ older) → lines_of older ≡ lines_of items
    → length (packets_of older) ≡ length (packets_of items) → IsInput None input whole (front ++ packets_of (item ∷ older))
    → is_second item ≡ waits (owed_of items) → IsOfNext (Some input) head items packet first → (item.packet ≡ packet) × (item.first ≡ first)
next_is form input whole head items older item packet None front are behind lines long records second next =
    by behind.0.turn where
      by : IsFirstLine form older item ⊎ IsSecondLine older item → (item.packet ≡ packet) × (item.first ≡ None)
      by (inr turn) = let e = sym (newest_is older item turn.newest) ∙ second ∙ ap waits next.0 in absurd (cc)
      by (inl turn) =
          let one : packets_of (item ∷ older) ≡ item.packet ∷ packets_of older =
          ap (λ (b : Bool). packets_in (if b then firsts older else item ∷ firsts older)) (alone_is item turn.alone) in
          let oldest = oldest_records input whole head (front ++ packets_of (item ∷ older)) (packet ∷ packets_of items) records next.1 in
          let same : packets_of (item ∷ older) ≡ packet ∷ packets_of items =
          same_behind front oldest.newer (packets_of (item ∷ older)) (packet ∷ packets_of items) oldest.are (ap length one ∙ omega (arith, long)) in
          let both : item.packet ∷ packets_of older ≡ packet ∷ packets_of items = sym one ∙ same in
          (cc, turn.alone)
next_is form input whole head [] older item packet (Some first) front are behind lines long records second next = absurd next.2
next_is form input whole head (newest ∷ items) older item packet (Some first) front are behind lines long records second next =
    by behind.0.turn where
      oldest : AreOldest (front ++ packets_of (item ∷ older)) (packets_of (newest ∷ items))
      oldest = oldest_records input whole head (front ++ packets_of (item ∷ older)) (packets_of (newest ∷ items)) records next.1

      by_newest : (others : List Item) → AreItems form others → IsOfNewest others item → lines_of others ≡ lines_of (newest ∷ items)
          → packets_of others ≡ packets_of (newest ∷ items) → (item.packet ≡ packet) × (item.first ≡ Some first)
      by_newest [] others of_none same packets = absurd of_none
      by_newest (last ∷ rest) others of same packets =
          let mine = newest_packet form last rest others in
          let yours = newest_packet form newest items are in
          let heads : last.packet ∷ mine.0 ≡ newest.packet ∷ yours.0 = sym mine.1 ∙ packets ∙ yours.1 in
          let packet_same : last.packet ≡ newest.packet = cc in
          let said : Some (by_first last) ≡ Some (by_first newest) =
          first_is form last rest others ∙ ap first_entry same ∙ sym (first_is form newest items are) in
          (of.0 ∙ packet_same ∙ sym next.2.0, of.1 ∙ said ∙ ap (λ e. Some e) (sym next.2.1))

      by : IsFirstLine form older item ⊎ IsSecondLine older item → (item.packet ≡ packet) × (item.first ≡ Some first)
      by (inl turn) = let e = sym (alone_is item turn.alone) ∙ second ∙ next.0 in absurd (cc)
      by (inr turn) =
          let one : packets_of (item ∷ older) ≡ packets_of older =
          ap (λ (b : Bool). packets_in (if b then firsts older else item ∷ firsts older)) (newest_is older item turn.newest) in
          let same : packets_of older ≡ packets_of (newest ∷ items) =
          same_behind front oldest.newer (packets_of older) (packets_of (newest ∷ items)) (ap (λ l. front ++ l) (sym one) ∙ oldest.are) long in
          by_newest older behind.1 turn.newest lines same

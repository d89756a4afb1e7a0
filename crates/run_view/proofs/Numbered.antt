-- The lines of a report: how many of each engine, how many frames they count, and the position of
-- the next one; octets are read as lines in one way.
use Rattle.std.proofs.Common.{◌≡◌, ◌⊎◌, ℕ, ◌+◌, ◌-◌, ◌*◌, ◌<◌, ◌≤◌, ◌^◌, Bool, true, false, get_or, add-one, is_some, if◌then◌else◌, List, [], ◌∷◌, ◌++◌, length, drop, Option, Some, None, refl, sym, ap, subst, ◌∙◌, inl, inr, arith, append_assoc, append-nil, length-append}
use Rattle.std.specs.Io.KnownBytes.{Consumes}
use Rattle.std.proofs.lemmas.Bool.{cases_lt}
use Rattle.std.proofs.lemmas.List.{append_cancel_left}
use Rattle.rule_book.specs.Entries.{PlainEntry}
use Rattle.rule_book.specs.ReportReading.{EntryFits, IsEntryOf}
use Rattle.rule_book.specs.Text.{entry_text, last_text}
use Rattle.rule_book.specs.declared.last.Last.TheVariants.{End}
use Rattle.rule_book.proofs.Unique.{entry_no_last, entry_one}
use Rattle.run_view.proofs.Fronts.{frames_by, end_front, line_front}
use Rattle.run_view.specs.Forms.{answers, version_of}
use Rattle.run_view.specs.Items.{AreItems, IsFirstLine, IsOfNewest, IsSecondLine, Item, Line, firsts, frames_of, is_second, lines_of, lines_text, owed_of, packets_in, packets_of, seconds, text_by}
use Rattle.run_view.specs.working.LinePositions.{turn_at, turn_of, waits}
use Rattle.run_view.specs.declared.form.Form.{Form}
use Rattle.run_view.specs.declared.form.Form.TheVariants.{Version1, Version2, Both}
use Rattle.run_view.specs.declared.turn.Turn.{Turn}

-- how many lines of each engine there are
abbrev pub firsts_in : List Line → ℕ
firsts_in [] = 0
firsts_in (line ∷ older) = (if line.second then 0 else 1) + firsts_in older

abbrev pub seconds_in : List Line → ℕ
seconds_in [] = 0
seconds_in (line ∷ older) = (if line.second then 1 else 0) + seconds_in older

-- how many lines of the second engine are missing after them
abbrev pub owed_in : (form : Form) → List Line → ℕ
owed_in form [] = 0
owed_in form (line ∷ older) = if line.second then owed_in form older - 1 else answers form line.entry.packets

-- how many frames they count
abbrev pub total : (form : Form) → List Line → ℕ
total form [] = 0
total form (line ∷ older) = frames_by line.second form line.entry + total form older

-- the position of the next line after them
abbrev pub turn_behind : (form : Form) → List Line → Turn
turn_behind form lines = turn_at (owed_in form lines) (firsts_in lines) (seconds_in lines) (total form lines)

-- a line is at a position where it may be
pub record StandsBehind (form : Form) (older : List Line) (line : Line) : Type 0 where
  pub fits : IsEntryOf (version_of form) line.entry
  pub second_is : line.second ≡ waits (owed_in form older)
  pub number : line.entry.number ≡ (turn_behind form older).done + 1

abbrev pub AreLines : (form : Form) → List Line → Type 0
AreLines form [] = Unit {0}
AreLines form (line ∷ older) = StandsBehind form older line × AreLines form older

pub firsts_length : (items : List Item) → firsts_in (lines_of items) ≡ length (firsts items)
firsts_length [] = refl
firsts_length (item ∷ older) = by (is_second item) (firsts_length older) where
  by : (second : Bool) → firsts_in (lines_of older) ≡ length (firsts older)
      → (if second then 0 else 1) + firsts_in (lines_of older) ≡ length (if second then firsts older else item ∷ firsts older)
  by true before = omega (arith, before)
  by false before = omega (arith, before)

seconds_length : (items : List Item) → seconds_in (lines_of items) ≡ length (seconds items)
seconds_length [] = refl
seconds_length (item ∷ older) = by (is_second item) (seconds_length older) where
  by : (second : Bool) → seconds_in (lines_of older) ≡ length (seconds older)
      → (if second then 1 else 0) + seconds_in (lines_of older) ≡ length (if second then item ∷ seconds older else seconds older)
  by true before = omega (arith, before)
  by false before = omega (arith, before)

packets_length : (items : List Item) → length (packets_in items) ≡ length items
packets_length [] = refl
packets_length (item ∷ older) = omega (arith, packets_length older)

pub records_length : (items : List Item) → length (packets_of items) ≡ firsts_in (lines_of items)
records_length items = packets_length (firsts items) ∙ sym (firsts_length items)

-- the engine of a line
pub alone_is : (item : Item) → item.first ≡ None → is_second item ≡ false
alone_is item alone = ap (λ (o : Option PlainEntry). is_some o) alone

pub newest_is : (older : List Item) (item : Item) → IsOfNewest older item → is_second item ≡ true
newest_is [] item of_none = absurd of_none
newest_is (newest ∷ older) item of_newest = ap (λ (o : Option PlainEntry). is_some o) of_newest.1

pub owed_is : (form : Form) (items : List Item) → AreItems form items → owed_in form (lines_of items) ≡ owed_of items
owed_is form [] are = refl
owed_is form (item ∷ older) are = by are.0.turn (owed_is form older are.1) where
  by : IsFirstLine form older item ⊎ IsSecondLine older item → owed_in form (lines_of older) ≡ owed_of older
      → (if is_second item then owed_in form (lines_of older) - 1 else answers form item.entry.packets) ≡ item.owed
  by (inl turn) before =
      ap (λ (b : Bool). if b then owed_in form (lines_of older) - 1 else answers form item.entry.packets) (alone_is item turn.alone) ∙ sym turn.owes
  by (inr turn) before =
      ap (λ (b : Bool). if b then owed_in form (lines_of older) - 1 else answers form item.entry.packets) (newest_is older item turn.newest)
      ∙ omega (arith, before, turn.owes)

pub frames_total : (form : Form) (items : List Item) → AreItems form items → length (frames_of items) ≡ total form (lines_of items)
frames_total form [] are = refl
frames_total form (item ∷ older) are = omega (arith, length-append item.frames (frames_of older), by are.0.turn, frames_total form older are.1) where
  by : IsFirstLine form older item ⊎ IsSecondLine older item → length item.frames ≡ frames_by (is_second item) form item.entry
  by (inl turn) = turn.frames ∙ ap (λ (b : Bool). frames_by b form item.entry) (sym (alone_is item turn.alone))
  by (inr turn) = turn.frames ∙ ap (λ (b : Bool). frames_by b form item.entry) (sym (newest_is older item turn.newest))

pub turn_lines : (form : Form) (items : List Item) → AreItems form items → turn_of items ≡ turn_behind form (lines_of items)
turn_lines form items are =
    λ i. turn_at (sym (owed_is form items are) i) (sym (firsts_length items) i) (sym (seconds_length items) i) (frames_total form items are i)

pub done_if : (second : Bool) (form : Form) (lines : List Line) → waits (owed_in form lines) ≡ second
    → (turn_behind form lines).done ≡ (if second then seconds_in lines else firsts_in lines)
done_if second form lines same = ap (λ (b : Bool). if b then seconds_in lines else firsts_in lines) same

pub are_lines : (form : Form) (items : List Item) → AreItems form items → AreLines form (lines_of items)
are_lines form [] are = tt
are_lines form (item ∷ older) are = (record { fits = are.0.fits; second_is = second_is; number = by are.0.turn }, are_lines form older are.1) where
  owed : owed_in form (lines_of older) ≡ owed_of older
  owed = owed_is form older are.1

  none : IsFirstLine form older item → waits (owed_in form (lines_of older)) ≡ false
  none turn = ap waits (owed ∙ turn.none_owed)

  some : IsSecondLine older item → waits (owed_in form (lines_of older)) ≡ true
  some turn = ap waits (owed ∙ turn.owes ∙ add-one item.owed)

  second_by : IsFirstLine form older item ⊎ IsSecondLine older item → is_second item ≡ waits (owed_in form (lines_of older))
  second_by (inl turn) = alone_is item turn.alone ∙ sym (none turn)
  second_by (inr turn) = newest_is older item turn.newest ∙ sym (some turn)

  second_is : is_second item ≡ waits (owed_in form (lines_of older))
  second_is = second_by are.0.turn

  by : IsFirstLine form older item ⊎ IsSecondLine older item → item.entry.number ≡ (turn_behind form (lines_of older)).done + 1
  by (inl turn) = turn.number ∙ ap (λ n. n + 1) (sym (firsts_length older) ∙ sym (done_if false form (lines_of older) (none turn)))
  by (inr turn) = turn.number ∙ ap (λ n. n + 1) (sym (seconds_length older) ∙ sym (done_if true form (lines_of older) (some turn)))

-- octets that begin with two lines of an engine begin with one
one_text : (second : Bool) (e f : PlainEntry) → EntryFits e → EntryFits f → text_by second e ≡ text_by second f → e ≡ f
one_text false e f fits others same = entry_one e f fits others same
one_text true e f fits others same = entry_one e f fits others (ap (λ (l : List ℕ). drop 1 l) same)

pub one_entry : (second : Bool) (e f : PlainEntry) (l m : List ℕ) → EntryFits e → EntryFits f → text_by second e ++ l ≡ text_by second f ++ m
    → (e ≡ f) × (l ≡ m)
one_entry second e f l m fits others same =
    let texts : text_by second e ≡ text_by second f =
    sym (line_front second (text_by second e ++ l) l e fits refl) ∙ line_front second (text_by second e ++ l) m f others same in
    (one_text second e f fits others texts, append_cancel_left (text_by second e) l m (same ∙ ap (λ t. t ++ m) (sym texts)))

pub no_entry_end : (second : Bool) (e : PlainEntry) (l m : List ℕ) (records frames : ℕ) → EntryFits e → records < 2 ^ 32 → frames < 2 ^ 64
    → text_by second e ++ l ≡ last_text (End records frames) ++ m → ⊥
no_entry_end false e l m records frames fits few few_frames same =
    entry_no_last e (End records frames) fits (few, few_frames)
    (sym (line_front false (entry_text e ++ l) l e fits refl) ∙ end_front (entry_text e ++ l) m records frames few few_frames same)
no_entry_end true e l m records frames fits few few_frames same = omega (arith, ap (λ (t : List ℕ). get_or t 0 0) same)

-- as many lines
same_lines : (form : Form) (xs ys : List Line) (l m : List ℕ) → AreLines form xs → AreLines form ys → length xs ≡ length ys
    → lines_text xs ++ l ≡ lines_text ys ++ m → (xs ≡ ys) × (l ≡ m)
same_lines form [] [] l m one two count same = (refl, same)
same_lines form [] (y ∷ ys) l m one two count same = absurd (omega (arith, count))
same_lines form (x ∷ xs) [] l m one two count same = absurd (omega (arith, count))
same_lines form (x ∷ xs) (y ∷ ys) l m one two count same =
    let before = same_lines form xs ys (text_by x.second x.entry ++ l) (text_by y.second y.entry ++ m) one.1 two.1 (omega (arith, count))
    (sym (append_assoc (lines_text xs) (text_by x.second x.entry) l) ∙ same ∙ append_assoc (lines_text ys) (text_by y.second y.entry) m) in
    let flag : x.second ≡ y.second = one.0.second_is ∙ ap (λ ls. waits (owed_in form ls)) before.0 ∙ sym two.0.second_is in
    let last = one_entry x.second x.entry y.entry l m one.0.fits.fits two.0.fits.fits (before.1 ∙ ap (λ b. text_by b y.entry ++ m) (sym flag)) in
    let line : x ≡ y = λ i. record { second = flag i; entry = last.0 i } in
    (ap (λ e. e ∷ xs) line ∙ ap (λ es. y ∷ es) before.0, last.1)

-- the lines of some entries, and those of others after them
pub record Goes (xs ys : List Line) (l m : List ℕ) : Type 0 where
  pub newer : List Line
  pub are : ys ≡ newer ++ xs
  pub left : l ≡ lines_text newer ++ m

pub goes_on : (form : Form) (xs ys : List Line) (l m : List ℕ) → AreLines form xs → AreLines form ys → length xs ≤ length ys
    → lines_text xs ++ l ≡ lines_text ys ++ m → Goes xs ys l m
goes_on form xs [] l m one two few same =
    let both = same_lines form xs [] l m one two (omega (arith, few)) same in record { newer = []; are = sym both.0; left = both.1 }
goes_on form xs (y ∷ ys) l m one two few same = elim (cases_lt (length ys) (length xs)) [
  | inl less ↦
      let both = same_lines form xs (y ∷ ys) l m one two (omega (arith, few, less)) same in record { newer = []; are = sym both.0; left = both.1 }
  | inr more ↦
      let text = text_by y.second y.entry in
      let on = goes_on form xs ys l (text ++ m) one two.1 more (same ∙ append_assoc (lines_text ys) text m) in
      record { newer = y ∷ on.newer; are = ap (λ es. y ∷ es) on.are; left = on.left ∙ sym (append_assoc (lines_text on.newer) text m) }
]

-- what is left of the report: the end of the run, or the next line
pub record IsNextOf (form : Form) (xs ys : List Line) (l : List ℕ) : Type 0 where
  pub line : Line
  pub rest : List ℕ
  pub stands : StandsBehind form xs line
  pub is : l ≡ text_by line.second line.entry ++ rest
  pub fewer : firsts_in xs + (if line.second then 0 else 1) ≤ firsts_in ys
  pub enough : total form xs + frames_by line.second form line.entry ≤ total form ys
  pub newer : List Line
  pub are : ys ≡ newer ++ line ∷ xs

pub next_of : (form : Form) (xs newer : List Line) (y : Line) (l m : List ℕ) → AreLines form ((y ∷ newer) ++ xs) → l ≡ lines_text (y ∷ newer) ++ m
    → IsNextOf form xs ((y ∷ newer) ++ xs) l
next_of form xs [] y l m are left =
    record { line = y; rest = m; stands = are.0; is = left; fewer = omega arith; enough = omega arith; newer = []; are = refl }
next_of form xs (z ∷ newer) y l m are left =
    let older =
    next_of form xs newer z l (text_by y.second y.entry ++ m) are.1 (left ∙ append_assoc (lines_text (z ∷ newer)) (text_by y.second y.entry) m) in
    record {
      line = older.line;
      rest = older.rest;
      stands = older.stands;
      is = older.is;
      fewer = omega (arith, older.fewer);
      enough = omega (arith, older.enough);
      newer = y ∷ older.newer;
      are = ap (λ ls. y ∷ ls) older.are;
    }

-- the report is over
pub record AtEnd (xs ys : List Line) (l : List ℕ) (records frames : ℕ) : Type 0 where
  pub same : xs ≡ ys
  pub is : l ≡ last_text (End records frames)

pub few_firsts : (form : Form) (xs : List Line) → AreLines form xs → firsts_in xs < 2 ^ 32
few_firsts form [] are = omega arith
few_firsts form (x ∷ xs) are = by x.second refl (few_firsts form xs are.1) where
  by : (second : Bool) → x.second ≡ second → firsts_in xs < 2 ^ 32 → (if second then 0 else 1) + firsts_in xs < 2 ^ 32
  by true is before = omega (arith, before)
  by false is before = omega (arith, are.0.fits.fits.number, are.0.number, done_if false form xs (sym are.0.second_is ∙ is))

few_seconds : (form : Form) (xs : List Line) → AreLines form xs → seconds_in xs < 2 ^ 32
few_seconds form [] are = omega arith
few_seconds form (x ∷ xs) are = by x.second refl (few_seconds form xs are.1) where
  by : (second : Bool) → x.second ≡ second → seconds_in xs < 2 ^ 32 → (if second then 1 else 0) + seconds_in xs < 2 ^ 32
  by false is before = omega (arith, before)
  by true is before = omega (arith, are.0.fits.fits.number, are.0.number, done_if true form xs (sym are.0.second_is ∙ is))

few_own : (second : Bool) (form : Form) (entry : PlainEntry) → entry.packets < 2 ^ 8 → frames_by second form entry ≤ 255
few_own true form entry few = omega (arith, few)
few_own false Version1 entry few = omega (arith, few)
few_own false Version2 entry few = omega (arith, few)
few_own false Both entry few = omega arith

few_frames : (form : Form) (xs : List Line) → AreLines form xs → total form xs ≤ 255 * (firsts_in xs + seconds_in xs)
few_frames form [] are = omega arith
few_frames form (x ∷ xs) are = by x.second (few_frames form xs are.1) where
  by : (second : Bool) → total form xs ≤ 255 * (firsts_in xs + seconds_in xs)
      → total form (x ∷ xs) ≤ 255 * (((if second then 0 else 1) + firsts_in xs) + ((if second then 1 else 0) + seconds_in xs))
  by true before = omega (arith, few_own x.second form x.entry are.0.fits.fits.packets, before)
  by false before = omega (arith, few_own x.second form x.entry are.0.fits.fits.packets, before)

pub small_total : (form : Form) (xs : List Line) → AreLines form xs → total form xs < 2 ^ 64
small_total form xs are = omega (arith, few_firsts form xs are, few_seconds form xs are, few_frames form xs are)

beyond : (form : Form) (xs ys newer : List Line) (l m : List ℕ) (records frames : ℕ) → records < 2 ^ 32 → frames < 2 ^ 64 → AreLines form xs
    → length ys < length xs → xs ≡ newer ++ ys → last_text (End records frames) ≡ lines_text newer ++ m → ⊥
beyond form xs ys [] l m records frames few few_all are less is left = let same = ap length is in omega (arith, same, less)
beyond form xs ys (z ∷ zs) l m records frames few few_all are less is left =
    let next = next_of form ys zs z (last_text (End records frames)) m (subst (AreLines form) is are) left in
    no_entry_end next.line.second next.line.entry next.rest [] records frames next.stands.fits.fits few few_all
    (sym next.is ∙ sym (append-nil (last_text (End records frames))))

stands : (form : Form) (xs ys newer : List Line) (l : List ℕ) (records frames : ℕ) → AreLines form ys → ys ≡ newer ++ xs
    → l ≡ lines_text newer ++ last_text (End records frames) → AtEnd xs ys l records frames ⊎ IsNextOf form xs ys l
stands form xs ys [] l records frames are is left = inl (record { same = sym is; is = left })
stands form xs ys (z ∷ zs) l records frames are is left =
    let N : List Line → Type 0 = λ es. IsNextOf form xs es l in
    inr (subst N (sym is) (next_of form xs zs z l (last_text (End records frames)) (subst (AreLines form) is are) left))

pub compare : (form : Form) (xs ys : List Line) (l : List ℕ) (records frames : ℕ) → records < 2 ^ 32 → frames < 2 ^ 64 → AreLines form xs
    → AreLines form ys → lines_text xs ++ l ≡ lines_text ys ++ last_text (End records frames) → AtEnd xs ys l records frames ⊎ IsNextOf form xs ys l
compare form xs ys l records frames few few_all one two same = elim (cases_lt (length ys) (length xs)) [
  | inl less ↦
      let on = goes_on form ys xs (last_text (End records frames)) l two one (omega (arith, less)) (sym same) in
      absurd (beyond form xs ys on.newer l l records frames few few_all one less on.are on.left)
  | inr more ↦
      let on = goes_on form xs ys l (last_text (End records frames)) one two more same in
      stands form xs ys on.newer l records frames two on.are on.left
]

-- the taken octets are in front
pub record InFront (l text : List ℕ) (left : Option (List ℕ)) : Type 0 where
  pub rest : List ℕ
  pub is : l ≡ text ++ rest
  pub left_is : left ≡ Some rest

pub in_front : (l text : List ℕ) (left : Option (List ℕ)) → Consumes (Some l) left text → InFront l text left
in_front l text None taken = absurd taken
in_front l text (Some rest) taken = record { rest = rest; is = taken; left_is = refl }

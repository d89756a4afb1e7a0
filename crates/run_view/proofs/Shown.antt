-- What a view shows: with one more line of a run, at its end, and from its start.
use Rattle.std.proofs.Common.{◌≡◌, ◌==◌, ◌&&◌, not, Bool, true, false, List, [], ◌∷◌, ◌++◌, refl, sym, ap, ◌∙◌, length, append-nil, append_assoc, if◌then◌else◌, Option, Some, None, map, ℕ, zero, suc, subst, IfSome}
use Rattle.edge_io.specs.FaultCounts.{next_count}
use Rattle.pcap_file.specs.declared.head.Head.{Head}
use Rattle.frame_view.specs.Changes as changes
use Rattle.view_text.specs.PlainLines.{PlainLine}
use Rattle.run_view.specs.declared.form.Form.{Form}
use Rattle.run_view.specs.declared.item.Gathered.{Gathered}
use Rattle.run_view.specs.declared.chosen.Meets.{Meets}
use Rattle.run_view.specs.declared.show.Printing.{Printing}
use Rattle.run_view.specs.declared.words.Asked.{Asked}
use Rattle.run_view.specs.ChosenRecords.{chooses_records, meets_all, meets_record, met_of}
use Rattle.run_view.specs.ShownEvents.{Event, Shows, chosen_of, ends_chosen, is_given, line_shown, newest_event, of_record, record_lines, count_shown, records_shown}
use Rattle.run_view.specs.Items.{Item, by_first, changes_in, flow_at, frames_of, is_second, kinds_in, length_at, time_of, type_without, end_text, lines_of, lines_text}
use Rattle.run_view.specs.working.ShownLines.{NotesLine, PlainShown, due_event, is_last_of_chosen, line_of_shown}
use Rattle.run_view.specs.working.ViewerProgress.{PrintsSo, Closes, Ends, ViewerAt, ends_of, turn_in, IsFresh}
use Rattle.std.specs.Io.KnownBytes.{Consumes, IsAtEnd}
use Rattle.rule_book.specs.Text.{last_text}
use Rattle.rule_book.specs.declared.last.Last.TheVariants.{End}
use Rattle.run_view.specs.declared.viewer.Viewer.{Viewer}
use Rattle.run_view.specs.Forms.{heading}
use Rattle.run_view.specs.working.SourceContents.{AreOver, IsOver}
use Rattle.run_view.proofs.Fronts.{TookLast}
use Rattle.run_view.specs.working.LineProgress.{Going, HasEnded, Whole}
use Rattle.run_view.specs.working.LinePositions.{turn_at, waits}
use Rattle.run_view.specs.RunFiles.{sources_of, HasHead, HaveTwoLinks, IsOfOtherLink}
use Rattle.run_view.specs.StatusMeanings.{IsStatusOf, ViewedAs}
use Rattle.wire_base.specs.declared.address.Link.{Link}
use Rattle.pcap_file.specs.ReaderState.{Reading}
use Rattle.capture_input.specs.declared.input.Input.{Input}
use Rattle.capture_input.specs.Inputs.{Took, Walk}
use Rattle.capture_input.specs.ReaderState.{head_in}
use Rattle.run_view.specs.declared.line.Lines.{Lines}
use Rattle.run_view.specs.working.LinesAhead.{left_in}
use Rattle.run_view.specs.working.ReaderPositions.{InputAt, InputOpened, OutputAt}
use Rattle.run_view.specs.working.StopCauses.{IsNoFirst}

-- ---- events, one after another

pub shows_none : (shown : Option (List Event)) → Shows shown shown []
shows_none None = tt
shows_none (Some events) = sym (append-nil events)

pub shows_more : (old mid new : Option (List Event)) (first more : List Event) → Shows old mid first → Shows mid new more → Shows old new (first ++ more)
shows_more None mid new first more one two = tt
shows_more (Some x) None new first more one two = absurd one
shows_more (Some x) (Some y) None first more one two = two
shows_more (Some x) (Some y) (Some z) first more one two = two ∙ ap (λ l. l ++ more) one ∙ append_assoc x first more

-- ---- the lines of a record

-- this is a line of the item, with the octets and the time of its record
pub record IsOf (form : Form) (head : Head) (item : Item) (older : List Item) (shown : PlainShown) : Type 0 where
  pub second_is : shown.second ≡ is_second item
  pub given_is : shown.given ≡ is_given form (is_second item)
  pub number_is : shown.number ≡ (by_first item).number
  pub time_is : shown.time ≡ time_of head item.packet
  pub link_is : shown.link ≡ head.link
  pub octets_are : shown.octets ≡ item.packet.octets
  pub entry_is : shown.entry ≡ item.entry
  pub before_is : shown.before ≡ length (frames_of older)

-- what is shown of a line is what its item says
pub shown_is : (form : Form) (head : Head) (item : Item) (older : List Item) (shown : PlainShown) (gathered : Gathered) → IsOf form head item older shown
    → map changes.plain gathered.changes.items ≡ changes_in head.link (kinds_in item) item.packet.octets item.frames
    → line_of_shown shown gathered ≡ line_shown form head item older
shown_is form head item older shown gathered is gathers =
    λ i.
    record {
      number = is.number_is i;
      second = is.second_is i;
      own = (is.entry_is i).number;
      time = is.time_is i;
      flow = flow_at (is.link_is i) (is.octets_are i);
      ethertype = type_without (flow_at (is.link_is i) (is.octets_are i)) (is.link_is i) (is.octets_are i);
      length = length_at (is.link_is i) (is.octets_are i);
      entry = is.entry_is i;
      given = is.given_is i;
      before = is.before_is i;
      changes = gathers i;
    }

left_part : (a b : Bool) → (a && b) ≡ true → a ≡ true
left_part true b is = refl
left_part false b is = cc

right_part : (a b : Bool) → (a && b) ≡ true → b ≡ true
right_part true b is = is
right_part false b is = cc

-- whether a record is chosen with its newest line
shown_same : (asked : Asked) (head : Head) (item : Item) (older : List Item) (met : Meets)
    → (chooses_records asked ≡ true → met ≡ met_of asked head (item ∷ older))
    → is_last_of_chosen asked item.owed met ≡ ends_chosen asked head (item ∷ older)
shown_same asked head item older met same = by (chooses_records asked) same where
  by : (b : Bool) → (b ≡ true → met ≡ met_of asked head (item ∷ older))
      → ((item.owed == 0) && (b && meets_all met)) ≡ ((item.owed == 0) && (b && meets_all (met_of asked head (item ∷ older))))
  by true same = λ i. (item.owed == 0) && meets_all (same refl i)
  by false same = refl

-- one line more was noted; what is to be shown with it is due
pub record PrintsMore (printing : Printing) (asked : Asked) (form : Form) (head : Head) (item : Item) (older : List Item) : Type 0 where
  pub so : PrintsSo printing asked form head item.owed (item ∷ older)
  pub due : due_event printing ≡ newest_event asked form head (item ∷ older)

pub prints_more : (old new : Printing) (asked : Asked) (form : Form) (head : Head) (item : Item) (older : List Item) (met : Meets) (lines : List PlainLine)
    → old.records ≡ chosen_of asked head older → (chooses_records asked ≡ true → met ≡ met_of asked head (item ∷ older))
    → (chooses_records asked ≡ true → asked.summary ≡ false → meets_record met ≡ true → lines ≡ record_lines form head (item ∷ older))
    → NotesLine old new asked item.owed met lines → PrintsMore new asked form head item older
prints_more old new asked form head item older met lines counted mets are notes =
    let same = shown_same asked head item older met mets in
    record {
      so =
          record {
            count = notes.count ∙ (λ i. if same i then next_count (counted i) else counted i);
            lines =
                λ waiting prints.
                record {
                  met = notes.met_is prints ∙ mets prints;
                  lines = λ whole meets. let own = ap meets_record (mets prints) ∙ meets in notes.lines_are prints whole own waiting ∙ are prints whole own;
                };
          };
      due =
          notes.due_is ∙ by (is_last_of_chosen asked item.owed met) asked.summary refl refl
          ∙ ap (λ (b : Bool). if b && not asked.summary then of_record (record_lines form head (item ∷ older)) ∷ [] else []) same;
    } where
      by : (b summary : Bool) → is_last_of_chosen asked item.owed met ≡ b → asked.summary ≡ summary → (if b && not summary then of_record lines ∷ [] else [])
          ≡ (if b && not summary then of_record (record_lines form head (item ∷ older)) ∷ [] else [])
      by false summary is whole = refl
      by true true is whole = refl
      by true false is whole =
          let both = right_part (item.owed == 0) (chooses_records asked && meets_all met) is in
          let prints = left_part (chooses_records asked) (meets_all met) both in
          let all = right_part (chooses_records asked) (meets_all met) both in
          ap (λ ls. of_record ls ∷ []) (are prints whole (right_part (((met.rule && met.era) && met.verdict) && met.evidence) (meets_record met) all))

-- The end of a view: what was read and shown then.

-- what a source had left is what was taken to its end
pub all_taken : (a b : Option (List ℕ)) (bs : List ℕ) → Consumes a b bs → IsAtEnd b → IfSome a (λ xs. xs ≡ bs)
all_taken None b bs taken end = tt
all_taken (Some x) None bs taken end = absurd taken
all_taken (Some x) (Some y) bs taken end = taken ∙ ap (λ l. bs ++ l) end ∙ append-nil bs

-- the first line and what followed it
pub taken_behind : (a b : Option (List ℕ)) (first rest : List ℕ) → Consumes a b first → IfSome b (λ ys. ys ≡ rest)
    → IfSome a (λ xs. xs ≡ first ++ rest)
taken_behind None b first rest taken is = tt
taken_behind (Some x) None first rest taken is = absurd taken
taken_behind (Some x) (Some y) first rest taken is = taken ∙ ap (λ l. first ++ l) is

first_done : (owed firsts seconds frames : ℕ) → waits owed ≡ false → (turn_at owed firsts seconds frames).done ≡ firsts
first_done owed firsts seconds frames none = ap (λ (b : Bool). if b then seconds else firsts) none

pub none_waits : (owed : ℕ) → waits owed ≡ false → owed ≡ 0
none_waits zero none = refl
none_waits (suc n) none = cc

pub some_waits : (owed : ℕ) → (owed ≡ 0 → ⊥) → waits owed ≡ true
some_waits zero some = absurd (some refl)
some_waits (suc n) some = refl

-- the last line of the known report is that of the items
pub end_is : (viewer : Viewer) (head : Head) (before now : Ends) (items : List Item) → ViewerAt viewer head before now items
    → (turn_in viewer).second ≡ false
    → last_text (End (turn_in viewer).done (turn_in viewer).frames) ≡ end_text items
end_is viewer head before now items so_far first =
    let done = first_done viewer.owed viewer.files.count viewer.second_count viewer.files.frames.count first ∙ so_far.count in
    λ i. last_text (End (done i) (so_far.frame_count i))

-- the last line of the report was taken
pub took_last : (viewer : Viewer) (written : Head) (before now : Ends) (report left next : Option (List ℕ))
    → (ended : HasEnded viewer written before now report left next) → TookLast ended.going.items left next
took_last viewer written before now report left next ended =
    let so_far = ended.going.so_far in
    let T : List ℕ → Type 0 = λ text. Consumes left next text in
    record {
      none_owed = sym so_far.owed ∙ none_waits viewer.owed ended.told.first;
      taken = subst T (end_is viewer written before now ended.going.items so_far ended.told.first) ended.told.taken;
    }

-- and nothing follows it
pub is_over : (viewer : Viewer) (written : Head) (before now : Ends) (report left next : Option (List ℕ))
    → (ended : HasEnded viewer written before now report left next) → IsAtEnd next → IsOver ended.going.items left
is_over viewer written before now report left next ended end =
    let last = took_last viewer written before now report left next ended in
    record { none_owed = last.none_owed; is = all_taken left next _ last.taken end }

-- the whole run was viewed
pub whole_now : (viewer last : Viewer) (written : Head) (before now : Ends) (report left : Option (List ℕ)) (shown : Option (List Event)) (status : ℕ)
    → Closes viewer last → IsStatusOf last.asked.evidence last.printing.records status → Shows now.shown shown (count_shown last.asked last.printing.records) → (going : Going viewer written before now report left)
    → AreOver (sources_of before.read before.written report) viewer.files.head written going.items left
    → Whole viewer.asked viewer.form viewer.files.head written before shown report status
whole_now viewer last written before now report left shown status closes answered closed going over =
    let items = going.items in
    let so_far = going.so_far in
    let head = viewer.files.head in
    let records : last.printing.records ≡ chosen_of viewer.asked head items =
    ap (λ (p : Printing). p.records) closes.printing ∙ so_far.printing.count in
    let counted : count_shown last.asked last.printing.records ≡ count_shown viewer.asked (chosen_of viewer.asked head items) =
    λ i. count_shown (closes.asked i) (records i) in
    let P : List Event → Type 0 = λ events. Shows now.shown shown events in
    let A : Asked → Type 0 = λ a. IsStatusOf a.evidence last.printing.records status in
    let N : ℕ → Type 0 = λ n. IsStatusOf viewer.asked.evidence n status in
    record {
      items = items;
      left = left;
      are = so_far.are;
      lines = going.told;
      over = over;
      events =
          shows_more before.shown now.shown shown (records_shown viewer.asked viewer.form head items)
          (count_shown viewer.asked (chosen_of viewer.asked head items)) so_far.shown (subst P counted closed);
      status_is = subst N records (subst A closes.asked answered);
    }

-- the same where the view is that of other names
pub whole_at : {asked other : Asked} {form other_form : Form} {head other_head written : Head} {before : Ends} {shown : Option (List Event)}
    {report : Option (List ℕ)} {status : ℕ} → asked ≡ other → form ≡ other_form → head ≡ other_head
    → Whole asked form head written before shown report status → Whole other other_form other_head written before shown report status
whole_at {asked} {other} {form} {other_form} {head} {other_head} {written} {before} {shown} {report} {status} is_asked is_form is_head whole =
    let A : Asked → Type 0 = λ a. Whole a form head written before shown report status in
    let V : Form → Type 0 = λ f. Whole other f head written before shown report status in
    let H : Head → Type 0 = λ h. Whole other other_form h written before shown report status in
    subst H is_head (subst V is_form (subst A is_asked whole))

-- and its report is that of the items
pub viewed_as : (asked : Asked) (form : Form) (head written : Head) (read wrote : Option (List ℕ)) (shown : Option (List Event))
    (report behind : Option (List ℕ)) (now : Option (List Event)) (status : ℕ) → written.link ≡ head.link → Consumes report behind (heading form)
    → Whole asked form head written (ends_of read wrote shown) now behind status → ViewedAs asked read wrote report shown now status
viewed_as asked form head written read wrote shown report behind now status same first whole =
    let lines = lines_text (lines_of whole.items) in
    let end = end_text whole.items in
    let T : List ℕ → Type 0 = λ text. IfSome report (λ octets. octets ≡ text) in
    record {
      head = head;
      written = written;
      form = form;
      items = whole.items;
      link_is = same;
      are = whole.are;
      none_owed = whole.over.report.none_owed;
      records = whole.over.records;
      frames = whole.over.frames;
      lines =
          subst T (sym (append_assoc (heading form) lines end))
          (taken_behind report behind (heading form) (lines ++ end) first
          (taken_behind behind whole.left lines end whole.lines whole.over.report.is));
      events = whole.events;
      status_is = whole.status_is;
    }

-- The start of a view.

-- the first line was taken through lines of which none was read yet
pub first_taken : (fresh read kept : Lines) (report left : Option (List ℕ)) (text : List ℕ) → left_in fresh report ≡ report → kept ≡ read
    → Consumes (left_in fresh report) (left_in read left) text
    → Consumes report (left_in kept left) text
first_taken fresh read kept report left text none same taken =
    let R : Option (List ℕ) → Type 0 = λ r. Consumes r (left_in read left) text in
    let L : Lines → Type 0 = λ l. Consumes report (left_in l left) text in
    subst L (sym same) (subst R none taken)

-- nor is there a first line where it begins with none
pub first_at : (fresh : Lines) (report : Option (List ℕ)) → left_in fresh report ≡ report → IfSome (left_in fresh report) IsNoFirst → IfSome report IsNoFirst
first_at fresh report same none = subst (λ r. IfSome r IsNoFirst) same none

-- no record was read yet
pub fresh_so_far : (viewer : Viewer) (asked : Asked) (form : Form) (lines : Lines) (input : Input) (reader : Reading)
    (read read_left written written_left : Option (List ℕ)) (shown now : Option (List Event))
    → IsFresh viewer asked form lines input reader → InputOpened input read read_left → OutputAt reader reader.head written written_left []
    → now ≡ shown → ViewerAt viewer reader.head (ends_of read written shown) (ends_of read_left written_left now) []
fresh_so_far viewer asked form lines input reader read read_left written written_left shown now fresh opened at same =
    let H : Head → Type 0 = λ h. InputAt input h read read_left [] in
    let I : Input → Type 0 = λ i. InputAt i viewer.files.head read read_left [] in
    let R : Reading → Type 0 = λ r. OutputAt r reader.head written written_left [] in
    let S : Option (List Event) → Type 0 = λ s. ViewerAt viewer reader.head (ends_of read written shown) (ends_of read_left written_left s) [] in
    subst S (sym same)
    (record {
      are = tt;
      input = subst I (sym fresh.input_is) (subst H (sym fresh.head_is) opened.stands);
      output = subst R (sym fresh.reader_is) at;
      count = fresh.count;
      second_count = fresh.second_count;
      frame_count = fresh.frame_count;
      owed = fresh.owed;
      newest = tt;
      printing = record { count = fresh.records; lines = λ waiting. let e = sym waiting ∙ ap waits fresh.owed in cc };
      shown = shows_none shown;
    })

-- the whole run was viewed as the words ask
pub viewed_fresh : (viewer : Viewer) (asked : Asked) (form : Form) (lines : Lines) (input : Input) (reader : Reading)
    (read written report behind : Option (List ℕ)) (shown now : Option (List Event)) (status : ℕ)
    → IsFresh viewer asked form lines input reader → reader.head.link ≡ (head_in input).link → Consumes report behind (heading form)
    → Whole viewer.asked viewer.form viewer.files.head reader.head (ends_of read written shown) now behind status
    → ViewedAs asked read written report shown now status
viewed_fresh viewer asked form lines input reader read written report behind shown now status fresh same first whole =
    let A : Asked → Type 0 = λ a. Whole a viewer.form viewer.files.head reader.head (ends_of read written shown) now behind status in
    let V : Form → Type 0 = λ f. Whole asked f viewer.files.head reader.head (ends_of read written shown) now behind status in
    let L : Head → Type 0 = λ h. reader.head.link ≡ h.link in
    viewed_as asked form viewer.files.head reader.head read written shown report behind now status (subst L (sym fresh.head_is) same) first
    (subst V fresh.form_is (subst A fresh.asked_is whole))

has_head : (all left : Option (List ℕ)) (head : Head) (walk : Walk) → Took None all left head walk → IfSome all (λ octets. HasHead octets head)
has_head None left head walk took = tt
has_head (Some octets) None head walk took = absurd took
has_head (Some octets) (Some rest) head walk took = record { walk = walk; rest = rest; begins = took }

-- the output's link differs from that of the opened input
pub two_links : (input : Input) (link : Link) (read left output : Option (List ℕ)) → link ≡ (head_in input).link → InputOpened input read left
    → IsOfOtherLink link output → HaveTwoLinks read output
two_links input link read left output same opened other =
    let O : Link → Type 0 = λ l. IsOfOtherLink l output in
    record {
      head = head_in input;
      begins = has_head read left (head_in input) opened.stands.walk opened.stands.took;
      other = subst O same other;
    }

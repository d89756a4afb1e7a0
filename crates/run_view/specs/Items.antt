-- What the three files of a finished run have for each line of its report (this project's profile).
-- Lists have the newest at the head.
use Rattle.std.specs.Prelude.{◌≡◌, ◌⊎◌, ℕ, ◌+◌, ◌*◌, ◌==◌, ◌&&◌, not, nat_lt, Bool, true, false, List, [], ◌∷◌, ◌++◌, length, Option, Some, None, is_some, if◌then◌else◌}
use Rattle.std.specs.Str.{bytes_eq}
use Rattle.wire_base.specs.Frames.{ethertype}
use Rattle.wire_base.specs.declared.address.Link.{Link}
use Rattle.wire_base.specs.declared.address.Link.TheVariants.{Ethernet, Raw}
use Rattle.pcap_file.specs.declared.head.Head.{Head}
use Rattle.pcap_file.specs.Records.{Packet}
use Rattle.rule_book.specs.Entries.{PlainEntry}
use Rattle.rule_book.specs.ReportReading.{IsEntryOf}
use Rattle.rule_book.specs.Text.{entry_text, last_text}
use Rattle.rule_book.specs.declared.last.Last.TheVariants.{End}
use Rattle.frame_view.specs.Changes.{PlainChange, changes_of, made_of}
use Rattle.frame_view.specs.Flows.{flow_in, length_in}
use Rattle.frame_view.specs.declared.flow.Flow.{Flow}
use Rattle.run_view.specs.declared.form.Form.{Form}
use Rattle.run_view.specs.declared.judged.Kinds.{Kinds}
use Rattle.run_view.specs.Forms.{answers, is_both, own_frames, version_of}
use Rattle.run_view.specs.LineJudgments.{is_pass, kinds_of, made_at}

-- A line of the report: the record of the input that it is of, its entry, and the frames of the
-- output that it counts. Also the entry of the record by the first engine where the line is one of
-- the second, and how many lines of the second engine are still to come for the record.
pub record Item : Type 0 where
  pub packet : Packet
  pub entry : PlainEntry
  pub frames : List Packet
  pub first : Option PlainEntry
  pub owed : ℕ

-- the line is one of the second engine
abbrev pub is_second : Item → Bool
is_second item = is_some item.first

-- what the first engine said of the record
abbrev pub by_first : Item → PlainEntry
by_first item = elim item.first [ Some entry ↦ entry | None ↦ item.entry ]

-- the lines of the first engine, and those of the second
abbrev pub firsts : List Item → List Item
firsts [] = []
firsts (item ∷ older) = if is_second item then firsts older else item ∷ firsts older

abbrev pub seconds : List Item → List Item
seconds [] = []
seconds (item ∷ older) = if is_second item then item ∷ seconds older else seconds older

-- the records of lines
abbrev pub packets_in : List Item → List Packet
packets_in [] = []
packets_in (item ∷ older) = item.packet ∷ packets_in older

-- the records: each has one line of the first engine
abbrev pub packets_of : List Item → List Packet
packets_of items = packets_in (firsts items)

-- the frames of all lines
abbrev pub frames_of : List Item → List Packet
frames_of [] = []
frames_of (item ∷ older) = item.frames ++ frames_of older

-- how many lines of the second engine are still to come for the newest record
abbrev pub owed_of : List Item → ℕ
owed_of [] = 0
owed_of (item ∷ older) = item.owed

-- the text of an entry by an engine: of the second after `/` (47)
abbrev pub text_by : (second : Bool) → PlainEntry → List ℕ
text_by false entry = entry_text entry
text_by true entry = 47 ∷ entry_text entry

-- a line as the report has it: the engine and its entry
pub record Line : Type 0 where
  pub second : Bool
  pub entry : PlainEntry

abbrev pub line_by : (second : Bool) → PlainEntry → Line
line_by second entry = record { second = second; entry = entry }

abbrev pub line_of : Item → Line
line_of item = line_by (is_second item) item.entry

abbrev pub lines_of : List Item → List Line
lines_of [] = []
lines_of (item ∷ older) = line_of item ∷ lines_of older

-- their text, the oldest first
abbrev pub lines_text : List Line → List ℕ
lines_text [] = []
lines_text (line ∷ older) = lines_text older ++ text_by line.second line.entry

-- the line is of the same record as the newest of these
abbrev pub IsOfNewest : List Item → Item → Type 0
IsOfNewest [] item = ⊥
IsOfNewest (newest ∷ older) item = (item.packet ≡ newest.packet) × (item.first ≡ Some (by_first newest))

-- the engines that judged the frames of the line passed the record: the first alone, or, where a
-- second judged what the first wrote, both
abbrev pub is_passed : (both : Bool) → PlainEntry → (first : Option PlainEntry) → Bool
is_passed both entry None = not both && is_pass entry.verdict
is_passed both entry (Some first) = is_pass first.verdict && is_pass entry.verdict

-- the frame has these octets, and is of this time
abbrev pub is_copy : (octets : List ℕ) → (seconds fraction : ℕ) → (frame : Packet) → Bool
is_copy octets seconds fraction frame = bytes_eq octets frame.octets && (frame.seconds == seconds) && (frame.fraction == fraction)

-- there is exactly one frame, and it is such a copy
abbrev pub is_only_copy : (octets : List ℕ) → (seconds fraction : ℕ) → (frames : List Packet) → Bool
is_only_copy octets seconds fraction [] = false
is_only_copy octets seconds fraction (frame ∷ []) = is_copy octets seconds fraction frame
is_only_copy octets seconds fraction (frame ∷ other ∷ older) = false

-- one frame was written for the record, with its octets and its time
abbrev pub is_unchanged : Item → Bool
is_unchanged item = is_only_copy item.packet.octets item.packet.seconds item.packet.fraction item.frames

-- a line of the first engine: no line of the second is to come before it, and it has the next
-- number
pub record IsFirstLine (form : Form) (older : List Item) (item : Item) : Type 0 where
  pub none_owed : owed_of older ≡ 0
  pub alone : item.first ≡ None
  pub number : item.entry.number ≡ length (firsts older) + 1
  pub frames : length item.frames ≡ own_frames form item.entry.packets
  pub owes : item.owed ≡ answers form item.entry.packets

-- a line of the second engine: it is one of those that are to come for the newest record, and has
-- the next number
pub record IsSecondLine (older : List Item) (item : Item) : Type 0 where
  pub owes : owed_of older ≡ item.owed + 1
  pub newest : IsOfNewest older item
  pub number : item.entry.number ≡ length (seconds older) + 1
  pub frames : length item.frames ≡ item.entry.packets

-- The line follows these: its entry is one of a report of this form, and it is the next of its
-- engine. A record that was passed was written as it is.
pub record ComesBehind (form : Form) (older : List Item) (item : Item) : Type 0 where
  pub fits : IsEntryOf (version_of form) item.entry
  pub turn : IsFirstLine form older item ⊎ IsSecondLine older item
  pub unchanged : is_passed (is_both form) item.entry item.first ≡ true → is_unchanged item ≡ true

-- each line follows those before it
abbrev pub AreItems : (form : Form) → List Item → Type 0
AreItems form [] = Unit {0}
AreItems form (item ∷ older) = ComesBehind form older item × AreItems form older

-- the last line of the report of a run with these lines
abbrev pub end_text : List Item → List ℕ
end_text items = last_text (End (length (firsts items)) (length (frames_of items)))

-- a time in nanoseconds since 1970: the fraction counts nanoseconds or microseconds, as the head
-- says, and may reach into the seconds
abbrev pub nanoseconds : Head → (seconds fraction : ℕ) → ℕ
nanoseconds head seconds fraction = seconds * 1000000000 + fraction * (if head.nano then 1 else 1000)

abbrev pub time_of : Head → Packet → ℕ
time_of head packet = nanoseconds head packet.seconds packet.fraction

-- what the headers of a record or frame say, where an IPv4 header can be read
unfoldable pub flow_at : Link → (octets : List ℕ) → Option Flow
flow_at link octets = flow_in link octets

-- the type field of the link header, where that is present
abbrev pub type_in : Link → (octets : List ℕ) → Option ℕ
type_in Raw octets = None
type_in Ethernet octets = if nat_lt (length octets) 14 then None else Some (ethertype octets)

-- the same where no IPv4 header can be read
abbrev pub type_without : Option Flow → Link → (octets : List ℕ) → Option ℕ
type_without (Some flow) link octets = None
type_without None link octets = type_in link octets

-- how many octets its payload has
unfoldable pub length_at : Link → (octets : List ℕ) → ℕ
length_at link octets = length_in link octets

-- what differs between a record and the frame of this number; or what the frame is, where norm made
-- it itself
unfoldable pub changes_at : Link → Kinds → (number : ℕ) → (octets frame : List ℕ) → List PlainChange
changes_at link kinds number octets frame =
    elim (made_at kinds number) [ Some kind ↦ made_of link number frame kind ∷ [] | None ↦ changes_of link number octets frame ]

-- the same of all frames of a line, numbered from 1
abbrev pub changes_in : Link → Kinds → (octets : List ℕ) → (frames : List Packet) → List PlainChange
changes_in link kinds octets [] = []
changes_in link kinds octets (frame ∷ older) = changes_in link kinds octets older ++ changes_at link kinds (length older + 1) octets frame.octets

-- which frames of a line norm made itself
abbrev pub kinds_in : Item → Kinds
kinds_in item = kinds_of item.entry item.first item.owed

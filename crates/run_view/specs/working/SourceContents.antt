-- What three sources give after the first line of the report (this project's profile). Lists of
-- items, records and frames have the newest at the head. A source that is None has no known octets.
use Rattle.std.specs.Prelude.{◌≡◌, ℕ, ◌+◌, List, ◌∷◌, drop, Option, Some, None, Ok, IfSome}
use Rattle.std.specs.Io.KnownBytes.{Consumes}
use Rattle.pcap_file.specs.declared.head.Head.{Head}
use Rattle.pcap_file.specs.FileHead.{head_of}
use Rattle.pcap_file.specs.Records.{Packet}
use Rattle.pcap_file.specs.Capture.{IsCapture, ReadsTo}
use Rattle.capture_input.specs.Inputs.{TookAll}
use Rattle.rule_book.specs.Entries.{PlainEntry}
use Rattle.rule_book.specs.ReportReading.{IsEntryOf}
use Rattle.run_view.specs.Forms.{version_of}
use Rattle.run_view.specs.Items.{Item, end_text, frames_of, owed_of, packets_of, text_by}
use Rattle.run_view.specs.working.LinePositions.{turn_of}
use Rattle.run_view.specs.RunFiles.{Sources}
use Rattle.run_view.specs.declared.form.Form.{Form}
use Rattle.run_view.specs.declared.turn.Turn.{Turn}

-- Where the octets of a source are known, they begin with this head and these frames, and the rest
-- is left.
abbrev pub TookFrames : (all left : Option (List ℕ)) → Head → List Packet → Type 0
TookFrames None left head frames = Unit {0}
TookFrames (Some octets) None head frames = ⊥
TookFrames (Some octets) (Some rest) head frames = (head_of octets ≡ Ok head) × ReadsTo head.order (drop 24 octets) frames rest

-- there is an octet
pub record IsSomeOctet (octets : List ℕ) : Type 0 where
  pub octet : ℕ
  pub rest : List ℕ
  pub is : octets ≡ octet ∷ rest

-- the next line of the report was taken, and is that of the next entry of its engine
pub record ToldNext (version : ℕ) (turn : Turn) (report left : Option (List ℕ)) (entry : PlainEntry) : Type 0 where
  pub taken : Consumes report left (text_by turn.second entry)
  pub fits : IsEntryOf version entry
  pub number : entry.number ≡ turn.done + 1

-- the report has the line of one more entry
pub record HasNextLine (form : Form) (items : List Item) (left : Option (List ℕ)) (entry : PlainEntry) : Type 0 where
  pub behind : Option (List ℕ)
  pub told : ToldNext (version_of form) (turn_of items) left behind entry

-- the report has the last line of a run of these items, none of which is missing, and nothing after
-- it
pub record IsOver (items : List Item) (left : Option (List ℕ)) : Type 0 where
  pub none_owed : owed_of items ≡ 0
  pub is : IfSome left (λ octets. octets ≡ end_text items)

-- the three sources are over after these items
pub record AreOver (s : Sources) (head written : Head) (items : List Item) (left : Option (List ℕ)) : Type 0 where
  pub report : IsOver items left
  pub records : TookAll None s.input head (packets_of items)
  pub frames : IfSome s.output (λ octets. IsCapture octets written (frames_of items))

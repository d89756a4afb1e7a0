-- The files of a finished run, and what three sources have of them (this project's profile). Lists
-- of items have the newest at the head. A source that is None has no known octets; nothing is
-- claimed of it.
use Rattle.std.specs.Prelude.{◌≡◌, ◌≢◌, ◌⊎◌, ℕ, List, ◌++◌, Option, Some, None, Ok, IfSome}
use Rattle.edge_io.specs.FaultCounts.{Rose}
use Rattle.edge_io.specs.SeenEnds.{Seen, seen_of}
use Rattle.wire_base.specs.declared.address.Link.{Link}
use Rattle.pcap_file.specs.declared.head.Head.{Head}
use Rattle.pcap_file.specs.FileHead.{head_of}
use Rattle.pcap_file.specs.Records.{Packet}
use Rattle.pcap_file.specs.Capture.{IsCapture}
use Rattle.capture_input.specs.Inputs.{BeginsWith, IsInput, Walk}
use Rattle.run_view.specs.declared.form.Form.{Form}
use Rattle.run_view.specs.Forms.{heading}
use Rattle.run_view.specs.Items.{AreItems, Item, end_text, frames_of, lines_of, lines_text, owed_of, packets_of}

-- the octets of the three sources, where they are known
pub record Sources : Type 0 where
  pub input : Option (List ℕ)
  pub output : Option (List ℕ)
  pub report : Option (List ℕ)

abbrev pub sources_of : (input output report : Option (List ℕ)) → Sources
sources_of input output report = record { input = input; output = output; report = report }

-- how often the three sources and the output have failed
pub record FaultCounts : Type 0 where
  pub input : ℕ
  pub output : ℕ
  pub report : ℕ
  pub out : ℕ

abbrev pub counts_of : (input output report out : ℕ) → FaultCounts
counts_of input output report out = record { input = input; output = output; report = report; out = out }

-- the three sources, and the count of faults of the output, at a moment
pub record Moment : Type 0 where
  pub input : Seen
  pub output : Seen
  pub report : Seen
  pub out : ℕ

-- the same, of these octets and counts
abbrev pub moment_of : (input : Option (List ℕ)) (input_faults : ℕ) (output : Option (List ℕ)) (output_faults : ℕ)
    (report : Option (List ℕ)) (report_faults : ℕ) (out_faults : ℕ) → Moment
moment_of input input_faults output output_faults report report_faults out_faults =
    record { input = seen_of input input_faults; output = seen_of output output_faults; report = seen_of report report_faults; out = out_faults }

-- how often the four have failed
abbrev pub faults_of : Moment → FaultCounts
faults_of moment = counts_of moment.input.faults moment.output.faults moment.report.faults moment.out

-- the octets of the three sources
abbrev pub sources_at : Moment → Sources
sources_at moment = sources_of moment.input.octets moment.output.octets moment.report.octets

-- one of the three sources failed: its count of faults rose, or is at its last value, as wherever
-- it is said that a source or the output failed
abbrev pub SourceRose : (before now : FaultCounts) → Type 0
SourceRose before now = Rose before.input now.input ⊎ Rose before.output now.output ⊎ Rose before.report now.report

-- the octets begin with this head
pub record HasHead (octets : List ℕ) (head : Head) : Type 0 where
  pub walk : Walk
  pub rest : List ℕ
  pub begins : BeginsWith None octets head walk rest

-- the text of the report of this form of a finished run with these items
abbrev pub report_of : (form : Form) → (items : List Item) → List ℕ
report_of form items = heading form ++ lines_text (lines_of items) ++ end_text items

-- the three files are those of a finished run: a capture, another of the same link, and the report,
-- of the same items
pub record AreOfARun (input output report : List ℕ) : Type 0 where
  pub head : Head
  pub written : Head
  pub form : Form
  pub items : List Item
  pub link_is : (own : Head) → HasHead input own → written.link ≡ own.link
  pub are : AreItems form items
  pub none_owed : owed_of items ≡ 0
  pub records : IsInput None input head (packets_of items)
  pub frames : IsCapture output written (frames_of items)
  pub lines : report ≡ report_of form items

-- the three sources, where all octets are known, are not those of a finished run
abbrev pub AreNoRun : Sources → Type 0
AreNoRun s = (input output report : List ℕ) → s ≡ sources_of (Some input) (Some output) (Some report) → AreOfARun input output report → ⊥

-- the input, where its octets are known, is no capture
abbrev pub IsNoInput : (input : Option (List ℕ)) → Type 0
IsNoInput input = IfSome input (λ octets. (head : Head) (packets : List Packet) → IsInput None octets head packets → ⊥)

-- nor is the output
abbrev pub IsNoCapture : (output : Option (List ℕ)) → Type 0
IsNoCapture output = IfSome output (λ octets. (head : Head) (frames : List Packet) → IsCapture octets head frames → ⊥)

-- the output, where it is known, has a head whose link is not this one
pub record IsOfOtherLink (link : Link) (output : Option (List ℕ)) : Type 0 where
  pub head : Head
  pub accepted : IfSome output (λ octets. head_of octets ≡ Ok head)
  pub other : head.link ≢ link

-- the heads of input and output, where they are known, have two links
pub record HaveTwoLinks (input output : Option (List ℕ)) : Type 0 where
  pub head : Head
  pub begins : IfSome input (λ octets. HasHead octets head)
  pub other : IsOfOtherLink head.link output

-- the output is no capture, or its link differs from the input's
abbrev pub IsNoOutput : Sources → Type 0
IsNoOutput s = IsNoCapture s.output ⊎ HaveTwoLinks s.input s.output

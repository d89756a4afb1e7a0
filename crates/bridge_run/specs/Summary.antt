-- The report of a load: the summary of the one lawful trace of its records (this project's
-- profile). A trace is a list with the newest item at the head.
use Rattle.std.specs.Prelude.{◌≡◌, ℕ, ◌+◌, ◌==◌, ◌⊎◌, not, Bool, List, [], ◌∷◌, ◌++◌, length, map, filter, reverse, Option, Ok, if◌then◌else◌}
use Rattle.std.specs.List.{flat_map, count_by}
use Rattle.std.specs.Option.{is_some}
use Rattle.std.specs.Io.KnownBytes.{Appends}
use Rattle.edge_io.specs.FaultCounts.{Rose}
use Rattle.edge_io.specs.KnownOctets.{AppendsPart}
use Rattle.wire_base.specs.declared.address.Link.TheVariants.{Raw}
use Rattle.rule_book.specs.declared.rule.Rule.{Rule}
use Rattle.rule_book.specs.declared.load.LoadLine.{LoadLine}
use Rattle.rule_book.specs.declared.load.LoadLine.TheVariants as lines
use Rattle.rule_book.specs.Rules.{rule_number}
use Rattle.rule_book.specs.Entries.{PlainEntry}
use Rattle.rule_book.specs.LoadText.{load_text}
use Rattle.norm_settings.specs.SettingValues.{PlainSettings, standard}
use Rattle.norm_settings.specs.AskedCommand.{asked, load}
use Rattle.norm_engine.specs.Items.{Item, packets, frame_count}
use Rattle.norm_engine.specs.Trace.{Lawful}
use Rattle.load_make.specs.LoadRecords.{Generated}
use Rattle.edge_io.specs.SeenEnds.{Seen}
use Rattle.bridge_run.specs.declared.tally.RuleCount.{RuleCount}
use Rattle.bridge_run.specs.StopReasons.{Told, memory_line}

-- the settings of a load: the standard ones, with 10.0.0.0/8 as trusted prefix
abbrev pub load_settings : PlainSettings
load_settings = standard (record { addr = record { 0 = 167772160 }; len = 8 } ∷ [])

-- 1 if an entry began an era
abbrev pub eras_of : PlainEntry → ℕ
eras_of entry = if is_some entry.begun then 1 else 0

-- the number of eras that began
abbrev pub eras_begun : List Item → ℕ
eras_begun [] = 0
eras_begun (item ∷ older) = eras_begun older + eras_of item.entry

-- the rules that the entries name, notes among them, in the order in which they are named
abbrev pub rules_named : List Item → List Rule
rules_named [] = []
rules_named (item ∷ older) = rules_named older ++ item.entry.rules

-- two rules are the same
abbrev pub is_same : Rule → Rule → Bool
is_same first second = rule_number first == rule_number second

-- each rule of a list once, in the order of first use
abbrev pub first_uses : List Rule → List Rule
first_uses [] = []
first_uses (rule ∷ rules) = rule ∷ filter (λ later. not (is_same rule later)) (first_uses rules)

-- how often each rule occurs in a list, in the order of first use
abbrev pub rule_counts : List Rule → List RuleCount
rule_counts rules = map (λ rule. record { rule = rule; count = count_by (is_same rule) rules }) (first_uses rules)

-- the line of a rule
abbrev pub rule_line : RuleCount → LoadLine
rule_line row = lines.Rule row.rule row.count

-- the lines of the summary of a trace: the parameters of the load, the records, the frames written,
-- the eras that began, each rule that was named, and the end
abbrev pub summary_lines : (seed count : ℕ) → List Item → List LoadLine
summary_lines seed count trace =
    lines.Load seed count ∷ lines.Records (length trace) ∷ lines.Packets (frame_count trace) ∷ lines.Eras (eras_begun trace)
    ∷ (map rule_line (rule_counts (rules_named trace)) ++ lines.End ∷ [])

abbrev pub summary_text : (seed count : ℕ) → List Item → List ℕ
summary_text seed count trace = flat_map load_text (summary_lines seed count trace)

-- The trace of a load: it has exactly the load's records, and is lawful under the settings of a
-- load.
pub record IsTraceOf (seed count : ℕ) (trace : List Item) : Type 0 where
  pub lawful : Lawful load_settings Raw trace
  pub records : packets trace ≡ reverse (Generated seed count)

-- The report was given the summary of the load's trace.
pub record Summed (seed count : ℕ) (report report' : Option (List ℕ)) : Type 0 where
  pub trace : List Item
  pub of_load : IsTraceOf seed count trace
  pub written : Appends report report' (summary_text seed count trace)

-- The report was given a prefix of that summary, which may be all of it.
pub record SummedInPart (seed count : ℕ) (report report' : Option (List ℕ)) : Type 0 where
  pub trace : List Item
  pub of_load : IsTraceOf seed count trace
  pub written : AppendsPart report report' (summary_text seed count trace)

-- What a load that returns this status leaves in the report. At 0: the summary, and no fault. At 7:
-- a prefix of it, and a fault. At 8: only the line that reports that memory could not be allocated.
abbrev pub LoadLeaves : (seed count status : ℕ) → (before now : Seen) → Type 0
LoadLeaves seed count status before now =
    ((status ≡ 0) × Summed seed count before.octets now.octets × (now.faults ≡ before.faults))
    ⊎ (((status ≡ 7) × SummedInPart seed count before.octets now.octets × Rose before.faults now.faults)
    ⊎ ((status ≡ 8) × Told before.octets now.octets before.faults now.faults memory_line))

-- the words request a load of `count` records from this seed
abbrev pub AsksLoad : List (List ℕ) → (seed count : ℕ) → Type 0
AsksLoad words seed count = asked words ≡ Ok (load seed count)

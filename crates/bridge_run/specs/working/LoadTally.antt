-- The tally of a load, and the lines that it gives.
use Rattle.std.specs.Prelude.{◌≡◌, ℕ, ◌*◌, ◌≤◌, List, [], ◌∷◌, ◌++◌, length, map}
use Rattle.rule_book.specs.declared.load.LoadLine.{LoadLine}
use Rattle.rule_book.specs.declared.load.LoadLine.TheVariants as lines
use Rattle.norm_engine.specs.Items.{Item, frame_count}
use Rattle.bridge_run.specs.declared.tally.Tally.{Tally}
use Rattle.bridge_run.specs.Summary.{eras_begun, rules_named, rule_counts, rule_line, summary_lines, IsTraceOf}

-- The tally counts a trace: an item has at most two frames, and names at most 16 rules.
pub record Counts (tally : Tally) (trace : List Item) : Type 0 where
  pub packets : tally.packets ≡ frame_count trace
  pub eras : tally.eras ≡ eras_begun trace
  pub rules : tally.rules.items ≡ rule_counts (rules_named trace)
  pub few_packets : frame_count trace ≤ 2 * length trace
  pub few_eras : eras_begun trace ≤ length trace
  pub few_rules : length (rules_named trace) ≤ 16 * length trace

-- All records were made and judged, and the tally counts them.
pub record IsTallied (seed count records : ℕ) (tally : Tally) : Type 0 where
  pub trace : List Item
  pub of_load : IsTraceOf seed count trace
  pub records_are : records ≡ length trace
  pub counts : Counts tally trace

-- the lines of the tally's counts
abbrev pub lines_of : (seed count records : ℕ) → Tally → List LoadLine
lines_of seed count records tally =
    lines.Load seed count ∷ lines.Records records ∷ lines.Packets tally.packets ∷ lines.Eras tally.eras ∷ (map rule_line tally.rules.items ++ lines.End ∷ [])

-- The lines are the summary of the load's trace.
pub record SumsUp (seed count : ℕ) (lines : List LoadLine) : Type 0 where
  pub trace : List Item
  pub of_load : IsTraceOf seed count trace
  pub are : lines ≡ summary_lines seed count trace

-- What is shown of a line of the report, over plain values.
use Rattle.std.specs.Prelude.{ℕ, Bool, List, Option, map}
use Rattle.rule_book.specs.Entries.{PlainEntry}
use Rattle.rule_book.specs.Entries as entries
use Rattle.frame_view.specs.Changes.{PlainChange}
use Rattle.frame_view.specs.Changes as changes
use Rattle.frame_view.specs.declared.flow.Flow.{Flow}
use Rattle.view_text.specs.declared.view.ShownLine.{ShownLine}

-- A line of the report with its record. `own` is the number of the line, and `time` is in
-- nanoseconds since the beginning of 1970. The entry has side, verdict, rules, and the eras that
-- the line belongs to, began and ended. Its frames are given to a second engine, or are in OUT
-- after `before` others; `changes` is what differs between the record and them.
pub record PlainLine : Type 0 where
  pub number : ℕ
  pub second : Bool
  pub own : ℕ
  pub time : ℕ
  pub flow : Option Flow
  pub ethertype : Option ℕ
  pub length : ℕ
  pub entry : PlainEntry
  pub given : Bool
  pub before : ℕ
  pub changes : List PlainChange

abbrev pub plain_line : ShownLine → PlainLine
plain_line line =
    record {
      number = line.number;
      second = line.second;
      own = line.own;
      time = line.time;
      flow = line.flow;
      ethertype = line.ethertype;
      length = line.length;
      entry = entries.plain line.entry;
      given = line.given;
      before = line.before;
      changes = map changes.plain line.changes.items;
    }

use Rattle.std.proofs.Common.{◌≡◌, ◌+◌, [], ◌∷◌, ◌++◌, length, map, inr, ap, ◌∙◌, arith, rules, length-append}
use Rattle.std.proofs.lemmas.List.{length-map, map-append}
use Rattle.rule_book.proofs.Lines.{has_line}
use Rattle.rule_book.proofs.Entries.{is_full}
use Rattle.rule_book.proofs.Reports.{read_at, read_next}
use Rattle.rule_book.specs.Entries.{plain}
use Rattle.rule_book.specs.ReportReading.{IsEntryOf, LastFits, lines}
use Rattle.rule_book.specs.Text.{entry_text, first_line, last_text}
use Rattle.rule_book.proofs.report.read_lines.Goals as goal

pub returns-else-is_empty-clause-err : goal.returns-else-is_empty-clause-err
returns-else-is_empty-clause-err c =
    let behind = has_line c.in_ok-text.behind.now (is_full (length c.in_ok-text.behind.now) c.is_empty.result c.is_empty.ensures c.if-is_empty.false) in
    let front : lines c.loop-entries.rest.now ≡ c.in_ok-text.text.now ∷ lines c.in_ok-text.behind.now = search rules in
    let fits : LastFits c.in-Some.last = search rules in
    let text : c.in_ok-text.text.now ≡ last_text c.in-Some.last = search rules in
    inr (inr (record {
      version = c.args.version;
      entries = map plain c.loop-entries.entries.items;
      last = c.in-Some.last;
      fits = fits;
      text = behind.text;
      others = behind.others;
      read = read_at (front ∙ (λ i. text i ∷ behind.is i)) c.loop-entries.invariant.read;
      place = omega (arith, length-map c.loop-entries.entries.items plain);
    }))

pub loop-entries-preserved : goal.loop-entries-preserved
loop-entries-preserved c =
    let entries = c.loop-entries.entries.items in
    let entry = c.in_ok-entry.entry in
    let front : lines c.loop-entries.rest.now ≡ c.in_ok-text.text.now ∷ lines c.in_ok-text.behind.now = search rules in
    let fits : IsEntryOf c.args.version (plain entry) = search rules in
    let text : c.in_ok-text.text.now ≡ entry_text (plain entry) = search rules in
    let number : entry.number + 1 ≡ c.loop-entries.line = omega arith in
    let more : map plain c.push.new.self.items ≡ map plain entries ++ plain entry ∷ [] = ap (map plain) c.in_ok-push.ensures.items ∙ map-append plain entries (entry ∷ []) in
    record {
      read = read_next c.args.version (first_line c.args.version ∷ lines c.args.text.now) (map plain entries) (plain entry) (map plain c.push.new.self.items) (lines c.loop-entries.rest.now) c.in_ok-text.text.now (lines c.in_ok-text.behind.now) c.loop-entries.line
          c.loop-entries.invariant.read front fits text (omega (arith, length-map entries plain)) number more;
      place = omega (arith, length-append entries (entry ∷ []), ap length c.in_ok-push.ensures.items);
    }

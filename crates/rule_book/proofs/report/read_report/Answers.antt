use Rattle.std.proofs.Common.{◌≡◌, ◌∷◌, rules}
use Rattle.rule_book.proofs.Reports.{Tells, tells_fault, tells_ok, tells_text, text_first}
use Rattle.rule_book.specs.ReportReading.{IsVersion, lines}
use Rattle.rule_book.specs.Text.{first_line}
use Rattle.rule_book.proofs.report.read_report.Goals as goal

pub returns-in_err-version-clause-read : goal.returns-in_err-version-clause-read
returns-in_err-version-clause-read c report is text = absurd (text_first c.args.bytes.now (search rules) report is text)

pub returns-clause-ok : goal.returns-clause-ok
returns-clause-ok c =
    let version = c.in_ok-version.version in
    let others = lines c.in_ok-version.rest.now in
    let first : lines c.args.bytes.now ≡ first_line version ∷ others = search rules in
    let told : Tells (first_line version ∷ others) c.read_lines.result = search rules in
    tells_ok c.args.bytes.now version others c.read_lines.result first told

pub returns-clause-read : goal.returns-clause-read
returns-clause-read c =
    let version = c.in_ok-version.version in
    let others = lines c.in_ok-version.rest.now in
    let known : IsVersion version = search rules in
    let first : lines c.args.bytes.now ≡ first_line version ∷ others = search rules in
    let told : Tells (first_line version ∷ others) c.read_lines.result = search rules in
    tells_text c.args.bytes.now version others c.read_lines.result known first told

pub returns-clause-fault : goal.returns-clause-fault
returns-clause-fault c =
    let version = c.in_ok-version.version in
    let others = lines c.in_ok-version.rest.now in
    let known : IsVersion version = search rules in
    let first : lines c.args.bytes.now ≡ first_line version ∷ others = search rules in
    let told : Tells (first_line version ∷ others) c.read_lines.result = search rules in
    tells_fault c.args.bytes.now version others c.read_lines.result known first told

use Rattle.rule_book.proofs.Reports.{text_one}
use Rattle.rule_book.proofs.Unique.{entry_one, last_one}
use Rattle.rule_book.proofs.laws.texts_name_reports.Goals as goal

pub returns-clause-reports : goal.returns-clause-reports
returns-clause-reports c = text_one

pub returns-clause-entries : goal.returns-clause-entries
returns-clause-entries c = entry_one

pub returns-clause-lasts : goal.returns-clause-lasts
returns-clause-lasts c = last_one

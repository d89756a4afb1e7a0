-- The first rule on the header of a TCP segment that holds (this project's profile).
use Rattle.std.specs.Prelude.{Option, find}
use Rattle.rule_book.specs.declared.rule.Rule.{Rule}
use Rattle.rule_book.specs.Rules.{segment_rows}
use Rattle.norm_settings.specs.SettingValues.{PlainSettings}
use Rattle.ip_rules.specs.Datagrams.{Datagram}
use Rattle.norm_engine.specs.RuleRows.{holds_header}

-- the first rule on the header of a segment that holds
abbrev pub segment_row : PlainSettings → Datagram → Option Rule
segment_row settings d = find (holds_header settings d) segment_rows

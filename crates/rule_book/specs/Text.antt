-- The text of the report (this project's profile): a first line, a line for each entry and a last
-- line, each with a line feed (10) at its end.
use Rattle.std.specs.Prelude.{ℕ, ◌+◌, List, [], ◌∷◌, ◌++◌, Option, Some, None, codes, decimal}
use Rattle.std.specs.List.{flat_map}
use Rattle.rule_book.specs.Entries.{PlainEntry}
use Rattle.rule_book.specs.Rules.{rule_name}
use Rattle.rule_book.specs.declared.entry.Ended.{Ended}
use Rattle.rule_book.specs.declared.entry.Reason.{Reason}
use Rattle.rule_book.specs.declared.entry.Reason.TheVariants.{Reset, Evicted, Idle, Reopened}
use Rattle.rule_book.specs.declared.entry.Verdict.{Verdict}
use Rattle.rule_book.specs.declared.entry.Verdict.TheVariants.{Pass, Fix, Hold, Drop}
use Rattle.rule_book.specs.declared.last.Last.{Last}
use Rattle.rule_book.specs.declared.last.Last.TheVariants.{End, Stop}
use Rattle.rule_book.specs.declared.last.StopKind.{StopKind}
use Rattle.rule_book.specs.declared.last.StopKind.TheVariants.{Magic, Version, Link, Block, Long, Many, Cut, ReadFault, Capture, Memory}
use Rattle.rule_book.specs.declared.rule.Rule.{Rule}
use Rattle.wire_base.specs.declared.address.Side.{Side}
use Rattle.wire_base.specs.declared.address.Side.TheVariants.{Inward, Outward}

-- the word for a side
abbrev pub side_word : Option Side → List ℕ
side_word (Some Inward) = codes "in"
side_word (Some Outward) = codes "out"
side_word None = codes "-"

-- the word for a verdict
abbrev pub verdict_word : Verdict → List ℕ
verdict_word Pass = codes "pass"
verdict_word Fix = codes "fix"
verdict_word Hold = codes "hold"
verdict_word Drop = codes "drop"

-- the word for the reason why an era ended
abbrev pub reason_word : Reason → List ℕ
reason_word Reset = codes "reset"
reason_word Evicted = codes "evicted"
reason_word Idle = codes "idle"
reason_word Reopened = codes "reopened"

-- a part of a line, with one space (32) before it
abbrev pub part : List ℕ → List ℕ
part text = 32 ∷ text

-- the text of the names of rules
abbrev pub rule_parts : List Rule → List ℕ
rule_parts rules = flat_map (λ rule. part (rule_name rule)) rules

-- a mark, `@` (64) or `+` (43), and the number of an era; nothing if there is no era
abbrev pub era_part : ℕ → Option ℕ → List ℕ
era_part mark None = []
era_part mark (Some era) = part (mark ∷ decimal era)

-- `:` (58) and the octets of an ended era, if it has them
abbrev pub octets_part : Option ℕ → List ℕ
octets_part None = []
octets_part (Some octets) = 58 ∷ decimal octets

-- the word of an ended era: its number, `:` and the reason, and its octets
abbrev pub ended_word : Ended → List ℕ
ended_word ended = decimal ended.era ++ 58 ∷ (reason_word ended.reason ++ octets_part ended.octets)

-- this word after its mark, `-` (45)
abbrev pub ended_part : Ended → List ℕ
ended_part ended = part (45 ∷ ended_word ended)

-- the line of an entry, in each version, since the octets of an ended era are written exactly if it
-- has them
abbrev pub entry_text : PlainEntry → List ℕ
entry_text entry =
    decimal entry.number ++ part (side_word entry.side) ++ part (verdict_word entry.verdict) ++ part (decimal entry.packets)
    ++ rule_parts entry.rules ++ era_part 64 entry.era ++ era_part 43 entry.begun ++ flat_map ended_part entry.ended ++ 10 ∷ []

-- the word for the reason why a run stopped
abbrev pub stop_word : StopKind → List ℕ
stop_word Magic = codes "magic"
stop_word Version = codes "version"
stop_word Link = codes "link"
stop_word Block = codes "block"
stop_word Long = codes "long"
stop_word Many = codes "many"
stop_word Cut = codes "cut"
stop_word ReadFault = codes "read"
stop_word Capture = codes "capture"
stop_word Memory = codes "memory"

-- the text of a last line
abbrev pub last_text : Last → List ℕ
last_text (End records packets) = codes "end" ++ part (decimal records) ++ part (decimal packets) ++ 10 ∷ []
last_text (Stop kind offset) = codes "stop" ++ part (stop_word kind) ++ part (decimal offset) ++ 10 ∷ []

-- the first line of a version, which ends with the digit of the version; `0` is 48
abbrev pub first_line : (version : ℕ) → List ℕ
first_line version = codes "norm " ++ (48 + version) ∷ 10 ∷ []

-- the text of the lines of entries; the newest entry is first in the list and last in the text
abbrev pub lines_text : List PlainEntry → List ℕ
lines_text [] = []
lines_text (entry ∷ older) = lines_text older ++ entry_text entry

-- the text of a report of a version
abbrev pub report_text : (version : ℕ) → List PlainEntry → Last → List ℕ
report_text version entries last = first_line version ++ lines_text entries ++ last_text last

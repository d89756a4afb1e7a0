-- What a line of the report says of the record and of its frames (this project's profile).
use Rattle.std.specs.Prelude.{ℕ, ◌==◌, ◌&&◌, ◌||◌, Bool, true, false, List, Option, Some, None, if◌then◌else◌}
use Rattle.std.specs.List.{list_any}
use Rattle.rule_book.specs.Entries.{PlainEntry}
use Rattle.rule_book.specs.Rules.{rule_number}
use Rattle.rule_book.specs.declared.entry.Verdict.{Verdict}
use Rattle.rule_book.specs.declared.entry.Verdict.TheVariants.{Drop, Pass}
use Rattle.rule_book.specs.declared.rule.Rule.{Rule}
use Rattle.rule_book.specs.declared.rule.Rule.TheVariants.{CProbe, FDone}
use Rattle.frame_view.specs.declared.change.Made.{Made}
use Rattle.frame_view.specs.declared.change.Made.TheVariants.{Probe, Datagram}
use Rattle.run_view.specs.declared.judged.Kinds.{Kinds}

-- the rule with this number is among these
abbrev pub is_among : List Rule → (number : ℕ) → Bool
is_among rules number = list_any (λ other. rule_number other == number) rules

-- the entry names the rule
abbrev pub names : Rule → PlainEntry → Bool
names rule entry = is_among entry.rules (rule_number rule)

abbrev pub is_drop : Verdict → Bool
is_drop Drop = true
is_drop _ = false

abbrev pub is_pass : Verdict → Bool
is_pass Pass = true
is_pass _ = false

-- Which frames of a line norm made itself. What is written for a dropped record is a probe. If the
-- line names C_PROBE, the last frame is a probe, since a probe is written last. If it names
-- F_DONE, a datagram, or parts of it, was written in place of the record. `probe` and `datagram`
-- report this of each of them already.
abbrev pub kinds_by : PlainEntry → (probe datagram : Bool) → Kinds
kinds_by entry probe datagram =
    record { packets = entry.packets; probe_last = names CProbe entry; probe = probe || is_drop entry.verdict; datagram = datagram || names FDone entry }

-- The same with the first engine's entry of the record of a line of the second. If it dropped the
-- record, each frame is a probe. If it names C_PROBE, each frame of the record's last line is one.
-- If it names F_DONE, each other frame is a datagram.
abbrev pub kinds_of : PlainEntry → (first : Option PlainEntry) → (owed : ℕ) → Kinds
kinds_of entry None owed = kinds_by entry false false
kinds_of entry (Some first) owed = kinds_by entry (is_drop first.verdict || (names CProbe first && (owed == 0))) (names FDone first)

-- what the frame of this number is, counted from 1, where norm made it itself
abbrev pub made_at : Kinds → (number : ℕ) → Option Made
made_at kinds number =
    if kinds.probe || (kinds.probe_last && (number == kinds.packets)) then Some Probe else if kinds.datagram then Some Datagram else None

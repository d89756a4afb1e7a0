-- Entries of the report whose collections are lists.
use Rattle.std.specs.Prelude.{◌≡◌, ℕ, ◌==◌, List, Option}
use Rattle.std.specs.List.{AllByRecursion}
use Rattle.std.specs.Option.{is_some}
use Rattle.rule_book.specs.declared.entry.Ended.{Ended}
use Rattle.rule_book.specs.declared.entry.Entry.{Entry}
use Rattle.rule_book.specs.declared.entry.Verdict.{Verdict}
use Rattle.rule_book.specs.declared.rule.Rule.{Rule}
use Rattle.wire_base.specs.declared.address.Side.{Side}

-- The entry of a record: its number, side and verdict, the number of frames written for it, and its
-- rules in the order of the line. Also the era that its packet belongs to, the era that it began,
-- and the eras that ended before or with it, in the order of their ends.
pub record PlainEntry : Type 0 where
  pub number : ℕ
  pub side : Option Side
  pub verdict : Verdict
  pub packets : ℕ
  pub rules : List Rule
  pub era : Option ℕ
  pub begun : Option ℕ
  pub ended : List Ended

-- the value of an entry in memory
abbrev pub plain : Entry → PlainEntry
plain entry =
    record {
      number = entry.number;
      side = entry.side;
      verdict = entry.verdict;
      packets = entry.packets;
      rules = entry.rules.items;
      era = entry.era;
      begun = entry.begun;
      ended = entry.ended.items;
    }

-- an ended era has its octets in version 2 of the report, and has none in another version (this
-- project's profile)
abbrev pub HasOctets : (version : ℕ) → Ended → Type 0
HasOctets version ended = is_some ended.octets ≡ (version == 2)

-- each ended era of an entry has its octets in version 2, and none has in another version
abbrev pub IsOfVersion : (version : ℕ) → PlainEntry → Type 0
IsOfVersion version entry = AllByRecursion (HasOctets version) entry.ended

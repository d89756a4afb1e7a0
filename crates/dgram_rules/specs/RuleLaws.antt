-- Laws of the rules on UDP and ICMP.
use Rattle.std.specs.Prelude.{◌≡◌, ◌≢◌, Bool, true, false, Option, Some, None}
use Rattle.wire_base.specs.declared.address.Side.TheVariants.{Outward}
use Rattle.rule_book.specs.declared.rule.Rule.{Rule}
use Rattle.rule_book.specs.declared.rule.Rule.TheVariants as rules
use Rattle.norm_settings.specs.SettingValues.{PlainSettings}
use Rattle.dgram_rules.specs.declared.judged.DgramJudged.{DgramJudged}
use Rattle.dgram_rules.specs.declared.judged.DgramJudged.TheVariants.{Pass, Mend, Drop}
use Rattle.ip_rules.specs.Datagrams.{Datagram}
use Rattle.dgram_rules.specs.RuleRows.{holds_dgram, dgram_dropped_by}
use Rattle.dgram_rules.specs.JudgedDatagram.{dgram_judged}

-- the rule of a result that drops
abbrev pub row_in : DgramJudged → Option Rule
row_in (Drop rule) = Some rule
row_in Mend = None
row_in Pass = None

-- the result rewrites the checksum
abbrev pub is_mend : DgramJudged → Bool
is_mend (Drop rule) = false
is_mend Mend = true
is_mend Pass = false

-- The result is that of the rules. It drops by a rule exactly if that is the first drop rule that
-- holds. If none holds, it rewrites the checksum exactly if the fix rule holds.
pub record Tells (dropped : Option Rule) (mended : Bool) (answer : DgramJudged) : Type 0 where
  pub drops : dropped ≡ row_in answer
  pub mends : dropped ≡ None → mended ≡ is_mend answer

-- the result for a datagram is that of the rules, whichever eras are live
abbrev pub DatagramsTellTheRows : Type 0
DatagramsTellTheRows =
    (settings : PlainSettings) (live : Bool) (d : Datagram)
    → Tells (dgram_dropped_by settings live d) (holds_dgram settings live d rules.USumOut) (dgram_judged settings live d)

-- no rule applies to a datagram of another protocol, and none drops it
abbrev pub OthersHaveNoRow : Type 0
OthersHaveNoRow =
    (settings : PlainSettings) (live : Bool) (d : Datagram) → d.head.protocol ≢ 17 → d.head.protocol ≢ 1
    → (dgram_dropped_by settings live d ≡ None) × ((rule : Rule) → holds_dgram settings live d rule ≡ false)

-- with `offload` no outbound UDP message is dropped for its checksum
abbrev pub OffloadKeepsWrongSums : Type 0
OffloadKeepsWrongSums =
    (settings : PlainSettings) (live : Bool) (d : Datagram) → settings.offload ≡ true → d.side ≡ Outward
    → dgram_dropped_by settings live d ≢ Some rules.USum

-- Which records brought the octets of an era's stream, and which of them contradict it (this
-- project's profile).
use Rattle.std.specs.Prelude.{◌≡◌, ◌≢◌, ◌↔◌, ℕ, Bool, true, false, List, [], ◌∷◌, ◌++◌, ℤ, pos, ◌≤ℤ◌, Some}
use Rattle.std.specs.List.{AllByRecursion, list_any}
use Rattle.wire_base.specs.declared.address.Link.{Link}
use Rattle.wire_base.specs.declared.address.Side.TheVariants.{Inward}
use Rattle.wire_base.specs.Segments.{Written}
use Rattle.rule_book.specs.declared.rule.Rule.{Rule}
use Rattle.rule_book.specs.declared.rule.Rule.TheVariants as rules
use Rattle.norm_settings.specs.SettingValues.{PlainSettings}
use Rattle.era_state.specs.Quantities.{base_of, acked, first, end_of}
use Rattle.era_agreement.specs.SentPackets.{written_in}
use Rattle.ip_rules.specs.Datagrams.{Datagram}
use Rattle.tcp_norm.specs.Calls.{is_written, segment_in}
use Rattle.tcp_norm.specs.BroughtOctets.{HasAt, EndsAt}
use Rattle.norm_engine.specs.Items.{Item}
use Rattle.norm_engine.specs.Calls.{segment_after}
use Rattle.norm_engine.specs.Agreement.{sent_in}
use Rattle.norm_engine.specs.TraceLaws.{IsSound}

-- A record brings this to an era after a history: it went inwards, was written in the era, and the
-- segment of its datagram has it after what was written before. The datagram is the one that the
-- record carries, or the one that its fragment completes, which also has octets of held fragments.
-- `Has` is `HasAt` of an octet at an offset, or `EndsAt` of the end. Octets that norm cuts away
-- count as well, below Acked or past the window or the end; those of a SYN or RST do not.
pub record Brings (settings : PlainSettings) (link : Link) (era : ℕ) (Has : List Written → Written → Type 0) (item : Item) (older : List Item) : Type 0 where
  pub inward : item.entry.side ≡ Some Inward
  pub named : item.entry.era ≡ Some era
  pub written : is_written item.entry.verdict ≡ true
  pub carried : Datagram
  pub carried_is : segment_after settings link older item.packet ≡ Some carried
  pub has : Has (written_in era (sent_in link older)) (segment_in carried)

-- a record of this trace brought this to the era, after the records before it
pub record IsBrought (settings : PlainSettings) (link : Link) (era : ℕ) (Has : List Written → Written → Type 0) (trace : List Item) : Type 0 where
  pub newer : List Item
  pub item : Item
  pub older : List Item
  pub trace_is : trace ≡ newer ++ (item ∷ older)
  pub brings : Brings settings link era Has item older

-- A record of this trace brought this to the era, after the records before it, and added it: the
-- era did not have it before the record, and has it after the record.
pub record IsAdded (settings : PlainSettings) (link : Link) (era : ℕ) (Is : List Written → Type 0) (Has : List Written → Written → Type 0) (trace : List Item) : Type 0 where
  pub newer : List Item
  pub item : Item
  pub older : List Item
  pub trace_is : trace ≡ newer ++ (item ∷ older)
  pub new : Is (written_in era (sent_in link older)) → ⊥
  pub now : Is (written_in era (sent_in link (item ∷ older)))
  pub brings : Brings settings link era Has item older

-- this octet was added to the stream of the era at this offset by the very record that brought it
abbrev pub OctetIsAdded : PlainSettings → Link → (era base : ℕ) → (offset : ℤ) → (octet : ℕ) → List Item → Type 0
OctetIsAdded settings link era base offset octet trace =
    IsAdded settings link era (λ ws. first base ws offset ≡ Some octet) (HasAt base offset octet) trace

-- and so the end of the stream
abbrev pub EndIsAdded : PlainSettings → Link → (era base : ℕ) → (offset : ℤ) → List Item → Type 0
EndIsAdded settings link era base offset trace = IsAdded settings link era (λ ws. end_of base ws ≡ Some offset) (EndsAt base offset) trace

-- each octet of an era's stream, and its end, was added by a record that brought it
pub record AreBrought (settings : PlainSettings) (link : Link) (era base : ℕ) (trace : List Item) : Type 0 where
  pub octets :
      (offset : ℤ) (octet : ℕ) → first base (written_in era (sent_in link trace)) offset ≡ Some octet
      → OctetIsAdded settings link era base offset octet trace
  pub end : (offset : ℤ) → end_of base (written_in era (sent_in link trace)) ≡ Some offset → EndIsAdded settings link era base offset trace

-- Nothing is invented: this holds for each era of the trace whose base is fixed. It is said of
-- octets and ends of streams, not of SYN, RST, probes or UDP.
abbrev pub InventsNothing : PlainSettings → Link → List Item → Type 0
InventsNothing settings link trace =
    (era base : ℕ) → base_of (written_in era (sent_in link trace)) ≡ Some base → AreBrought settings link era base trace

abbrev pub LawfulInventsNothing : Type 0
LawfulInventsNothing = (settings : PlainSettings) (link : Link) (trace : List Item) → IsSound settings link trace → InventsNothing settings link trace

-- the rule is T_CLASH
abbrev pub is_clash : Rule → Bool
is_clash rules.TClash = true
is_clash _ = false

-- T_CLASH is one of these rules
abbrev pub names_clash : List Rule → Bool
names_clash named = list_any is_clash named

-- A record contradicts the stream of an era. It is written in the era, has neither SYN nor RST, and
-- brings, at an offset at or past Acked, an octet that differs from the one written first there.
-- That one was brought by the earlier record that added it.
pub record Contradicts (settings : PlainSettings) (link : Link) (item : Item) (older : List Item) : Type 0 where
  pub era : ℕ
  pub base : ℕ
  pub offset : ℤ
  pub octet : ℕ
  pub other : ℕ
  pub was : first base (written_in era (sent_in link older)) offset ≡ Some octet
  pub unacknowledged : pos (acked base (written_in era (sent_in link older))) ≤ℤ offset
  pub added : OctetIsAdded settings link era base offset octet older
  pub brings : Brings settings link era (HasAt base offset other) item older
  pub differ : octet ≢ other

-- T_CLASH is exact: each entry of the trace names it exactly if its record contradicts the stream
-- of an era.
abbrev pub NamesEachClash : PlainSettings → Link → List Item → Type 0
NamesEachClash settings link [] = Unit {0}
NamesEachClash settings link (item ∷ older) =
    NamesEachClash settings link older × ((names_clash item.entry.rules ≡ true) ↔ Contradicts settings link item older)

abbrev pub LawfulClashesAreReal : Type 0
LawfulClashesAreReal = (settings : PlainSettings) (link : Link) (trace : List Item) → IsSound settings link trace → NamesEachClash settings link trace

-- No record of the era differs from an earlier one: where an earlier record brought an octet, at or
-- past Acked, a record brings the same one or none. The condition does not cover octets below
-- Acked, such as those of keep-alive segments.
abbrev pub IsConsistent : PlainSettings → Link → (era : ℕ) → List Item → Type 0
IsConsistent settings link era [] = Unit {0}
IsConsistent settings link era (item ∷ older) =
    IsConsistent settings link era older
    × ((base : ℕ) (offset : ℤ) (octet other : ℕ) → IsBrought settings link era (HasAt base offset octet) older
    → pos (acked base (written_in era (sent_in link older))) ≤ℤ offset → Brings settings link era (HasAt base offset other) item older → octet ≡ other)

-- In an era in which no record differs from an earlier one at an offset at or past Acked, no entry
-- names T_CLASH.
abbrev pub ConsistentIsWithoutClash : Type 0
ConsistentIsWithoutClash =
    (settings : PlainSettings) (link : Link) (trace : List Item) → IsSound settings link trace
    → (era : ℕ) → IsConsistent settings link era trace
    → AllByRecursion (λ item. item.entry.era ≡ Some era → names_clash item.entry.rules ≡ false) trace

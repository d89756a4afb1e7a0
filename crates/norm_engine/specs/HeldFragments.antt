-- Which records brought the fragments that are held for a datagram, and which fragments contradict
-- them (RFC 791 section 3.2; this project's profile).
use Rattle.std.specs.Prelude.{◌≡◌, ◌≢◌, ◌↔◌, ℕ, Bool, true, false, List, [], ◌∷◌, ◌++◌, Contains, Some, None}
use Rattle.std.specs.List.{AllByRecursion, list_any}
use Rattle.wire_base.specs.declared.address.Link.{Link}
use Rattle.rule_book.specs.declared.rule.Rule.{Rule}
use Rattle.rule_book.specs.declared.rule.Rule.TheVariants as rules
use Rattle.rule_book.specs.declared.entry.Verdict.TheVariants as verdicts
use Rattle.norm_settings.specs.SettingValues.{PlainSettings}
use Rattle.retain_store.specs.Maps.{octet_in}
use Rattle.reassembly.specs.DatagramFragments.{Fragment}
use Rattle.reassembly.specs.CallLaws.{IsOfPieces}
use Rattle.reassembly.specs.RuleRows.{f_end, first_row, own_rows, view_of}
use Rattle.norm_engine.specs.Items.{Item}
use Rattle.norm_engine.specs.Fragments.{completes, fragment_in, offering_of, pieces_before}
use Rattle.norm_engine.specs.Trace.{Lawful}

-- a record of this trace carries this fragment, and was held
pub record WasHeld (settings : PlainSettings) (link : Link) (piece : Fragment) (trace : List Item) : Type 0 where
  pub newer : List Item
  pub item : Item
  pub older : List Item
  pub trace_is : trace ≡ newer ++ (item ∷ older)
  pub carried : fragment_in settings link item.packet ≡ Some piece
  pub held : item.entry.verdict ≡ verdicts.Hold

-- The fragments that are held for the datagram of this one, before the record of an item. They have
-- its source, destination, protocol and identification, and arrived since that datagram was last
-- completed or removed. Old datagrams are removed by the record's time.
abbrev pub held_before : PlainSettings → Link → (older : List Item) → Item → Fragment → List Fragment
held_before settings link older item piece = (view_of settings (pieces_before settings link older item.packet) piece).pieces

-- The datagram that this fragment completes is made of it and of the fragments held before it, each
-- octet being that of one of them. Each held one was brought by an earlier record, which was held,
-- and is of the same datagram.
pub record IsOfHeld (settings : PlainSettings) (link : Link) (item : Item) (older : List Item) (piece : Fragment) : Type 0 where
  pub made : IsOfPieces (piece ∷ held_before settings link older item piece)
  pub brought : AllByRecursion (λ other. WasHeld settings link other older × (other.id ≡ piece.id)) (held_before settings link older item piece)

-- This holds for each record of a lawful trace whose fragment completes its datagram.
abbrev pub LawfulJoinsHeld : Type 0
LawfulJoinsHeld =
    (settings : PlainSettings) (link : Link) (item : Item) (older : List Item) (piece : Fragment) → Lawful settings link older
    → fragment_in settings link item.packet ≡ Some piece → completes (offering_of settings (pieces_before settings link older item.packet) piece) ≡ true
    → IsOfHeld settings link item older piece

-- A record carries a fragment that contradicts a held one: at an offset of their datagram its octet
-- differs from that of a fragment of an earlier record, which is still held. No rule that is tested
-- before F_CLASH drops it: none on the link, the header and the protocol, none on the fragment
-- alone, and F_END does not.
pub record ContradictsHeld (settings : PlainSettings) (link : Link) (item : Item) (older : List Item) : Type 0 where
  pub piece : Fragment
  pub carried : fragment_in settings link item.packet ≡ Some piece
  pub sound : first_row (own_rows piece) ≡ None
  pub ends : f_end (held_before settings link older item piece) piece ≡ false
  pub other : Fragment
  pub held : Contains (held_before settings link older item piece) other
  pub same : other.id ≡ piece.id
  pub was_held : WasHeld settings link other older
  pub offset : ℕ
  pub octet : ℕ
  pub own : ℕ
  pub had : octet_in other.offset other.octets offset ≡ Some octet
  pub has : octet_in piece.offset piece.octets offset ≡ Some own
  pub differ : octet ≢ own

-- the rule is F_CLASH
abbrev pub is_fragment_clash : Rule → Bool
is_fragment_clash rules.FClash = true
is_fragment_clash _ = false

-- F_CLASH is one of these rules
abbrev pub names_fragment_clash : List Rule → Bool
names_fragment_clash named = list_any is_fragment_clash named

-- F_CLASH is exact: each entry of the trace names it exactly if its record carries a fragment that
-- contradicts a held one.
abbrev pub NamesEachFragmentClash : PlainSettings → Link → List Item → Type 0
NamesEachFragmentClash settings link [] = Unit {0}
NamesEachFragmentClash settings link (item ∷ older) =
    NamesEachFragmentClash settings link older × ((names_fragment_clash item.entry.rules ≡ true) ↔ ContradictsHeld settings link item older)

abbrev pub LawfulFragmentClashesAreReal : Type 0
LawfulFragmentClashesAreReal =
    (settings : PlainSettings) (link : Link) (trace : List Item) → Lawful settings link trace → NamesEachFragmentClash settings link trace

-- Which records are chosen (this project's profile): those that meet each condition that is given.
-- A condition on lines is met by a record of which some line meets it. Lists of items have the
-- newest at the head.
use Rattle.std.specs.Prelude.{ℕ, ◌==◌, ◌&&◌, ◌||◌, not, get_or, Bool, true, false, List, [], ◌∷◌, Option, Some, None, is_some, if◌then◌else◌}
use Rattle.std.specs.List.{list_any}
use Rattle.wire_base.specs.declared.address.Side.{Side}
use Rattle.wire_base.specs.declared.address.Side.TheVariants.{Inward, Outward}
use Rattle.wire_base.specs.declared.address.Prefix.{Prefix}
use Rattle.wire_base.specs.Prefixes.{holds}
use Rattle.pcap_file.specs.declared.head.Head.{Head}
use Rattle.rule_book.specs.Entries.{PlainEntry}
use Rattle.rule_book.specs.Rules.{rule_number}
use Rattle.rule_book.specs.declared.entry.Ended.{Ended}
use Rattle.rule_book.specs.declared.entry.Verdict.{Verdict}
use Rattle.rule_book.specs.declared.entry.Verdict.TheVariants.{Pass, Fix, Hold, Drop}
use Rattle.rule_book.specs.declared.rule.Rule.{Rule}
use Rattle.frame_view.specs.declared.flow.Flow.{Flow}
use Rattle.run_view.specs.declared.chosen.Meets.{Meets}
use Rattle.run_view.specs.declared.words.Asked.{Asked}
use Rattle.run_view.specs.declared.words.EraAsked.{EraAsked}
use Rattle.run_view.specs.declared.words.Print.TheVariants as prints
use Rattle.run_view.specs.Items.{Item, flow_at, is_second}
use Rattle.run_view.specs.LineJudgments.{is_pass}

-- the place of a verdict, and of a side, in a list of such names; that of a rule is its number
abbrev pub verdict_place : Verdict → ℕ
verdict_place Pass = 0
verdict_place Fix = 1
verdict_place Hold = 2
verdict_place Drop = 3

abbrev pub side_place : Option Side → ℕ
side_place (Some Inward) = 0
side_place (Some Outward) = 1
side_place None = 2

-- the name at this place is among these, or no names are given
abbrev pub is_listed : Option (List Bool) → (place : ℕ) → Bool
is_listed None place = true
is_listed (Some names) place = get_or names place false

-- one of the rules is among these, or no rules are given
abbrev pub names_one : List Bool → List Rule → Bool
names_one names rules = list_any (λ rule. get_or names (rule_number rule) false) rules

abbrev pub names_rule : Option (List Bool) → List Rule → Bool
names_rule None rules = true
names_rule (Some names) rules = names_one names rules

-- there is a number, and it is this one
abbrev pub is_number : Option ℕ → ℕ → Bool
is_number None number = false
is_number (Some own) number = own == number

-- the era is among these
abbrev pub has_ended : List Ended → (era : ℕ) → Bool
has_ended ended era = list_any (λ (one : Ended). one.era == era) ended

-- the line is one of the engine of the era, and its entry belongs to the era, began it or ended it;
-- or no era is given
abbrev pub names_era : Option EraAsked → (second : Bool) → PlainEntry → Bool
names_era None second entry = true
names_era (Some era) second entry =
    (if second then era.second else not era.second)
    && (is_number entry.era era.number || is_number entry.begun era.number || has_ended entry.ended era.number)

-- the side is outward
abbrev pub is_outward : Option Side → Bool
is_outward (Some Outward) = true
is_outward _ = false

-- source or destination is in the prefix
abbrev pub is_of : Prefix → Flow → Bool
is_of prefix flow = holds prefix flow.src.0 || holds prefix flow.dst.0

-- The record is of this host, or none is given. A record whose IPv4 header cannot be read may be of
-- any host, and is so if unreadable records count.
abbrev pub has_host : Option Prefix → (unreadable : Bool) → Option Flow → Bool
has_host None unreadable flow = true
has_host (Some prefix) unreadable None = unreadable
has_host (Some prefix) unreadable (Some flow) = is_of prefix flow

-- the line is inbound or has no side, and its verdict is not pass
abbrev pub is_evidence : PlainEntry → Bool
is_evidence entry = not (is_outward entry.side) && not (is_pass entry.verdict)

-- Which conditions a line meets that has this entry by this engine, and a record with these
-- headers. Those on side and hosts are conditions on the record: they are met by its line of the
-- first engine.
abbrev pub met_by : Asked → (second : Bool) → PlainEntry → Option Flow → Meets
met_by asked second entry flow =
    record {
      rule = names_rule asked.rules entry.rules;
      era = names_era asked.era second entry;
      verdict = is_listed asked.verdicts (verdict_place entry.verdict);
      side = not second && is_listed asked.sides (side_place entry.side);
      host = not second && has_host asked.host asked.evidence flow;
      evidence = not asked.evidence || is_evidence entry;
    }

abbrev pub met_at : Asked → Head → Item → Meets
met_at asked head item = met_by asked (is_second item) item.entry (flow_at head.link item.packet.octets)

-- what one of two meets
abbrev pub either : Meets → Meets → Meets
either one other =
    record {
      rule = one.rule || other.rule;
      era = one.era || other.era;
      verdict = one.verdict || other.verdict;
      side = one.side || other.side;
      host = one.host || other.host;
      evidence = one.evidence || other.evidence;
    }

abbrev pub nothing_met : Meets
nothing_met = record { rule = false; era = false; verdict = false; side = false; host = false; evidence = false }

-- which conditions the lines of the newest record meet: a line of the first engine, and those of
-- the second after it
abbrev pub met_of : Asked → Head → List Item → Meets
met_of asked head [] = nothing_met
met_of asked head (item ∷ older) = if is_second item then either (met_of asked head older) (met_at asked head item) else met_at asked head item

-- the conditions on the record are met, and all are
abbrev pub meets_record : Meets → Bool
meets_record met = met.side && met.host

abbrev pub meets_all : Meets → Bool
meets_all met = (((met.rule && met.era) && met.verdict) && met.evidence) && meets_record met

-- a condition is given
abbrev pub has_choice : Asked → Bool
has_choice asked =
    is_some asked.rules || is_some asked.era || is_some asked.verdicts || is_some asked.sides || is_some asked.host || asked.evidence

-- records are chosen: for a text only where a condition is given, and none for a table of eras or
-- for notes
abbrev pub chooses_records : Asked → Bool
chooses_records asked = elim asked.print [
  | prints.Text ↦ has_choice asked
  | prints.Json ↦ true
  | prints.Records ↦ true
  | prints.Eras ↦ false
  | prints.Notes ↦ false
  | prints.JsonNotes ↦ false
]

-- the newest record is chosen if these are its lines
abbrev pub is_chosen : Asked → Head → List Item → Bool
is_chosen asked head items = chooses_records asked && meets_all (met_of asked head items)

-- Laws of the traces of two engines.
use Rattle.std.specs.Prelude.{◌≡◌, ℕ, ◌≤◌, Bool, true, false, List, [], ◌∷◌, length, take, drop, Option, Some, None}
use Rattle.std.specs.List.{AllByRecursion}
use Rattle.wire_base.specs.declared.address.Link.{Link}
use Rattle.wire_base.specs.declared.address.Side.{Side}
use Rattle.wire_base.specs.declared.address.Side.TheVariants.{Inward, Outward}
use Rattle.rule_book.specs.declared.entry.Verdict.TheVariants as verdicts
use Rattle.norm_settings.specs.SettingValues.{PlainSettings}
use Rattle.norm_engine.specs.Items.{Item}
use Rattle.norm_engine.specs.CleanRecords.{HaveOctets}
use Rattle.norm_engine.specs.Agreement.{Agree}
use Rattle.both_sides.specs.Traces.{AreLawful}

-- the side is outward
abbrev pub is_outward : Option Side → Bool
is_outward (Some Outward) = true
is_outward (Some Inward) = false
is_outward None = false

-- no record of the trace has its own side
abbrev pub HaveNoSide : List Item → Type 0
HaveNoSide [] = Unit {0}
HaveNoSide (item ∷ older) = HaveNoSide older × (item.packet.side ≡ None)

-- A pair of lawful traces: of records of octets without their own side, and for settings of at most
-- 254 routers without exchanged sides.
pub record AreSound (settings : PlainSettings) (link : Link) (trace mirror : List Item) : Type 0 where
  pub hops : settings.hops ≤ 254
  pub upright : settings.mirror ≡ false
  pub octets : HaveOctets trace
  pub sideless : HaveNoSide trace
  pub frames : HaveOctets mirror
  pub lawful : AreLawful settings link trace mirror

-- a record passed, and was written octet for octet
pub record GoesThrough (item : Item) : Type 0 where
  pub passes : item.entry.verdict ≡ verdicts.Pass
  pub whole : item.frames ≡ item.packet.octets ∷ []

-- Each frame that the first engine writes for a record which does not go outwards passes the second
-- engine octet for octet: the frames that go inwards, and those of ARP. So the bridge writes
-- inwards what the first engine writes.
abbrev pub InwardGoesThrough : (trace mirror : List Item) → Type 0
InwardGoesThrough [] mirror = Unit {0}
InwardGoesThrough (item ∷ older) mirror =
    let count = length item.frames in
    InwardGoesThrough older (drop count mirror) × (is_outward item.entry.side ≡ false → AllByRecursion GoesThrough (take count mirror))

abbrev pub FramesGoThrough : Type 0
FramesGoThrough = (settings : PlainSettings) (link : Link) (trace mirror : List Item) → AreSound settings link trace mirror → InwardGoesThrough trace mirror

-- Receivers agree on what is written to either side, if the records and the frames are of octets,
-- with at most 254 routers.
abbrev pub BothAgree : Type 0
BothAgree =
    (settings : PlainSettings) (link : Link) (trace mirror : List Item) → settings.hops ≤ 254 → HaveOctets trace → HaveOctets mirror
    → AreLawful settings link trace mirror
    → Agree settings.hops link trace × Agree settings.hops link mirror

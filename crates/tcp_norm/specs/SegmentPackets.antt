-- Datagrams that the rules before those of connections leave, and what holds for the packets that
-- are sent for them (this project's profile).
use Rattle.std.specs.Prelude.{◌≡◌, ◌≢◌, ℕ, ◌*◌, ◌≤◌, true, false, List, [], ◌∷◌, ◌++◌, length, Some, None}
use Rattle.std.specs.List.{AllByRecursion, list_any}
use Rattle.wire_base.specs.Tcp as tcp
use Rattle.wire_base.specs.Checksums.{sum_is_right}
use Rattle.wire_base.specs.Options.{are_well_formed}
use Rattle.wire_base.specs.Plain.{Plain}
use Rattle.rule_book.specs.declared.rule.Rule.{Rule}
use Rattle.rule_book.specs.declared.rule.Rule.TheVariants as rules
use Rattle.rule_book.specs.Rules.{touches_payload}
use Rattle.norm_settings.specs.SettingValues.{PlainSettings}
use Rattle.era_state.specs.Emission.{AreEmitted}
use Rattle.ip_rules.specs.Datagrams.{Datagram, Packet, goes_in, as_read, IsKnown, IsPacketOf}
use Rattle.tcp_norm.specs.Calls.{Call, expiry, datagram, segments, eras, is_written}
use Rattle.tcp_norm.specs.RuleViews.{View, view_of}
use Rattle.tcp_norm.specs.RuleRows.{pseudo_of, dropped_by, mended_by}
use Rattle.tcp_norm.specs.Outcomes.{outcome_at}
use Rattle.tcp_norm.specs.LiveEras.{AreMade}
use Rattle.tcp_norm.specs.HeldOctets.{held_all, held_in}
use Rattle.tcp_norm.specs.QuotaBounds.{IsAtMost}

-- What is known of a datagram that no rule on its segment's header drops: it has a whole header
-- with legal flags and options that are well formed, and inwards a right checksum.
pub record IsSegment (settings : PlainSettings) (d : Datagram) : Type 0 where
  pub known : IsKnown settings d
  pub protocol : d.head.protocol ≡ 6
  pub least : 20 ≤ tcp.header_length d.octets
  pub inside : tcp.header_length d.octets ≤ length d.octets
  pub legal : tcp.are_legal (tcp.flags d.octets) ≡ true
  pub formed : are_well_formed (tcp.options d.octets) ≡ true
  pub sum : goes_in d.side ≡ true → sum_is_right d.octets (pseudo_of d) ≡ true

-- the datagram of a call is one
abbrev pub AsksSegment : PlainSettings → Call → Type 0
AsksSegment settings (expiry now ended) = Unit {0}
AsksSegment settings (datagram now asked outcome) = IsSegment settings asked

-- calls that the rules make of such datagrams
pub record AreOfSegments (settings : PlainSettings) (cs : List Call) : Type 0 where
  pub made : AreMade settings cs
  pub asked : AllByRecursion (AsksSegment settings) cs

-- In them all segments of each era are emitted, each after those before it.
abbrev pub CallsAreEmitted : Type 0
CallsAreEmitted = (settings : PlainSettings) (cs : List Call) → AreOfSegments settings cs → (era : ℕ) → AreEmitted [] (segments era cs)

-- Each packet that goes out for such a datagram is one of it.
abbrev pub PacketsAreItsOwn : Type 0
PacketsAreItsOwn =
    (settings : PlainSettings) (v : View) (d : Datagram) → settings.hops ≤ 254 → IsSegment settings d
    → AllByRecursion (IsPacketOf settings d) (outcome_at settings v d).packets

-- It is plain, where it goes inwards.
abbrev pub PacketsArePlain : Type 0
PacketsArePlain =
    (settings : PlainSettings) (v : View) (d : Datagram) → settings.hops ≤ 254 → IsSegment settings d
    → goes_in d.side ≡ true → AllByRecursion (λ p. Plain settings.hops (p.header ++ p.octets)) (outcome_at settings v d).packets

-- the packet carries no octet, no SYN and no FIN
pub record IsSilentPacket (p : Packet) : Type 0 where
  pub octets : tcp.payload p.octets ≡ []
  pub no_syn : tcp.has_syn (tcp.flags p.octets) ≡ false
  pub no_fin : tcp.has_fin (tcp.flags p.octets) ≡ false

-- a probe that is sent for a datagram that a rule drops adds nothing to a stream
abbrev pub ProbesAreSilent : Type 0
ProbesAreSilent =
    (settings : PlainSettings) (v : View) (d : Datagram) → is_written (outcome_at settings v d).verdict ≡ false
    → AllByRecursion IsSilentPacket (outcome_at settings v d).packets

-- exactly one packet is sent, which carries what the datagram's segment does; it is the datagram as
-- it was read, where no rule rewrites it
pub record KeepsPayload (d : Datagram) (mended : List Rule) (packets : List Packet) : Type 0 where
  pub packet : Packet
  pub only : packets ≡ packet ∷ []
  pub same : tcp.payload packet.octets ≡ tcp.payload d.octets
  pub whole : d.fixes ≡ [] → mended ≡ [] → packet ≡ as_read d

-- this holds for a datagram that no rule drops, and none of these rewrites
abbrev pub CleanKeepsPayload : Type 0
CleanKeepsPayload =
    (settings : PlainSettings) (v : View) (d : Datagram) → IsSegment settings d
    → dropped_by settings v d ≡ None → list_any touches_payload (mended_by settings v d) ≡ false
    → KeepsPayload d (mended_by settings v d) (outcome_at settings v d).packets

-- After such calls no more blocks hold octets than there are cells, and where a quota is set, no
-- more of one era than it allows.
pub record IsBounded (settings : PlainSettings) (cs : List Call) : Type 0 where
  pub cells : held_all cs ≤ settings.cells
  pub quota : AllByRecursion (λ a. IsAtMost settings.quota (held_in cs a)) (eras cs)

abbrev pub HeldIsBounded : Type 0
HeldIsBounded = (settings : PlainSettings) (cs : List Call) → AreOfSegments settings cs → IsBounded settings cs

-- Where there are as many cells as all eras may hold together, T_ROOM drops nothing: no segment is
-- dropped for the octets of another era.
abbrev pub QuotaLeavesRoom : Type 0
QuotaLeavesRoom =
    (settings : PlainSettings) (cs : List Call) (d : Datagram) (most : ℕ) → AreOfSegments settings cs → settings.quota ≡ Some most
    → settings.flows * most ≤ settings.cells → dropped_by settings (view_of settings cs d) d ≢ Some rules.TRoom

-- What receivers read of an era, by the records that brought it (this project's profile).
use Rattle.std.specs.Prelude.{◌≡◌, ℕ, ◌+◌, Bool, true, false, List, ◌∷◌, ◌++◌, length, ℤ, pos, ◌≤ℤ◌, Some, slice_get}
use Rattle.std.specs.List.{AllByRecursion}
use Rattle.wire_base.specs.declared.address.Link.{Link}
use Rattle.norm_settings.specs.SettingValues.{PlainSettings}
use Rattle.receiver_model.specs.declared.member.Member.{Member}
use Rattle.receiver_model.specs.FamilyAgreement.{IsMember}
use Rattle.receiver_model.specs.Delivery.{DeliversInTime}
use Rattle.era_state.specs.Quantities.{acked, base_of}
use Rattle.era_agreement.specs.SentPackets.{written_in, inward_packets, inward_places}
use Rattle.tcp_norm.specs.BroughtOctets.{HasAt}
use Rattle.norm_engine.specs.Items.{Item}
use Rattle.norm_engine.specs.Agreement.{sent_in}
use Rattle.norm_engine.specs.TraceLaws.{IsSound}
use Rattle.norm_engine.specs.BroughtOctets.{Brings, EndIsAdded, IsBrought, IsConsistent, OctetIsAdded, names_clash}

-- What was read from the offset `start` on was brought: a record brought each octet to its offset,
-- and added it to the stream; and, if the reader has ended, one brought the end there.
pub record ReadsBrought (settings : PlainSettings) (link : Link) (era base : ℕ) (trace : List Item) (start : ℕ) (stream : List ℕ) (ended : Bool) : Type 0 where
  pub octets : (i octet : ℕ) → slice_get stream i ≡ Some octet → OctetIsAdded settings link era base (pos (start + i)) octet trace
  pub end : ended ≡ true → EndIsAdded settings link era base (pos (start + length stream)) trace

-- An octet is what the sender gave. A record brought it and added it to the stream, and each other
-- record that brings an octet there brings the same one. This is asked of an earlier record if the
-- offset was at or past Acked when the octet was added, and of a later one if it is so then.
pub record IsGivenAt (settings : PlainSettings) (link : Link) (era base : ℕ) (offset : ℤ) (octet : ℕ) (trace : List Item) : Type 0 where
  pub added : OctetIsAdded settings link era base offset octet trace
  pub before :
      (other : ℕ) → pos (acked base (written_in era (sent_in link added.older))) ≤ℤ offset
      → IsBrought settings link era (HasAt base offset other) added.older → other ≡ octet
  pub again :
      (newer : List Item) (item : Item) (older : List Item) (other : ℕ) → added.newer ≡ newer ++ (item ∷ older)
      → let history = older ++ (added.item ∷ added.older) in
      pos (acked base (written_in era (sent_in link history))) ≤ℤ offset → Brings settings link era (HasAt base offset other) item history → octet ≡ other

-- each octet that was read from the offset `start` on is what the sender gave, and, if the reader
-- has ended, a record brought the end there
pub record ReadsGiven (settings : PlainSettings) (link : Link) (era base : ℕ) (trace : List Item) (start : ℕ) (stream : List ℕ) (ended : Bool) : Type 0 where
  pub octets : (i octet : ℕ) → slice_get stream i ≡ Some octet → IsGivenAt settings link era base (pos (start + i)) octet trace
  pub end : ended ≡ true → EndIsAdded settings link era base (pos (start + length stream)) trace

-- This holds for whatever a receiver of the family reads, from whichever offset it starts,
-- whichever of the frames reach it in time, how often and in which order, and whichever octets it
-- keeps.
abbrev pub EachReads : (hops base : ℕ) (places : List ℤ) (frames : List (List ℕ)) (Reads : (start : ℕ) (stream : List ℕ) (ended : Bool) → Type 0) → Type 0
EachReads hops base places frames Reads =
    (member : Member) (start : ℕ) (schedule stream : List ℕ) (ended : Bool) →
    IsMember hops member →
    DeliversInTime places member.distance base start frames schedule stream ended →
    Reads start stream ended

-- Each receiver of the frames of an era, with these offsets by its base, reads only what records
-- brought, if the base is fixed.
abbrev pub OnlyBroughtIsRead : PlainSettings → Link → (era : ℕ) → (trace : List Item) → (places : ℕ → List ℤ) → (frames : List (List ℕ)) → Type 0
OnlyBroughtIsRead settings link era trace places frames =
    (base : ℕ) → base_of (written_in era (sent_in link trace)) ≡ Some base →
    EachReads settings.hops base (places base) frames (ReadsBrought settings link era base trace)

-- none of the lines of an era names T_CLASH, and each receiver reads what the sender gave
pub record IsGiven (settings : PlainSettings) (link : Link) (era : ℕ) (trace lines : List Item) (places : ℕ → List ℤ) (frames : List (List ℕ)) : Type 0 where
  pub no_clash : AllByRecursion (λ item. item.entry.era ≡ Some era → names_clash item.entry.rules ≡ false) lines
  pub reads :
      (base : ℕ) → base_of (written_in era (sent_in link trace)) ≡ Some base →
      EachReads settings.hops base (places base) frames (ReadsGiven settings link era base trace)

-- Receivers of the frames of a trace read only what its records brought. If no record of an era
-- differs from an earlier one at an offset at or past Acked, they read what the sender gave, and no
-- line of the era names T_CLASH.
pub record ReadsItsRecords (settings : PlainSettings) (link : Link) (trace lines : List Item) (places : (era base : ℕ) → List ℤ) (frames : (era : ℕ) → List (List ℕ)) : Type 0 where
  pub brought : (era : ℕ) → OnlyBroughtIsRead settings link era trace (places era) (frames era)
  pub given : (era : ℕ) → IsConsistent settings link era trace → IsGiven settings link era trace lines (places era) (frames era)

-- This holds for a trace and its own frames.
abbrev pub ReadsRecords : PlainSettings → Link → List Item → Type 0
ReadsRecords settings link trace =
    let sent = sent_in link trace in
    ReadsItsRecords settings link trace trace (λ era base. inward_places era base sent) (λ era. inward_packets era sent)

-- This holds for each sound trace.
abbrev pub LawfulReadsRecords : Type 0
LawfulReadsRecords = (settings : PlainSettings) (link : Link) (trace : List Item) → IsSound settings link trace → ReadsRecords settings link trace

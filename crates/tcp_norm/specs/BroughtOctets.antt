-- Which datagrams brought the octets of an era's stream, and which of them contradict each other
-- (this project's profile).
use Rattle.std.specs.Prelude.{◌≡◌, ◌≢◌, ◌↔◌, ℕ, ◌&&◌, Bool, true, false, List, ◌∷◌, ◌++◌, length, ℤ, pos, ◌+ℤ◌, ◌≤ℤ◌, Some, None, is_none, slice_get}
use Rattle.wire_base.specs.Tcp as tcp
use Rattle.wire_base.specs.Segments.{Written}
use Rattle.norm_settings.specs.SettingValues.{PlainSettings}
use Rattle.era_state.specs.Offsets.{off}
use Rattle.era_state.specs.Quantities.{base_of, acked, first, end_of}
use Rattle.era_state.specs.EmissionLaws.{HasNoOtherBase}
use Rattle.ip_rules.specs.Datagrams.{Datagram, goes_in}
use Rattle.tcp_norm.specs.Calls.{Call, datagram, Outcome, is_written, segment_in, segments, written_by}
use Rattle.tcp_norm.specs.RuleViews.{View, view_of}
use Rattle.tcp_norm.specs.RuleRows.{dropped_by, t_clash}
use Rattle.tcp_norm.specs.Outcomes.{call_of, outcome_at}
use Rattle.tcp_norm.specs.SegmentPackets.{AreOfSegments}

-- The base is fixed, and the segment, which has neither SYN nor RST, has this octet at an index of
-- its payload. The offset is that of its sequence number, read relative to Acked of the segments
-- written so far, plus the index.
pub record HasAt (base : ℕ) (offset : ℤ) (octet : ℕ) (ws : List Written) (w : Written) : Type 0 where
  pub based : base_of ws ≡ Some base
  pub no_syn : tcp.has_syn w.flags ≡ false
  pub no_rst : tcp.has_rst w.flags ≡ false
  pub index : ℕ
  pub has : slice_get w.octets index ≡ Some octet
  pub offset_is : offset ≡ (off base (acked base ws) w.seq +ℤ pos index)

-- The base is fixed, and the segment, which has neither SYN nor RST, has FIN. The offset is that of
-- its sequence number, read in the same way, plus the number of its octets.
pub record EndsAt (base : ℕ) (offset : ℤ) (ws : List Written) (w : Written) : Type 0 where
  pub based : base_of ws ≡ Some base
  pub no_syn : tcp.has_syn w.flags ≡ false
  pub no_rst : tcp.has_rst w.flags ≡ false
  pub has_fin : tcp.has_fin w.flags ≡ true
  pub offset_is : offset ≡ (off base (acked base ws) w.seq +ℤ pos (length w.octets))

-- A datagram brings this to an era after these calls: it went inwards, was written in the era, and
-- its own segment has it, after the segments written before.
pub record Brings (era : ℕ) (Has : List Written → Written → Type 0) (asked : Datagram) (outcome : Outcome) (older : List Call) : Type 0 where
  pub inward : goes_in asked.side ≡ true
  pub named : outcome.era ≡ Some era
  pub written : is_written outcome.verdict ≡ true
  pub has : Has (segments era older) (segment_in asked)

-- a datagram of these calls brought this to the era, after the calls before it
pub record IsBrought (era : ℕ) (Has : List Written → Written → Type 0) (cs : List Call) : Type 0 where
  pub newer : List Call
  pub now : ℕ
  pub asked : Datagram
  pub outcome : Outcome
  pub older : List Call
  pub calls_are : cs ≡ newer ++ (datagram now asked outcome ∷ older)
  pub brings : Brings era Has asked outcome older

-- a datagram brings what is new with these segments: the octet at an offset that had none, and the
-- end if none was known
pub record BringsNew (era base : ℕ) (d : Datagram) (outcome : Outcome) (older : List Call) (more : List Written) : Type 0 where
  pub octets :
      (offset : ℤ) (octet : ℕ) → first base (segments era older) offset ≡ None → first base (segments era older ++ more) offset ≡ Some octet
      → Brings era (HasAt base offset octet) d outcome older
  pub end :
      (offset : ℤ) → end_of base (segments era older) ≡ None → end_of base (segments era older ++ more) ≡ Some offset
      → Brings era (EndsAt base offset) d outcome older

-- this holds for the call of each datagram
abbrev pub NewIsBrought : Type 0
NewIsBrought =
    (settings : PlainSettings) (cs : List Call) (now : ℕ) (d : Datagram) → AreOfSegments settings (call_of settings cs now d ∷ cs)
    → (era base : ℕ) → HasNoOtherBase base (segments era (call_of settings cs now d ∷ cs))
    → BringsNew era base d (outcome_at settings (view_of settings cs d) d) cs (written_by era (call_of settings cs now d))

-- each octet of an era's stream, and its end, was brought by a datagram
pub record AreBrought (era base : ℕ) (cs : List Call) : Type 0 where
  pub octets : (offset : ℤ) (octet : ℕ) → first base (segments era cs) offset ≡ Some octet → IsBrought era (HasAt base offset octet) cs
  pub end : (offset : ℤ) → end_of base (segments era cs) ≡ Some offset → IsBrought era (EndsAt base offset) cs

-- Nothing is invented: this holds for each era whose base is fixed.
abbrev pub NothingIsInvented : Type 0
NothingIsInvented =
    (settings : PlainSettings) (cs : List Call) → AreOfSegments settings cs
    → (era base : ℕ) → base_of (segments era cs) ≡ Some base → AreBrought era base cs

-- A datagram contradicts the stream of an era: at an offset at or past Acked where the era has an
-- octet, it brings another one.
pub record Contradicts (d : Datagram) (outcome : Outcome) (older : List Call) : Type 0 where
  pub era : ℕ
  pub base : ℕ
  pub offset : ℤ
  pub octet : ℕ
  pub other : ℕ
  pub was : first base (segments era older) offset ≡ Some octet
  pub unacknowledged : pos (acked base (segments era older)) ≤ℤ offset
  pub brings : Brings era (HasAt base offset other) d outcome older
  pub differ : octet ≢ other

-- T_CLASH holds for a datagram, which no rule drops
abbrev pub is_clashing : PlainSettings → View → Datagram → Bool
is_clashing settings v d = is_none (dropped_by settings v d) && t_clash v (segment_in d)

-- T_CLASH is exact: it holds for a datagram that no rule drops exactly if the datagram contradicts
-- the stream of its era.
abbrev pub ClashesAreReal : Type 0
ClashesAreReal =
    (settings : PlainSettings) (cs : List Call) (now : ℕ) (d : Datagram) → AreOfSegments settings (call_of settings cs now d ∷ cs)
    → (is_clashing settings (view_of settings cs d) d ≡ true) ↔ Contradicts d (outcome_at settings (view_of settings cs d) d) cs

-- What a datagram that no rule drops does to the eras.
use Rattle.std.specs.Prelude.{◌≡◌, ℕ, ◌+◌, ◌==◌, ◌<◌, ◌≤◌, nat_lt, nat_le, if◌then◌else◌, Bool, true, false, List, [], ◌∷◌, ◌++◌, length, map, filter, Option, Some, None, IfSome}
use Rattle.std.specs.Option.{option_or}
use Rattle.wire_base.specs.Segments.{Written}
use Rattle.rule_book.specs.declared.entry.Ended.{Ended}
use Rattle.rule_book.specs.declared.entry.Reason.TheVariants as reasons
use Rattle.norm_settings.specs.SettingValues.{PlainSettings}
use Rattle.era_state.specs.declared.era.Era.{Era}
use Rattle.era_state.specs.declared.segment.Seg.{Seg}
use Rattle.era_state.specs.Quantities.{octets_of}
use Rattle.era_state.specs.SegmentFields.{sent}
use Rattle.wire_base.specs.declared.address.FlowKey.{FlowKey}
use Rattle.tcp_norm.specs.declared.state.TcpNorm.{TcpNorm}
use Rattle.tcp_norm.specs.declared.step.Step.{Step}
use Rattle.tcp_norm.specs.declared.step.Place.{Place}
use Rattle.tcp_norm.specs.declared.step.Room.{Room}
use Rattle.tcp_norm.specs.declared.step.Room.TheVariants.{Free, Spare}
use Rattle.tcp_norm.specs.declared.key.Flow.{Flow}
use Rattle.tcp_norm.specs.declared.key.EraKey.{EraKey}
use Rattle.linked_table.specs.EntryTable.{Entry}
use Rattle.linked_table.specs.Listing.{first_of}
use Rattle.linked_table.specs.declared.table.Slot.{Slot}
use Rattle.ip_rules.specs.Datagrams.{Datagram, goes_in}
use Rattle.tcp_norm.specs.Calls.{Alive, Call, datagram, Outcome, read, is_written, segment_in, key_of, without}
use Rattle.tcp_norm.specs.HeldOctets.{held_of}
use Rattle.tcp_norm.specs.RuleViews.{View, view_of, number_of, segments_of, head_of}
use Rattle.tcp_norm.specs.RuleRows.{t_full}
use Rattle.tcp_norm.specs.Outcomes.{begun_with, ended_with}
use Rattle.tcp_norm.specs.TableAndStore.{StandsFor}
use Rattle.tcp_norm.specs.working.TableChanges.{Holds, Begins}
use Rattle.tcp_norm.specs.IdleEnds.{idle_end}

-- the era that ended, if one did
abbrev pub listed : Option Ended → List Ended
listed None = []
listed (Some e) = e ∷ []

-- its number
abbrev pub number_ended : Option Ended → Option ℕ
number_ended None = None
number_ended (Some e) = Some e.era

-- the number, if there is one
abbrev pub one : Option ℕ → List ℕ
one None = []
one (Some n) = n ∷ []

-- the step says what becomes of the eras
pub record IsStep (v : View) (w : Written) (s : Step) : Type 0 where
  pub era_is : s.era ≡ option_or (begun_with v w) v.era
  pub begun_is : s.begun ≡ begun_with v w
  pub ended_is : listed s.ended ≡ ended_with v w
  pub full_is : s.full ≡ t_full v w

-- an outcome that writes this segment alone, and does this to the eras
pub record Does (d : Datagram) (w : Written) (s : Step) (o : Outcome) : Type 0 where
  pub written : is_written o.verdict ≡ true
  pub era_is : o.era ≡ s.era
  pub begun_is : o.begun ≡ s.begun
  pub ended_are : o.ended ≡ listed s.ended
  pub packets_are : map (λ p. read (goes_in d.side) p.octets) o.packets ≡ w ∷ []

-- the least recently touched era, where nothing was written in it for more than `idle` seconds
abbrev pub first_old : (idle now : ℕ) → List Alive → Option ℕ
first_old idle now [] = None
first_old idle now (a ∷ more) = if nat_lt (a.touched + idle) now then Some a.number else None

-- an era of this number of octets, if there is one, ends since its slot is needed
abbrev pub evicted : Option ℕ → (octets : ℕ) → Option Ended
evicted None octets = None
evicted (Some number) octets = Some (record { era = number; reason = reasons.Evicted; octets = Some octets })

-- the same of one of the live eras, by its segments
abbrev pub evicted_of : (ℕ → List Written) → Option Alive → Option Ended
evicted_of segments a = evicted (number_of a) (octets_of (segments_of segments a))

-- the least recently touched of the eras that hold nothing, as it ends
abbrev pub first_empty : List Alive → (ℕ → List Written) → Option Ended
first_empty lives segments = evicted_of segments (head_of (filter (λ a. held_of (segments a.number) == 0) lives))

-- The slot of a new era: a free one, or that of one that ends; and none where as many are live as
-- may be and each holds octets
abbrev pub place_by : Option Ended → (next : ℕ) → Option Place
place_by None next = None
place_by (Some e) next = Some (record { begun = next; evicted = Some e })

abbrev pub place_of : (is_full : Bool) → Option Ended → (next : ℕ) → Option Place
place_of false empty next = Some (record { begun = next; evicted = None })
place_of true empty next = place_by empty next

-- an era can begin there: fewer are live than may be, or this is the first slot of those whose era
-- holds no octet
abbrev pub IsRoom : List (Entry EraKey Flow) → (max : ℕ) → List Slot → Room → Type 0
IsRoom entries max spare Free = length entries < max
IsRoom entries max spare (Spare slot) = (max ≤ length entries) × (Some slot ≡ first_of spare)

-- the era of this number goes on
abbrev pub continued_in : (number : ℕ) → Step
continued_in number = record { era = Some number; begun = None; ended = None; full = false }

-- the era of this number, which has this number of octets, ends, and another of its connection
-- begins
abbrev pub reopened_by : (number next octets : ℕ) → Step
reopened_by number next octets =
    record { era = Some next; begun = Some next; ended = Some (record { era = number; reason = reasons.Reopened; octets = Some octets }); full = false }

-- an era begins in this slot
abbrev pub began : Place → Step
began p = record { era = Some p.begun; begun = Some p.begun; ended = p.evicted; full = false }

-- the slot of the era that begins next
abbrev pub place_in : View → Option Place
place_in v = place_of v.is_full (evicted v.evictable v.evictable_octets) v.next

-- the datagram goes outwards between these ends, and carries this segment
pub record Sends (d : Datagram) (key : FlowKey) (s : Seg) (octets : List ℕ) : Type 0 where
  pub side : goes_in d.side ≡ false
  pub key_is : key_of d ≡ key
  pub segment_is : segment_in d ≡ sent s octets

-- the least recently touched era that holds nothing has ended
pub record Evicts (old new : TcpNorm) (lives : List Alive) (segments : ℕ → List Written) (e : Ended) : Type 0 where
  pub answer : Some e ≡ first_empty lives segments
  pub given : e.era ≤ old.begun
  pub left : Holds new (without (e.era ∷ []) lives) segments

-- the least recently touched era has ended, if it is idle
pub record EndsIdle (old new : TcpNorm) (now : ℕ) (lives : List Alive) (segments : ℕ → List Written) (r : Option Ended) : Type 0 where
  pub answer : number_ended r ≡ first_old old.limits.idle now lives
  pub told : IfSome r (λ e. e ≡ idle_end segments e.era)
  pub left : Holds new (without (one (number_ended r)) lives) segments

-- an era has begun in this slot
pub record Places (old new : TcpNorm) (key : FlowKey) (e : Era) (now : ℕ) (lives : List Alive) (segments : ℕ → List Written) (p : Place) : Type 0 where
  pub answer : Some p ≡ place_of (nat_le old.table.max (length lives)) (first_empty lives segments) (old.begun + 1)
  pub given : (number : ℕ) → number_ended p.evicted ≡ Some number → number ≤ old.begun
  pub holds : (later : ℕ → List Written) → Begins e (old.begun + 1) segments later
      → Holds new (without (one (number_ended p.evicted)) lives ++ record { number = old.begun + 1; key = key; touched = now } ∷ []) later

-- the step is that of an outbound segment, and the eras are those after it
pub record IsMade (settings : PlainSettings) (calls : List Call) (d : Datagram) (now : ℕ) (new : TcpNorm) (s : Step) : Type 0 where
  pub is_step : IsStep (view_of settings calls d) (segment_in d) s
  pub stands : (o : Outcome) → Does d (segment_in d) s o → StandsFor settings new (datagram now d o ∷ calls)

-- after any calls
abbrev pub Makes : (old new : TcpNorm) → FlowKey → Seg → (now : ℕ) → Step → Type 0
Makes old new key s now step =
    (settings : PlainSettings) (calls : List Call) (d : Datagram) (octets : List ℕ) → length octets ≡ s.len → StandsFor settings old calls
    → Sends d key s octets → IsMade settings calls d now new step

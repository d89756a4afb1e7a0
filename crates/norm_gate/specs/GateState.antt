-- The state of a gate, and what the next frame gives (this project's profile).
use Rattle.std.specs.Prelude.{◌≡◌, ℕ, Bool, true, false, List, [], ◌∷◌, length, map, Option}
use Rattle.std.specs.List.{AllByRecursion}
use Rattle.rule_book.specs.Entries.{PlainEntry}
use Rattle.norm_settings.specs.SettingValues.{PlainSettings}
use Rattle.norm_engine.specs.Items.{Item}
use Rattle.norm_engine.specs.WrittenTrace.{item_written}
use Rattle.live_norm.specs.Live.{Lived, IsNormal}
use Rattle.live_norm.specs.Live as live
use Rattle.norm_gate.specs.declared.arrival.Frames.{Frames}
use Rattle.norm_gate.specs.declared.arrival.Frames.TheVariants.{Ports, Capture}
use Rattle.norm_gate.specs.declared.arrival.Port.{Port}
use Rattle.norm_gate.specs.declared.fate.Fate.{Fate}
use Rattle.norm_gate.specs.declared.fate.Fate.TheVariants.{Judged, Forged, Crosses, Unjudged, TooLong, Truncated}
use Rattle.norm_gate.specs.declared.gate.Answer.{Answer}
use Rattle.norm_gate.specs.GateHistory.{Event, IsLawful, Leaving, event_of, items_in, leaving_by, link_of}
use Rattle.norm_gate.specs.GateLaws.{InwardIsKnown, NothingIsForged}

-- what contracts see: the engine, which frames are given, the frames that are written for the
-- newest one, apart from one that is written as it arrived, and the entries of its records
pub record Gated : Type 0 where
  pub live : Lived
  pub given : Frames
  pub leaving : List Leaving
  pub entries : List PlainEntry

-- the frames that are written for a frame with this fate: those of its record, or the crossing one
abbrev pub frames_kept : Fate → (of_record : List (List ℕ)) → (crossing : List ℕ) → List (List ℕ)
frames_kept Judged of_record crossing = of_record
frames_kept Crosses of_record crossing = crossing ∷ []
frames_kept Forged of_record crossing = []
frames_kept Unjudged of_record crossing = []
frames_kept TooLong of_record crossing = []
frames_kept Truncated of_record crossing = []

abbrev pub kept_leaving : Answer → Lived → (crossing : List ℕ) → List Leaving
kept_leaving newest live crossing = leaving_by newest.port (frames_kept newest.fate live.frames crossing)

-- the entries of its records
abbrev pub entries_kept : Fate → PlainEntry → List PlainEntry
entries_kept Judged entry = entry ∷ []
entries_kept Crosses entry = []
entries_kept Forged entry = []
entries_kept Unjudged entry = []
entries_kept TooLong entry = []
entries_kept Truncated entry = []

abbrev pub kept_entries : Answer → Lived → List PlainEntry
kept_entries newest live = entries_kept newest.fate live.entry

-- the settings of its engine
abbrev pub settings_of : Gated → PlainSettings
settings_of gate = gate.live.engine.settings

-- It represents the history, which is lawful, and whose records its engine represents.
pub record Represents (gate : Gated) (history : List Event) : Type 0 where
  pub live : live.Represents gate.live (items_in history)
  pub lawful : IsLawful gate.given (settings_of gate) history

-- with two ports, no record was forged, and each frame that left by the inside port is known
abbrev pub IsGuarded : Frames → PlainSettings → List Event → Type 0
IsGuarded Ports settings history = NothingIsForged settings history × InwardIsKnown settings history
IsGuarded (Capture link) settings history = Unit {0}

-- the frames that are written: the one that arrived, or those of the gate
abbrev pub shown : (as_read : Bool) → (octets : List ℕ) → Option Port → List Leaving → List Leaving
shown true octets port leaving = leaving_by port (octets ∷ [])
shown false octets port leaving = leaving

-- The answer tells the event: its fate, the numbers of its records and of the frames that are
-- written, the verdict on its record, and the port by which these frames leave.
pub record Tells (settings : PlainSettings) (given : Frames) (event : Event) (answer : Answer) : Type 0 where
  pub fate : answer.fate ≡ event.fate
  pub records : answer.records ≡ length event.items
  pub frames : answer.frames ≡ length event.leaving
  pub verdict : AllByRecursion (λ item. answer.verdict ≡ (item_written settings.mtu (link_of given) item).entry.verdict) event.items
  pub port : AllByRecursion (λ leaving. answer.port ≡ leaving.port) event.leaving

-- The gate took a frame that had this event after the history. The answer tells it. The gate has
-- its frames and its entries, and represents the history with it. All that the engine wrote so far
-- is normal, no record of it was forged, and each frame that left by the inside port is known.
pub record Follows (before after : Gated) (event : Event) (answer : Answer) (history : List Event) : Type 0 where
  pub settings : settings_of after ≡ settings_of before
  pub given : after.given ≡ before.given
  pub tells : Tells (settings_of before) before.given event answer
  pub leaving : shown answer.as_read event.octets answer.port after.leaving ≡ event.leaving
  pub entries : after.entries ≡ map (λ item. (item_written (settings_of before).mtu (link_of before.given) item).entry) event.items
  pub represents : Represents after (event ∷ history)
  pub normal : IsNormal (settings_of before) (link_of before.given) (items_in (event ∷ history))
  pub guarded : IsGuarded before.given (settings_of before) (event ∷ history)

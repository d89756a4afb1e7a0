-- What a call says of the gate in a handle (this project's profile, contrib/lib/norm.h).
use Rattle.std.specs.Prelude.{◌≡◌, ◌⊎◌, ◌<◌, ◌-◌, ◌^◌, ℕ, List, [], ◌∷◌, Option, Some, None, slice_get, take}
use Rattle.norm_gate.specs.declared.arrival.Frames.TheVariants.{Ports}
use Rattle.norm_gate.specs.declared.arrival.Port.{Port}
use Rattle.norm_gate.specs.declared.gate.Answer.{Answer}
use Rattle.norm_gate.specs.GateHistory.{Event, event_of}
use Rattle.norm_gate.specs.GateState.{Follows, Gated, Represents, settings_of}
use Rattle.norm_c.specs.Numbers.{answer_words, arrival_told, frames_numbered, number_of_port}
use Rattle.norm_c.specs.Opening.{AreAsked, words_in}
use Rattle.norm_c.specs.declared.plain.AnswerWords.{AnswerWords}
use Rattle.norm_c.specs.declared.plain.ArrivalWords.{ArrivalWords}
use Rattle.norm_c.specs.declared.plain.FrameWords.{FrameWords}
pub use Rattle.norm_c.specs.Opening.{AreUnfit, IsNoRun, words_in}

-- a call has one of these results
abbrev pub IsOneOf : List ℕ → ℕ → Type 0
IsOneOf [] result = ⊥
IsOneOf (known ∷ more) result = (result ≡ known) ⊎ IsOneOf more result

-- the handle has a gate of which this is true
abbrev pub Has : (Gated → Type 0) → Option Gated → Type 0
Has P None = ⊥
Has P (Some gate) = P gate

-- the handle had a gate and has one, which are so related
abbrev pub Both : (Gated → Gated → Type 0) → Option Gated → Option Gated → Type 0
Both P None after = ⊥
Both P (Some before) None = ⊥
Both P (Some before) (Some after) = P before after

-- a gate was opened by this text, for the frames with this number, and has seen no frame
pub record IsOpened (frames : ℕ) (text : List ℕ) (gate : Gated) : Type 0 where
  pub asked : AreAsked (words_in text) (settings_of gate)
  pub given : frames_numbered frames ≡ Some gate.given
  pub represents : Represents gate []

-- One frame: the answer in C's numbers is one that follows the gate's history, whichever it is.
pub record StepsTo (arrival : ArrivalWords) (octets : List ℕ) (told : AnswerWords) (before after : Gated) : Type 0 where
  pub answer : Answer
  pub told_is : told ≡ answer_words answer
  pub follows : (history : List Event) → Represents before history →
      Follows before after (event_of before.given (settings_of before) history (arrival_told arrival) octets) answer history

-- frames come from two ports, and this is the number of none
abbrev pub HasNoPort : ℕ → Gated → Type 0
HasNoPort port gate = (gate.given ≡ Ports) × (1 < port)

-- the engine has judged as many records as it can, at a port that exists
abbrev pub IsFull : ℕ → Gated → Type 0
IsFull port gate = (gate.live.engine.records ≡ 2 ^ 32 - 1) × (HasNoPort port gate → ⊥)

-- the gate's frame at this index is at the front of the buffer
pub record HasFrame (index : ℕ) (frame : FrameWords) (into : List ℕ) (gate : Gated) : Type 0 where
  pub port : Option Port
  pub at_index : slice_get gate.leaving index ≡ Some (record { octets = take frame.size into; port = port })
  pub port_is : frame.port ≡ number_of_port port

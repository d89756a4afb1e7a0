-- The live eras, searched for in the whole list of calls (this project's profile).
use Rattle.std.specs.Prelude.{◌≡◌, ◌≢◌, ◌↔◌, ℕ, ◌+◌, ◌<◌, ◌≤◌, ◌&&◌, Bool, false, List, [], ◌∷◌, length, Option, Some, None, if◌then◌else◌}
use Rattle.std.specs.List.{AllByRecursion, list_any}
use Rattle.std.specs.Option.{option_or}
use Rattle.wire_base.specs.declared.address.FlowKey.{FlowKey}
use Rattle.norm_settings.specs.SettingValues.{PlainSettings}
use Rattle.tcp_norm.specs.Calls.{Call, expiry, datagram, Alive, eras, live, is_key, key_of, is_era, is_written, is_among, ended_by, begun_in, time_of}
use Rattle.tcp_norm.specs.RuleViews.{number_of}
use Rattle.tcp_norm.specs.Outcomes.{call_of, expiry_of}
use Rattle.linked_table.specs.EntryTable.{Pairwise}

-- the call that the rules make of what is asked, after these calls
abbrev pub made_of : PlainSettings → List Call → Call → Call
made_of settings cs (expiry now ended) = expiry_of settings cs now
made_of settings cs (datagram now asked outcome) = call_of settings cs now asked

-- each call is the one that the rules make of it after the calls before
abbrev pub AreMade : PlainSettings → List Call → Type 0
AreMade settings [] = Unit {0}
AreMade settings (c ∷ cs) = (c ≡ made_of settings cs c) × AreMade settings cs

-- the era that a call begins for a four-tuple, if it begins one
abbrev pub begun_for : FlowKey → Call → Option ℕ
begun_for key (expiry now ended) = None
begun_for key (datagram now asked outcome) = if is_key (key_of asked) key then outcome.begun else None

-- the era last begun for a four-tuple, if one began
abbrev pub last_begun : FlowKey → List Call → Option ℕ
last_begun key [] = None
last_begun key (c ∷ cs) = option_or (begun_for key c) (last_begun key cs)

-- a call ended the era
abbrev pub has_ended : (era : ℕ) → List Call → Bool
has_ended era cs = list_any (λ c. is_among (ended_by c) era) cs

-- a call wrote in the era
abbrev pub writes_in : (era : ℕ) → Call → Bool
writes_in era (expiry now ended) = false
writes_in era (datagram now asked outcome) = is_era era outcome.era && is_written outcome.verdict

-- Touched: the time of the last call that wrote in the era
abbrev pub last_touch : (era : ℕ) → List Call → Option ℕ
last_touch era [] = None
last_touch era (c ∷ cs) = if writes_in era c then Some (time_of c) else last_touch era cs

-- the position of the last call that wrote in the era, where the first call has position 1; 0 where
-- none did
abbrev pub touch_place : (era : ℕ) → List Call → ℕ
touch_place era [] = 0
touch_place era (c ∷ cs) = if writes_in era c then length cs + 1 else touch_place era cs

-- it is the era last begun for its four-tuple, has not ended, and was written in last at its time
pub record IsLast (cs : List Call) (a : Alive) : Type 0 where
  pub last : last_begun a.key cs ≡ Some a.number
  pub goes_on : has_ended a.number cs ≡ false
  pub touched_is : last_touch a.number cs ≡ Some a.touched

-- Live is the era last begun for the four-tuple and not ended. The live eras are these, each once,
-- in the order of the calls that wrote last in them, and each has a number that was given.
pub record LivesAre (cs : List Call) : Type 0 where
  pub live_is : (key : FlowKey) (era : ℕ) → (number_of (live cs key) ≡ Some era) ↔ ((last_begun key cs ≡ Some era) × (has_ended era cs ≡ false))
  pub each : AllByRecursion (IsLast cs) (eras cs)
  pub keys_apart : Pairwise (λ a b. a.key ≢ b.key) (eras cs)
  pub numbers_apart : Pairwise (λ a b. a.number ≢ b.number) (eras cs)
  pub in_order : Pairwise (λ a b. touch_place a.number cs < touch_place b.number cs) (eras cs)
  pub given : AllByRecursion (λ a. a.number ≤ begun_in cs) (eras cs)

-- the live eras of calls that the rules make
abbrev pub LivesAreLast : Type 0
LivesAreLast = (settings : PlainSettings) (cs : List Call) → AreMade settings cs → LivesAre cs

-- no more eras are live than the settings allow
abbrev pub FlowsAreBounded : Type 0
FlowsAreBounded = (settings : PlainSettings) (cs : List Call) → AreMade settings cs → length (eras cs) ≤ settings.flows

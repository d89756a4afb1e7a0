-- The states of the connections of a load before a record (this project's profile).
use Rattle.std.specs.Prelude.{◌≡◌, ℕ, ◌^◌, ◌<◌, ◌≤◌, List, map}
use Rattle.std.specs.List.{range_with_len}
use Rattle.load_make.specs.declared.flow.Flow.{Flow}
use Rattle.load_make.specs.NumberSequence.{number_before, actions_before}
use Rattle.load_make.specs.Flows.{flow_after}

-- the state of each connection before the record at the position `place`
abbrev pub flows_before : (seed place : ℕ) → List Flow
flows_before seed place = map (λ flow. flow_after (actions_before seed flow place)) (range_with_len 0 64)

-- The number and the states of the connections are those before the next record.
pub record IsInStep (seed count made number : ℕ) (flows : List Flow) : Type 0 where
  pub within : made ≤ count
  pub few : count < 2 ^ 32
  pub follows : number ≡ number_before seed made
  pub each_flow : flows ≡ flows_before seed made

-- The four states of an era (this project's profile).
use Rattle.std.specs.Prelude.{ℕ, Bool, true, false, List, Option, Some, None, if◌then◌else◌}
use Rattle.wire_base.specs.Segments.{Written}
use Rattle.era_state.specs.Quantities.{base_of, is_opened, is_over, acked, end_of, out_fin}

-- their names
pub data State : Type 0 where
  called : State
  offered : State
  warm : State
  closed : State

-- the state after this base is fixed
abbrev pub state_at : ℕ → List Written → State
state_at base ws = if is_opened base ws then (if is_over (acked base ws) (end_of base ws) (out_fin ws) then closed else warm) else offered

-- the state by the base, if one is fixed
abbrev pub state_with : Option ℕ → List Written → State
state_with None ws = called
state_with (Some base) ws = state_at base ws

-- Called: no base is fixed. Offered: no stream offset is acknowledged. Closed: both sides have sent
-- a FIN and the inbound FIN is acknowledged. Warm: none of these
abbrev pub state_of : List Written → State
state_of ws = state_with (base_of ws) ws

-- Called
abbrev pub is_called : State → Bool
is_called called = true
is_called offered = false
is_called warm = false
is_called closed = false

-- Offered
abbrev pub is_offered : State → Bool
is_offered called = false
is_offered offered = true
is_offered warm = false
is_offered closed = false

-- Closed
abbrev pub is_closed : State → Bool
is_closed called = false
is_closed offered = false
is_closed warm = false
is_closed closed = true

-- Warm or Closed
abbrev pub is_acknowledged : State → Bool
is_acknowledged called = false
is_acknowledged offered = false
is_acknowledged warm = true
is_acknowledged closed = true

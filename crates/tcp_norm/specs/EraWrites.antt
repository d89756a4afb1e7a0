-- A call that writes in one era.
use Rattle.std.specs.Prelude.{◌≡◌, ◌≢◌, ℕ, List, [], ◌∷◌}
use Rattle.wire_base.specs.declared.address.FlowKey.{FlowKey}
use Rattle.wire_base.specs.Segments.{Written}
use Rattle.tcp_norm.specs.Calls.{Call, written_by, touched_by, ended_by, begins_by, time_of}

-- it writes these segments in this era, of this four-tuple, at this time, and begins and ends none
pub record WritesIn (c : Call) (era : ℕ) (key : FlowKey) (now : ℕ) (more : List Written) : Type 0 where
  pub own : written_by era c ≡ more
  pub others : (other : ℕ) → other ≢ era → written_by other c ≡ []
  pub touched : touched_by c ≡ record { number = era; key = key; touched = now } ∷ []
  pub ended : ended_by c ≡ []
  pub begun : begins_by c ≡ 0
  pub time : time_of c ≡ now

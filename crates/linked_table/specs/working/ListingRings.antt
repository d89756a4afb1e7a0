-- How an ordered list of slots is linked (this project's profile).
use Rattle.std.specs.Prelude.{ℕ, ◌<◌, ◌⊎◌, List}
use Rattle.linked_table.specs.declared.list.Links.{Links}
use Rattle.linked_table.specs.working.Rings.{In, Joins, HasRing}

-- Each slot is in the ring of the listed slots, or in its own ring.
pub record IsThreaded (links : List Links) (max : ℕ) : Type 0 where
  pub listed : List ℕ
  pub ring : HasRing links max max listed
  pub others_alone : (node : ℕ) → node < max → In node listed ⊎ Joins links node node

-- The nodes of a table and their links in buckets (this project's profile).
use Rattle.std.specs.Prelude.{◌≡◌, ℕ, None, List, ◌++◌, length}
use Rattle.linked_table.specs.declared.list.Links.{Links}
use Rattle.linked_table.specs.declared.node.Node.{Node}
use Rattle.linked_table.specs.working.Rings.{lone}
use Rattle.linked_table.specs.NodeColumns.{columns}

-- A node without a pair, alone in its rings.
abbrev pub lone_node : {K V : Type 0} → ℕ → Node K V
lone_node node = record { recent = lone node; chain = lone node; pair = None }

-- The links in buckets: those of the nodes, then those of the sentinels of the buckets.
abbrev pub chains_of : {K V : Type 0} → List (Node K V) → List Links → List Links
chains_of nodes hubs = (columns nodes).chains ++ hubs

-- From these nodes and sentinels to the new ones only the links in buckets change: they are now
-- `links`. The number of sentinels stays.
pub record Rechains {K V : Type 0} (nodes : List (Node K V)) (hubs : List Links) (new : List (Node K V)) (new_hubs links : List Links) : Type 0 where
  pub number : length new_hubs ≡ length hubs
  pub kept : columns new ≡ record (columns nodes) { chains = (columns new).chains }
  pub links_are : chains_of new new_hubs ≡ links

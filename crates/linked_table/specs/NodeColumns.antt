-- What the nodes of a table hold (this project's profile).
use Rattle.std.specs.Prelude.{Option, List, map}
use Rattle.linked_table.specs.declared.list.Links.{Links}
use Rattle.linked_table.specs.declared.node.Node.{Node}

-- What the nodes hold, each part in their order: the links by recency, those in buckets, and the
-- pairs.
pub record Columns (K V : Type 0) : Type 0 where
  pub recency : List Links
  pub chains : List Links
  pub pairs : List (Option (K × V))

-- The columns of these nodes.
abbrev pub columns : {K V : Type 0} → List (Node K V) → Columns K V
columns nodes = record { recency = map (λ n. n.recent) nodes; chains = map (λ n. n.chain) nodes; pairs = map (λ n. n.pair) nodes }

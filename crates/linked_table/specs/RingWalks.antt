-- Rings of nodes linked by index (this project's profile).
use Rattle.std.specs.Prelude.{ℕ, zero, suc, List, [], ◌∷◌, slice_index_or}
use Rattle.linked_table.specs.declared.list.Links.{Links}

-- The links of a node.
abbrev pub link_at : List Links → ℕ → Links
link_at links node = slice_index_or links node (record { before = 0; after = 0 })

-- The `n` nodes after this one.
abbrev pub walk : List Links → ℕ → ℕ → List ℕ
walk links zero from = []
walk links (suc n) from = (link_at links from).after ∷ walk links n (link_at links from).after

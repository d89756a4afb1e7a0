-- Rings of nodes linked by index (this project's profile).
use Rattle.std.specs.Prelude.{◌≡◌, ℕ, ◌<◌, ◌≤◌, ◌⊎◌, List, [], ◌∷◌, length, slice_set}
use Rattle.linked_table.specs.declared.list.Links.{Links}
use Rattle.linked_table.specs.RingWalks.{link_at}

-- The links of a node in its own ring.
abbrev pub lone : ℕ → Links
lone node = record { before = node; after = node }

-- The node is in the list.
abbrev pub In : ℕ → List ℕ → Type 0
In node [] = ⊥
In node (x ∷ xs) = (x ≡ node) ⊎ In node xs

-- The first node links to the second, and the second back to the first.
pub record Joins (links : List Links) (a b : ℕ) : Type 0 where
  pub on : (link_at links a).after ≡ b
  pub back : (link_at links b).before ≡ a

-- The links from one node lead through these nodes to another.
abbrev pub IsRing : List Links → ℕ → List ℕ → ℕ → Type 0
IsRing links from [] to = Joins links from to
IsRing links from (x ∷ xs) to = Joins links from x × IsRing links x xs to

-- The links from the sentinel lead through these nodes back to it. All of them are slots, and the
-- sentinel is not.
pub record HasRing (links : List Links) (slots hub : ℕ) (nodes : List ℕ) : Type 0 where
  pub ring : IsRing links hub nodes hub
  pub inside : (node : ℕ) → In node nodes → node < slots
  pub past : slots ≤ hub
  pub hub_in : hub < length links

-- The links, with `after` as the node after `node`.
abbrev pub with_after : List Links → ℕ → ℕ → List Links
with_after links node after = slice_set links node (record (link_at links node) { after = after })

-- The links, with `before` as the node before `node`.
abbrev pub with_before : List Links → ℕ → ℕ → List Links
with_before links node before = slice_set links node (record (link_at links node) { before = before })

-- The links without this node in its ring: its neighbours link to each other.
abbrev pub unlinked : List Links → ℕ → List Links
unlinked links node =
    with_before (with_after links (link_at links node).before (link_at links node).after) (link_at links node).after (link_at links node).before

-- The links, with this node in its own ring.
abbrev pub isolated : List Links → ℕ → List Links
isolated links node = slice_set links node (lone node)

-- The links, with this node as the last before the sentinel.
abbrev pub linked_last : List Links → ℕ → ℕ → List Links
linked_last links hub node =
    with_before (slice_set (with_after links (link_at links hub).before node) node (record { before = (link_at links hub).before; after = hub })) hub node

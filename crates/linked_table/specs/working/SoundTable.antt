-- How a table's entries are linked through its slots (this project's profile).
use Rattle.std.specs.Prelude.{◌≡◌, ◌≢◌, ℕ, ◌+◌, ◌*◌, ◌/◌, ◌%◌, ◌<◌, ◌^◌, Option, Some, None, List, [], ◌++◌, length, map, replicate, slice_index_or}
use Rattle.std.specs.List.{sum_by, range_with_len}
use Rattle.linked_table.specs.declared.list.Links.{Links}
use Rattle.linked_table.specs.working.Rings.{lone, In, HasRing}
use Rattle.linked_table.specs.NodeColumns.{Columns}
use Rattle.linked_table.specs.TableEntries.{pair_at}

-- The bucket of a hash, of this number of buckets: the low 32 bits of the product of its halves,
-- scaled to their number.
unfoldable pub bucket_number : (hash buckets : ℕ) → ℕ
bucket_number hash buckets = hash % 2 ^ 32 * (hash / 2 ^ 32) % 2 ^ 32 * buckets / 2 ^ 32

-- The slots of a bucket.
abbrev pub bucket_at : List (List ℕ) → ℕ → List ℕ
bucket_at buckets b = slice_index_or buckets b []

-- The nodes of a new table: all slots are free, no node has a pair, and none is in a bucket.
pub record IsAllFree {K V : Type 0} (max : ℕ) (nodes : Columns K V) : Type 0 where
  pub none_used : HasRing nodes.recency max max []
  pub all_free : HasRing nodes.recency max (max + 1) (range_with_len 0 max)
  pub no_pairs : nodes.pairs ≡ replicate (max + 2) None
  pub chains : nodes.chains ≡ map lone (range_with_len 0 (max + 2))

-- The slot is in the list by recency and in the bucket of this key.
pub record IsKept {K : Type 0} (hash : K → ℕ) (used : List ℕ) (buckets : List (List ℕ)) (node : ℕ) (key : K) : Type 0 where
  pub used_in : In node used
  pub bucket_in : In node (bucket_at buckets (bucket_number (hash key) (length buckets)))

module _ {K V : Type 0} where
  -- The slot has a pair, whose key belongs to this bucket.
  pub record IsHashed (hash : K → ℕ) (pairs : List (Option (K × V))) (buckets : List (List ℕ)) (node bucket : ℕ) : Type 0 where
    pub key : K
    pub value : V
    pub pair : pair_at pairs node ≡ Some (key, value)
    pub bucket_is : bucket_number (hash key) (length buckets) ≡ bucket

  -- The slots with a pair are those in the list by recency, each is in the bucket of its key, and
  -- no key occurs twice. The nodes after the slots are two sentinels, of the entries and of the
  -- free slots; the sentinels of the buckets are numbered after them.
  pub record IsSound (hash : K → ℕ) (max : ℕ) (nodes : Columns K V) (hubs : List Links) (len : ℕ) : Type 0 where
    -- The slots of the entries, least recently touched first, the free slots, and the slots of each
    -- bucket.
    pub used : List ℕ
    pub free : List ℕ
    pub buckets : List (List ℕ)
    pub used_ring : HasRing nodes.recency max max used
    pub free_ring : HasRing nodes.recency max (max + 1) free
    pub bucket_rings : (b : ℕ) → b < length buckets → HasRing (nodes.chains ++ hubs) max (max + 2 + b) (bucket_at buckets b)
    pub pair_nodes : length nodes.pairs ≡ max + 2
    pub chain_nodes : length nodes.chains ≡ max + 2
    pub hub_count : length hubs ≡ length buckets
    pub some_bucket : 0 < length buckets
    pub room : max + 2 + length buckets < 2 ^ 32
    pub used_count : length used ≡ len
    pub total : len + length free ≡ max
    pub bucket_total : sum_by length buckets ≡ len
    pub used_filled : (node : ℕ) → In node used → pair_at nodes.pairs node ≢ None
    pub free_empty : (node : ℕ) → In node free → pair_at nodes.pairs node ≡ None
    pub bucket_hashed : (b node : ℕ) → In node (bucket_at buckets b) → IsHashed hash nodes.pairs buckets node b
    pub kept : (node : ℕ) (key : K) (value : V) → pair_at nodes.pairs node ≡ Some (key, value) → IsKept hash used buckets node key
    pub keys_apart : (node other : ℕ) (key : K) (value rest : V) → pair_at nodes.pairs node ≡ Some (key, value) → pair_at nodes.pairs other ≡ Some (key, rest) → node ≡ other

-- Numbers that are kept of each era, by how many calls there were, and by the quota.
use Rattle.std.specs.Prelude.{ℕ, ◌*◌, ◌^◌, ◌≤◌, List, length, Option}
use Rattle.std.specs.List.{All}
use Rattle.linked_table.specs.EntryTable.{Entry}
use Rattle.retain_store.specs.Maps.{Store, chain_of}
use Rattle.era_state.specs.declared.era.Era.{Era}
use Rattle.era_state.specs.Eras.{acked_in, octets_in}
use Rattle.tcp_norm.specs.declared.key.Flow.{Flow}
use Rattle.tcp_norm.specs.declared.key.EraKey.{EraKey}
use Rattle.tcp_norm.specs.QuotaBounds.{IsAtMost}

-- a call acknowledges less than 2^31, and brings fewer than 65,536 octets
abbrev pub IsNear : (calls : ℕ) → Era → Type 0
IsNear calls e = (acked_in e ≤ calls * 2 ^ 31) × (octets_in e ≤ calls * 2 ^ 16)

-- this holds for each entry
abbrev pub AreNear : (calls : ℕ) → List (Entry EraKey Flow) → Type 0
AreNear calls entries = All (λ e. IsNear calls e.value.era) entries

-- no chain has more blocks than the quota
abbrev pub AreBounded : (quota : Option ℕ) → Store → Type 0
AreBounded quota store = (chain : ℕ) → IsAtMost quota (length (chain_of store chain))

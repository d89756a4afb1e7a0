-- The hash of a datagram's identification under a seed (this project's profile): it decides where
-- an entry is looked up; no result depends on it.
use Rattle.std.specs.Prelude.{ℕ, ◌+◌, ◌*◌}
use Rattle.reassembly.specs.declared.id.DatagramId.{DatagramId}
use Rattle.linked_table.specs.Hashes.{hash_of_words}

-- the seed, then the source with the identification, and the destination with the protocol
abbrev pub hash_of : DatagramId → ℕ → ℕ
hash_of id seed = hash_of_words seed (id.src.0 * 65536 + id.ident) (id.dst.0 * 65536 + id.protocol)

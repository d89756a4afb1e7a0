-- The position of a reader in a capture file (this project's profile).
use Rattle.std.specs.Prelude.{ℕ, Bool}
use Rattle.pcap_file.specs.declared.head.Head.{Head}

-- The head, the offsets of the next record and of the one asked for last, the number of records
-- returned, and whether `next` may be called.
pub record Reading : Type 0 where
  pub head : Head
  pub place : ℕ
  pub asked : ℕ
  pub given : ℕ
  pub is_open : Bool

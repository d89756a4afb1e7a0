-- What a chain of the store represents.
use Rattle.std.specs.Prelude.{◌≡◌, ℕ, List}
use Rattle.wire_base.specs.Segments.{Written}
use Rattle.retain_store.specs.Maps.{Block, octet_at}
use Rattle.tcp_norm.specs.HeldOctets.{kept_at}

-- a chain has the octets that are kept of an era, and no others
abbrev pub Keeps : List Block → List Written → Type 0
Keeps blocks ws = (offset : ℕ) → octet_at blocks offset ≡ kept_at ws offset

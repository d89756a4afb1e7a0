use Rattle.std.proofs.Common.{◌≡◌, ℕ, ◌+◌, ◌<◌, length, slice_index}
use Rattle.load_make.specs.Packets.{octet_at}
use Rattle.load_make.proofs.packet.put_stream.Given as goal

abbrev pub invariant-loop-index : goal.invariant-loop-index
invariant-loop-index l = (length l.octets ≡ 512) × ((k : ℕ) → k < l.index → slice_index l.octets k ≡ octet_at l.flow (l.offset + k))

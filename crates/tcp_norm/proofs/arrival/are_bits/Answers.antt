use Rattle.std.proofs.Common.{arith}
use Rattle.tcp_norm.proofs.arrival.are_bits.Goals as goal

pub returns : goal.returns
returns c = record { source = c.has_bits.ensures; destination = c.has_bits-2.ensures; each = λ i. omega (arith, c.type_inv.octets i) }

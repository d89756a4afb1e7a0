use Rattle.cell_pool.proofs.Bits.{bits_above}
use Rattle.cell_pool.proofs.octets.bits_from.Goals as goal

pub returns-then-place-lt64 : goal.returns-then-place-lt64
returns-then-place-lt64 c = bits_above _ _ c.if-place-lt64.true

use Rattle.cell_pool.proofs.Bits.{octets_none}
use Rattle.cell_pool.proofs.octets.Octets.clear.Goals as goal

pub returns : goal.returns
returns c = octets_none _

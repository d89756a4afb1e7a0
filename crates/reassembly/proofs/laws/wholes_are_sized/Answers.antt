use Rattle.reassembly.proofs.Datagrams.{wholes_are_sized}
use Rattle.reassembly.proofs.laws.wholes_are_sized.Goals as goal

pub returns : goal.returns
returns c = wholes_are_sized

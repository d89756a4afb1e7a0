use Rattle.reassembly.proofs.Identifications.{apart}
use Rattle.reassembly.proofs.laws.datagrams_are_apart.Goals as goal

pub returns : goal.returns
returns c = apart

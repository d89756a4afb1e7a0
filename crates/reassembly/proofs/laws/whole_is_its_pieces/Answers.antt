use Rattle.reassembly.proofs.Datagrams.{whole_is_its_pieces}
use Rattle.reassembly.proofs.laws.whole_is_its_pieces.Goals as goal

pub returns : goal.returns
returns c = whole_is_its_pieces

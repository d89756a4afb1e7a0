use Rattle.receiver_model.proofs.Parts.{read_parts}
use Rattle.receiver_model.proofs.laws.members_read_parts.Goals as goal

pub returns : goal.returns
returns c = read_parts

use Rattle.receiver_model.proofs.Members.{agrees}
use Rattle.receiver_model.proofs.laws.members_agree.Goals as goal

pub returns : goal.returns
returns c = agrees

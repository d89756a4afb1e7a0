use Rattle.receiver_model.proofs.Parts.{meet, meeting_agree}
use Rattle.receiver_model.proofs.laws.parts_meet.Goals as goal

pub returns : goal.returns
returns c = record { meet = meet; agree = meeting_agree }

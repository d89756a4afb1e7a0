use Rattle.frame_view.proofs.Frames.{nothing_differs, say_the_same}
use Rattle.frame_view.proofs.laws.fields_determine_frames.Goals as goal

pub returns-clause-same : goal.returns-clause-same
returns-clause-same c = say_the_same

pub returns-clause-nothing : goal.returns-clause-nothing
returns-clause-nothing c = nothing_differs

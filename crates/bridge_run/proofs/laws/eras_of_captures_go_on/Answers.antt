use Rattle.both_sides.specs.RecordedHost.{ErasOfRunsGoOn}
use Rattle.bridge_run.specs.RecordedHost.{NormalizedErasGoOn}
use Rattle.bridge_run.proofs.laws.eras_of_captures_go_on.Goals as goal

go_on : ErasOfRunsGoOn → NormalizedErasGoOn
go_on runs settings source source' capture capture' report report' n = runs settings n.head.link n.run n.range.hops n.lawful n.octets

pub returns : goal.returns
returns c = go_on c.eras_of_runs_go_on.ensures

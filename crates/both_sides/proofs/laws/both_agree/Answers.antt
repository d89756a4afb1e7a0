use Rattle.both_sides.specs.Traces.{mirrored}
use Rattle.both_sides.proofs.laws.both_agree.Goals as goal

pub returns : goal.returns
returns c = λ settings link trace mirror hops octets frames lawful. (
  c.lawful_agrees.ensures settings link trace (record { hops = hops; octets = octets; lawful = lawful.first }),
  c.lawful_agrees.ensures (mirrored settings) link mirror (record { hops = hops; octets = frames; lawful = lawful.second }),
)

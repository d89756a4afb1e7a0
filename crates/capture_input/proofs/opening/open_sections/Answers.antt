use Rattle.capture_input.proofs.Heads.{sections_open}
use Rattle.capture_input.proofs.opening.open_sections.Goals as goal

pub returns-clause-octets : goal.returns-clause-octets
returns-clause-octets g c = λ kind. sections_open _ _ _ _ kind c.in_ok-reader.ensures.octets

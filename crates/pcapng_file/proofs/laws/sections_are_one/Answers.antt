use Rattle.pcapng_file.proofs.Sections.{sections_one}
use Rattle.pcapng_file.proofs.laws.sections_are_one.Goals as goal

pub returns : goal.returns
returns c = sections_one

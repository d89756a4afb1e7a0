use Rattle.pcapng_file.proofs.Sections.{walks_on}
use Rattle.pcapng_file.proofs.laws.walks_on.Goals as goal

pub returns : goal.returns
returns c = walks_on

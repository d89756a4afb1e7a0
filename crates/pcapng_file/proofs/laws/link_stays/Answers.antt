use Rattle.pcapng_file.proofs.Sections.{link_stays}
use Rattle.pcapng_file.proofs.laws.link_stays.Goals as goal

pub returns : goal.returns
returns c = link_stays

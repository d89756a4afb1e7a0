use Rattle.pcapng_file.proofs.Sections.{each_ends}
use Rattle.pcapng_file.proofs.laws.each_file_ends.Goals as goal

pub returns : goal.returns
returns c = each_ends

use Rattle.pcapng_file.proofs.Sections.{fault_no_end}
use Rattle.pcapng_file.proofs.laws.fault_excludes_end.Goals as goal

pub returns : goal.returns
returns c = fault_no_end

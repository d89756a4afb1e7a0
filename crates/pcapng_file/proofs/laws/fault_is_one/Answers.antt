use Rattle.pcapng_file.proofs.Sections.{fault_one}
use Rattle.pcapng_file.proofs.laws.fault_is_one.Goals as goal

pub returns : goal.returns
returns c = fault_one

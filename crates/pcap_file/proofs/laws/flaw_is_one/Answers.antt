use Rattle.pcap_file.proofs.Captures.{flaw_one}
use Rattle.pcap_file.proofs.laws.flaw_is_one.Goals as goal

pub returns : goal.returns
returns c = flaw_one

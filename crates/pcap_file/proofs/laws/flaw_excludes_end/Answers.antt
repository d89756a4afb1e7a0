use Rattle.pcap_file.proofs.Captures.{flaw_no_end}
use Rattle.pcap_file.proofs.laws.flaw_excludes_end.Goals as goal

pub returns : goal.returns
returns c = flaw_no_end

use Rattle.pcap_file.proofs.Captures.{each_ends}
use Rattle.pcap_file.proofs.laws.each_file_ends.Goals as goal

pub returns : goal.returns
returns c = each_ends

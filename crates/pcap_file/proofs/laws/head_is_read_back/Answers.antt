use Rattle.pcap_file.proofs.Records.{head_read_back}
use Rattle.pcap_file.proofs.laws.head_is_read_back.Goals as goal

pub returns : goal.returns
returns c = head_read_back

use Rattle.pcap_file.proofs.Records.{record_read_back}
use Rattle.pcap_file.proofs.laws.record_is_read_back.Goals as goal

pub returns : goal.returns
returns c = record_read_back

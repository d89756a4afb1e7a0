use Rattle.pcap_file.proofs.Captures.{capture_one}
use Rattle.pcap_file.proofs.laws.capture_is_one.Goals as goal

pub returns : goal.returns
returns c = capture_one

use Rattle.std.proofs.Common.{rules, arith, length, ◌≡◌}
use Rattle.pcap_file.proofs.Records.{whole, begins_short, judged}
use Rattle.pcap_file.proofs.head.read_head.Goals as goal

pub returns-then-count-lt24-clause-octets : goal.returns-then-count-lt24-clause-octets
returns-then-count-lt24-clause-octets g c =
    let fills = c.in_ok-count.ensures.octets in
    begins_short _ _ c.read_full.new.buf c.in_ok-count.count c.if-count-lt24.true fills.0 fills.1 (fills.2 (omega arith))

pub returns-clause-octets : goal.returns-clause-octets
returns-clause-octets g c =
    let size : length c.read_full.new.buf ≡ 24 = search rules in
    judged _ _ c.read_full.new.buf _ size (whole _ _ c.read_full.new.buf c.in_ok-count.count (omega arith) c.in_ok-count.ensures.octets.1) c.judge.ensures

use Rattle.era_agreement.proofs.Streams.{is_of_one_stream, reads_one_stream}
use Rattle.era_agreement.proofs.laws.emitted_reads_one_stream.Goals as goal

pub returns-clause-packets : goal.returns-clause-packets
returns-clause-packets c = is_of_one_stream c.emitted_tells_one_stream.ensures c.emitted_octets_are_places.ensures

pub returns-clause-receivers : goal.returns-clause-receivers
returns-clause-receivers c =
    reads_one_stream c.members_read_parts.ensures c.emitted_tells_one_stream.ensures
    (is_of_one_stream c.emitted_tells_one_stream.ensures c.emitted_octets_are_places.ensures)

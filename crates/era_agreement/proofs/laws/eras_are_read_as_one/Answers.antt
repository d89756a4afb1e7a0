use Rattle.era_agreement.proofs.TwoEras.{eras_are_read_as_one, not_read_again, read_to_acked}
use Rattle.era_agreement.proofs.laws.eras_are_read_as_one.Goals as goal

pub returns-clause-again : goal.returns-clause-again
returns-clause-again c = not_read_again (record {
  tells = c.emitted_tells_one_stream.ensures;
  of = c.emitted_reads_one_stream.ensures.packets;
  places = c.emitted_octets_are_places.ensures;
  read = c.offsets_are_read.ensures;
}) c.members_read_parts.ensures

pub returns-clause-one : goal.returns-clause-one
returns-clause-one c = eras_are_read_as_one (record {
  tells = c.emitted_tells_one_stream.ensures;
  of = c.emitted_reads_one_stream.ensures.packets;
  places = c.emitted_octets_are_places.ensures;
  read = c.offsets_are_read.ensures;
}) c.members_agree.ensures c.members_read_parts.ensures c.monitors_miss_nothing.ensures

pub returns-clause-acknowledged : goal.returns-clause-acknowledged
returns-clause-acknowledged c = read_to_acked (record {
  tells = c.emitted_tells_one_stream.ensures;
  of = c.emitted_reads_one_stream.ensures.packets;
  places = c.emitted_octets_are_places.ensures;
  read = c.offsets_are_read.ensures;
}) c.members_read_parts.ensures

use Rattle.era_agreement.proofs.Streams.{tells_one_stream}
use Rattle.era_agreement.proofs.laws.emitted_tells_one_stream.Goals as goal

pub returns : goal.returns
returns c =
    tells_one_stream (record { read = c.offsets_are_read.ensures; same = c.inwards_acknowledge_nothing.ensures; remains = c.written_remains.ensures; joins = c.emitted_joins.ensures; told = c.emitted_is_told.ensures })
    c.emitted_octets_are_places.ensures

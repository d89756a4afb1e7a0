-- The state of a stream before it took a packet, and the return to it (this project's profile).
use Rattle.std.specs.Prelude.{length, take}
use Rattle.receiver_model.specs.declared.mark.Mark.{Mark}
use Rattle.receiver_model.specs.Streams.{StreamState}

-- the mark of a stream's present state
abbrev pub mark_of : StreamState → Mark
mark_of stream = record { taken = length stream.taken; octets = length stream.octets; fin = stream.fin; ended = stream.ended }

-- the stream without what it took after a mark
abbrev pub gone_back : StreamState → Mark → StreamState
gone_back stream mark = record stream { taken = take mark.taken stream.taken; octets = take mark.octets stream.octets; fin = mark.fin; ended = mark.ended }

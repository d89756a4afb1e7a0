use Rattle.tcp_norm.proofs.Payloads.{keeps_payload}
use Rattle.tcp_norm.proofs.laws.clean_keeps_payload.Goals as goal

pub returns : goal.returns
returns c settings v d is passes none =
    keeps_payload c.segments_are_read_back.ensures c.options_are_cleaned.ensures.octets c.intervals_fit.ensures c.mended_say_the_same.ensures settings v d is passes none

use Rattle.emit_mtu.proofs.Segments.{carry_the_payload}
use Rattle.emit_mtu.proofs.laws.segments_carry_the_payload.Goals as goal

pub returns : goal.returns
returns c = carry_the_payload

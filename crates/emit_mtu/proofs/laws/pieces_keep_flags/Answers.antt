use Rattle.emit_mtu.proofs.PlainPackets.{flags_are_kept}
use Rattle.emit_mtu.proofs.laws.pieces_keep_flags.Goals as goal

pub returns : goal.returns
returns c = flags_are_kept

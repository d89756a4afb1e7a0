use Rattle.tcp_norm.proofs.Quotas.{leaves_room}
use Rattle.tcp_norm.proofs.laws.quota_leaves_room.Goals as goal

pub returns : goal.returns
returns c = leaves_room c.held_is_bounded.ensures

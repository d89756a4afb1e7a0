use Rattle.norm_engine.proofs.ItemEntries.{leaves_room}
use Rattle.norm_engine.proofs.laws.lawful_leaves_room.Goals as goal

pub returns : goal.returns
returns c = leaves_room c.lawful_calls_are_made.ensures c.quota_leaves_room.ensures

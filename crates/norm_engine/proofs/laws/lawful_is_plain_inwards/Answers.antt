use Rattle.norm_engine.proofs.ItemFrames.{lawful_plain_inwards}
use Rattle.norm_engine.proofs.laws.lawful_is_plain_inwards.Goals as goal

pub returns : goal.returns
returns c = lawful_plain_inwards c.datagrams_are_known.ensures c.items_are_certain.ensures

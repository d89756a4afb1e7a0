use Rattle.norm_engine.proofs.ItemFrames.{lawful_short}
use Rattle.norm_engine.proofs.laws.lawful_is_short.Goals as goal

pub returns : goal.returns
returns c = lawful_short c.datagrams_are_known.ensures c.packets_are_its_own.ensures c.items_go_out.ensures

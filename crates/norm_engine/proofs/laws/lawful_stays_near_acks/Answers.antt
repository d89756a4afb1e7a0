use Rattle.norm_engine.proofs.Receivers.{near_acks}
use Rattle.norm_engine.proofs.laws.lawful_stays_near_acks.Goals as goal

pub returns : goal.returns
returns c = near_acks c.emitted_stays_near_acks.ensures c.lawful_is_emitted.ensures

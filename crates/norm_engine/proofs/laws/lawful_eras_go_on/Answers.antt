use Rattle.norm_engine.proofs.EraReadings.{eras_go_on}
use Rattle.norm_engine.proofs.laws.lawful_eras_go_on.Goals as goal

pub returns : goal.returns
returns c = eras_go_on c.lawful_is_emitted.ensures c.eras_are_read_as_one.ensures.again c.eras_are_read_as_one.ensures.one c.eras_are_read_as_one.ensures.acknowledged

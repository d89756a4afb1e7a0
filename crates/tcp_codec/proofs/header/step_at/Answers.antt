use Rattle.tcp_codec.proofs.Walks.{steps}
use Rattle.tcp_codec.proofs.header.step_at.Goals as goal

pub returns-clause-least : goal.returns-clause-least
returns-clause-least c = (steps c.args.area.now c.args.at c.size_by.result c.requires.formed (record { begins = c.requires.begins; some = c.requires.some; none = c.size_by.ensures.none; option = c.size_by.ensures.option })).least

pub returns-clause-inside : goal.returns-clause-inside
returns-clause-inside c = (steps c.args.area.now c.args.at c.size_by.result c.requires.formed (record { begins = c.requires.begins; some = c.requires.some; none = c.size_by.ensures.none; option = c.size_by.ensures.option })).inside

pub returns-clause-formed : goal.returns-clause-formed
returns-clause-formed c = (steps c.args.area.now c.args.at c.size_by.result c.requires.formed (record { begins = c.requires.begins; some = c.requires.some; none = c.size_by.ensures.none; option = c.size_by.ensures.option })).formed

use Rattle.wire_base.proofs.OptionLists.{are_the_area, follow_each_other, worked_areas}
use Rattle.wire_base.proofs.laws.options_are_listed.Goals as goal

pub returns-clause-octets : goal.returns-clause-octets
returns-clause-octets c = are_the_area

pub returns-clause-places : goal.returns-clause-places
returns-clause-places c = follow_each_other

pub returns-clause-rows : goal.returns-clause-rows
returns-clause-rows c = worked_areas

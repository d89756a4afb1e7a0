use Rattle.tcp_norm.proofs.EraTable.{in_valued}
use Rattle.tcp_norm.proofs.update.hear_in.Goals as goal

pub touch-requires : goal.touch-requires
touch-requires c = in_valued c.args.table.now.entries c.args.slot _ c.requires.inside

pub returns : goal.returns
returns c = record {
  flow = c.at_mut-flow.result.now;
  era = c.hear.new.self;
  touches = record { was = c.at_mut-flow.ensures.value; entries = c.touch.ensures; same = c.hear.ensures.same; octets_are = c.hear.ensures.octets };
  stands = c.hear.ensures.stands;
}

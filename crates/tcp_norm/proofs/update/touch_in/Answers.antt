use Rattle.std.proofs.Common.{refl}
use Rattle.tcp_norm.proofs.EraTable.{in_valued}
use Rattle.tcp_norm.proofs.update.touch_in.Goals as goal

pub touch-requires : goal.touch-requires
touch-requires c = in_valued c.args.table.now.entries c.args.slot _ c.requires.inside

pub returns : goal.returns
returns c = record {
  flow = c.at_mut-flow.result.now;
  touches = record { was = c.at_mut-flow.ensures.value; entries = c.touch.ensures; same = refl; octets_are = refl };
}

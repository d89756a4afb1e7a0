use Rattle.tcp_norm.proofs.EraTable.{in_valued}
use Rattle.tcp_norm.proofs.update.send_in.Goals as goal

pub touch-requires : goal.touch-requires
touch-requires c = in_valued c.args.table.now.entries c.args.slot _ c.requires.inside

pub returns : goal.returns
returns c = record {
  flow = c.at_mut-flow.result.now;
  was = c.at_mut-flow.ensures.value;
  continues = record {
    era = c.go_on.new.self;
    entries = c.touch.ensures;
    stands = c.go_on.ensures.stands;
    near = c.go_on.ensures.near;
    octets_are = c.go_on.ensures.octets;
    acked_is = c.acknowledged-acked.ensures;
  };
}

use Rattle.std.proofs.Common.{◌+◌, ◌<◌, ◌^◌}
use Rattle.era_state.specs.Eras.{GivesTo, octets_in}
use Rattle.tcp_norm.specs.declared.key.Flow.{Flow}
use Rattle.tcp_norm.proofs.EraTable.{value_in, in_valued}
use Rattle.tcp_norm.proofs.update.take_in.Goals as goal

pub forward-requires-clause-given : goal.forward-requires-clause-given
forward-requires-clause-given c =
    value_in (λ (f : Flow). GivesTo f.era c.args.kept.now) c.args.table.now.entries c.args.slot _ c.requires.inside c.at_mut-flow.ensures.value c.requires.given

pub forward-requires-clause-few : goal.forward-requires-clause-few
forward-requires-clause-few c =
    value_in (λ (f : Flow). octets_in f.era + c.args.fresh < 2 ^ 64) c.args.table.now.entries c.args.slot _ c.requires.inside c.at_mut-flow.ensures.value c.requires.few

pub touch-requires : goal.touch-requires
touch-requires c = in_valued c.args.table.now.entries c.args.slot _ c.requires.inside

pub returns : goal.returns
returns c = record {
  flow = c.at_mut-flow.result.now;
  era = c.forward.new.self;
  was = c.at_mut-flow.ensures.value;
  entries = c.touch.ensures;
  value = c.forward.ensures.value;
  stands = c.forward.ensures.list;
  same = c.forward.ensures.same;
  octets_are = c.forward.ensures.octets;
}

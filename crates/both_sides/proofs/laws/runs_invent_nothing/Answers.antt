use Rattle.both_sides.proofs.BroughtRuns.{runs_are_brought}
use Rattle.both_sides.proofs.laws.runs_invent_nothing.Goals as goal

pub returns : goal.returns
returns c = runs_are_brought (record {
  nothing = c.lawful_invents_nothing.ensures;
  real = c.lawful_clashes_are_real.ensures;
  fragments = c.lawful_fragment_clashes_are_real.ensures;
  written = c.written_clashes_are_real.ensures.clashes;
  written_fragments = c.written_clashes_are_real.ensures.fragment_clashes;
})

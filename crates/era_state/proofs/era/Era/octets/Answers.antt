use Rattle.std.proofs.Common.{◌∙◌, sym, ap}
use Rattle.era_state.proofs.SameNumbers.{octets_are_the_lists}
use Rattle.era_state.specs.Eras.{octets_in}
use Rattle.era_state.proofs.era.Era.octets.Goals as goal

pub returns-in-Warm-clause-list : goal.returns-in-Warm-clause-list
returns-in-Warm-clause-list c ws h = ap octets_in (sym c.in-Warm.is) ∙ octets_are_the_lists c.args.self.now ws h

pub returns-in-Closed-clause-list : goal.returns-in-Closed-clause-list
returns-in-Closed-clause-list c ws h = ap octets_in (sym c.in-Closed.is) ∙ octets_are_the_lists c.args.self.now ws h

use Rattle.std.proofs.Common.{sym, ap, ◌∙◌}
use Rattle.norm_engine.specs.Trace.{is_quoted_live}
use Rattle.norm_engine.proofs.judge.quotes_live.Goals as goal

pub returns : goal.returns
returns c = λ settings calls stands. c.live.ensures settings calls stands ∙ ap (is_quoted_live calls) (sym c.in-Some.is ∙ c.quoted.ensures.exact)

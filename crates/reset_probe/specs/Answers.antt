-- The answer to an inbound reset of a live era.
use Rattle.std.specs.Prelude.{List, if◌then◌else◌}
use Rattle.wire_base.specs.Segments.{Written}
use Rattle.era_state.specs.Rules.{t_rst}
use Rattle.reset_probe.specs.declared.reset.ResetAnswer.{ResetAnswer}
use Rattle.reset_probe.specs.declared.reset.ResetAnswer.TheVariants.{Pass, Refuse}
use Rattle.reset_probe.specs.Rules.{era_probe}

-- refused under T_RST; otherwise it passes with the era probe, if there is one
abbrev pub reset_answer : List Written → Written → ResetAnswer
reset_answer ws w = if t_rst ws w then Refuse else Pass (era_probe ws w)

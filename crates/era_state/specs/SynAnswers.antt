-- What becomes of an inbound SYN of a live era.
use Rattle.std.specs.Prelude.{ℕ, Bool, true, false, List, Option, if◌then◌else◌}
use Rattle.wire_base.specs.Segments.{Written}
use Rattle.era_state.specs.declared.era.SynAnswer.{SynAnswer}
use Rattle.era_state.specs.declared.era.SynAnswer.TheVariants.{Early, Stray, Reopen, Hear}
use Rattle.era_state.specs.Quantities.{base_of, iss}
use Rattle.era_state.specs.Rules.{is_early_at, is_stray_at, reopens_inward_at}
use Rattle.era_state.specs.States.{State, state_of}

-- T_STATE, then T_SYN drops it; it reopens the era; otherwise the era hears it
abbrev pub syn_answer_at : State → (iss base : Option ℕ) → Written → SynAnswer
syn_answer_at state iss base w =
    if is_early_at state iss w then Early else if is_stray_at state base w then Stray else if reopens_inward_at state base w then Reopen else Hear

-- by the segments before
abbrev pub syn_answer : List Written → Written → SynAnswer
syn_answer ws w = syn_answer_at (state_of ws) (iss ws) (base_of ws) w

-- the era ends and another begins
abbrev pub is_reopen : SynAnswer → Bool
is_reopen Early = false
is_reopen Stray = false
is_reopen Reopen = true
is_reopen Hear = false

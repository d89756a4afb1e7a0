-- The answer to an inbound segment without a live era.
use Rattle.std.specs.Prelude.{◌≡◌, Bool, true, false, [], ◌∷◌}
use Rattle.era_state.specs.declared.segment.Seg.{Seg}
use Rattle.era_state.specs.SegmentFields.{came}
use Rattle.era_state.specs.EraFields.{OfferedFor}
use Rattle.cold_start.specs.declared.inbound.ColdAnswer.{ColdAnswer}
use Rattle.cold_start.specs.declared.inbound.ColdAnswer.TheVariants.{Begin, Probe, Refuse}
use Rattle.cold_start.specs.Rules.{cold_probe_of}

-- an era begins
abbrev pub is_begin : ColdAnswer → Bool
is_begin (Begin era) = true
is_begin (Probe probe) = false
is_begin Refuse = false

-- a probe is sent
abbrev pub is_probe : ColdAnswer → Bool
is_probe (Begin era) = false
is_probe (Probe probe) = true
is_probe Refuse = false

-- the segment is refused, and nothing is sent
abbrev pub is_refuse : ColdAnswer → Bool
is_refuse (Begin era) = false
is_refuse (Probe probe) = false
is_refuse Refuse = true

-- an era that begins represents the list of the one segment, and a probe is the segment's cold
-- probe
abbrev pub AnswersTo : Seg → ColdAnswer → Type 0
AnswersTo s (Begin era) = OfferedFor era (came s ∷ [])
AnswersTo s (Probe probe) = probe ≡ cold_probe_of (came s)
AnswersTo s Refuse = Unit {0}

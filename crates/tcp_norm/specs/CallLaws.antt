-- Laws of calls.
use Rattle.std.specs.Prelude.{◌≡◌, ℕ, ◌<◌, ◌^◌, true, false, List, [], ◌∷◌, Some, ◌==◌, filter}
use Rattle.wire_base.specs.Segments.{Written}
use Rattle.tcp_codec.specs.WrittenSegment.{Fits}
use Rattle.norm_settings.specs.SettingValues.{PlainSettings}
use Rattle.era_state.specs.declared.offset.Interval.{Interval}
use Rattle.era_state.specs.declared.warm.Warm.{Warm}
use Rattle.era_state.specs.Rules.{is_of_stream}
use Rattle.era_state.specs.EraFields.{WarmFor}
use Rattle.era_state.specs.KeptIntervals.{KeptOf}
use Rattle.era_state.specs.WrittenFrames.{IsFrame}
use Rattle.ip_rules.specs.Datagrams.{Datagram}
use Rattle.tcp_norm.specs.Calls.{Call, datagram, Alive, segments, eras, names, ended_by, is_among, segment_in, key_of}
use Rattle.tcp_norm.specs.RuleViews.{View}
use Rattle.tcp_norm.specs.RuleRows.{t_quota, t_room}
use Rattle.tcp_norm.specs.EmittedPackets.{octets_sent, stream_segment}
use Rattle.tcp_norm.specs.Outcomes.{outcome_at}
use Rattle.tcp_norm.specs.EraWrites.{WritesIn}

-- the entries of an era among these
abbrev pub of_era : ℕ → List Alive → List Alive
of_era era lives = filter (λ a. a.number == era) lives

-- A call leaves an era as it was: the segments written in it, whether and with which four-tuple and
-- last touch it is live, and so all its quantities.
pub record Leaves (era : ℕ) (c : Call) (cs : List Call) : Type 0 where
  pub segments_are : segments era (c ∷ cs) ≡ segments era cs
  pub live_is : of_era era (eras (c ∷ cs)) ≡ of_era era (eras cs)

-- a call that neither names nor ends an era leaves it so
abbrev pub OthersStay : Type 0
OthersStay = (era : ℕ) (c : Call) (cs : List Call) → names c era ≡ false → is_among (ended_by c) era ≡ false → Leaves era c cs

-- what is written of a segment is the frame of its interval, with First at each offset where that
-- is defined, and else with its own octets
pub record WritesFrame (ws : List Written) (w : Written) (i : Interval) (frame : Written) : Type 0 where
  pub framed : IsFrame ws w i frame
  pub octets_are : frame.octets ≡ octets_sent ws w

-- A segment of the stream of a live era that the cells and the quota can hold: what becomes of it
-- is written in that era alone, and is the frame of its interval.
abbrev pub StreamsAreWritten : Type 0
StreamsAreWritten =
    (settings : PlainSettings) (v : View) (d : Datagram) (e : Warm) (i : Interval) (era now : ℕ)
    → v.era ≡ Some era → WarmFor e v.segments → is_of_stream v.segments (segment_in d) ≡ true → KeptOf v.segments (segment_in d) i
    → t_quota settings v (segment_in d) ≡ false → t_room v (segment_in d) ≡ false
    → (segment_in d).seq < 2 ^ 32 → Fits (stream_segment v.segments d)
    → (frame : Written) × WritesIn (datagram now d (outcome_at settings v d)) era (key_of d) now (frame ∷ []) × WritesFrame v.segments (segment_in d) i frame

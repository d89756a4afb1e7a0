use Rattle.std.proofs.Common.{refl, sym, ap, ◌∙◌}
use Rattle.era_state.specs.Offsets.{number_in}
use Rattle.era_state.specs.Quantities.{end_of}
use Rattle.tcp_norm.specs.RuleRows.{clashes}
use Rattle.tcp_norm.specs.Calls.{segment_in}
use Rattle.tcp_norm.proofs.SegmentRules.{of_stream, header_mended}
use Rattle.tcp_norm.proofs.EraWrites.{stream_writes}
use Rattle.tcp_norm.proofs.StreamFrames.{writes_frame}
use Rattle.tcp_norm.proofs.laws.streams_are_written.Goals as goal

pub returns : goal.returns
returns c settings v d e i era now named was stream kept quota room number fits =
    let f = of_stream v.segments (segment_in d) stream in
    let clash = clashes v.segments (segment_in d) in (
      _,
      stream_writes settings v d i clash era now named f kept refl quota room,
      writes_frame c.offsets_are_read.ensures c.segments_are_read_back.ensures settings e.end v.segments d i clash (was.end_is ∙ ap (λ o. end_of (number_in o) v.segments) (sym was.base_is)) f kept refl number fits (header_mended settings v d) _ refl,
    )

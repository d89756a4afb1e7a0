use Rattle.std.proofs.Common.{◌≡◌, take, Some}
use Rattle.std.specs.Io.KnownBytes.{Appends}
use Rattle.pcap_file.specs.RecordReading.{shown}
use Rattle.norm_engine.specs.working.FrameReports.{TellsAll}
use Rattle.norm_engine.specs.WrittenTrace.{frames_written}
use Rattle.both_sides.specs.Frames.{frame_octets}
use Rattle.both_sides.proofs.cut.write_cut.Given as goal

abbrev pub invariant-loop-index : goal.invariant-loop-index
invariant-loop-index g l = record {
  written : Appends (g.K.Sink.held l.fn.capture) (g.K.Sink.held l.capture)
      (frame_octets l.fn.head.order (shown l.fn.input) (frames_written (Some l.fn.mtu) l.fn.head.link (take l.index l.fn.out)));
  tells : TellsAll l.fn.mtu l.fn.head.link (take l.index l.fn.out) l.emitted;
  counted : g.K.Sink.fault_count l.capture ≡ g.K.Sink.fault_count l.fn.capture;
}

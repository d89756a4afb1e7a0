use Rattle.std.proofs.Common.{◌≡◌, take}
use Rattle.std.specs.Io.KnownBytes.{Appends}
use Rattle.pcap_file.specs.RecordReading.{shown}
use Rattle.both_sides.specs.Frames.{frame_octets}
use Rattle.both_sides.proofs.cut.write_frames.Given as goal

abbrev pub invariant-loop-index : goal.invariant-loop-index
invariant-loop-index g l = record {
  written : Appends (g.K.Sink.held l.fn.capture) (g.K.Sink.held l.capture) (frame_octets l.fn.head.order (shown l.fn.input) (take l.index l.fn.out));
  counted : g.K.Sink.fault_count l.capture ≡ g.K.Sink.fault_count l.fn.capture;
}

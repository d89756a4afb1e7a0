use Rattle.std.proofs.Common.{◌≡◌, length}
use Rattle.pcap_file.specs.RecordReading.{shown}
use Rattle.emit_mtu.specs.Segments.{segments}
use Rattle.both_sides.proofs.Outputs.{CutSoFar}
use Rattle.both_sides.proofs.cut.write_segments.Given as goal

abbrev pub invariant-loop-size : goal.invariant-loop-size
invariant-loop-size g l = record {
  so_far : CutSoFar l.fn.head.order (shown l.fn.input) (segments l.fn.head.link l.fn.mtu l.fn.frame) l.cutter l.count (g.K.Sink.held l.fn.capture) (g.K.Sink.held l.capture);
  faults : g.K.Sink.fault_count l.capture ≡ g.K.Sink.fault_count l.fn.capture;
}

abbrev pub decreases-loop-size : goal.decreases-loop-size
decreases-loop-size g l = length l.cutter

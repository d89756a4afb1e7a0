use Rattle.std.proofs.Common.{◌≡◌, ◌+◌, ℕ, List}
use Rattle.std.specs.Prelude.{Option}
use Rattle.pcap_file.specs.declared.head.Head.{Head}
use Rattle.pcap_file.specs.Records.{Packet}
use Rattle.run_view.specs.working.ReaderPositions.{OutputAt}
use Rattle.run_view.specs.working.RecordReading.{FramesRead, MayRead, plain_original}
use Rattle.run_view.proofs.item.gather_all.Given as goal

abbrev pub invariant-loop-number : goal.invariant-loop-number
invariant-loop-number g l = record {
  ready : MayRead l.frames;
  count : l.frames.count ≡ l.fn.frames.count + l.number;
  kept : g.O.Source.fault_count l.output ≡ g.O.Source.fault_count l.fn.output;
  read : (all : Option (List ℕ)) (head : Head) (older : List Packet) → OutputAt l.fn.frames.reader head all (g.O.Source.left l.fn.output) older
      → FramesRead l.frames all (g.O.Source.left l.output) head older (plain_original l.original) l.number l.gathered;
}

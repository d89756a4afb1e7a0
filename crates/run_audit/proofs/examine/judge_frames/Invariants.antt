use Rattle.std.proofs.Common.{◌≡◌, ◌≤◌, ◌-◌, ◌^◌, true, length, map}
use Rattle.rule_book.specs.Entries.{plain}
use Rattle.run_audit.proofs.Frames.{GoesOn}
use Rattle.run_audit.proofs.examine.judge_frames.Given as goal

abbrev pub invariant-records : goal.invariant-records
invariant-records g l = record {
  may_ask : l.reader.is_open ≡ true;
  room : 262144 ≤ length l.buffer;
  later : g.C.Source.fault_count l.fn.capture ≤ g.C.Source.fault_count l.capture;
  going : GoesOn l.hops l.head (map plain l.entries) (g.C.Source.left l.fn.capture) (g.C.Source.left l.capture) l.eras l.owners l.reader l.count;
}

abbrev pub decreases-records : goal.decreases-records
decreases-records g l = 2 ^ 32 - l.reader.given

use Rattle.std.proofs.Common.{◌≡◌, ◌-◌, ◌≤◌, length}
use Rattle.pcapng_file.proofs.BlockReads.{Between}
use Rattle.pcapng_file.proofs.reader.NgReader.next_stamp.Given as goal

-- blocks without a record were skipped
abbrev pub invariant-loop-found : goal.invariant-loop-found
invariant-loop-found g l = record {
  passed : Between l.fn.self l.self (g.S.Source.left l.fn.source) (g.S.Source.left l.source);
  room : 262144 ≤ length l.buf;
  counted : g.S.Source.fault_count l.source ≡ g.S.Source.fault_count l.fn.source;
}

abbrev pub decreases-loop-found : goal.decreases-loop-found
decreases-loop-found g l = 4294967295 - l.self.sections.blocks

use Rattle.std.proofs.Common.{◌≡◌, ◌-◌, option_map}
use Rattle.std.specs.Io.KnownBytes.{prepend_known}
use Rattle.pcapng_file.proofs.BlockReads.{OpensSoFar}
use Rattle.pcapng_file.proofs.reader.NgReader.open_behind.Given as goal

-- the blocks read so far have no record, and those before the newest one no interface
abbrev pub invariant-loop-reader : goal.invariant-loop-reader
invariant-loop-reader g l = record {
  so_far : OpensSoFar (option_map (λ name. name.now) l.fn.inside) l.reader (prepend_known l.fn.first (g.S.Source.left l.fn.source)) (g.S.Source.left l.source);
  counted : g.S.Source.fault_count l.source ≡ g.S.Source.fault_count l.fn.source;
}

abbrev pub decreases-loop-reader : goal.decreases-loop-reader
decreases-loop-reader g l = 4294967295 - l.reader.sections.blocks

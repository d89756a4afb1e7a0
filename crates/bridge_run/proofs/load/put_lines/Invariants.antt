use Rattle.std.proofs.Common.{◌≡◌, take, flat_map}
use Rattle.std.specs.Io.KnownBytes.{Appends}
use Rattle.rule_book.specs.LoadText.{load_text}
use Rattle.bridge_run.proofs.load.put_lines.Given as goal

-- the lines so far are written, and nothing failed
abbrev pub invariant-loop-line : goal.invariant-loop-line
invariant-loop-line g l = record {
  octets : Appends (g.R.Sink.held l.fn.report) (g.R.Sink.held l.report) (flat_map load_text (take l.line-index l.lines));
  cause : g.R.Sink.fault_count l.report ≡ g.R.Sink.fault_count l.fn.report;
}

use Rattle.std.specs.Io.KnownBytes.{Keeps}
use Rattle.edge_io.proofs.files.read_ahead.read_some.Given as goal

-- nothing has been read yet
abbrev pub invariant-loop : goal.invariant-loop
invariant-loop g l = Keeps (g.R.Read.remaining l.fn.reader) (g.R.Read.remaining l.reader)

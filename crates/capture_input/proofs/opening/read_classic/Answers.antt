use Rattle.std.proofs.Common.{rules}
use Rattle.capture_input.proofs.Heads.{reads_head}
use Rattle.capture_input.proofs.opening.read_classic.Goals as goal

pub returns-clause-octets : goal.returns-clause-octets
returns-clause-octets g c =
    let fills = c.in_ok-count.ensures.octets in
    reads_head _ _ c.read_behind.new.buf c.in_ok-count.count _ (search rules) fills.0 fills.1 fills.2 c.judge.ensures

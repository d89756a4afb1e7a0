use Rattle.std.proofs.Common.{rules, arith}
use Rattle.pcapng_file.proofs.Options.{value_read}
use Rattle.pcapng_file.proofs.interface.read_value.Goals as goal

pub returns-clause-octets : goal.returns-clause-octets
returns-clause-octets g c = value_read _ _ _ c.read_exact.new.buf _ _ _ _ c.in_ok-read_exact.ensures.octets c.pass.ensures.octets (search rules) (omega arith)

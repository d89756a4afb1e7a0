use Rattle.std.proofs.Common.{arith}
use Rattle.wire_base.proofs.Octets.{write_at}
use Rattle.wire_base.proofs.number.put_u32.Goals as goal

pub returns : goal.returns
returns c = write_at c.args.bytes.now c.write_u32.new.buf _ c.args.at 4 (omega arith) c.write_u32.ensures

use Rattle.std.proofs.Common.{[]}
use Rattle.load_make.specs.Packets.{octets_from, changed_from}
use Rattle.load_make.proofs.packet.parts_of.Goals as goal

pub returns-in-Call-clause-segment : goal.returns-in-Call-clause-segment
returns-in-Call-clause-segment c = rw c.in-Call.is (rw c.from.ensures at (c.from_outside.ensures.segment []))

pub returns-in-Octets-clause-segment : goal.returns-in-Octets-clause-segment
returns-in-Octets-clause-segment c = rw c.in-Octets.is (rw c.from.ensures at (c.from_outside-in-Octets.ensures.segment (octets_from c.args.flow c.in-Octets.offset)))

pub returns-in-Changed-clause-segment : goal.returns-in-Changed-clause-segment
returns-in-Changed-clause-segment c = rw c.in-Changed.is (rw c.from.ensures at (c.from_outside-in-Changed.ensures.segment (changed_from c.args.flow c.in-Changed.offset)))

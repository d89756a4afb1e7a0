use Rattle.std.proofs.Common.{arith}
use Rattle.receiver_model.proofs.PlainPackets.{fields_in_place, start_inside}
use Rattle.receiver_model.proofs.segment.read_plain.Goals as goal

pub returns-clause-fields : goal.returns-clause-fields
returns-clause-fields c = cc (fields_in_place c.args.bytes.now c.requires.plain.header)

pub returns-clause-inside : goal.returns-clause-inside
returns-clause-inside c = omega (arith, start_inside c.args.bytes.now c.requires.plain.header (c.requires.plain.message.tcp c.requires.tcp))

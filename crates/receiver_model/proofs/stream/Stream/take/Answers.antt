use Rattle.std.proofs.Common.{◌<◌, ◌^◌, length, rules, arith}
use Rattle.std.proofs.lemmas.Grind.{common_steps}
use Rattle.receiver_model.proofs.Streams.{read_last, read_step, read_chosen, read_stands, on_ok}
use Rattle.receiver_model.proofs.stream.Stream.take.Goals as goal

pub returns-clause-step : goal.returns-clause-step
returns-clause-step c =
    let small : c.read_plain-segment.result.seq < 2 ^ 32 = search rules in
    on_ok c.put.result (read_step c.args.bytes.now c.read_plain-segment.result c.fin.result c.args.self.now c.put.new.self c.requires.tcp c.read_plain-segment.ensures.fields c.fin.ensures small) c.put.ensures.taken

pub returns-clause-choice : goal.returns-clause-choice
returns-clause-choice c =
    let small : c.read_plain-segment.result.seq < 2 ^ 32 = search rules in
    let total = c.requires.plain.header.total_length in
    let short : length c.args.bytes.now < 2 ^ 32 = grind (arith, common_steps, c.type_inv.bytes 2, c.type_inv.bytes 3) in
    on_ok c.put.result (read_chosen c.args.bytes.now c.read_plain-segment.result c.fin.result c.args.self.now c.put.new.self c.read_plain-segment.ensures.fields c.fin.ensures small short) c.put.ensures.taken

pub returns-clause-stands : goal.returns-clause-stands
returns-clause-stands c =
    let small : c.read_plain-segment.result.seq < 2 ^ 32 = search rules in
    on_ok c.put.result (read_stands c.args.bytes.now c.read_plain-segment.result c.fin.result c.args.self.now c.put.new.self c.requires.tcp c.read_plain-segment.ensures.fields c.fin.ensures small) c.put.ensures.taken

pub returns-clause-taken : goal.returns-clause-taken
returns-clause-taken c =
    on_ok c.put.result (read_last c.args.bytes.now c.read_plain-segment.result c.fin.result c.args.self.now c.put.new.self c.read_plain-segment.ensures.fields c.fin.ensures) c.put.ensures.taken

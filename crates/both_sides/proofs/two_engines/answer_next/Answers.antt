use Rattle.std.proofs.Common.{◌<◌, length, refl, arith}
use Rattle.rule_book.specs.Entries.{plain}
use Rattle.both_sides.proofs.TwoEngines.{next_had, one_left}
use Rattle.both_sides.proofs.two_engines.answer_next.Goals as goal

pub returns-clause-answered : goal.returns-clause-answered
returns-clause-answered c = λ trace mirror stands.
    next_had c.args.both.now c.back.new.self (plain c.back.result) c.back.new.out c.back.ensures.entry c.back.ensures.frames c.back.ensures.stands c.back.ensures.pending
    trace mirror c.args.both.now.pending refl (omega arith) stands

pub returns-clause-left : goal.returns-clause-left
returns-clause-left c =
    let some : 0 < length c.args.both.now.pending = omega arith in
    let size = one_left c.args.both.now c.back.new.self (plain c.back.result) c.back.new.out c.back.ensures.entry c.back.ensures.frames c.back.ensures.stands c.back.ensures.pending
    c.args.both.now.pending refl some in
    omega (arith, size)

use Rattle.std.proofs.lemmas.Result.{err_from_is_err_and}
use Rattle.edge_io.proofs.Moves.{part_behind, part_of_first}
use Rattle.both_sides.proofs.Outputs.{puts_behind}
use Rattle.both_sides.proofs.two_engines.write_told.Goals as goal

pub returns-in_err-write_line-clause-octets : goal.returns-in_err-write_line-clause-octets
returns-in_err-write_line-clause-octets g c =
    let p = err_from_is_err_and c.from_residual.result c.from_residual.ensures.1 in
    rw p.1 (part_of_first _ _ _ _ c.in_err-write_line.ensures.octets)

pub returns-in_err-write_answer-clause-octets : goal.returns-in_err-write_answer-clause-octets
returns-in_err-write_answer-clause-octets g c =
    let p = err_from_is_err_and c.from_residual-in_err-write_answer.result c.from_residual-in_err-write_answer.ensures.1 in
    rw p.1 (part_behind _ _ _ _ _ c.in_ok-write_line.ensures.octets (part_of_first _ _ _ _ c.in_err-write_answer.ensures.octets))

pub returns-clause-octets : goal.returns-clause-octets
returns-clause-octets g c =
    puts_behind c.write_answer-2.result _ _ _ _ _ c.in_ok-write_line.ensures.octets
    (puts_behind c.write_answer-2.result _ _ _ _ _ c.in_ok-write_answer.ensures.octets c.write_answer-2.ensures.octets)

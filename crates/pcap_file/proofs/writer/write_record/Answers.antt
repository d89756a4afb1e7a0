use Rattle.std.proofs.Common.{rules}
use Rattle.std.proofs.lemmas.Result.{err_from_is_err_and}
use Rattle.edge_io.proofs.Moves.{part_of_first, part_behind}
use Rattle.pcap_file.proofs.writer.write_record.Goals as goal

pub returns-in_err-put-clause-octets : goal.returns-in_err-put-clause-octets
returns-in_err-put-clause-octets g c =
    let p = err_from_is_err_and c.from_residual.result c.from_residual.ensures.1 in
    rw p.1 (search (rules, part_of_first))

pub returns-in_err-put-2-clause-octets : goal.returns-in_err-put-2-clause-octets
returns-in_err-put-2-clause-octets g c =
    let p = err_from_is_err_and c.from_residual-in_err-put-2.result c.from_residual-in_err-put-2.ensures.1 in
    rw p.1 (search (rules, part_behind))

use Rattle.std.proofs.Common.{subst}
use Rattle.std.proofs.lemmas.Option.{slice_get-get_or}
use Rattle.std.proofs.lemmas.Result.{err_from_is_err_and}
use Rattle.edge_io.specs.KnownOctets.{AppendsPart}
use Rattle.rule_book.specs.LoadText.{load_text}
use Rattle.both_sides.proofs.Outputs.{part_of_pieces}
use Rattle.bridge_run.proofs.load.put_lines.Goals as goal

pub returns-in_err-put-clause-octets : goal.returns-in_err-put-clause-octets
returns-in_err-put-clause-octets g c =
    let p = err_from_is_err_and c.from_residual.result c.from_residual.ensures.1 in
    rw p.1 (part_of_pieces load_text c.args.lines.now c.loop-line.line-index _ _ _ _ (slice_get-get_or c.args.lines.now c.loop-line.line-index _ c.loop-line-test.true) c.loop-line.invariant.octets
    (subst (AppendsPart _ _) c.load_line-size.ensures.text c.in_err-put.ensures.octets))

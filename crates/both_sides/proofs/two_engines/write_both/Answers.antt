use Rattle.std.proofs.Common.{sym, subst}
use Rattle.std.proofs.lemmas.Result.{err_from_is_err_and}
use Rattle.edge_io.specs.KnownOctets.{AppendsPart, Puts}
use Rattle.edge_io.proofs.Moves.{part_of_first}
use Rattle.pcap_file.specs.RecordReading.{shown}
use Rattle.both_sides.proofs.Outputs.{on_err_weaker, puts_behind, frames_append, some_behind, some_first}
use Rattle.both_sides.proofs.two_engines.write_both.Goals as goal

pub returns-in_err-write_frames-clause-octets : goal.returns-in_err-write_frames-clause-octets
returns-in_err-write_frames-clause-octets g c =
    let p = err_from_is_err_and c.from_residual.result c.from_residual.ensures.1 in
    rw p.1 (subst (AppendsPart _ _) (sym (frames_append c.args.head.now.order (shown c.args.input.now) c.args.out.now c.args.behind.now))
    (part_of_first _ _ _ _ c.in_err-write_frames.ensures.octets))

pub returns-in_err-write_frames-clause-some : goal.returns-in_err-write_frames-clause-some
returns-in_err-write_frames-clause-some g c =
    let p = err_from_is_err_and c.from_residual.result c.from_residual.ensures.1 in
    rw p.1 (some_first c.args.out.now c.args.behind.now c.in_err-write_frames.ensures.some)

pub returns-clause-octets : goal.returns-clause-octets
returns-clause-octets g c =
    subst (Puts _ _ c.write_frames-2.result) (sym (frames_append c.args.head.now.order (shown c.args.input.now) c.args.out.now c.args.behind.now))
    (puts_behind c.write_frames-2.result _ _ _ _ _ c.in_ok-write_frames.ensures.octets c.write_frames-2.ensures.octets)

pub returns-clause-some : goal.returns-clause-some
returns-clause-some g c = on_err_weaker c.write_frames-2.result (some_behind c.args.out.now c.args.behind.now) c.write_frames-2.ensures.some

use Rattle.std.proofs.lemmas.Result.{err_from_is_err_and}
use Rattle.pcap_file.specs.RecordReading.{shown}
use Rattle.both_sides.proofs.Outputs.{part_of_frames}
use Rattle.both_sides.proofs.cut.write_frames.Goals as goal

pub returns-in_err-write_record-clause-octets : goal.returns-in_err-write_record-clause-octets
returns-in_err-write_record-clause-octets g c =
    let p = err_from_is_err_and c.from_residual.result c.from_residual.ensures.1 in
    rw p.1 (part_of_frames _ (shown c.args.input.now) _ c.loop-index.index _ _ _ _ c.frame-frame.ensures.octets c.loop-index.invariant.written
    c.in_err-write_record.ensures.octets)

use Rattle.std.proofs.Common.{Err, ap}
use Rattle.run_view.proofs.Records.{frame_stops}
use Rattle.run_view.proofs.sources.next_frame.Goals as goal

pub returns-in-Err-clause-stops : goal.returns-in-Err-clause-stops
returns-in-Err-clause-stops g c head all frames at =
    rw (c.output_stop.ensures, c.from.ensures)
    (frame_stops c.args.reader.now head all _ _ frames _ _ _ c.in-Err.fault c.in-Err.ensures.octets (λ is. c.in-Err.ensures.cause (ap Err is)) at)

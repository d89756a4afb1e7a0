use Rattle.std.proofs.Common.{arith}
use Rattle.std.proofs.lemmas.Result.{on_ok_weaker}
use Rattle.edge_io.proofs.Moves.{Keeps-Appends, written_past}
use Rattle.edge_io.proofs.files.write_behind.WriteBehind.put.Goals as goal

pub returns-then-piece-self-clause-octets : goal.returns-then-piece-self-clause-octets
returns-then-piece-self-clause-octets g c =
    let made = c.in_ok-make_room.ensures in
    on_ok_weaker c.write_whole.result (λ p. Keeps-Appends _ _ _ _ made.kept (written_past _ _ _ _ _ (made.room (omega arith)) p)) c.write_whole.ensures.octets

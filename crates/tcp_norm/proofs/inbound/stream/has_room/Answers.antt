use Rattle.std.proofs.Common.{◌≤◌, ◌↔◌, IsTrue, refl, subst, arith}
use Rattle.retain_store.specs.Maps.{chain_of, missing}
use Rattle.tcp_norm.proofs.inbound.stream.has_room.Goals as goal

pub returns-then-piece : goal.returns-then-piece
returns-then-piece c =
    let none = (c.args.piece.now.whole c.if-piece.true).none_missing in
    ((λ so. omega (arith, none)), (λ fits. refl))

pub returns : goal.returns
returns c =
    let piece = c.args.piece.now in
    subst (λ n. IsTrue c.has_room.result ↔ missing (chain_of piece.store.now piece.chain.0) piece.kept.now.lo n ≤ piece.store.now.free) c.size.ensures.size c.has_room.ensures

use Rattle.std.proofs.Common.{◌≡◌, ◌∙◌, ◌++◌, ap, sym, subst, take, drop, length}
use Rattle.std.proofs.Math.Seq.{take-append_seam}
use Rattle.retain_store.specs.Maps.{Settles, chain_of}
use Rattle.tcp_norm.proofs.inbound.stream.fill_kept.Goals as goal

pub returns-then-not-clash-clause-settled : goal.returns-then-not-clash-clause-settled
returns-then-not-clash-clause-settled c some =
    let own = c.args.own.now in
    let rest = drop c.size.result c.args.scratch.now in
    let front : take (length own) (c.copy_from_slice.new.self ++ rest) ≡ own = ap (λ xs. take (length own) (xs ++ rest)) c.copy_from_slice.ensures.after ∙ take-append_seam own rest in
    subst (Settles (chain_of c.args.piece.now.store.now c.args.piece.now.chain.0) c.args.piece.now.kept.now.lo own) (sym front) (c.requires.own c.if-not-clash.true)

pub returns-clause-settled : goal.returns-clause-settled
returns-clause-settled c some =
    let blocks = chain_of c.args.piece.now.store.now c.args.piece.now.chain.0 in
    let copied = c.copy_from_slice.ensures.after in
    let settled = c.settle-differs.new.bytes in
    let long : length settled ≡ length c.args.own.now = c.settle-differs.auto.bytes ∙ ap length copied in
    let rest = drop c.size.result c.args.scratch.now in
    let front : take (length c.args.own.now) (settled ++ rest) ≡ settled = ap (λ n. take n (settled ++ rest)) (sym long) ∙ take-append_seam settled rest in
    subst (λ o. Settles blocks c.args.piece.now.kept.now.lo o (take (length c.args.own.now) (settled ++ rest))) copied
    (subst (Settles blocks c.args.piece.now.kept.now.lo c.copy_from_slice.new.self) (sym front) c.settle-differs.ensures.settled)

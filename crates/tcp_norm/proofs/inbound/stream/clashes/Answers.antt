use Rattle.std.proofs.Common.{◌≡◌, ℕ, ◌+◌, ◌<◌, Option, Some, None, refl, sym, arith, unwrap_or, IsSome}
use Rattle.retain_store.specs.Maps.{chain_of, octet_at}
use Rattle.tcp_norm.proofs.inbound.stream.clashes.Goals as goal

none_behind : (kept : Option ℕ) (own lo i : ℕ) → (IsSome kept → lo + i < lo) → own ≡ unwrap_or kept own
none_behind None own lo i behind = refl
none_behind (Some octet) own lo i behind = let below = behind refl in absurd (omega (arith, below))

pub returns-then-ends : goal.returns-then-ends
returns-then-ends c =
    let piece = c.args.piece.now in
    ((λ none i below. none_behind (octet_at (chain_of piece.store.now piece.chain.0) (piece.kept.now.lo + i)) _ piece.kept.now.lo i (piece.ends c.if-ends.true (piece.kept.now.lo + i))), (λ settles. refl))

pub returns-then-repeats : goal.returns-then-repeats
returns-then-repeats c = ((λ none i below. sym (c.requires.agrees c.if-repeats.true i below)), (λ settles. refl))

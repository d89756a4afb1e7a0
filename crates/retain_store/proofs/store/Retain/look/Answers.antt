use Rattle.std.proofs.Common.{length, subst}
use Rattle.retain_store.specs.Maps.{Agrees, IsWhole, IsWithin}
use Rattle.retain_store.proofs.Blocks.{chain_shown}
use Rattle.retain_store.proofs.store.Retain.look.Goals as goal

pub returns-then-ends_before-clause-ends : goal.returns-then-ends_before-clause-ends
returns-then-ends_before-clause-ends c so =
    subst (λ blocks. IsWithin blocks c.args.from) (chain_shown c.self.inside.pool c.args.self.now c.args.chain.0 c.self.view_is c.requires.chain_in_range) (c.ends_before.ensures c.if-ends_before.true)

pub returns-clause-whole : goal.returns-clause-whole
returns-clause-whole c so =
    subst (λ blocks. IsWhole blocks c.args.from (length c.args.bytes.now)) (chain_shown c.self.inside.pool c.args.self.now c.args.chain.0 c.self.view_is c.requires.chain_in_range) (c.repeats_piece-repeats.ensures.whole so)

pub returns-clause-agrees : goal.returns-clause-agrees
returns-clause-agrees c so =
    subst (λ blocks. Agrees blocks c.args.from c.args.bytes.now) (chain_shown c.self.inside.pool c.args.self.now c.args.chain.0 c.self.view_is c.requires.chain_in_range) (c.repeats_piece-repeats.ensures.agrees so)

use Rattle.std.proofs.Common.{refl, subst}
use Rattle.retain_store.specs.Maps.{IsMap, chain_of, octet_at}
use Rattle.retain_store.proofs.Counts.{held_counted}
use Rattle.retain_store.proofs.Room.{holds_are}
use Rattle.retain_store.proofs.Blocks.{kept_map, chain_shown, inside_pool}
use Rattle.retain_store.proofs.store.Retain.held.Goals as goal

pub returns-clause-map : goal.returns-clause-map
returns-clause-map c = subst IsMap (chain_shown c.self.inside.pool c.args.self.now c.args.chain.0 c.self.view_is c.requires)
    (kept_map (c.self.invariant.kept c.args.chain.0 (inside_pool c.self.inside.pool c.args.self.now c.args.chain.0 c.self.view_is c.requires)))

pub returns-clause-held : goal.returns-clause-held
returns-clause-held c n within =
    let shown = chain_shown c.self.inside.pool c.args.self.now c.args.chain.0 c.self.view_is c.requires in
    let kept = c.self.invariant.kept c.args.chain.0 (inside_pool c.self.inside.pool c.args.self.now c.args.chain.0 c.self.view_is c.requires) in
    held_counted _ n kept shown c.count.ensures within

pub returns-clause-blocks : goal.returns-clause-blocks
returns-clause-blocks c n =
    let blocks = chain_of c.args.self.now c.args.chain.0 in
    holds_are blocks (octet_at blocks) n
    (subst IsMap (chain_shown c.self.inside.pool c.args.self.now c.args.chain.0 c.self.view_is c.requires)
    (kept_map (c.self.invariant.kept c.args.chain.0 (inside_pool c.self.inside.pool c.args.self.now c.args.chain.0 c.self.view_is c.requires)))) (λ o. refl)

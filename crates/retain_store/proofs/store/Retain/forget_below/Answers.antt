use Rattle.std.proofs.Common.{◌∙◌, length, sym, ap, subst}
use Rattle.std.proofs.lemmas.List.{length-map}
use Rattle.cell_pool.specs.ChainLists.{chain_at}
use Rattle.retain_store.specs.Maps.{IsMap}
use Rattle.retain_store.specs.PoolBlocks.{block_of}
use Rattle.retain_store.proofs.Counts.{held_counted}
use Rattle.retain_store.proofs.Blocks.{change_shown, kept_map, shown_after}
use Rattle.retain_store.proofs.store.Retain.forget_below.Goals as goal

pub returns-clause-changed : goal.returns-clause-changed
returns-clause-changed c = change_shown c.self.inside.pool c.forget_before-near.new.pool c.args.self.now c.args.chain.0 c.self.view_is c.requires c.forget_before-near.ensures.changed

pub returns-clause-map : goal.returns-clause-map
returns-clause-map c = subst IsMap (shown_after c.self.inside.pool c.forget_before-near.new.pool c.args.self.now c.args.chain.0 c.self.view_is c.requires c.forget_before-near.ensures.changed) (kept_map c.forget_before-near.ensures.kept)

pub returns-clause-held : goal.returns-clause-held
returns-clause-held c n within =
    let shown = shown_after c.self.inside.pool c.forget_before-near.new.pool c.args.self.now c.args.chain.0 c.self.view_is c.requires c.forget_before-near.ensures.changed in
    held_counted _ n c.forget_before-near.ensures.kept shown (sym (ap length shown) ∙ length-map (chain_at c.forget_before-near.new.pool c.args.chain.0) block_of) within

use Rattle.std.proofs.Common.{◌∙◌, length, sym, ap, subst, arith}
use Rattle.std.proofs.lemmas.List.{length-map}
use Rattle.cell_pool.specs.ChainLists.{chain_at}
use Rattle.retain_store.specs.Maps.{Store, IsMap, fresh, missing}
use Rattle.retain_store.specs.PoolBlocks.{block_of}
use Rattle.retain_store.specs.working.BlockCells.{blocks_in}
use Rattle.retain_store.proofs.Parts.{fresh_most}
use Rattle.retain_store.proofs.Counts.{held_counted}
use Rattle.retain_store.proofs.Blocks.{chain_shown, change_shown, kept_map, shown_after}
use Rattle.retain_store.proofs.store.Retain.place_counting.Goals as goal

pub returns-clause-fresh : goal.returns-clause-fresh
returns-clause-fresh c = c.place_all-near.ensures.fresh
    ∙ ap (λ blocks. fresh blocks c.args.from (length c.args.bytes.now)) (chain_shown c.self.inside.pool c.args.self.now c.args.chain.0 c.self.view_is c.requires.chain_in_range)

pub returns-clause-free : goal.returns-clause-free
returns-clause-free c = omega (
  arith,
  c.place_all-near.ensures.free,
  ap (λ (s : Store). s.free) c.self.view_is,
  ap (λ blocks. missing blocks c.args.from (length c.args.bytes.now)) (chain_shown c.self.inside.pool c.args.self.now c.args.chain.0 c.self.view_is c.requires.chain_in_range),
)

pub returns-clause-most : goal.returns-clause-most
returns-clause-most c = omega (
  arith,
  c.place_all-near.ensures.fresh,
  fresh_most (blocks_in c.self.inside.pool c.args.chain.0) c.args.from (length c.args.bytes.now),
)

pub returns-clause-changed : goal.returns-clause-changed
returns-clause-changed c = change_shown c.self.inside.pool c.place_all-near.new.pool c.args.self.now c.args.chain.0 c.self.view_is c.requires.chain_in_range c.place_all-near.ensures.changed

pub returns-clause-map : goal.returns-clause-map
returns-clause-map c = subst IsMap (shown_after c.self.inside.pool c.place_all-near.new.pool c.args.self.now c.args.chain.0 c.self.view_is c.requires.chain_in_range c.place_all-near.ensures.changed) (kept_map c.place_all-near.ensures.kept)

pub returns-clause-held : goal.returns-clause-held
returns-clause-held c n within =
    let shown = shown_after c.self.inside.pool c.place_all-near.new.pool c.args.self.now c.args.chain.0 c.self.view_is c.requires.chain_in_range c.place_all-near.ensures.changed in
    held_counted _ n c.place_all-near.ensures.kept shown (sym (ap length shown) ∙ length-map (chain_at c.place_all-near.new.pool c.args.chain.0) block_of) within

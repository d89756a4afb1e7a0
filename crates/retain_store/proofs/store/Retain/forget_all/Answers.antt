use Rattle.retain_store.proofs.Blocks.{change_shown}
use Rattle.retain_store.proofs.store.Retain.forget_all.Goals as goal

pub returns-clause-changed : goal.returns-clause-changed
returns-clause-changed c = change_shown c.self.inside.pool c.forget_chain.new.pool c.args.self.now c.args.chain.0 c.self.view_is
    c.requires c.forget_chain.ensures.changed

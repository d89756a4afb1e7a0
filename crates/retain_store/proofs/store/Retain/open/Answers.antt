use Rattle.std.proofs.Common.{ap, ◌∙◌}
use Rattle.retain_store.specs.PoolBlocks.{store_of}
use Rattle.retain_store.proofs.Blocks.{none_shown}
use Rattle.retain_store.proofs.store.Retain.open.Goals as goal

pub returns : goal.returns
returns c = ap store_of c.in_ok-pool.ensures ∙ ap (λ l. record { chains = l; free = c.args.cells; cells = c.args.cells }) (none_shown c.args.chains)

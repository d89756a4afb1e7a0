use Rattle.cell_pool.proofs.Owners.{total_is}
use Rattle.cell_pool.proofs.Chains.{shown}
use Rattle.cell_pool.proofs.pool.Pool.free.Goals as goal

pub returns-clause-total : goal.returns-clause-total
returns-clause-total c = total_is (shown c.self.invariant c.self.view_is)

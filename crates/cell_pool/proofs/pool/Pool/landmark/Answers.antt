use Rattle.cell_pool.specs.CellLinks.{blank_cell}
use Rattle.cell_pool.proofs.Owners.{read_stands}
use Rattle.cell_pool.proofs.Chains.{shown}
use Rattle.cell_pool.proofs.pool.Pool.landmark.Goals as goal

pub returns-then-cell-block : goal.returns-then-cell-block
returns-then-cell-block c =
    let lookup = c.in_ok-cell.ensures.lookup in
    read_stands (shown c.self.invariant c.self.view_is) c.requires c.deref-2.ensures.value lookup.3.0
    (lookup.3.1 blank_cell) c.in_ok-owner.was c.if-owner-chain.true c.if-cell-block.true

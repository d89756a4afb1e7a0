use Rattle.std.proofs.Common.{◌≡◌, ◌+◌, Some, ap, arith}
use Rattle.cell_pool.specs.declared.cells.Cell.{Cell}
use Rattle.cell_pool.proofs.FreeCells.{front_given, front_inside, give_front, give_rises}
use Rattle.cell_pool.proofs.Pools.{update_sound, update_seen}
use Rattle.cell_pool.proofs.Chains.{shown, free_is}
use Rattle.cell_pool.proofs.pool.Pool.give_front.Goals as goal

pub unreachable-requires : goal.unreachable-requires
unreachable-requires c = front_given (shown c.self.invariant c.self.view_is)
    c.requires.chain_in_range c.index-head.ensures c.requires.place c.in_default.is

pub index_mut-cell-requires : goal.index_mut-cell-requires
index_mut-cell-requires c =
    let first : c.index-head.result.now.first ≡ Some c.in-Some.given = cc in
    omega (
      arith,
      front_inside (shown c.self.invariant c.self.view_is)
          c.requires.chain_in_range c.index-head.ensures first c.requires.place,
    )

pub invariant_of-self : goal.invariant_of-self
invariant_of-self c =
    let shows = shown c.self.invariant c.self.view_is in
    let first : c.index-head.result.now.first ≡ Some c.in-Some.given = cc in
    update_sound shows c.requires.chain_in_range (give_front shows c.requires.chain_in_range _ c.index-head.ensures
    first c.index_mut-cell.ensures.value (ap (λ (k : Cell). k.next) c.release.ensures)
    (ap (λ (k : Cell). k.owner) c.release.ensures) c.requires.place.place)
    (give_rises shows c.requires.chain_in_range c.requires.place)

pub returns : goal.returns
returns c before x rest place =
    let shows = shown c.self.invariant c.self.view_is in
    let first : c.index-head.result.now.first ≡ Some c.in-Some.given = cc in
    update_seen shows c.requires.chain_in_range (give_front shows c.requires.chain_in_range _ c.index-head.ensures
    first c.index_mut-cell.ensures.value (ap (λ (k : Cell). k.next) c.release.ensures)
    (ap (λ (k : Cell). k.owner) c.release.ensures) place) (ap (λ n. n + 1) (free_is shows))

use Rattle.std.proofs.Common.{◌≡◌, ◌+◌, Some, length, length-set, ◌∙◌, ap, arith}
use Rattle.cell_pool.specs.declared.cells.Cell.{Cell}
use Rattle.cell_pool.proofs.FreeCells.{behind_inside, behind_given, given_inside, has_count, give_behind, give_rises}
use Rattle.cell_pool.proofs.Pools.{update_sound, update_seen}
use Rattle.cell_pool.proofs.Chains.{shown, free_is}
use Rattle.cell_pool.proofs.pool.Pool.give_behind.Goals as goal

pub index-link-requires : goal.index-link-requires
index-link-requires c = omega (
  arith,
  behind_inside (shown c.self.invariant c.self.view_is)
      c.requires.chain_in_range c.requires.place,
)

pub unreachable-requires : goal.unreachable-requires
unreachable-requires c = behind_given (shown c.self.invariant c.self.view_is)
    c.requires.chain_in_range c.index-link.ensures c.requires.place c.in_default.is

pub index-cell-requires : goal.index-cell-requires
index-cell-requires c =
    let next : c.index-link.result.now.next ≡ Some c.in-Some.given = cc in
    omega (
      arith,
      given_inside (shown c.self.invariant c.self.view_is)
          c.requires.chain_in_range c.index-link.ensures next c.requires.place,
    )

pub set_next-requires : goal.set_next-requires
set_next-requires c = behind_inside (shown c.self.invariant c.self.view_is) c.requires.chain_in_range c.requires.place

pub index_mut-cell-requires : goal.index_mut-cell-requires
index_mut-cell-requires c =
    let next : c.index-link.result.now.next ≡ Some c.in-Some.given = cc in
    omega (
      arith,
      given_inside (shown c.self.invariant c.self.view_is)
          c.requires.chain_in_range c.index-link.ensures next c.requires.place,
      ap length c.set_next.ensures.items
          ∙ length-set _ _ _,
    )

pub overflow_sub-head : goal.overflow_sub-head
overflow_sub-head c = has_count (shown c.self.invariant c.self.view_is)
    c.requires.chain_in_range c.index_mut-head.ensures.value c.requires.place

pub invariant_of-self : goal.invariant_of-self
invariant_of-self c =
    let shows = shown c.self.invariant c.self.view_is in
    let next : c.index-link.result.now.next ≡ Some c.in-Some.given = cc in
    rw c.set_next.ensures.room (update_sound shows c.requires.chain_in_range (give_behind shows c.requires.chain_in_range _ c.index-link.ensures next
    c.index-cell.ensures c.set_next.ensures.items (ap (λ (k : Cell). k.next) c.release.ensures)
    (ap (λ (k : Cell). k.owner) c.release.ensures) c.index_mut-head.ensures.value c.requires.place.place)
    (give_rises shows c.requires.chain_in_range c.requires.place))

pub returns : goal.returns
returns c before x rest place =
    let shows = shown c.self.invariant c.self.view_is in
    let next : c.index-link.result.now.next ≡ Some c.in-Some.given = cc in
    rw c.set_next.ensures.room (update_seen shows c.requires.chain_in_range (give_behind shows c.requires.chain_in_range _ c.index-link.ensures next
    c.index-cell.ensures c.set_next.ensures.items (ap (λ (k : Cell). k.next) c.release.ensures)
    (ap (λ (k : Cell). k.owner) c.release.ensures) c.index_mut-head.ensures.value place)
    (ap (λ n. n + 1) (free_is shows)))

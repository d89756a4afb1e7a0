use Rattle.std.proofs.Common.{ap, ◌∙◌}
use Rattle.cell_pool.specs.ChainLists.{without_below}
use Rattle.cell_pool.proofs.Bits.{octets_clear, none_left}
use Rattle.cell_pool.proofs.octets.Octets.clear_below.Goals as goal

pub returns-clause-forgotten : goal.returns-clause-forgotten
returns-clause-forgotten c =
    octets_clear _ _ _ _ _ _ _ _ _ _ _ c.from-place.ensures c.saturating_sub.ensures c.saturating_sub-2.ensures
    c.saturating_sub-3.ensures c.bits_from.ensures c.bits_from-2.ensures c.bits_from-3.ensures
    c.bits_from-4.ensures
    ∙ ap (without_below c.args.at) c.self.view_is

pub returns-clause-none_left : goal.returns-clause-none_left
returns-clause-none_left c = none_left _ _ _ _ _ _ c.bits_from.type_inv c.bits_from-2.type_inv c.bits_from-3.type_inv
    c.bits_from-4.type_inv c.eq.ensures

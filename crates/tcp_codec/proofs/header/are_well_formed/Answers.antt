use Rattle.std.proofs.Common.{◌+◌, ◌≤◌, ◌<◌, ◌⊎◌, true, false, inl, inr, length, get_or, sym, ◌∙◌, arith}
use Rattle.wire_base.proofs.OptionLists.{are_well_formed-walk}
use Rattle.wire_base.proofs.OptionWalk.{IsSize, formed-refused, formed-step, option_long, option_short}
use Rattle.tcp_codec.proofs.header.are_well_formed.Goals as goal
use Rattle.tcp_codec.proofs.header.are_well_formed.Goals.{then-short-via-then-short, then-short-via-else-short+then-area-at}

pub loop-at-init : goal.loop-at-init
loop-at-init c = record { inside = omega arith; formed = are_well_formed-walk c.args.area.now }

pub loop-at-preserved : goal.loop-at-preserved
loop-at-preserved c =
    let area = c.args.area.now in
    let at = c.loop-at.at in
    let inside : at + c.size_by-size.result ≤ length area = omega arith in
    let is : IsSize area at c.size_by-size.result = record { begins = omega arith; some = omega arith; none = c.size_by-size.ensures.none; option = c.size_by-size.ensures.option } in
    record { inside = inside; formed = c.loop-at.invariant.formed ∙ formed-step area at c.size_by-size.result is (option_long (get_or area at 0) c.size_by-size.result c.if-short.false) inside }

pub returns-then-short : goal.returns-then-short
returns-then-short c =
    let area = c.args.area.now in
    let at = c.loop-at.at in
    let size = c.size_by-size.result in
    let is : IsSize area at size = record { begins = omega arith; some = omega arith; none = c.size_by-size.ensures.none; option = c.size_by-size.ensures.option } in
    let refused : ((2 ≤ get_or area at 0) × (size < 2)) ⊎ (length area < at + size) =
    elim c.then-short.branch [
      | then-short-via-then-short w ↦ inl (option_short (get_or area at 0) size w.if-short.true (omega arith))
      | then-short-via-else-short+then-area-at w ↦ inr (omega arith)
    ] in
    sym (c.loop-at.invariant.formed ∙ formed-refused area at size is refused)

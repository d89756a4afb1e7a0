use Rattle.std.proofs.Common.{◌≡◌, ◌+◌, ◌≤◌, ◌<◌, ◌⊎◌, ◌||◌, true, false, inl, inr, length, get_or, sym, ap, ◌∙◌, refl, arith}
use Rattle.std.proofs.Math.Bool.{or_assoc}
use Rattle.wire_base.specs.Options.{are_well_formed}
use Rattle.wire_base.proofs.OptionLists.{are_well_formed-walk, has_route-walk}
use Rattle.wire_base.proofs.OptionWalk.{IsSize, formed-refused, formed-step, option_long, option_short, route-step}
use Rattle.ipv4_codec.proofs.header.options.Goals as goal
use Rattle.ipv4_codec.proofs.header.options.Goals.{then-short-via-then-short, then-short-via-else-short+then-bytes-at}

pub loop-at-init : goal.loop-at-init
loop-at-init c = record { inside = omega arith; formed = are_well_formed-walk c.args.bytes.now; route = has_route-walk c.args.bytes.now }

pub returns-then-short : goal.returns-then-short
returns-then-short c =
    let area = c.args.bytes.now in
    let at = c.loop-at.at in
    let size = c.size_by-size.result in
    let is : IsSize area at size = record { begins = omega arith; some = omega arith; none = c.size_by-size.ensures.none; option = c.size_by-size.ensures.option } in
    let refused : ((2 ≤ get_or area at 0) × (size < 2)) ⊎ (length area < at + size) =
    elim c.then-short.branch [
      | then-short-via-then-short w ↦ inl (option_short (get_or area at 0) size w.if-short.true (omega arith))
      | then-short-via-else-short+then-bytes-at w ↦ inr (omega arith)
    ] in
    let none : are_well_formed area ≡ false = c.loop-at.invariant.formed ∙ formed-refused area at size is refused in
    rw none refl

pub loop-at-preserved : goal.loop-at-preserved
loop-at-preserved c =
    let area = c.args.bytes.now in
    let at = c.loop-at.at in
    let size = c.size_by-size.result in
    let inside : at + size ≤ length area = omega arith in
    let is : IsSize area at size = record { begins = omega arith; some = omega arith; none = c.size_by-size.ensures.none; option = c.size_by-size.ensures.option } in
    let two = option_long (get_or area at 0) size c.if-short.false in
    record {
      inside = inside;
      formed = c.loop-at.invariant.formed ∙ formed-step area at size is two inside;
      route = rw c.is_route-route.ensures (c.loop-at.invariant.route ∙ ap (λ t. c.loop-at.route || t) (route-step area at size is two inside) ∙ sym (or_assoc c.loop-at.route _ _));
    }

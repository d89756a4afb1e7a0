use Rattle.std.proofs.Common.{◌+◌, ◌∙◌, sym, ap, arith}
use Rattle.std.specs.ControlFlow.{continue_value}
use Rattle.std.proofs.lemmas.List.{take_rest}
use Rattle.run_view.proofs.Conditions.{names_behind, names_step}
use Rattle.run_view.proofs.values.listed.Goals as goal

pub returns-in_err-names : goal.returns-in_err-names
returns-in_err-names c =
    let value = c.args.value.now in
    let step =
    names_step c.args.choice value _ c.items.start c.place_of-end.result c.items.names c.place_named.result c.with_place.result (omega arith)
    (take_rest value c.items.start)
    c.place_of-end.ensures.place c.place_named.ensures.place c.with_place.ensures in
    let all =
    c.items.invariant.so_far ∙ step ∙ ap (names_behind c.args.choice value (c.items.start + (c.place_of-end.result + 1)))
    (c.branch-names.ensures ∙ ap continue_value c.in_err-names.is) in
    c.from_residual.ensures ∙ sym all

pub items-preserved : goal.items-preserved
items-preserved c =
    let value = c.args.value.now in
    let step =
    names_step c.args.choice value _ c.items.start c.place_of-end.result c.items.names c.place_named.result c.with_place.result (omega arith)
    (take_rest value c.items.start)
    c.place_of-end.ensures.place c.place_named.ensures.place c.with_place.ensures in
    record {
      within = omega arith;
      so_far =
          c.items.invariant.so_far ∙ step
          ∙ ap (names_behind c.args.choice value (c.items.start + (c.place_of-end.result + 1)))
          (c.branch-names.ensures ∙ ap continue_value c.in_ok-names.is);
    }

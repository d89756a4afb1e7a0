use Rattle.std.proofs.Common.{◌+◌, ◌≤◌, eqb, length, take, drop, sym, ap, ◌∙◌, arith, tests, rules}
use Rattle.std.specs.List.{position_or_len}
use Rattle.std.proofs.lemmas.Iterator.{YieldsList-from_slice}
use Rattle.std.proofs.lemmas.Iterator.Search.{position_from_yields_List}
use Rattle.std.proofs.lemmas.List.{take_all, take_rest, drop_all}
use Rattle.wire_base.proofs.Octets.{found, not_found}
use Rattle.wire_base.proofs.address.split_at_first.Goals as goal

pub returns-in-Some-clause-before : goal.returns-in-Some-clause-before
returns-in-Some-clause-before c =
    let e = position_from_yields_List (λ x. eqb x c.args.separator) _ _ c.position.result c.position.ensures.ran (YieldsList-from_slice c.args.text.now cc) (λ x b q k. search (rules, tests)) in
    ap (λ n. take n c.args.text.now) (found _ _ _ _ e c.in-Some.is)

pub returns-in-Some-clause-after : goal.returns-in-Some-clause-after
returns-in-Some-clause-after c =
    let e = position_from_yields_List (λ x. eqb x c.args.separator) _ _ c.position.result c.position.ensures.ran (YieldsList-from_slice c.args.text.now cc) (λ x b q k. search (rules, tests)) in
    take_rest c.args.text.now (c.in-Some.at + 1) ∙ ap (λ n. drop (n + 1) c.args.text.now) (found _ _ _ _ e c.in-Some.is)

pub returns-in-None-clause-before : goal.returns-in-None-clause-before
returns-in-None-clause-before c =
    let e = position_from_yields_List (λ x. eqb x c.args.separator) _ _ c.position.result c.position.ensures.ran (YieldsList-from_slice c.args.text.now cc) (λ x b q k. search (rules, tests)) in
    let past : length c.args.text.now ≤ position_or_len (λ x. eqb x c.args.separator) c.args.text.now = search (arith, tests, not_found _ _ _ e c.in-None.is) in
    sym (take_all _ c.args.text.now past)

pub returns-in-None-clause-after : goal.returns-in-None-clause-after
returns-in-None-clause-after c =
    let e = position_from_yields_List (λ x. eqb x c.args.separator) _ _ c.position.result c.position.ensures.ran (YieldsList-from_slice c.args.text.now cc) (λ x b q k. search (rules, tests)) in
    let past : length c.args.text.now ≤ position_or_len (λ x. eqb x c.args.separator) c.args.text.now = search (arith, tests, not_found _ _ _ e c.in-None.is) in
    sym (drop_all _ c.args.text.now (omega (arith, past)))

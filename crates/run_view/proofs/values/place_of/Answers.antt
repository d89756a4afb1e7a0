use Rattle.std.proofs.Common.{◌≡◌, ℕ, ◌≤◌, Bool, true, false, cond, ltb, nat_eq, Some, None, unwrap_or, not, length, refl, sym, subst, rules, tests, arith, ap, ◌∙◌}
use Rattle.std.proofs.lemmas.Bool.{ltb-false}
use Rattle.std.proofs.lemmas.Iterator.{YieldsList-from_slice}
use Rattle.std.proofs.lemmas.Iterator.Search.{position_from_yields_List}
use Rattle.std.proofs.lemmas.List.Sums.{prefix_len-le-length}
use Rattle.std.specs.List.{position_or_len}
use Rattle.run_view.proofs.values.place_of.Goals as goal

-- the index if there is one, and else the length
place_or : (place len : ℕ) (b : Bool) → ltb place len ≡ b → place ≤ len → unwrap_or (cond b (Some place) None) len ≡ place
place_or place len true is within = refl
place_or place len false is within = omega (arith, ltb-false place len is)

pub returns : goal.returns
returns c =
    let text = c.args.text.now in
    let place = position_or_len (λ other. nat_eq other c.args.octet) text in
    let within = prefix_len-le-length (λ other. not (nat_eq other c.args.octet)) text in
    let found =
    position_from_yields_List (λ other. nat_eq other c.args.octet) _ _ c.position.result c.position.ensures.ran
    (YieldsList-from_slice c.args.text.now cc) (λ x b q k. search (rules, tests)) in
    let whole =
    c.unwrap_or.ensures ∙ ap (λ o. unwrap_or o (length text)) found ∙ place_or place (length text) (ltb place (length text)) refl within in
    record { place = whole; within = subst (λ r. r ≤ length text) (sym whole) within }

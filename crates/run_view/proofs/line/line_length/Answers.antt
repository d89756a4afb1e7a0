use Rattle.std.proofs.Common.{◌≡◌, ℕ, List, Some, None, cond, length, ltb, not, refl, sym, ap, take, unwrap_or, ◌∙◌, rules, tests, arith}
use Rattle.std.proofs.lemmas.Iterator.{YieldsList-from_slice}
use Rattle.std.proofs.lemmas.Iterator.Search.{position_from_yields_List}
use Rattle.std.proofs.lemmas.List.{length-take-le}
use Rattle.std.proofs.lemmas.List.Sums.{prefix_len-le-length}
use Rattle.std.specs.List.{position_or_len}
use Rattle.run_view.proofs.Lining.{is_feed, line_cut, place_or}
use Rattle.run_view.proofs.line.line_length.Goals as goal

pub returns-clause-line : goal.returns-clause-line
returns-clause-line c =
    let octets : List ℕ = c.args.octets.now in
    let room : ℕ = c.min-room.result in
    let front : List ℕ = take room octets in
    let first : ℕ = position_or_len is_feed front in
    let long : length front ≡ room = length-take-le room octets (omega (arith, c.min-room.ensures)) in
    let found =
    position_from_yields_List is_feed _ _ c.position-feed.result c.position-feed.ensures.ran (YieldsList-from_slice front cc)
    (λ x b q k. search (rules, tests)) in
    let place = c.unwrap_or.ensures ∙ ap (λ o. unwrap_or o room) found ∙ ap (λ n. unwrap_or (cond (ltb first (length front)) (Some first) None) n) (sym long)
    ∙ place_or first (length front) (prefix_len-le-length (λ other. not (is_feed other)) front) in
    line_cut octets front room c.unwrap_or.result c.min.result c.min-room.ensures refl place c.min.ensures

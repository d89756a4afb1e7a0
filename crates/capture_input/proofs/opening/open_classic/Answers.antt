use Rattle.std.proofs.Common.{rules, ◌≡◌, option_map, None}
use Rattle.capture_input.proofs.Heads.{classic_opens}
use Rattle.capture_input.proofs.opening.open_classic.Goals as goal

pub returns-clause-octets : goal.returns-clause-octets
returns-clause-octets g c =
    let none : option_map (λ name. name.now) c.args.inside ≡ None = search rules in
    λ kind. classic_opens _ _ _ _ _ kind c.in_ok-head.ensures.octets none c.new.ensures

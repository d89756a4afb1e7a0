use Rattle.std.proofs.Common.{rules, ◌≡◌, ◌≤◌, ◌+◌, take, drop, length, ap, ◌∙◌, arith, take_all}
use Rattle.edge_io.proofs.Moves.{taken_ahead}
use Rattle.edge_io.proofs.files.read_ahead.ReadAhead.fetch.Goals as goal

pub returns-clause-octets : goal.returns-clause-octets
returns-clause-octets g c =
    let now = c.args.self.now in
    let n = length c.args.buf.now in
    let got = c.copy_from_slice.new.self in
    let ahead : now.start + n ≤ now.filled = search rules in
    let stands : take n got ≡ take n (drop now.start now.buffer) =
    take_all n got (omega (arith, c.copy_from_slice.ensures.len)) ∙ c.copy_from_slice.ensures.after ∙ ap (λ k. take k (drop now.start now.buffer)) (omega arith) in (
      search rules,
      taken_ahead _ now.buffer _ now.start now.filled n ahead stands,
      λ none some. absurd (omega (arith, none, some, c.copy_from_slice.ensures.len)),
    )

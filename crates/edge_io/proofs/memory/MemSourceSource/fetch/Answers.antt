use Rattle.std.proofs.Common.{refl, ◌≡◌, ◌+◌, ◌++◌, ◌∙◌, ap, sym, take, drop, arith, rules, length-append, length-drop}
use Rattle.std.proofs.lemmas.List.{nil_from_length}
use Rattle.edge_io.proofs.Moves.{copied, moved}
use Rattle.edge_io.proofs.memory.MemSourceSource.fetch.Goals as goal

pub returns-clause-octets : goal.returns-clause-octets
returns-clause-octets c =
    let bytes = c.self.inside.bytes.items in
    let at = c.self.inside.at in
    let n = c.min-count.result in
    let buf = c.args.buf.now in
    let got = c.copy_from_slice.new.self in
    let stands : take n (got ++ drop n buf) ≡ take n (drop at bytes) = copied bytes buf got at n n (search rules) refl (search rules) in (
      search rules,
      ap (λ s. s.left) (sym c.self.view_is) ∙ moved bytes _ at n stands,
      λ none some. nil_from_length _ (omega (arith, length-append got (drop n buf), length-drop (at + n) bytes, length-drop n buf)),
    )

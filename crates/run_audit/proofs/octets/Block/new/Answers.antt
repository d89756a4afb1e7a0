use Rattle.std.proofs.Common.{◌≡◌, ℕ, Bool, false, Some, None, ap, get_or, inl, inr, replicate, arith, if◌then◌else◌}
use Rattle.std.proofs.lemmas.Bool.{cases_lt}
use Rattle.std.proofs.lemmas.List.{get_or-replicate, get_or_past, length-replicate}
use Rattle.run_audit.proofs.octets.Block.new.Goals as goal

held : (index : ℕ) → get_or (replicate 256 false) index false ≡ false
held index =
    elim (cases_lt index 256) [
      | inl below ↦ get_or-replicate 256 index false false below
      | inr past ↦ let size = length-replicate 256 false in get_or_past (replicate 256 false) index false (omega (arith, past, size))
    ]

pub returns : goal.returns
returns c index = ap (λ (b : Bool). if b then Some (get_or (replicate 256 0) index 0) else None) (held index)

use Rattle.std.proofs.Common.{◌≡◌, ◌++◌, drop, map, string_bytes}
use Rattle.norm_c.specs.Opening as spec
use Rattle.norm_c.proofs.opening.words_in.Given as goal

abbrev pub invariant-loop-octet : goal.invariant-loop-octet
invariant-loop-octet l =
    map string_bytes l.words.items ++ spec.words_from l.word.items (drop l.octet-index l.text) ≡ spec.words_in l.text

use Rattle.std.proofs.Common.{◌≡◌, map, take, string_bytes}
use Rattle.run_tests.proofs.runs.line.Given as goal

abbrev pub invariant-loop-word : goal.invariant-loop-word
invariant-loop-word l = map string_bytes l.line.items ≡ map (λ w. w.now) (take l.word-index l.fn.words)

use Rattle.std.proofs.Common.{◌≡◌, map, drop, string_bytes}
use Rattle.run_view.specs.ViewWords.{asked_in, asked_from}
use Rattle.run_view.proofs.words.asked_in.Given as goal

abbrev pub invariant-loop-place : goal.invariant-loop-place
invariant-loop-place l = asked_in (map string_bytes l.words) ≡ asked_from l.waiting l.asked (map string_bytes (drop l.place l.words))

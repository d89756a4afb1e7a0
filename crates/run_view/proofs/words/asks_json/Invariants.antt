use Rattle.std.proofs.Common.{◌≡◌, map, drop, string_bytes}
use Rattle.run_view.specs.working.JsonWords.{asks_json}
use Rattle.run_view.proofs.words.asks_json.Given as goal

abbrev pub invariant-loop-word : goal.invariant-loop-word
invariant-loop-word l = asks_json (map string_bytes (drop l.word-index l.words)) ≡ asks_json (map string_bytes l.words)

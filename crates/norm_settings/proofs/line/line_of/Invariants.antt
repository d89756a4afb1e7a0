use Rattle.std.proofs.Common.{◌≡◌, map, drop, string_bytes}
use Rattle.norm_settings.specs.working.PlainLines.{plain_use}
use Rattle.norm_settings.specs.RunWords.{line_of}
use Rattle.norm_settings.proofs.Grammar.{line_from}
use Rattle.norm_settings.proofs.line.line_of.Given as goal

abbrev pub invariant-loop-place : goal.invariant-loop-place
invariant-loop-place l = line_of (map string_bytes l.words) ≡ line_from (map plain_use l.uses.items) l.waiting (map string_bytes (drop l.place l.words))

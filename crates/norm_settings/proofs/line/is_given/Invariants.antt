use Rattle.std.proofs.Common.{◌≡◌, map, drop, is_some}
use Rattle.norm_settings.specs.OptionTable.{name_of}
use Rattle.norm_settings.specs.working.PlainLines.{plain_use}
use Rattle.norm_settings.specs.RunWords.{given}
use Rattle.norm_settings.proofs.line.is_given.Given as goal

abbrev pub invariant-loop-used : goal.invariant-loop-used
invariant-loop-used l = record {
  name_is : l.name ≡ name_of l.fn.choice;
  same : is_some (given l.fn.choice (map plain_use l.uses)) ≡ is_some (given l.fn.choice (map plain_use (drop l.used-index l.uses)));
}

use Rattle.std.proofs.Common.{◌≡◌, map, drop, fold}
use Rattle.clap.specs.Simple.{app_of, with_rule}
use Rattle.norm_settings.specs.OptionTable.{all_choices}
use Rattle.norm_settings.specs.working.ClapCommands.{bare, rule_for}
use Rattle.norm_settings.proofs.parsed.option_command.Given as goal

abbrev pub invariant-loop-choice : goal.invariant-loop-choice
invariant-loop-choice l = fold with_rule bare (map rule_for all_choices) ≡ fold with_rule (app_of l.command) (map rule_for (drop l.choice-index l.choice-items))

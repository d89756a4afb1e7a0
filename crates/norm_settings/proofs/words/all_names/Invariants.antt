use Rattle.std.proofs.Common.{◌≡◌, map, drop, string_bytes}
use Rattle.std.specs.List.{list_all}
use Rattle.norm_settings.specs.OptionTable.{is_name}
use Rattle.norm_settings.proofs.words.all_names.Given as goal

abbrev pub invariant-loop-word : goal.invariant-loop-word
invariant-loop-word l = list_all is_name (map string_bytes l.words) ≡ list_all is_name (map string_bytes (drop l.word-index l.words))

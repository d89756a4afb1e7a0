use Rattle.std.proofs.Common.{map, string_bytes, rules}
use Rattle.norm_settings.proofs.Grammar.{read_word_by_word}
use Rattle.norm_settings.proofs.line.line_of.Goals as goal

pub loop-place-init : goal.loop-place-init
loop-place-init c = let read = read_word_by_word (map string_bytes c.args.words.now) in search (rules, read)

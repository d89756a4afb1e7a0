use Rattle.std.proofs.Common.{ap, ◌∙◌, map, string_bytes}
use Rattle.std.proofs.lemmas.Result.{IfErr-weaker, IfOk-weaker}
use Rattle.clap.specs.Simple.{is_simple, matches_of}
use Rattle.clap.specs.Takes.{takes}
use Rattle.norm_settings.proofs.Walks.{pair_is_taken, pair_reads}
use Rattle.norm_settings.proofs.parsed.load_matches.Goals as goal

pub returns-in-Ok-clause-ok : goal.returns-in-Ok-clause-ok
returns-in-Ok-clause-ok c =
    IfOk-weaker c.try_get_matches_from.result _ _
    (λ m h pair. pair_reads m (map string_bytes c.args.words.now) pair ((h (ap is_simple c.in-Ok.ensures)).0 ∙ ap (λ a. matches_of a (map string_bytes c.args.words.now)) c.in-Ok.ensures))
    c.try_get_matches_from.ensures.matches

pub returns-in-Ok-clause-err : goal.returns-in-Ok-clause-err
returns-in-Ok-clause-err c =
    IfErr-weaker c.try_get_matches_from.result _ _
    (λ error h pair. h (ap (λ a. takes a (map string_bytes c.args.words.now)) c.in-Ok.ensures ∙ pair_is_taken (map string_bytes c.args.words.now) pair))
    c.try_get_matches_from.ensures.passes

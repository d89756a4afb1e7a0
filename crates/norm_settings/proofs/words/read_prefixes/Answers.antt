use Rattle.std.proofs.Common.{◌≤◌, ap, sym, ◌∙◌, map, drop, [], ◌∷◌, ◌+◌, rules}
use Rattle.std.proofs.lemmas.List.Elements.{All-append}
use Rattle.norm_settings.specs.AskedCommand.{prefixes_from}
use Rattle.norm_settings.proofs.Runs.{one, one_more}
use Rattle.norm_settings.proofs.words.read_prefixes.Goals as goal

pub loop-place-preserved : goal.loop-place-preserved
loop-place-preserved c =
    record {
      count = search rules;
      in_range = rw c.push.ensures.items (All-append (λ prefix. prefix.len ≤ 32) c.loop-place.prefixes.items (c.in-Ok.prefix ∷ []) c.loop-place.invariant.in_range (one (λ prefix. prefix.len ≤ 32) c.in-Ok.prefix c.in-Ok.ensures.in_range));
      same = c.loop-place.invariant.same
          ∙ one_more (λ word. word.now) c.loop-place.prefixes.items c.args.words.now c.loop-place.place _ c.in-Ok.prefix c.loop-place-test.true (sym c.read_prefix.ensures.exact ∙ c.in-Ok.is)
          ∙ ap (λ done. prefixes_from done (map (λ word. word.now) (drop (c.loop-place.place + 1) c.args.words.now))) (sym c.push.ensures.items);
    }

use Rattle.std.proofs.Common.{◌+◌, ◌<◌, All, sym, ◌∙◌, subst, arith}
use Rattle.bridge_run.specs.declared.tally.RuleCount.{RuleCount}
use Rattle.bridge_run.proofs.Loads.{counts_few, counted_new, counted_again, has_room}
use Rattle.bridge_run.proofs.tally.note.Goals as goal

pub count_in-requires : goal.count_in-requires
count_in-requires c =
    subst (All (λ (row : RuleCount). row.count + 1 < 18446744073709551616)) (sym (c.deref_mut.ensures.value ∙ c.requires.1)) (counts_few c.requires.0 18446744073709551616 c.requires.2)

pub push-requires : goal.push-requires
push-requires c = (omega arith, has_room c.requires.0 c.args.rule _ _ _ c.requires.1 c.deref_mut.ensures.value c.count_in.ensures.rows)

pub returns-then-not-count_in : goal.returns-then-not-count_in
returns-then-not-count_in c = λ named is.
    c.push.ensures.items
    ∙ counted_new named c.args.rule _ _ _ is c.deref_mut.ensures.value c.count_in.ensures.rows (sym c.if-not-count_in.true ∙ c.count_in.ensures.found)

pub returns-else-not-count_in : goal.returns-else-not-count_in
returns-else-not-count_in c = λ named is.
    counted_again named c.args.rule _ _ _ is c.deref_mut.ensures.value c.count_in.ensures.rows (sym c.if-not-count_in.false ∙ c.count_in.ensures.found)

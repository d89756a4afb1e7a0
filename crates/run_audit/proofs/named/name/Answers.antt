use Rattle.std.proofs.Common.{nat_eq, sym, ◌∙◌}
use Rattle.indexmap.proofs.CallerLemmas.{insert_entry-new}
use Rattle.run_audit.proofs.Frames.{noted_there, noted_new, none_of}
use Rattle.run_audit.proofs.named.name.Goals as goal

pub returns-then-contains_key-clause-named : goal.returns-then-contains_key-clause-named
returns-then-contains_key-clause-named c = noted_there c.args.eras.now.entries c.args.era (sym c.contains_key.ensures ∙ c.if-contains_key.true)

pub returns-clause-named : goal.returns-clause-named
returns-clause-named c =
    noted_new c.args.eras.now.entries c.insert.new.self.entries c.args.era c.new.result (sym c.contains_key.ensures ∙ c.if-contains_key.false)
    (c.in_ok-insert.ensures.entries ∙ insert_entry-new nat_eq c.args.eras.now c.args.era c.new.result (none_of _ (sym c.contains_key.ensures ∙ c.if-contains_key.false)))

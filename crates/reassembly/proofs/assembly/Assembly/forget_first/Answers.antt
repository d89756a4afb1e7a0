use Rattle.std.proofs.Common.{sym, subst, ◌∙◌}
use Rattle.reassembly.specs.TableAndStore.{HoldsFor}
use Rattle.reassembly.proofs.Order.{first_goes, empty_stays}
use Rattle.reassembly.proofs.assembly.Assembly.forget_first.Goals as goal

pub returns-in-Some-clause-first : goal.returns-in-Some-clause-first
returns-in-Some-clause-first c gs h =
    let entries = c.args.self.now.table.entries in
    let store = c.args.self.now.store in
    subst (λ l. HoldsFor l c.forget.new.self.table.entries c.forget.new.self.store)
    (first_goes gs entries store c.in-Some.slot c.key_at-key.result h (sym c.oldest.ensures.first ∙ c.in-Some.is) c.key_at-key.ensures c.len-count.ensures.keys_apart)
    (c.forget.ensures.others gs c.key_at-key.result h (λ k d lt same. sym (c.key_at-key.ensures k d lt same)))

pub returns-in_default-clause-first : goal.returns-in_default-clause-first
returns-in_default-clause-first c gs h = empty_stays gs c.args.self.now.table.entries c.args.self.now.store h (sym c.oldest.ensures.first ∙ c.in_default.is)

use Rattle.std.proofs.Common.{List, sym, ap, subst, refl, ◌∙◌}
use Rattle.std.proofs.Math.Logic.{∥∥₁_map}
use Rattle.linked_table.proofs.Entries.{split_at}
use Rattle.reassembly.specs.declared.id.DatagramId.{DatagramId}
use Rattle.reassembly.specs.declared.progress.Progress.{Progress}
use Rattle.reassembly.specs.Calls.{of_others}
use Rattle.reassembly.specs.TableAndStore.{HoldsFor}
use Rattle.linked_table.specs.EntryTable as table
use Rattle.retain_store.proofs.Blocks.{others_same}
use Rattle.reassembly.proofs.Entries.{found, found_at, forget_holds}
use Rattle.reassembly.proofs.assembly.Assembly.forget.Goals as goal

pub returns-clause-others : goal.returns-clause-others
returns-clause-others c gs id h keyed =
    let f = found gs c.args.self.now.table.entries c.args.self.now.store c.args.slot id h c.requires c.len-count.ensures.slots_apart c.len-count.ensures.keys_apart keyed in
    subst (λ (l : List (table.Entry DatagramId Progress)). HoldsFor (of_others id gs) l c.forget_all.new.self) (sym (ap (λ (t : table.Table DatagramId Progress). t.entries) c.remove-pair.ensures.left))
    (forget_holds gs c.args.self.now.table.entries c.args.self.now.store c.forget_all.new.self c.args.slot id h f
    (others_same c.args.self.now.store c.forget_all.new.self c.args.slot.0 c.forget_all.ensures.changed) c.forget_all.ensures.empty)

pub invariant_of-self : goal.invariant_of-self
invariant_of-self c =
    let entries = c.args.self.now.table.entries in
    let store = c.args.self.now.store in
    let a = split_at entries c.args.slot c.requires c.len-count.ensures.slots_apart c.len-count.ensures.keys_apart in
    let left = sym (ap (λ (t : table.Table DatagramId Progress). t.entries) c.remove-pair.ensures.left) in
    record {
      sized = c.forget_all.ensures.changed.number ∙ (c.args.self.now.sized ∙ sym (ap (λ (t : table.Table DatagramId Progress). t.max) c.remove-pair.ensures.left));
      sound = ∥∥₁_map c.args.self.now.sound (λ s. record {
        datagrams = of_others a.here.key s.datagrams;
        holds = subst (λ (l : List (table.Entry DatagramId Progress)). HoldsFor (of_others a.here.key s.datagrams) l c.forget_all.new.self) left
            (forget_holds s.datagrams entries store c.forget_all.new.self c.args.slot a.here.key s.holds
            (found_at s.datagrams entries store c.args.slot a.here.key s.holds a refl)
            (others_same store c.forget_all.new.self c.args.slot.0 c.forget_all.ensures.changed) c.forget_all.ensures.empty);
      });
    }

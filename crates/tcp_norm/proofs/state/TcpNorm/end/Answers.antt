use Rattle.std.proofs.Common.{[], ◌∷◌, length, refl, sym, ap, subst, arith}
use Rattle.linked_table.specs.EntryTable as table
use Rattle.retain_store.specs.Maps.{Store}
use Rattle.retain_store.proofs.Blocks.{others_same}
use Rattle.tcp_norm.specs.declared.key.Flow.{Flow}
use Rattle.tcp_norm.specs.declared.key.EraKey.{EraKey}
use Rattle.tcp_norm.specs.Calls.{without}
use Rattle.tcp_norm.specs.TableAndStore.{HoldsFor}
use Rattle.tcp_norm.specs.working.EraBounds.{AreNear}
use Rattle.tcp_norm.proofs.EraTable.{end_holds, opened_kept}
use Rattle.tcp_norm.proofs.EraWrites.{near_left}
use Rattle.tcp_norm.proofs.Lists.{numbered}
use Rattle.tcp_norm.proofs.Quotas.{stays_bounded}
use Rattle.tcp_norm.proofs.SpareEras.{left_listed}
use Rattle.tcp_norm.proofs.state.TcpNorm.end.Goals as goal

pub returns-clause-holds : goal.returns-clause-holds
returns-clause-holds c lives segments flow h valued =
    subst (λ (t : table.Table EraKey Flow). HoldsFor (without (flow.number ∷ []) lives) segments c.args.self.now.begun t.entries c.forget_all.new.self) (sym c.remove-pair.ensures.left)
    (end_holds lives segments c.args.self.now.begun flow.number c.args.self.now.table.entries c.args.self.now.store c.forget_all.new.self c.args.slot h c.requires
    c.entries_are_apart.ensures.slots_apart c.entries_are_apart.ensures.keys_apart (numbered c.args.self.now.table.entries c.args.slot flow valued) c.forget_all.ensures.empty c.forget_all.ensures.changed)

pub returns-clause-tables : goal.returns-clause-tables
returns-clause-tables c =
    record {
      opened = λ settings is. opened_kept settings c.args.self.now _ is (ap (λ (t : table.Table EraKey Flow). t.max) c.remove-pair.ensures.left) c.forget_all.ensures.changed.number
          (ap (λ (s : Store). s.cells) c.forget_all.ensures.changed.others) refl;
      idle = refl;
      begun_is = refl;
      calls_are = refl;
      latest_is = refl;
      scratch_is = refl;
    }

pub invariant_of-self-clause-near : goal.invariant_of-self-clause-near
invariant_of-self-clause-near c =
    subst (λ (t : table.Table EraKey Flow). AreNear c.args.self.now.calls t.entries) (sym c.remove-pair.ensures.left) (near_left c.args.self.now.calls _ c.args.self.now.table.entries c.args.self.now.near)

pub invariant_of-self-clause-bounded : goal.invariant_of-self-clause-bounded
invariant_of-self-clause-bounded c =
    stays_bounded c.args.self.now.limits.quota c.args.self.now.store c.forget_all.new.self c.args.slot.0 c.args.self.now.bounded c.forget_all.ensures.changed
    (λ most is. let none = ap length c.forget_all.ensures.empty in omega (arith, none))

pub invariant_of-self-clause-spare_listed : goal.invariant_of-self-clause-spare_listed
invariant_of-self-clause-spare_listed c =
    left_listed c.args.self.now.spare _ c.args.self.now.store c.forget_all.new.self c.args.self.now.table.entries _ c.args.slot c.requires
    c.entries_are_apart.ensures.slots_apart c.entries_are_apart.ensures.keys_apart (others_same c.args.self.now.store c.forget_all.new.self c.args.slot.0 c.forget_all.ensures.changed)
    c.args.self.now.spare_listed c.take_out.ensures (ap (λ (t : table.Table EraKey Flow). t.entries) c.remove-pair.ensures.left)

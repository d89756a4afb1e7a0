use Rattle.std.proofs.Common.{◌+◌, [], ◌∷◌, ◌++◌, sym, ap, subst, refl}
use Rattle.linked_table.specs.EntryTable as table
use Rattle.tcp_norm.specs.declared.key.Flow.{Flow}
use Rattle.tcp_norm.specs.declared.key.EraKey.{EraKey}
use Rattle.tcp_norm.specs.TableAndStore.{HoldsFor}
use Rattle.tcp_norm.specs.working.EraBounds.{AreNear}
use Rattle.tcp_norm.proofs.EraTable.{begin_holds, opened_kept}
use Rattle.tcp_norm.proofs.EraWrites.{near_added}
use Rattle.tcp_norm.proofs.SpareEras.{added_listed}
use Rattle.tcp_norm.proofs.state.TcpNorm.begin.Goals as goal

pub returns-clause-holds : goal.returns-clause-holds
returns-clause-holds c lives segments later h begins =
    subst (λ (t : table.Table EraKey Flow). HoldsFor (lives ++ record { number = c.args.self.now.begun + 1; key = c.args.hashed.now.key.0; touched = c.args.now } ∷ []) later (c.args.self.now.begun + 1) t.entries c.args.self.now.store)
    (sym c.in-Ok.ensures.added) (begin_holds lives segments later c.args.self.now.begun c.args.self.now.table.entries c.args.self.now.store c.in-Ok.slot c.args.hashed.now.key.0 _ c.args.now h
    c.in-Ok.ensures.fresh begins.stands begins.none refl refl begins.others)

pub returns-clause-tables : goal.returns-clause-tables
returns-clause-tables c =
    record {
      opened = λ settings is. opened_kept settings c.args.self.now _ is (ap (λ (t : table.Table EraKey Flow). t.max) c.in-Ok.ensures.added) refl refl refl;
      idle = refl;
      begun_is = refl;
      calls_are = refl;
      latest_is = refl;
      scratch_is = refl;
    }

pub invariant_of-self-clause-spare_listed : goal.invariant_of-self-clause-spare_listed
invariant_of-self-clause-spare_listed c =
    added_listed c.args.self.now.spare _ c.args.self.now.store c.args.self.now.table.entries _ _ c.in-Ok.ensures.fresh
    c.args.self.now.spare_listed c.list_spare.ensures (ap (λ (t : table.Table EraKey Flow). t.entries) c.in-Ok.ensures.added)

pub invariant_of-self-clause-near : goal.invariant_of-self-clause-near
invariant_of-self-clause-near c =
    subst (λ (t : table.Table EraKey Flow). AreNear c.args.self.now.calls t.entries) (sym c.in-Ok.ensures.added) (near_added c.args.self.now.calls _ c.args.self.now.table.entries c.requires.fresh.near c.args.self.now.near)

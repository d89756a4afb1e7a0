use Rattle.std.proofs.Common.{◌+◌, ◌∙◌, ℕ, List, Some, length, [], ◌∷◌, ◌++◌, refl, sym, ap, subst, arith}
use Rattle.wire_base.specs.Segments.{Written}
use Rattle.tcp_norm.specs.Calls.{datagram, segments, eras, without}
use Rattle.tcp_norm.specs.working.EraBounds.{IsNear}
use Rattle.tcp_norm.specs.working.EraSteps.{reopened_by}
use Rattle.tcp_norm.specs.declared.key.EraKey.{EraKey}
use Rattle.tcp_norm.specs.working.TableChanges.{Holds, Begins, IsAbsent}
use Rattle.tcp_norm.proofs.CallEffects.{begins_then, begins_with, given_some, tables_go_on}
use Rattle.tcp_norm.proofs.EraTable.{at_slot, opened_kept, then_changes}
use Rattle.tcp_norm.proofs.Lists.{key_left, shorter}
use Rattle.tcp_norm.proofs.state.TcpNorm.reopen.Goals as goal

pub begin-requires-clause-fresh : goal.begin-requires-clause-fresh
begin-requires-clause-fresh c =
    let apart = c.entries_are_apart.ensures in
    let left : IsAbsent c.end.new.self c.args.key = rw c.end.ensures.left (key_left c.args.self.now.table.entries c.args.slot c.args.key c.requires.inside apart.slots_apart apart.keys_apart c.requires.keyed) in
    record {
      absent = subst (IsAbsent c.end.new.self) (sym (ap (λ (k : EraKey). k.0) c.hashed-hashed.ensures)) left;
      number = omega (arith, c.args.self.now.few, c.end.ensures.tables.calls_are, c.end.ensures.tables.begun_is);
      near = subst (λ k. IsNear k c.args.era.now) (sym c.end.ensures.tables.calls_are) c.requires.near;
    }

pub begin-requires-clause-room : goal.begin-requires-clause-room
begin-requires-clause-room c =
    let apart = c.entries_are_apart.ensures in
    let less = shorter c.args.self.now.table.entries c.args.slot c.requires.inside apart.slots_apart apart.keys_apart in
    omega (arith, less, ap length c.end.ensures.left, apart.bounded, c.end.ensures.max)

pub returns : goal.returns
returns c settings calls d w flow octets o st valued key stood none does =
    let apart = c.entries_are_apart.ensures in
    let n = flow.number in
    let next = c.args.self.now.begun + 1 in
    let was = c.end.ensures.tables.begun_is in
    let before : ℕ → List Written = λ m. segments m calls in
    let later : ℕ → List Written = λ m. segments m (datagram c.args.now d o ∷ calls) in
    let at = at_slot (eras calls) before _ _ _ c.args.slot flow st.holds c.requires.inside apart.slots_apart apart.keys_apart valued in
    let begins = begins_with settings c.args.self.now calls c.args.now d w o (reopened_by n next octets) c.args.era.now st refl does stood none in
    let then' = c.begin.ensures.holds (without (n ∷ []) (eras calls)) before later (c.end.ensures.holds (eras calls) before flow st.holds valued)
    (subst (λ b. Begins c.args.era.now (b + 1) before later) (sym was) begins) in
    record {
      stands = begins_then settings c.args.self.now c.begin.new.self calls c.args.now d w o (reopened_by n next octets) (Some n) st
          (tables_go_on settings c.args.self.now _ c.begin.new.self c.args.now 1 _ (then_changes _ _ _ _ _ c.end.ensures.tables c.begin.ensures.tables) (ap (λ b. b + 1) was)
          (opened_kept settings c.args.self.now _ st.opened refl refl refl refl) refl refl c.requires.ready.later)
          (λ k is. given_some n k at.given is) refl refl refl does
          (subst (λ k. Holds c.begin.new.self (without (n ∷ []) (eras calls) ++ record { number = next; key = k; touched = c.args.now } ∷ []) later) (ap (λ (k : EraKey). k.0) c.hashed-hashed.ensures ∙ key)
          (subst (λ b. Holds c.begin.new.self (without (n ∷ []) (eras calls) ++ record { number = b + 1; key = c.hashed-hashed.result.key.0; touched = c.args.now } ∷ []) later) was then'));
      scratch_is = c.begin.ensures.tables.scratch_is ∙ c.end.ensures.tables.scratch_is;
    }

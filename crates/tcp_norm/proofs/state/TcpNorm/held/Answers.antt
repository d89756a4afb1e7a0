use Rattle.std.proofs.Common.{◌≡◌, ◌≤◌, ◌∙◌, length, sym, ap, subst, arith}
use Rattle.std.specs.List.{AllByRecursion}
use Rattle.std.proofs.lemmas.List.{length-map}
use Rattle.tcp_norm.specs.Calls.{Alive, eras}
use Rattle.tcp_norm.specs.HeldOctets.{held_in}
use Rattle.tcp_norm.specs.QuotaBounds.{IsAtMost}
use Rattle.tcp_norm.specs.TableAndStore.{alive_in}
use Rattle.tcp_norm.proofs.Quotas.{each_at_most, never_for_room}
use Rattle.tcp_norm.proofs.SpareEras.{held_is}
use Rattle.tcp_norm.proofs.state.TcpNorm.held.Goals as goal

pub returns-clause-number : goal.returns-clause-number
returns-clause-number c settings calls st =
    let total = held_is calls _ _ _ _ st.holds (st.opened.chains ∙ sym st.opened.flows) c.entries_are_apart.ensures.slots_below c.entries_are_apart.ensures.slots_apart in
    let cells : c.args.self.now.limits.cells ≡ settings.cells = λ k. (st.opened.limits k).cells in
    omega (arith, total, c.free.ensures.total, c.free.ensures.value, c.saturating_sub.ensures, cells, st.opened.store)

pub returns-clause-quota : goal.returns-clause-quota
returns-clause-quota c settings calls st =
    subst (λ q. AllByRecursion (λ (a : Alive). IsAtMost q (held_in calls a)) (eras calls)) (λ k. (st.opened.limits k).quota)
    (each_at_most c.args.self.now.limits.quota calls _ _ _ st.holds c.args.self.now.bounded)

pub returns-clause-room : goal.returns-clause-room
returns-clause-room c settings calls d most st is ample =
    let each = subst (λ q. AllByRecursion (λ (a : Alive). IsAtMost q (held_in calls a)) (eras calls)) (λ k. (st.opened.limits k).quota)
    (each_at_most c.args.self.now.limits.quota calls _ _ _ st.holds c.args.self.now.bounded) in
    let few : length (eras calls) ≤ settings.flows = omega (arith, sym (ap length st.holds.eras_are), length-map c.args.self.now.table.entries alive_in, c.entries_are_apart.ensures.bounded, st.opened.flows) in
    never_for_room settings calls d most each few is ample

use Rattle.std.proofs.Common.{◌≡◌, ◌≤◌, ◌+◌, true, false, List, take, drop, length, ap, sym, subst, ◌∙◌, arith}
use Rattle.std.specs.List.{AllByRecursion}
use Rattle.norm_settings.specs.SettingValues.{PlainSettings}
use Rattle.reassembly.specs.Calls.{Call, Gathered, gathered, latest, is_old}
use Rattle.reassembly.specs.AssemblyState.{KeepsFor}
use Rattle.reassembly.specs.working.FragmentAnswers.{begins_old}
use Rattle.reassembly.specs.TableAndStore.{HoldsFor}
use Rattle.reassembly.proofs.Entries.{lengths}
use Rattle.reassembly.proofs.Order.{drop_more, old_more, none_past, Expired, expired}
use Rattle.reassembly.proofs.assembly.Assembly.forget_old.Goals as goal

pub loop-index-preserved : goal.loop-index-preserved
loop-index-preserved c = record {
  opened = λ s o. c.forget_first.ensures.opened s (c.loop-index.invariant.opened s o);
  time = c.forget_first.ensures.time ∙ c.loop-index.invariant.time;
  holds = λ gs h.
      subst (λ l. HoldsFor l c.forget_first.new.self.table.entries c.forget_first.new.self.store) (drop_more c.loop-index.index gs)
      (c.forget_first.ensures.first (drop c.loop-index.index gs) (c.loop-index.invariant.holds gs h));
  old = λ gs h.
      subst (λ t. AllByRecursion (λ (g : Gathered). is_old t c.args.now g ≡ true) (take (c.loop-index.index + 1) gs)) (sym c.forget_first.ensures.time)
      (old_more c.loop-index.self.time c.args.now c.loop-index.index gs (c.loop-index.invariant.old gs h)
      (sym (c.begins_old.ensures (drop c.loop-index.index gs) (c.loop-index.invariant.holds gs h)) ∙ c.if-not-begins_old.false));
}

left-early : (c : goal.Then-not-begins_old) (settings : PlainSettings) (calls : List Call) → KeepsFor settings c.args.self.now calls
    → Expired settings.frag_time c.args.now (latest calls) c.loop-index.index (gathered settings.frag_time calls) c.loop-index.self.table.entries c.loop-index.self.store
left-early c settings calls st =
    let gs = gathered settings.frag_time calls in
    let time : c.loop-index.self.time ≡ settings.frag_time = c.loop-index.invariant.time ∙ st.opened.time in
    let long : length c.args.self.now.table.entries ≡ length gs = lengths c.args.self.now.store c.args.self.now.table.entries gs st.holds.each in
    let below : c.loop-index.index ≤ length gs = omega (arith, long, c.len-most.ensures.number) in
    let holds = c.loop-index.invariant.holds gs st.holds in
    let all = subst (λ t. AllByRecursion (λ (g : Gathered). is_old t c.args.now g ≡ true) (take c.loop-index.index gs)) time (c.loop-index.invariant.old gs st.holds) in
    let here : begins_old settings.frag_time c.args.now (drop c.loop-index.index gs) ≡ false =
    ap (λ t. begins_old t c.args.now (drop c.loop-index.index gs)) (sym time) ∙ (sym (c.begins_old.ensures (drop c.loop-index.index gs) holds) ∙ c.if-not-begins_old.true) in
    expired settings.frag_time c.args.now (latest calls) c.loop-index.index gs c.loop-index.self.table.entries c.loop-index.self.store st.order below all here holds

pub returns-then-not-begins_old-clause-number : goal.returns-then-not-begins_old-clause-number
returns-then-not-begins_old-clause-number c settings calls st = (left-early c settings calls st).count

pub returns-then-not-begins_old-clause-keeps : goal.returns-then-not-begins_old-clause-keeps
returns-then-not-begins_old-clause-keeps c settings calls st =
    let e = left-early c settings calls st in
    record { opened = c.loop-index.invariant.opened settings st.opened; holds = e.holds; order = e.order }

left-late : (c : goal.After-loop-index) (settings : PlainSettings) (calls : List Call) → KeepsFor settings c.args.self.now calls
    → Expired settings.frag_time c.args.now (latest calls) c.len-most.result (gathered settings.frag_time calls) c.loop-index.self.table.entries c.loop-index.self.store
left-late c settings calls st =
    let gs = gathered settings.frag_time calls in
    let time : c.loop-index.self.time ≡ settings.frag_time = c.loop-index.invariant.time ∙ st.opened.time in
    let long : length c.args.self.now.table.entries ≡ length gs = lengths c.args.self.now.store c.args.self.now.table.entries gs st.holds.each in
    let at : c.loop-index.index ≡ c.len-most.result = omega (arith, c.loop-index.auto.index-end) in
    let below : c.len-most.result ≤ length gs = omega (arith, long, c.len-most.ensures.number) in
    let past : length gs ≤ c.len-most.result = omega (arith, long, c.len-most.ensures.number) in
    let holds = subst (λ n. HoldsFor (drop n gs) c.loop-index.self.table.entries c.loop-index.self.store) at (c.loop-index.invariant.holds gs st.holds) in
    let all = subst (λ n. AllByRecursion (λ (g : Gathered). is_old settings.frag_time c.args.now g ≡ true) (take n gs)) at
    (subst (λ t. AllByRecursion (λ (g : Gathered). is_old t c.args.now g ≡ true) (take c.loop-index.index gs)) time (c.loop-index.invariant.old gs st.holds)) in
    expired settings.frag_time c.args.now (latest calls) c.len-most.result gs c.loop-index.self.table.entries c.loop-index.self.store st.order below all
    (none_past settings.frag_time c.args.now c.len-most.result gs past) holds

pub returns-clause-number : goal.returns-clause-number
returns-clause-number c settings calls st = (left-late c settings calls st).count

pub returns-clause-keeps : goal.returns-clause-keeps
returns-clause-keeps c settings calls st =
    let e = left-late c settings calls st in
    record { opened = c.loop-index.invariant.opened settings st.opened; holds = e.holds; order = e.order }

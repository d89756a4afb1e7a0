use Rattle.std.proofs.Common.{◌≡◌, cond, length, sym, ap₂, ap, subst, ◌∙◌, nat_le}
use Rattle.linked_table.specs.EntryTable.{Wherever}
use Rattle.reassembly.specs.DatagramFragments.{fragment_of}
use Rattle.reassembly.specs.Calls.{gathered, of_others}
use Rattle.reassembly.specs.RuleRows.{view_in, view_of, answer_at}
use Rattle.reassembly.specs.TableAndStore.{HoldsFor}
use Rattle.reassembly.specs.working.FragmentAnswers.{IsAnswered}
use Rattle.reassembly.proofs.Entries.{found, free_is}
use Rattle.reassembly.proofs.Rules.{own_drops, dropped_is}
use Rattle.reassembly.proofs.Order.{some_gathered, some_found}
use Rattle.reassembly.proofs.assembly.Assembly.judge.Goals as goal

pub returns-in-Some-clause-answered : goal.returns-in-Some-clause-answered
returns-in-Some-clause-answered c settings calls st =
    let p = fragment_of c.args.piece.now in
    let a = c.args.self.now in
    let gs = gathered settings.frag_time calls in
    dropped_is c.args.now gs p _ c.in-Some.rule c.args.buf.now a (own_drops (view_of settings calls p) p c.in-Some.rule (sym c.own_row.ensures.row ∙ c.in-Some.is))
    (subst (λ b. HoldsFor (cond b (of_others p.id gs) gs) a.table.entries a.store) (sym c.in-Some.ensures.stays) st.holds)

pub returns-in-Some-find_hashed-clause-answered : goal.returns-in-Some-find_hashed-clause-answered
returns-in-Some-find_hashed-clause-answered c settings calls st =
    let p = fragment_of c.args.piece.now in
    let a = c.args.self.now in
    let slot = c.in-Some-find_hashed.slot in
    let gs = gathered settings.frag_time calls in
    let full = nat_le settings.frags (length gs) in
    let free = free_is a settings calls c.len-count.ensures.slots_below c.len-count.ensures.slots_apart c.free-free.ensures.total st in
    let keyed : Wherever a.table.entries slot (λ e. e.key ≡ p.id) = subst (λ d. Wherever a.table.entries slot (λ e. e.key ≡ d)) (c.hashed-id.ensures ∙ c.id.ensures) c.in-Some-find_hashed.ensures.same_key in
    let f = found gs a.table.entries a.store slot p.id st.holds c.in-Some-find_hashed.ensures.found c.len-count.ensures.slots_apart c.len-count.ensures.keys_apart keyed in
    let some = some_found gs a.table.entries a.store slot p.id f (some_gathered settings.frag_time calls) in
    subst (λ r. IsAnswered c.args.now gs p (answer_at (view_in gs full r p) p) c.join.result c.args.buf.now c.join.new.buf c.join.new.self) free (c.join.ensures.answered c.args.now gs full st.holds some)

pub returns-in-None-clause-answered : goal.returns-in-None-clause-answered
returns-in-None-clause-answered c settings calls st =
    let p = fragment_of c.args.piece.now in
    let a = c.args.self.now in
    let gs = gathered settings.frag_time calls in
    let free = free_is a settings calls c.len-count.ensures.slots_below c.len-count.ensures.slots_apart c.free-free.ensures.total st in
    let full : nat_le a.table.max (length gs) ≡ nat_le settings.frags (length gs) = ap (λ n. nat_le n (length gs)) st.opened.datagrams in
    subst (λ v. IsAnswered c.args.now gs p (answer_at v p) c.begin.result c.args.buf.now c.begin.new.buf c.begin.new.self) (ap₂ (λ b r. view_in gs b r p) full free) (c.begin.ensures.answered gs st.holds)

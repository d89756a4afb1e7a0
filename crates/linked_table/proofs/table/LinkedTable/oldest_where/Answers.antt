use Rattle.std.proofs.Common.{◌≡◌, ◌+◌, ◌-◌, refl, sym, ap, ◌∙◌, arith}
use Rattle.linked_table.proofs.Nodes.{below, pair_read, recent_read}
use Rattle.linked_table.proofs.Walks.{scan_begins, met, all_refused, passed_in}
use Rattle.linked_table.proofs.table.LinkedTable.oldest_where.Goals as goal
use Rattle.linked_table.proofs.table.LinkedTable.oldest_where.Goals.{in-Some+else-test, in_default}

pub loop-init : goal.loop-init
loop-init g c =
    let all : c.self.inside.len - 0 ≡ c.self.inside.len = omega arith in
    rw all (scan_begins g.F.Fn c.args.test _ _ _ _ _ c.self.invariant _ c.self.view_is _ refl)

pub index-requires : goal.index-requires
index-requires g c = omega (arith, below c.self.inside.nodes.items _ c.loop.invariant.within)

pub index-found-requires : goal.index-found-requires
index-found-requires g c = omega (arith, below c.self.inside.nodes.items _ (met g.F.Fn c.args.test _ _ _ _ _ c.loop.invariant (omega (arith, c.loop-test.true)) _ (ap (λ (l : _). l.after) (recent_read c.self.inside.nodes.items c.loop.node _ c.index.ensures c.loop.invariant.within))).inside)

pub test-requires : goal.test-requires
test-requires g c = (met g.F.Fn c.args.test _ _ _ _ _ c.loop.invariant (omega (arith, c.loop-test.true)) _ (ap (λ (l : _). l.after) (recent_read c.self.inside.nodes.items c.loop.node _ c.index.ensures c.loop.invariant.within))).callable _ _ (sym ((met g.F.Fn c.args.test _ _ _ _ _ c.loop.invariant (omega (arith, c.loop-test.true)) _ (ap (λ (l : _). l.after) (recent_read c.self.inside.nodes.items c.loop.node _ c.index.ensures c.loop.invariant.within))).read _ (pair_read c.self.inside.nodes.items _ _ c.index-found.ensures)) ∙ c.in-Some.is) c.requires _ refl

pub returns-then-test-clause-first : goal.returns-then-test-clause-first
returns-then-test-clause-first g c = (met g.F.Fn c.args.test _ _ _ _ _ c.loop.invariant (omega (arith, c.loop-test.true)) _ (ap (λ (l : _). l.after) (recent_read c.self.inside.nodes.items c.loop.node _ c.index.ensures c.loop.invariant.within))).passes _ _ c.test.ensures c.if-test.true _ (sym ((met g.F.Fn c.args.test _ _ _ _ _ c.loop.invariant (omega (arith, c.loop-test.true)) _ (ap (λ (l : _). l.after) (recent_read c.self.inside.nodes.items c.loop.node _ c.index.ensures c.loop.invariant.within))).read _ (pair_read c.self.inside.nodes.items _ _ c.index-found.ensures)) ∙ c.in-Some.is)

pub returns-then-test-clause-inside : goal.returns-then-test-clause-inside
returns-then-test-clause-inside g c = passed_in g.F.Fn c.args.test _ _ _ _ _ c.self.invariant _ c.self.view_is _ _ _ (sym ((met g.F.Fn c.args.test _ _ _ _ _ c.loop.invariant (omega (arith, c.loop-test.true)) _ (ap (λ (l : _). l.after) (recent_read c.self.inside.nodes.items c.loop.node _ c.index.ensures c.loop.invariant.within))).read _ (pair_read c.self.inside.nodes.items _ _ c.index-found.ensures)) ∙ c.in-Some.is)

pub loop-preserved : goal.loop-preserved
loop-preserved g c =
    let one : c.self.inside.len - (c.loop.counter + 1) ≡ c.self.inside.len - c.loop.counter - 1 = omega arith in
    rw one (elim c.match-found.branch [
      | in-Some+else-test w ↦ (met g.F.Fn c.args.test _ _ _ _ _ c.loop.invariant (omega (arith, c.loop-test.true)) _ (ap (λ (l : _). l.after) (recent_read c.self.inside.nodes.items c.loop.node _ c.index.ensures c.loop.invariant.within))).more _ _ w.test.ensures w.if-test.false _ (sym ((met g.F.Fn c.args.test _ _ _ _ _ c.loop.invariant (omega (arith, c.loop-test.true)) _ (ap (λ (l : _). l.after) (recent_read c.self.inside.nodes.items c.loop.node _ c.index.ensures c.loop.invariant.within))).read _ (pair_read c.self.inside.nodes.items _ _ c.index-found.ensures)) ∙ w.in-Some.is)
      | in_default w ↦ absurd ((met g.F.Fn c.args.test _ _ _ _ _ c.loop.invariant (omega (arith, c.loop-test.true)) _ (ap (λ (l : _). l.after) (recent_read c.self.inside.nodes.items c.loop.node _ c.index.ensures c.loop.invariant.within))).some (sym ((met g.F.Fn c.args.test _ _ _ _ _ c.loop.invariant (omega (arith, c.loop-test.true)) _ (ap (λ (l : _). l.after) (recent_read c.self.inside.nodes.items c.loop.node _ c.index.ensures c.loop.invariant.within))).read _ (pair_read c.self.inside.nodes.items _ _ c.index-found.ensures)) ∙ w.in_default.is))
    ])

pub returns-clause-absent : goal.returns-clause-absent
returns-clause-absent g c = all_refused g.F.Fn c.args.test _ _ _ _ _ c.loop.invariant (omega (arith, c.loop-test.false))

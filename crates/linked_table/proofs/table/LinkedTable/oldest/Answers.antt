use Rattle.std.proofs.Common.{ap, arith}
use Rattle.linked_table.proofs.Nodes.{below, recent_read}
use Rattle.linked_table.proofs.Entries.{reads_first}
use Rattle.linked_table.proofs.table.LinkedTable.oldest.Goals as goal

pub index-requires : goal.index-requires
index-requires g c = omega (arith, below c.self.inside.nodes.items _ c.self.invariant.used_ring.hub_in)

pub returns-then-node-self-clause-first : goal.returns-then-node-self-clause-first
returns-then-node-self-clause-first g c =
    let read = recent_read _ _ _ c.index.ensures c.self.invariant.used_ring.hub_in in
    (reads_first _ _ _ _ _ c.self.invariant _ c.self.view_is _ (ap (λ (l : _). l.after) read)).none c.if-node-self.true

pub returns-clause-first : goal.returns-clause-first
returns-clause-first g c =
    let read = recent_read _ _ _ c.index.ensures c.self.invariant.used_ring.hub_in in
    (reads_first _ _ _ _ _ c.self.invariant _ c.self.view_is _ (ap (λ (l : _). l.after) read)).some c.if-node-self.false

pub returns-clause-inside : goal.returns-clause-inside
returns-clause-inside g c =
    let read = recent_read _ _ _ c.index.ensures c.self.invariant.used_ring.hub_in in
    (reads_first _ _ _ _ _ c.self.invariant _ c.self.view_is _ (ap (λ (l : _). l.after) read)).listed c.if-node-self.false

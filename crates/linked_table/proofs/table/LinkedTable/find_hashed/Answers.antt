use Rattle.std.proofs.Common.{◌≡◌, ◌+◌, ◌-◌, None, length, refl, sym, ap, ◌∙◌, arith}
use Rattle.linked_table.specs.working.SoundTable.{bucket_number}
use Rattle.linked_table.proofs.Nodes.{pair_read, length-columns, first_read, chain_read}
use Rattle.linked_table.proofs.Entries.{split_at, hub_read, slots_apart, keys_apart}
use Rattle.linked_table.proofs.Walks.{begins, next_of, none_left, none_at_end, none_has, none_whichever, has_key, differs}
use Rattle.linked_table.proofs.table.LinkedTable.find_hashed.Goals as goal
use Rattle.linked_table.proofs.table.LinkedTable.find_hashed.Goals.{in-Some+else-eq, in_default}

pub loop-init : goal.loop-init
loop-init g c =
    let all : c.self.inside.len - 0 ≡ c.self.inside.len = omega arith in
    let count : c.len.result ≡ length c.self.inside.hubs.items = omega arith in
    let nodes : c.len-2.result ≡ length c.self.inside.nodes.items = omega arith in
    rw (all, nodes) (begins _ _ _ _ _ c.self.invariant _ c.self.view_is c.args.hashed.now.key _ (hub_read _ _ _ _ _ c.self.invariant _ _ _ (sym (length-columns c.self.inside.nodes.items)) (c.bucket_of-bucket.ensures.number ∙ ap (bucket_number _) count)) _ (first_read c.self.inside.nodes.items c.self.inside.hubs.items _ _ c.index.ensures (omega (arith, c.bucket_of-bucket.ensures.inside, count))))

pub returns-then-node-hub-clause-whichever : goal.returns-then-node-hub-clause-whichever
returns-then-node-hub-clause-whichever g c = none_whichever _ _ _ _ _ c.self.invariant _ c.self.view_is c.args.hashed.now.key None (none_has _ _ _ _ _ c.self.invariant _ c.self.view_is c.args.hashed.now.key _ _ _ c.loop.invariant (none_left _ _ _ _ _ _ c.loop.invariant c.if-node-hub.true))

pub returns-then-node-hub-clause-absent : goal.returns-then-node-hub-clause-absent
returns-then-node-hub-clause-absent g c = ((λ t. (none_has _ _ _ _ _ c.self.invariant _ c.self.view_is c.args.hashed.now.key _ _ _ c.loop.invariant (none_left _ _ _ _ _ _ c.loop.invariant c.if-node-hub.true))), (λ none. refl))

pub index-found-requires : goal.index-found-requires
index-found-requires g c = omega (arith, (next_of _ _ _ _ _ _ c.loop.invariant c.if-node-hub.false).slot, length-columns c.self.inside.nodes.items)

pub returns-then-eq-clause-found : goal.returns-then-eq-clause-found
returns-then-eq-clause-found g c = (has_key _ _ _ _ _ c.self.invariant _ c.self.view_is c.args.hashed.now.key _ _ _ (sym ((next_of _ _ _ _ _ _ c.loop.invariant c.if-node-hub.false).read _ (pair_read c.self.inside.nodes.items _ _ c.index-found.ensures)) ∙ c.in-Some.is) (g.met.K.Key.equal_is_same _ _ (sym c.eq.ensures ∙ c.if-eq.true))).listed

pub returns-then-eq-clause-split : goal.returns-then-eq-clause-split
returns-then-eq-clause-split g c =
    split_at _ _ (has_key _ _ _ _ _ c.self.invariant _ c.self.view_is c.args.hashed.now.key _ _ _ (sym ((next_of _ _ _ _ _ _ c.loop.invariant c.if-node-hub.false).read _ (pair_read c.self.inside.nodes.items _ _ c.index-found.ensures)) ∙ c.in-Some.is) (g.met.K.Key.equal_is_same _ _ (sym c.eq.ensures ∙ c.if-eq.true))).listed
    (slots_apart _ _ _ _ _ c.self.invariant _ c.self.view_is) (keys_apart _ _ _ _ _ c.self.invariant _ c.self.view_is)

pub returns-then-eq-clause-same_key : goal.returns-then-eq-clause-same_key
returns-then-eq-clause-same_key g c = (has_key _ _ _ _ _ c.self.invariant _ c.self.view_is c.args.hashed.now.key _ _ _ (sym ((next_of _ _ _ _ _ _ c.loop.invariant c.if-node-hub.false).read _ (pair_read c.self.inside.nodes.items _ _ c.index-found.ensures)) ∙ c.in-Some.is) (g.met.K.Key.equal_is_same _ _ (sym c.eq.ensures ∙ c.if-eq.true))).same

pub returns-then-eq-clause-whichever : goal.returns-then-eq-clause-whichever
returns-then-eq-clause-whichever g c = (has_key _ _ _ _ _ c.self.invariant _ c.self.view_is c.args.hashed.now.key _ _ _ (sym ((next_of _ _ _ _ _ _ c.loop.invariant c.if-node-hub.false).read _ (pair_read c.self.inside.nodes.items _ _ c.index-found.ensures)) ∙ c.in-Some.is) (g.met.K.Key.equal_is_same _ _ (sym c.eq.ensures ∙ c.if-eq.true))).whichever

pub returns-then-eq-clause-absent : goal.returns-then-eq-clause-absent
returns-then-eq-clause-absent g c = ((λ t. absurd cc), (λ none. absurd ((has_key _ _ _ _ _ c.self.invariant _ c.self.view_is c.args.hashed.now.key _ _ _ (sym ((next_of _ _ _ _ _ _ c.loop.invariant c.if-node-hub.false).read _ (pair_read c.self.inside.nodes.items _ _ c.index-found.ensures)) ∙ c.in-Some.is) (g.met.K.Key.equal_is_same _ _ (sym c.eq.ensures ∙ c.if-eq.true))).some none)))

pub loop-preserved : goal.loop-preserved
loop-preserved g c =
    let one : c.self.inside.len - (c.loop.counter + 1) ≡ c.self.inside.len - c.loop.counter - 1 = omega arith in
    rw (one, ap (λ (l : _). l.after) (chain_read c.self.inside.nodes.items c.self.inside.hubs.items _ _ c.index-found.ensures (omega (arith, (next_of _ _ _ _ _ _ c.loop.invariant c.if-node-hub.false).slot, length-columns c.self.inside.nodes.items)))) (elim c.match-found.branch [
      | in-Some+else-eq w ↦ (next_of _ _ _ _ _ _ c.loop.invariant c.if-node-hub.false).more _ _ (sym ((next_of _ _ _ _ _ _ c.loop.invariant c.if-node-hub.false).read _ (pair_read c.self.inside.nodes.items _ _ c.index-found.ensures)) ∙ w.in-Some.is) (differs g.K.PartialEq.eq g.met.K.Eq.laws _ _ (sym w.eq.ensures ∙ w.if-eq.false))
      | in_default w ↦ absurd ((next_of _ _ _ _ _ _ c.loop.invariant c.if-node-hub.false).some (sym ((next_of _ _ _ _ _ _ c.loop.invariant c.if-node-hub.false).read _ (pair_read c.self.inside.nodes.items _ _ c.index-found.ensures)) ∙ w.in_default.is))
    ])

pub returns-clause-whichever : goal.returns-clause-whichever
returns-clause-whichever g c = none_whichever _ _ _ _ _ c.self.invariant _ c.self.view_is c.args.hashed.now.key None (none_has _ _ _ _ _ c.self.invariant _ c.self.view_is c.args.hashed.now.key _ _ _ c.loop.invariant (none_at_end _ _ _ _ _ _ c.loop.invariant (omega (arith, c.loop-test.false))))

pub returns-clause-absent : goal.returns-clause-absent
returns-clause-absent g c = ((λ t. (none_has _ _ _ _ _ c.self.invariant _ c.self.view_is c.args.hashed.now.key _ _ _ c.loop.invariant (none_at_end _ _ _ _ _ _ c.loop.invariant (omega (arith, c.loop-test.false))))), (λ none. refl))

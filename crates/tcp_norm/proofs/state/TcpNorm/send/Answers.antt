use Rattle.std.proofs.Common.{◌+◌, ◌∙◌, [], ◌∷◌, ◌++◌, sym, ap, subst, refl, cond, None, arith, nat_lt}
use Rattle.linked_table.specs.EntryTable as table
use Rattle.retain_store.specs.Maps.{Store, chain_of, octet_at}
use Rattle.era_state.specs.Eras as era
use Rattle.tcp_norm.specs.declared.key.Flow.{Flow}
use Rattle.tcp_norm.specs.working.LiveSlots.{Live}
use Rattle.tcp_norm.specs.declared.key.EraKey.{EraKey}
use Rattle.tcp_norm.specs.Calls.{segments, segment_in, eras}
use Rattle.tcp_norm.specs.working.EraBounds.{AreNear}
use Rattle.tcp_norm.specs.working.Rulings.{Continues}
use Rattle.tcp_norm.proofs.KeptOctets.{keeps_behind, outbound_brings_none}
use Rattle.tcp_norm.proofs.EraWrites.{acked_small, near_at, nears_weaker, near_touched, stands_written, writes_one}
use Rattle.tcp_norm.proofs.Quotas.{shorter_below, stays_bounded}
use Rattle.tcp_norm.proofs.EraTable.{at_slot, opened_kept, same_value}
use Rattle.tcp_norm.proofs.SpareEras.{touched_listed}
use Rattle.tcp_norm.proofs.state.TcpNorm.send.Goals as goal

pub send_in-acked-requires-clause-small : goal.send_in-acked-requires-clause-small
send_in-acked-requires-clause-small c = acked_small c.args.self.now.calls c.args.self.now.table.entries (omega (arith, c.requires.ready.few)) c.args.self.now.near

pub returns : goal.returns
returns c settings calls d key flow octets o st held long sends does =
    let slot = c.args.slot in
    let live : Live = record { key = key; slot = slot; flow = flow } in
    let found = c.send_in-acked.ensures in
    let entries = c.args.self.now.table.entries in
    let same = same_value entries slot found.flow flow c.requires.inside found.was held.entry in
    let next = subst (Continues c.args.self.now.table c.send_in-acked.new.table slot c.args.seg.now c.args.now c.send_in-acked.result) same found.continues in
    let store = c.args.self.now.store in
    let w = segment_in d in
    let before = segments flow.number calls in
    let forgets = c.forget_below.ensures in
    let at = at_slot (eras calls) (λ m. segments m calls) _ _ store slot flow st.holds held.inside held.slots_apart held.keys_apart held.entry in
    let stands = subst (λ x. era.StandsFor next.era (before ++ x ∷ [])) (sym sends.segment_is) (next.stands before octets long at.era) in
    let keeps = keeps_behind c.first_stays.ensures c.acked_never_falls.ensures flow.era next.era before (w ∷ []) (chain_of store slot.0) (chain_of c.forget_below.new.self slot.0)
    at.era stands (outbound_brings_none w sends.side, tt) at.octets (λ n. forgets.octets n ∙ ap (λ a. cond (nat_lt n a) None (octet_at (chain_of store slot.0) n)) next.acked_is) in
    stands_written settings c.args.self.now _ calls c.args.now d live _ (w ∷ []) o st
    (opened_kept settings c.args.self.now _ st.opened (ap (λ (t : table.Table EraKey Flow). t.max) next.entries) forgets.changed.number (ap (λ (s : Store). s.cells) forgets.changed.others) refl)
    refl refl refl c.requires.ready.later held (sym sends.key_is) refl refl next.entries forgets.changed stands keeps forgets.map forgets.held (writes_one d flow.number w o does)

pub invariant_of-self-clause-near : goal.invariant_of-self-clause-near
invariant_of-self-clause-near c =
    let self = c.args.self.now in
    let found = c.send_in-acked.ensures in
    let was = near_at self.calls self.table.entries c.args.slot found.flow c.requires.inside found.was self.near in
    let next = found.continues in
    subst (λ (t : table.Table EraKey Flow). AreNear (self.calls + 1) t.entries) (sym next.entries)
    (near_touched (self.calls + 1) c.args.slot _ self.table.entries (omega (arith, was.0, next.near), omega (arith, was.1, next.octets_are)) (nears_weaker self.calls (self.calls + 1) self.table.entries (omega arith) self.near))

pub invariant_of-self-clause-bounded : goal.invariant_of-self-clause-bounded
invariant_of-self-clause-bounded c =
    let self = c.args.self.now in
    let slot = c.args.slot.0 in
    let shorter = shorter_below (chain_of self.store slot) (chain_of c.forget_below.new.self slot) _ c.chain_is_counted.ensures.map c.forget_below.ensures.map c.forget_below.ensures.octets
    c.chain_is_counted.ensures.held c.forget_below.ensures.held in
    stays_bounded self.limits.quota self.store c.forget_below.new.self slot self.bounded c.forget_below.ensures.changed
    (λ most is. let le = self.bounded slot most is in omega (arith, shorter, le))

pub invariant_of-self-clause-spare_listed : goal.invariant_of-self-clause-spare_listed
invariant_of-self-clause-spare_listed c =
    let apart = c.entries_are_apart.ensures in
    touched_listed c.args.self.now.spare _ c.args.self.now.store c.forget_below.new.self c.args.self.now.table _ c.args.slot _ c.requires.inside apart.slots_apart apart.keys_apart c.forget_below.ensures.changed
    c.args.self.now.spare_listed c.list_spare.ensures (ap (λ (t : table.Table EraKey Flow). t.entries) c.send_in-acked.ensures.continues.entries)

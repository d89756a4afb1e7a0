use Rattle.std.proofs.Common.{◌∙◌, ◌+◌, ◌*◌, ◌^◌, ◌≤◌, [], ◌++◌, ◌∷◌, length, sym, ap, subst, refl, arith}
use Rattle.era_state.specs.Eras.{acked_in, octets_in}
use Rattle.linked_table.specs.EntryTable as table
use Rattle.retain_store.specs.Maps.{Store, chain_of, fresh, missing}
use Rattle.tcp_norm.specs.declared.key.Flow.{Flow}
use Rattle.tcp_norm.specs.declared.key.EraKey.{EraKey}
use Rattle.tcp_norm.specs.Calls.{segments, segment_in, eras}
use Rattle.tcp_norm.specs.working.EraBounds.{AreNear}
use Rattle.tcp_norm.proofs.EraWrites.{near_at, nears_weaker, near_touched, stands_written, wrote_these, taken_long}
use Rattle.tcp_norm.proofs.Quotas.{stays_bounded}
use Rattle.tcp_norm.proofs.EraTable.{at_slot, opened_kept, same_value}
use Rattle.tcp_norm.proofs.SpareEras.{touched_listed}
use Rattle.tcp_norm.proofs.KeptOctets.{fresh_is, keeps_with, last_stands}
use Rattle.tcp_norm.specs.working.LiveSlots.{Live}
use Rattle.tcp_norm.specs.working.Rulings.{Brings, IsHeld, taken}
use Rattle.tcp_norm.proofs.state.TcpNorm.take_octets.Goals as goal

pub returns : goal.returns
returns c settings calls d key flow o st held' b' =
    let self = c.args.self.now in
    let t = c.args.taking.now in
    let took = c.take_in.ensures in
    let live : Live = record { key = key; slot = c.args.slot; flow = took.flow } in
    let same = sym (same_value self.table.entries c.args.slot took.flow flow c.requires.inside took.was held'.entry) in
    let held = subst (λ (f : Flow). IsHeld self.table (record live { flow = f })) same held' in
    let b = subst (λ (f : Flow). Brings calls self.scratch.items d (record live { flow = f }) t o) same b' in
    let store = self.store in
    let placed = c.place_taken-fresh.ensures in
    let ws = segments live.flow.number calls in
    let w = segment_in d in
    let at = at_slot (eras calls) (λ m. segments m calls) _ _ store live.slot live.flow st.holds held.inside held.slots_apart held.keys_apart held.entry in
    let long = taken_long t c.deref.result.now (omega (arith, c.deref.ensures.len, c.args.self.now.room, c.requires.can.fits)) in
    let places = fresh_is c.intervals_fit.ensures ws w t.kept _ (length t.own.now) _ b.kept_is at.octets c.requires.can.long (placed.fresh ∙ ap (fresh (chain_of store live.slot.0) t.kept.lo) long) in
    let next = took.stands ws w b.frame at.era b.kept_is b.framed places in
    let keeps = keeps_with c.first_stays.ensures c.frame_octets.ensures c.intervals_fit.ensures c.place_taken-fresh.result took.value.was took.value.is ws w b.frame t.kept
    (chain_of store live.slot.0) (chain_of c.place_taken-fresh.new.store live.slot.0) _ (last_stands live.flow.era took.value.was ws took.value.was_last at.era) (last_stands took.era took.value.is (ws ++ b.frame ∷ []) took.value.is_last next) took.value.with b.kept_is b.framed (b.octets_are ∙ ap (taken t) (sym c.deref.ensures.value)) at.octets placed.places in
    record {
      stands = stands_written settings c.args.self.now _ calls c.args.now d live _ (b.frame ∷ []) o st
          (opened_kept settings c.args.self.now _ st.opened (ap (λ (x : table.Table EraKey Flow). x.max) c.take_in.ensures.entries) placed.changed.number (ap (λ (s : Store). s.cells) placed.changed.others) refl)
          refl refl refl c.requires.ready.later held b.key_is refl refl took.entries placed.changed next keeps
          c.chain_is_counted.ensures.map c.chain_is_counted.ensures.held (wrote_these 0 live.flow.number d b.more (b.frame ∷ []) o b.writes b.own);
      scratch_is = refl;
    }

pub take_in-requires-clause-few : goal.take_in-requires-clause-few
take_in-requires-clause-few c k x below here = omega (
  arith,
  (c.args.self.now.near k x below).1,
  c.requires.ready.few,
  c.place_taken-fresh.ensures.most,
  taken_long c.args.taking.now c.deref.result.now (omega (arith, c.deref.ensures.len, c.args.self.now.room, c.requires.can.fits)),
  c.requires.can.fits,
)

pub invariant_of-self-clause-near : goal.invariant_of-self-clause-near
invariant_of-self-clause-near c =
    let self = c.args.self.now in
    let long = taken_long c.args.taking.now c.deref.result.now (omega (arith, c.deref.ensures.len, self.room, c.requires.can.fits)) in
    let took = c.take_in.ensures in
    let near = near_at self.calls self.table.entries c.args.slot took.flow c.requires.inside took.was self.near in
    let acked : acked_in took.era ≤ (self.calls + 1) * 2 ^ 31 = omega (arith, took.same, near.0) in
    let octets : octets_in took.era ≤ (self.calls + 1) * 2 ^ 16 = omega (arith, took.octets_are, near.1, c.place_taken-fresh.ensures.most, long, c.requires.can.fits) in
    subst (λ (t : table.Table EraKey Flow). AreNear (self.calls + 1) t.entries) (sym took.entries)
    (near_touched (self.calls + 1) c.args.slot _ self.table.entries (acked, octets) (nears_weaker self.calls (self.calls + 1) self.table.entries (omega arith) self.near))

pub invariant_of-self-clause-bounded : goal.invariant_of-self-clause-bounded
invariant_of-self-clause-bounded c =
    let self = c.args.self.now in
    let slot = c.args.slot.0 in
    stays_bounded self.limits.quota self.store c.place_taken-fresh.new.store slot self.bounded c.place_taken-fresh.ensures.changed
    (λ most is.
    let le = c.requires.can.quota most is in
    let long = taken_long c.args.taking.now c.deref.result.now (omega (arith, c.deref.ensures.len, self.room, c.requires.can.fits)) in
    let more = ap (missing (chain_of self.store slot) c.args.taking.now.kept.lo) long in
    omega (arith, le, more, c.place_taken-fresh.ensures.free, c.place_taken-fresh.ensures.changed.cells))

pub invariant_of-self-clause-spare_listed : goal.invariant_of-self-clause-spare_listed
invariant_of-self-clause-spare_listed c =
    let apart = c.entries_are_apart.ensures in
    touched_listed c.args.self.now.spare _ c.args.self.now.store c.place_taken-fresh.new.store c.args.self.now.table _ c.args.slot _ c.requires.inside apart.slots_apart apart.keys_apart c.place_taken-fresh.ensures.changed
    c.args.self.now.spare_listed c.list_spare.ensures (ap (λ (t : table.Table EraKey Flow). t.entries) c.take_in.ensures.entries)

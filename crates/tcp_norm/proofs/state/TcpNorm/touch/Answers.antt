use Rattle.std.proofs.Common.{refl, sym, ap, subst}
use Rattle.linked_table.specs.EntryTable as table
use Rattle.tcp_norm.specs.declared.key.Flow.{Flow}
use Rattle.tcp_norm.specs.working.LiveSlots.{Live}
use Rattle.tcp_norm.specs.declared.key.EraKey.{EraKey}
use Rattle.tcp_norm.specs.working.Rulings.{Extends}
use Rattle.tcp_norm.proofs.EraTable.{none_changed, opened_kept}
use Rattle.tcp_norm.proofs.SpareEras.{touched_listed}
use Rattle.tcp_norm.proofs.EraWrites.{near_marked, stands_touched, touched_is}
use Rattle.tcp_norm.proofs.state.TcpNorm.touch.Goals as goal

pub returns : goal.returns
returns c settings calls d key flow ws o st held e =
    let self = c.args.self.now in
    let live : Live = record { key = key; slot = c.args.slot; flow = flow } in
    let found = c.touch_in.ensures in
    let same = touched_is self.table _ live c.args.now found.flow found.flow.era held found.touches in
    record {
      stands = stands_touched c.first_stays.ensures c.acked_never_falls.ensures settings self _ calls c.args.now d live found.flow found.flow.era ws o st
          (opened_kept settings self _ st.opened (ap (λ (t : table.Table EraKey Flow). t.max) found.touches.entries) refl refl refl) refl refl refl c.requires.ready.later refl
          (record { map = c.chain_is_counted.ensures.map; held = c.chain_is_counted.ensures.held }) held found.touches
          (subst (λ (f : Flow). Extends calls d live f.era ws o) (sym same) e);
      scratch_is = refl;
    }

pub invariant_of-self-clause-near : goal.invariant_of-self-clause-near
invariant_of-self-clause-near c =
    let self = c.args.self.now in
    let found = c.touch_in.ensures in
    near_marked self.calls self.table _ c.args.slot c.args.now found.flow found.flow.era c.requires.inside found.touches self.near

pub invariant_of-self-clause-spare_listed : goal.invariant_of-self-clause-spare_listed
invariant_of-self-clause-spare_listed c =
    let self = c.args.self.now in
    let apart = c.entries_are_apart.ensures in
    touched_listed self.spare _ self.store self.store self.table _ c.args.slot _ c.requires.inside apart.slots_apart apart.keys_apart (none_changed self.store c.args.slot.0)
    self.spare_listed c.list_spare.ensures (ap (λ (t : table.Table EraKey Flow). t.entries) c.touch_in.ensures.touches.entries)

use Rattle.std.proofs.Common.{rules, ◌≡◌, ℕ, ◌+◌, ◌-◌, ◌<◌, ◌≤◌, ◌^◌, ◌%◌, ◌&&◌, ◌∙◌, Bool, true, false, cond, Some, None, List, [], ◌∷◌, ◌++◌, length, map, take, drop, is_some, sym, ap, ap₂, subst, arith, refl, nat_lt, IsTrue, length-drop, length-take-le}
use Rattle.std.specs.List.{refill}
use Rattle.std.proofs.Math.Seq.{take-append_seam}
use Rattle.wire_base.specs.Tcp as tcp
use Rattle.wire_base.specs.Options.{cleaned}
use Rattle.wire_base.specs.Segments.{Written}
use Rattle.ipv4_codec.specs.declared.header.Ipv4.{Ipv4}
use Rattle.tcp_codec.specs.declared.header.Tcp.{Tcp}
use Rattle.retain_store.specs.Maps.{Store, Agrees, IsWhole, IsWithin, chain_of, missing}
use Rattle.tcp_norm.specs.working.EraBounds.{AreBounded}
use Rattle.tcp_norm.specs.QuotaBounds.{IsAtMost}
use Rattle.tcp_norm.specs.working.SpareSlots.{spares}
use Rattle.rule_book.specs.declared.rule.Rule.TheVariants as variants
use Rattle.era_state.specs.States.{is_acknowledged, state_of}
use Rattle.era_state.specs.Eras.{GivesTo}
use Rattle.era_state.specs.EraFields.{WarmFor}
use Rattle.era_state.specs.SegmentFields.{received}
use Rattle.era_state.specs.KeptIntervals.{KeptOf}
use Rattle.era_state.specs.ForwardedOctets.{frame_sequence_of}
use Rattle.era_state.specs.Rules as era
use Rattle.ip_rules.specs.Datagrams.{Datagram, goes_in}
use Rattle.linked_table.specs.EntryTable as table
use Rattle.tcp_norm.specs.declared.key.Flow.{Flow}
use Rattle.tcp_norm.specs.declared.key.EraKey.{EraKey}
use Rattle.tcp_norm.specs.declared.state.TcpNorm.{TcpNorm}
use Rattle.tcp_norm.specs.Calls.{Call, eras, read, segment_in, segments}
use Rattle.norm_settings.specs.SettingValues.{PlainSettings}
use Rattle.tcp_norm.specs.Outcomes.{outcome_at}
use Rattle.tcp_norm.specs.declared.arrival.Arrival.{Arrival}
use Rattle.tcp_norm.specs.declared.step.Ruling.{Ruling}
use Rattle.tcp_norm.specs.working.LiveSlots.{Live}
use Rattle.tcp_norm.specs.working.Rulings.{IsCounted, IsRuling}
use Rattle.tcp_norm.specs.TableAndStore.{HoldsFor, IsTimely, StandsFor}
use Rattle.tcp_norm.proofs.EraTable.{opened_kept}
use Rattle.tcp_norm.specs.RuleViews.{view_of}
use Rattle.tcp_norm.specs.working.ReadHeads.{AreBits, seen}
use Rattle.tcp_norm.specs.HeldOctets.{held_of}
use Rattle.tcp_norm.specs.KeptChains.{Keeps}
use Rattle.tcp_norm.specs.RuleRows.{t_quota, t_room, is_live, exceeds, wanted_of, clashes, options_sent}
use Rattle.tcp_norm.specs.EmittedPackets.{packet_by, octets_sent}
use Rattle.tcp_norm.specs.working.LiveWrites.{WritesAll}
use Rattle.tcp_norm.specs.working.EraSteps.{IsStep}
use Rattle.tcp_norm.specs.declared.step.Step.{Step}
use Rattle.tcp_norm.proofs.InboundSegments.{found_in, judged, refused, says, of_live, in_dropped, in_unheard, in_outcome, packets_live, no_probe_behind, stream_is, step_stream, stream_anew, writes_all, IsJudged}
use Rattle.tcp_norm.proofs.SpareEras.{held_is}
use Rattle.tcp_norm.proofs.SegmentRules.{of_stream, stream_dropped, sent_long, passes, rows_are}
use Rattle.tcp_norm.proofs.Packets.{stream_fits}
use Rattle.tcp_norm.proofs.StreamFrames.{settled_is, clash_is, either_are, none_clash}
use Rattle.tcp_norm.proofs.SynsAndResets.{rewritten_if}
use Rattle.tcp_norm.proofs.state.TcpNorm.judge_stream.Goals as goal

last_false : (a b t : Bool) → t ≡ false → (a && b && t) ≡ false
last_false true true t e = e
last_false true false t e = refl
last_false false b t e = refl

none_dropped : (a b : Bool) → None ≡ cond a (Some variants.TQuota) (cond b (Some variants.TRoom) None) → (a ≡ false) × (b ≡ false)
none_dropped false false e = (refl, refl)
none_dropped false true e = cc
none_dropped true b e = cc

payload_long : (m : List ℕ) (head : Tcp) → head ≡ seen m head → length (tcp.payload m) ≡ length m - head.header
payload_long m head fields = ap (λ (h : Tcp). length (drop h.header m)) (sym fields) ∙ length-drop head.header m

refilled : (n : ℕ) (xs ws : List ℕ) → length ws ≡ n → refill n xs ws ≡ ws
refilled n xs ws long = ap (λ m. take m (ws ++ drop (length ws) xs)) (sym long) ∙ take-append_seam ws (drop (length ws) xs)

pub invariant_of-piece : goal.invariant_of-piece
invariant_of-piece c =
    let a = c.args.arrival.now in
    record {
      chain_in_range = search rules;
      order = c.interval-kept.ensures.order;
      short = omega (arith, a.short, a.read.inside, c.interval-kept.ensures.short, c.seg_of-seg.ensures.len, payload_long a.packet.now.payload.now a.head.now a.read.fields);
      ends = subst (λ s. IsTrue c.look-found.result.ends → IsWithin (chain_of s c.args.slot.0) c.interval-kept.result.lo) (sym c.look-found.ensures.same) c.look-found.ensures.ends;
      whole = subst (λ n. IsTrue c.look-found.result.repeats → IsWhole (chain_of c.look-found.new.store c.args.slot.0) c.interval-kept.result.lo n) c.own_octets-own.ensures.long
          (subst (λ s. IsTrue c.look-found.result.repeats → IsWhole (chain_of s c.args.slot.0) c.interval-kept.result.lo (length c.own_octets-own.result.now)) (sym c.look-found.ensures.same) c.look-found.ensures.whole);
    }

pub invariant_of-self-in-Some-refusal : goal.invariant_of-self-in-Some-refusal
invariant_of-self-in-Some-refusal c =
    let self = c.args.self.now in
    record {
      sized = ap (λ (s : Store). length s.chains) c.look-found.ensures.same ∙ self.sized;
      spare_sized = self.spare_sized;
      spare_listed = self.spare_listed ∙ ap (λ s. spares s self.table.entries) (sym c.look-found.ensures.same);
      room = self.room;
      page_room = self.page_room;
      passes = self.passes;
      few = self.few;
      near = self.near;
      bounded = subst (AreBounded self.limits.quota) (sym c.look-found.ensures.same) self.bounded;
    }

pub invariant_of-self-2-clause-sized : goal.invariant_of-self-2-clause-sized
invariant_of-self-2-clause-sized c = ap (λ (s : Store). length s.chains) c.look-found.ensures.same ∙ c.args.self.now.sized

pub invariant_of-self-2-clause-near : goal.invariant_of-self-2-clause-near
invariant_of-self-2-clause-near c = c.args.self.now.near

pub invariant_of-self-2-clause-spare_listed : goal.invariant_of-self-2-clause-spare_listed
invariant_of-self-2-clause-spare_listed c = c.args.self.now.spare_listed ∙ ap (λ s. spares s c.args.self.now.table.entries) (sym c.look-found.ensures.same)

pub invariant_of-self-2-clause-bounded : goal.invariant_of-self-2-clause-bounded
invariant_of-self-2-clause-bounded c = subst (AreBounded c.args.self.now.limits.quota) (sym c.look-found.ensures.same) c.args.self.now.bounded

pub clashes-clash-requires-clause-agrees : goal.clashes-clash-requires-clause-agrees
clashes-clash-requires-clause-agrees c =
    subst (λ s. IsTrue c.look-found.result.repeats → Agrees (chain_of s c.args.slot.0) c.interval-kept.result.lo c.own_octets-own.result.now) (sym c.look-found.ensures.same) c.look-found.ensures.agrees

-- the state represents the same calls with a store that is as it was
stays : (old new : TcpNorm) (settings : PlainSettings) (calls : List Call) → new.store ≡ old.store → new.table ≡ old.table → new.limits ≡ old.limits
    → new.begun ≡ old.begun → new.calls ≡ old.calls → new.latest ≡ old.latest → StandsFor settings old calls → StandsFor settings new calls
stays old new settings cs store tables limits begun calls latest st = record {
  opened = opened_kept settings old new st.opened (ap (λ (t : table.Table EraKey Flow). t.max) tables) (ap (λ (s : Store). length s.chains) store) (ap (λ (s : Store). s.cells) store) limits;
  holds = subst (λ s. HoldsFor (eras cs) (λ n. segments n cs) new.begun new.table.entries s) (sym store)
      (subst (λ (t : table.Table EraKey Flow). HoldsFor (eras cs) (λ n. segments n cs) new.begun t.entries old.store) (sym tables) (subst (λ b. HoldsFor (eras cs) (λ n. segments n cs) b old.table.entries old.store) (sym begun) st.holds));
  begun_is = begun ∙ st.begun_is;
  latest_is = latest ∙ st.latest_is;
  calls_is = calls ∙ st.calls_is;
  timely = subst (λ l. IsTimely l (eras cs)) (sym latest) st.timely;
}

counted_judged : (settings : PlainSettings) (calls : List Call) (d : Datagram) (a : Arrival) (old new : TcpNorm) (r : Ruling) → IsCounted settings calls d (outcome_at settings (view_of settings calls d) d) a.time old new
    → IsRuling settings (view_of settings calls d) d a old.scratch.items r → IsJudged settings calls d a new r
counted_judged settings calls d a old new r counted ruled = judged settings calls d a old new r ruled counted

pub take_octets-requires-clause-can : goal.take_octets-requires-clause-can
take_octets-requires-clause-can c =
    let a = c.args.arrival.now in
    let slot = c.args.slot in
    let store = c.look-found.new.store in
    let seg = c.seg_of-seg.result in
    let kept = c.interval-kept.result in
    let long = c.own_octets-own.ensures.long in
    let given = c.in-Some.ensures.some.gives kept (record { sequence = seg.seq; len = seg.len; fin = tcp.has_fin seg.flags.0; keeps = c.interval-kept.ensures.value }) in
    record {
      given = λ k x below here. subst (λ (f : Flow). GivesTo f.era kept) (c.at-flow.ensures k x below here) given;
      long = omega (arith, long, c.interval-kept.ensures.order);
      fits = omega (arith, a.short, a.read.inside, c.interval-kept.ensures.short, long, c.seg_of-seg.ensures.len, payload_long a.packet.now.payload.now a.head.now a.read.fields);
      room = subst (λ n. missing (chain_of store slot.0) kept.lo n ≤ store.free) (sym long) c.in_default-refusal.ensures.free;
      whole = subst (λ s. IsTrue c.look-found.result.repeats → IsWhole (chain_of s slot.0) kept.lo (length c.own_octets-own.result.now)) (sym c.look-found.ensures.same) c.look-found.ensures.whole;
      quota = subst (λ n. IsAtMost c.args.self.now.limits.quota (length (chain_of store slot.0) + missing (chain_of store slot.0) kept.lo n)) (sym long) c.in_default-refusal.ensures.within;
    }

pub returns-in_default : goal.returns-in_default
returns-in_default c =
    let apart = c.entries_are_apart.ensures in
    let found = found_in c.args.arrival.now c.args.self.now c.args.slot c.at-flow.result.now c.requires.live c.at-flow.ensures apart.slots_below apart.slots_apart apart.keys_apart in
    says c.args.arrival.now c.args.self.now _ _ _ _ _ _ _ c.carry_out.ensures (λ settings calls d st is.
    let dropped = c.refuse_early-refusal.ensures c.args.self.now c.requires.live.key c.args.slot settings calls d found st is in
    counted_judged settings calls d c.args.arrival.now _ _ _ (c.arrive.ensures settings calls d _ (stays c.args.self.now _ settings calls refl refl refl refl refl refl st) dropped.unheard) dropped.rules)

pub returns-in-Some-refusal : goal.returns-in-Some-refusal
returns-in-Some-refusal c =
    let apart = c.entries_are_apart.ensures in
    let key = c.requires.live.key in
    let found = found_in c.args.arrival.now c.args.self.now c.args.slot c.at-flow.result.now c.requires.live c.at-flow.ensures apart.slots_below apart.slots_apart apart.keys_apart in
    says c.args.arrival.now c.args.self.now _ _ _ _ _ _ _ (refused c.args.arrival.now _ _ _ _ c.in-Some-refusal.rule (Some c.at-flow.result.now.number) c.requires.empty (c.report_dropped.ensures [] refl)) (λ settings calls d st is.
    let here : Live = record { key = key; slot = c.args.slot; flow = c.at-flow.result.now } in
    let last = c.in-Some.ensures.some in
    let a = c.args.arrival.now in
    let h = found.held in
    let n = here.flow.number in
    let l = of_live settings calls d a c.args.self.now here st is found in
    let v = view_of settings calls d in
    let w = segment_in d in
    let side = l.side in
    let live = l.live in
    let stood = l.stood in
    let flags = l.flags in
    let syn : tcp.has_syn w.flags ≡ false = sym (ap tcp.has_syn flags) ∙ c.requires.plain.no_syn in
    let rst : tcp.has_rst w.flags ≡ false = sym (ap tcp.has_rst flags) ∙ c.requires.plain.no_rst in
    let stream = stream_is v.segments w (subst (λ ws. is_acknowledged (state_of ws) ≡ true) (sym live.segments_are) (last.acknowledged (segments n calls) stood)) side syn rst in
    let f = of_stream v.segments w stream in
    let warm = subst (WarmFor c.in-Some.warm.now) (sym live.segments_are) (last.settled (segments n calls) stood) in
    let total = held_is calls _ _ _ _ st.holds (st.opened.chains ∙ sym st.opened.flows) h.below h.slots_apart in
    let store = c.look-found.new.store in
    let roomy : v.room ≡ store.free = omega (arith, total, c.cells_are_counted.ensures.total, st.opened.store, ap (λ (s : Store). s.free) c.look-found.ensures.same) in
    let keeps : Keeps (chain_of store here.slot.0) v.segments =
    subst (λ s. Keeps (chain_of s here.slot.0) v.segments) (sym c.look-found.ensures.same) (subst (Keeps (chain_of c.args.self.now.store here.slot.0)) (sym live.segments_are) l.at.octets) in
    let count : length (chain_of store here.slot.0) ≡ held_of v.segments =
    ap (λ s. length (chain_of s here.slot.0)) c.look-found.ensures.same ∙ (l.at.count ∙ ap held_of (sym live.segments_are)) in
    let bound : c.args.self.now.limits.quota ≡ settings.quota = λ k. (st.opened.limits k).quota in
    let is_live' = ap is_some live.era_is in
    let octets = is.octets in
    let payload = tcp.payload a.packet.now.payload.now in
    let w_is : received c.seg_of-seg.result payload ≡ w = c.seg_of-seg.ensures.inward ∙ ap₂ read (sym side) (sym octets) in
    let long : length payload ≡ c.seg_of-seg.result.len = sym c.seg_of-seg.ensures.len in
    let keptof : KeptOf v.segments w c.interval-kept.result = subst (λ (w : Written). KeptOf v.segments w c.interval-kept.result) w_is (c.interval-kept.ensures.list v.segments payload long warm) in
    let drops = stream_dropped settings v d is_live' f
    ∙ (ap₂ (λ a b. cond (a && b && exceeds settings.quota (held_of v.segments + wanted_of v.segments w)) (Some variants.TQuota)
    (cond (a && b && nat_lt v.room (wanted_of v.segments w)) (Some variants.TRoom) None)) is_live' stream
    ∙ (ap₂ (λ q f. cond (exceeds q (held_of v.segments + wanted_of v.segments w)) (Some variants.TQuota) (cond (nat_lt f (wanted_of v.segments w)) (Some variants.TRoom) None)) (sym bound) roomy
    ∙ sym (c.in-Some-refusal.ensures.value v.segments w keeps count keptof))) in
    counted_judged settings calls d a _ _ _ (c.arrive-in-Some-refusal.ensures settings calls d _ (stays c.args.self.now _ settings calls c.look-found.ensures.same refl refl refl refl refl st) (in_unheard settings v d c.in-Some-refusal.rule drops))
    (record {
      outcome_is = in_dropped settings v d c.in-Some-refusal.rule (Some n) [] drops live.era_is (no_probe_behind settings v d c.in-Some-refusal.rule drops is_live' f);
      carried = found.keyed.side;
    }))

pub returns : goal.returns
returns c =
    let apart = c.entries_are_apart.ensures in
    let key = c.requires.live.key in
    let found = found_in c.args.arrival.now c.args.self.now c.args.slot c.at-flow.result.now c.requires.live c.at-flow.ensures apart.slots_below apart.slots_apart apart.keys_apart in
    says c.args.arrival.now c.args.self.now _ _ _ _ _ _ _ c.pass.ensures (λ settings calls d st is.
    let here : Live = record { key = key; slot = c.args.slot; flow = c.at-flow.result.now } in
    let last = c.in-Some.ensures.some in
    let a = c.args.arrival.now in
    let h = found.held in
    let n = here.flow.number in
    let l = of_live settings calls d a c.args.self.now here st is found in
    let v = view_of settings calls d in
    let w = segment_in d in
    let side = l.side in
    let live = l.live in
    let stood = l.stood in
    let flags = l.flags in
    let syn : tcp.has_syn w.flags ≡ false = sym (ap tcp.has_syn flags) ∙ c.requires.plain.no_syn in
    let rst : tcp.has_rst w.flags ≡ false = sym (ap tcp.has_rst flags) ∙ c.requires.plain.no_rst in
    let stream = stream_is v.segments w (subst (λ ws. is_acknowledged (state_of ws) ≡ true) (sym live.segments_are) (last.acknowledged (segments n calls) stood)) side syn rst in
    let f = of_stream v.segments w stream in
    let warm = subst (WarmFor c.in-Some.warm.now) (sym live.segments_are) (last.settled (segments n calls) stood) in
    let total = held_is calls _ _ _ _ st.holds (st.opened.chains ∙ sym st.opened.flows) h.below h.slots_apart in
    let store = c.look-found.new.store in
    let roomy : v.room ≡ store.free = omega (arith, total, c.cells_are_counted.ensures.total, st.opened.store, ap (λ (s : Store). s.free) c.look-found.ensures.same) in
    let keeps : Keeps (chain_of store here.slot.0) v.segments =
    subst (λ s. Keeps (chain_of s here.slot.0) v.segments) (sym c.look-found.ensures.same) (subst (Keeps (chain_of c.args.self.now.store here.slot.0)) (sym live.segments_are) l.at.octets) in
    let count : length (chain_of store here.slot.0) ≡ held_of v.segments =
    ap (λ s. length (chain_of s here.slot.0)) c.look-found.ensures.same ∙ (l.at.count ∙ ap held_of (sym live.segments_are)) in
    let bound : c.args.self.now.limits.quota ≡ settings.quota = λ k. (st.opened.limits k).quota in
    let is_live' = ap is_some live.era_is in
    let octets = is.octets in
    let kept = c.interval-kept.result in
    let w_is : received c.seg_of-seg.result c.payload_of.result.now ≡ w =
    ap (received c.seg_of-seg.result) c.payload_of.ensures ∙ (c.seg_of-seg.ensures.inward ∙ ap₂ read (sym side) (sym octets)) in
    let long : length c.payload_of.result.now ≡ c.seg_of-seg.result.len = ap length c.payload_of.ensures ∙ sym c.seg_of-seg.ensures.len in
    let kept_here = c.interval-kept.ensures.list v.segments c.payload_of.result.now long warm in
    let keptof : KeptOf v.segments w kept = subst (λ (w : Written). KeptOf v.segments w kept) w_is kept_here in
    let open' = none_dropped _ _ (c.in_default-refusal.ensures.value v.segments w keeps count keptof) in
    let enough : nat_lt v.room (wanted_of v.segments w) ≡ false = ap (λ f. nat_lt f (wanted_of v.segments w)) roomy ∙ open'.1 in
    let within : exceeds settings.quota (held_of v.segments + wanted_of v.segments w) ≡ false = ap (λ q. exceeds q (held_of v.segments + wanted_of v.segments w)) (sym bound) ∙ open'.0 in
    let quota : t_quota settings v w ≡ false = last_false (is_live v) (era.is_of_stream v.segments w) _ within in
    let room : t_room v w ≡ false = last_false (is_live v) (era.is_of_stream v.segments w) _ enough in
    let seen_w = received c.seg_of-seg.result c.payload_of.result.now in
    let own = c.own_octets-own.result.now in
    let owned = c.own_octets-own.ensures in
    let written = c.fill_kept-as_read.new.scratch in
    let filled = take (length own) written in
    let filled_long : length filled ≡ length own = length-take-le (length own) written
    (omega (arith, owned.long, c.interval-kept.ensures.short, c.seg_of-seg.ensures.len, a.short, a.read.inside, c.fill_kept-as_read.auto.scratch, c.deref_mut.ensures.len, c.args.self.now.room, payload_long a.packet.now.payload.now a.head.now a.read.fields)) in
    let clash = clash_is c.in-Some.warm.now v.segments seen_w kept _ own c.clashes-clash.result warm kept_here keeps owned.long owned.own c.clashes-clash.ensures ∙ ap (clashes v.segments) w_is in
    let front = refilled c.args.self.now.scratch.len c.args.self.now.scratch.items written (c.fill_kept-as_read.auto.scratch ∙ c.deref_mut.ensures.len) in
    let as_read = c.fill_kept-as_read.result in
    let settled = take (length own) (refill c.args.self.now.scratch.len c.args.self.now.scratch.items written) in
    let settled_are : as_read ≡ false → settled ≡ octets_sent v.segments w = λ some.
    ap (take (length own)) front ∙ (settled_is c.in-Some.warm.now v.segments seen_w kept _ own filled warm kept_here keeps owned.long filled_long owned.own (c.fill_kept-as_read.ensures.settled some) ∙ ap (octets_sent v.segments) w_is) in
    let own_are : as_read ≡ true → own ≡ octets_sent v.segments w = λ none.
    settled_is c.in-Some.warm.now v.segments seen_w kept _ own own warm kept_here keeps owned.long refl owned.own
    (c.clashes-clash.ensures.0 (none_clash _ kept _ _ c.rows_of-rows.ensures.rows (sym c.fill_kept-as_read.ensures.as_read ∙ none))) ∙ ap (octets_sent v.segments) w_is in
    let sent = cond as_read own settled in
    let sent_are : sent ≡ octets_sent v.segments w = either_are as_read own settled (octets_sent v.segments w) own_are settled_are in
    let passed = stream_dropped settings v d is_live' f ∙ ap₂ (λ a b. cond a (Some variants.TQuota) (cond b (Some variants.TRoom) None)) quota room in
    let rows = c.rows_of-rows.result.items in
    let mends = rows_are settings v d a.packet.now.payload.now a.head.now _ _ c.options_change-changed.result _ a.read.fields octets side is_live' f keptof clash c.options_change-changed.ensures.changed c.rows_of-rows.ensures.rows in
    let seq = c.frame_sequence.ensures v.segments c.payload_of.result.now long warm ∙ ap (frame_sequence_of v.segments) w_is in
    let options : cleaned (tcp.has_syn a.head.now.flags.0) (tcp.options a.packet.now.payload.now) ≡ options_sent d = (ap (λ (h : Tcp). cleaned (tcp.has_syn h.flags.0) (tcp.options a.packet.now.payload.now)) a.read.fields
    ∙ ap (λ m. cleaned (tcp.has_syn (tcp.flags m)) (tcp.options m)) (sym octets)) in
    let step = subst (IsStep v w) (sym c.within.ensures) (step_stream v w n live.era_is f) in
    let packets = packet_by settings v.segments d d.fixes rows ∷ [] in
    let is_it = in_outcome settings v d c.within.result d.fixes rows packets side refl passed (sym mends) step (ap (λ (s : Step). s.full) c.within.ensures) (packets_live settings v d rows n live.era_is rst) in
    let more = map (λ p. read (goes_in d.side) p.octets) packets in
    let writes = subst (WritesAll d n more) (sym is_it) (writes_all d n c.within.result d.fixes rows packets c.within.ensures) in
    let bits = subst (λ m. AreBits d.head m) (sym octets) (subst (λ (x : Ipv4). AreBits x a.packet.now.payload.now) (sym is.head) c.are_bits.ensures) in
    let wide = ap length options in
    let size = ap length (sym sent_are) in
    let number : w.seq < 2 ^ 32 =
    subst (λ m. tcp.sequence m < 2 ^ 32) (sym octets) (omega (arith, c.are_bits.ensures.each 4, c.are_bits.ensures.each 5, c.are_bits.ensures.each 6, c.are_bits.ensures.each 7)) in
    let sized = sent_long v.segments w in
    let count_sent : length (octets_sent v.segments w) ≡ length own = sized ∙ omega (arith, keptof.spans.lo_is, keptof.spans.hi_is, owned.long) in
    let fits = stream_fits v.segments d bits (ap (λ k. k % 4) (sym wide) ∙ c.options_change-changed.ensures.words)
    (omega (arith, wide, c.options_change-changed.ensures.size, a.read.most)) (omega (arith, wide, count_sent, c.options_change-changed.ensures.size, a.short, a.read.inside, c.interval-kept.ensures.short, owned.long, c.seg_of-seg.ensures.len, payload_long a.packet.now.payload.now a.head.now a.read.fields)) in
    counted_judged settings calls d a _ _ _
    (c.take_octets.ensures settings calls d key here.flow _ (stays c.args.self.now _ settings calls c.look-found.ensures.same refl refl refl refl refl st) found.held
    (passes c.streams_are_written.ensures settings v d c.in-Some.warm.now kept n 0 (segments n calls) sent live.era_is live.segments_are warm stream keptof quota room number fits sent_are
    _
    (λ frame warm_for kept_of framed same wrote. record {
      key_is = sym l.key_is;
      kept_is = kept_of;
      frame = frame;
      framed = framed;
      octets_are = same;
      own = wrote.own;
      more = more;
      writes = writes;
    })))
    (record {
      outcome_is = is_it;
      carried = rewritten_if v.segments d a _ _ side (λ some. stream_anew v.segments d a.packet.now a.link.now a.head.now c.frame_sequence.result kept.fin settled is a.read syn rst seq keptof.spans.fin_is (settled_are (c.fill_kept-as_read.ensures.as_read ∙ some)));
    }))

use Rattle.std.proofs.Common.{refl, sym, ap, subst, ℕ, ◌+◌, Option, ◌≡◌}
use Rattle.era_state.proofs.Offsets.{Holds, holds_after}
use Rattle.era_state.proofs.Frames.{frame_by_fields, warm_forwarded, frame_adds}
use Rattle.era_state.proofs.warm.Warm.forward.Goals as goal

holds : (top top_is edge : ℕ) (end end_is : Option ℕ) → top_is ≡ top → end_is ≡ end → Holds top edge end → Holds top_is edge end_is
holds top top_is edge end end_is t e h = subst (λ (p : ℕ × Option ℕ). Holds p.0 edge p.1) (λ j. (sym t j, sym e j)) h

pub invariant_of-self : goal.invariant_of-self
invariant_of-self c =
    let h = holds _ _ c.args.self.now.edge _ _ c.top_after-self.ensures c.end_after-self.ensures (holds_after c.args.self.now c.args.kept.now c.requires.given) in
    record {
      called = c.args.self.now.called;
      edge_small = c.args.self.now.edge_small;
      window_open = c.args.self.now.window_open;
      window_small = c.args.self.now.window_small;
      top_in_window = h.top_in_window;
      end_above = h.end_above;
      end_in_window = h.end_in_window;
    }

pub returns-clause-list : goal.returns-clause-list
returns-clause-list c ws w frame h k f fresh =
    let inside = frame_by_fields c.args.self.now ws w c.args.kept.now frame h k f in
    warm_forwarded c.args.self.now c.args.kept.now c.args.fresh _ ws frame h inside (frame_adds c.args.self.now c.args.kept.now c.args.fresh ws frame h inside fresh)
    record { base_is = refl; iss_is = refl; out_is = refl; syns_are = refl; acked_is = refl; edge_is = refl; top_is = c.top_after-self.ensures; end_is = c.end_after-self.ensures; out_fin_is = refl; octets_are = ap (λ n. c.args.self.now.octets + n) c.from.ensures }

use Rattle.std.proofs.Common.{refl, ◌∙◌, ap, ◌||◌, ◌^◌, arith, [], ◌+◌, max}
use Rattle.era_state.specs.Offsets.{number_in}
use Rattle.era_state.specs.SegmentMarks.{edge_place}
use Rattle.era_state.specs.SegmentFields.{sent}
use Rattle.era_state.proofs.Offsets.{number_small}
use Rattle.era_state.proofs.warm.Warm.send.Goals as goal

pub returns-clause-stands : goal.returns-clause-stands
returns-clause-stands c octets long = record {
  base_is = refl;
  iss_is = c.first_call-self.ensures;
  out_is = c.behind-self.ensures octets long;
  syns_are = c.sent-self.ensures;
  acked_is = c.greater-self.ensures ∙ ap (λ o. max c.args.self.now.acked (number_in o)) (c.acknowledged-place.ensures.value);
  edge_is = c.greater_edge-self.ensures.value octets ∙ (λ i. max c.args.self.now.edge (edge_place (c.acknowledged-place.ensures.value i) (c.shift-shift.ensures.value i) (sent c.args.seg.now octets)));
  top_is = refl;
  end_is = refl;
  out_fin_is = ap (λ b. c.args.self.now.out_fin || b) c.fin.ensures;
  octets_are = refl;
}

pub invariant_of-self-clause-edge_small : goal.invariant_of-self-clause-edge_small
invariant_of-self-clause-edge_small c =
    let place = c.greater-self.ensures in
    let small = number_small c.acknowledged-place.result (c.args.self.now.acked + 2 ^ 31) (omega arith) c.acknowledged-place.ensures.near in
    omega (arith, small, place, c.greater_edge-self.ensures.near, c.requires)

pub invariant_of-self-clause-window_open : goal.invariant_of-self-clause-window_open
invariant_of-self-clause-window_open c = omega (arith, c.greater-self.ensures, c.greater_edge-self.ensures.above)

pub invariant_of-self-clause-window_small : goal.invariant_of-self-clause-window_small
invariant_of-self-clause-window_small c = omega (arith, c.greater-self.ensures, c.greater_edge-self.ensures.near)

pub invariant_of-self-clause-top_in_window : goal.invariant_of-self-clause-top_in_window
invariant_of-self-clause-top_in_window c =
    let more = c.greater_edge-self.ensures.value [] in
    omega (arith, more, c.args.self.now.top_in_window)

pub invariant_of-self-clause-end_in_window : goal.invariant_of-self-clause-end_in_window
invariant_of-self-clause-end_in_window c p e =
    let h = c.args.self.now.end_in_window p e in
    let more = c.greater_edge-self.ensures.value [] in
    omega (arith, h, more)

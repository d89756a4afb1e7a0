use Rattle.std.proofs.Common.{refl, ◌∙◌, ap, Some, ◌||◌, []}
use Rattle.era_state.specs.SegmentMarks.{edge_place}
use Rattle.era_state.specs.SegmentFields.{sent}
use Rattle.era_state.proofs.warm.Warm.open.Goals as goal

pub returns : goal.returns
returns c = record {
  stands = λ octets long. record {
    base_is = refl;
    iss_is = c.first_call.ensures;
    out_is = c.behind.ensures octets long;
    syns_are = c.sent.ensures;
    acked_is = refl;
    edge_is = c.allowed.ensures.value ∙ ap (λ n. edge_place (Some c.args.place) n (sent c.args.seg.now [])) c.shift.ensures.value;
    top_is = refl;
    end_is = refl;
    out_fin_is = ap (λ b. c.args.out_fin || b) c.fin.ensures;
    octets_are = refl;
  };
  acked = refl;
  octets = refl;
}

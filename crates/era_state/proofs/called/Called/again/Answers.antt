use Rattle.std.proofs.Common.{◌∙◌}
use Rattle.era_state.specs.Quantities.{iss}
use Rattle.era_state.specs.SegmentFields.{sent}
use Rattle.era_state.proofs.Quantities.{or_kept, iss_push}
use Rattle.era_state.proofs.Eras.{legal_syn, called_push}
use Rattle.era_state.proofs.called.Called.again.Goals as goal

pub returns : goal.returns
returns c = record {
  stands = λ ws octets long h.
      called_push c.args.seg.now octets ws c.args.self.syns _ (legal_syn _ c.requires.legal c.requires.syn) c.requires.no_ack h.unbased h.untouched h.syns_are h.unfinished
      (iss_push ws (sent c.args.seg.now octets) ∙ or_kept (iss ws) _ c.args.self.iss h.iss_is) (c.behind.ensures octets long) c.sent-self.ensures;
}

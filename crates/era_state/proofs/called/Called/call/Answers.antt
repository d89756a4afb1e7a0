use Rattle.std.proofs.Common.{refl, []}
use Rattle.era_state.proofs.Eras.{legal_syn, called_push, untouched_none}
use Rattle.era_state.proofs.called.Called.call.Goals as goal

pub returns : goal.returns
returns c = record {
  stands = λ octets long.
      called_push c.args.seg.now octets [] c.none.result _ (legal_syn _ c.requires.legal c.requires.syn) c.requires.no_ack refl untouched_none c.none.ensures refl
      (rw c.requires.syn refl) (c.behind.ensures octets long) c.sent.ensures;
}

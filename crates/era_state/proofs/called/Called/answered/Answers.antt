use Rattle.std.proofs.Common.{sym}
use Rattle.era_state.proofs.Eras.{legal_syn, offered_first}
use Rattle.era_state.proofs.called.Called.answered.Goals as goal

pub returns : goal.returns
returns c = record {
  stands = λ ws h.
      offered_first c.args.seg.now _ c.args.self.syns ws c.requires.syn (legal_syn _ c.requires.legal c.requires.syn) h.unbased h.untouched
      c.sequence_plus.ensures (sym h.iss_is) (sym h.out_is) h.syns_are c.came.ensures (sym h.unfinished);
}

use Rattle.std.proofs.Common.{refl, ap, ◌||◌, Some}
use Rattle.era_state.proofs.Eras.{offered_sent}
use Rattle.era_state.proofs.offered.Offered.sent.Goals as goal

pub returns : goal.returns
returns c = record {
  stands = λ ws octets long mute h.
      offered_sent c.args.seg.now octets c.args.self _ ws mute refl c.first_call-self.ensures (ap (λ n. Some n) (c.behind.ensures octets long)) c.sent-self.ensures
      (ap (λ b. c.args.self.out_fin || b) c.fin.ensures) h;
}

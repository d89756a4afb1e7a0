use Rattle.std.proofs.Common.{refl}
use Rattle.era_state.proofs.Eras.{legal_syn, offered_came}
use Rattle.era_state.proofs.offered.Offered.hear.Goals as goal

pub returns : goal.returns
returns c = record { stands = λ ws h. offered_came c.args.seg.now c.args.self.now _ ws (legal_syn _ c.requires.legal c.requires.syn) refl refl refl refl c.came-self.ensures h }

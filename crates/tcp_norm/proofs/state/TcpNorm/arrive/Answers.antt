use Rattle.std.proofs.Common.{refl, arith}
use Rattle.tcp_norm.proofs.EraTable.{opened_kept}
use Rattle.tcp_norm.proofs.CallEffects.{stays_unheard}
use Rattle.tcp_norm.proofs.state.TcpNorm.arrive.Goals as goal

pub returns : goal.returns
returns c settings calls d o st unheard =
    record {
      stands = stays_unheard settings c.args.self.now _ calls c.args.now d o st
          (record { opened = opened_kept settings c.args.self.now _ st.opened refl refl refl refl; begun = omega arith; calls = refl; latest = refl; later = c.requires.ready.later }) unheard st.holds;
      scratch_is = refl;
    }

use Rattle.std.proofs.Common.{◌∷◌, refl, arith}
use Rattle.reassembly.specs.Calls.{expiry}
use Rattle.reassembly.proofs.Offers.{later}
use Rattle.reassembly.proofs.assembly.Assembly.expire.Goals as goal

pub returns-clause-number : goal.returns-clause-number
returns-clause-number c settings calls st = c.forget_old-count.ensures.number settings calls st.keeps

pub returns-clause-stands : goal.returns-clause-stands
returns-clause-stands c settings calls st =
    let time = st.time in
    record {
      keeps = later settings c.forget_old-count.new.self _ (expiry c.args.now ∷ calls) refl refl refl refl (c.forget_old-count.ensures.keeps settings calls st.keeps);
      time = omega (arith, time, c.requires);
      answered = st.answered;
    }

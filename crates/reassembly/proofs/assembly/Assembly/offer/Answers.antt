use Rattle.std.proofs.Common.{◌∷◌, refl, arith}
use Rattle.reassembly.specs.DatagramFragments.{fragment_of}
use Rattle.reassembly.specs.Calls.{gathered, latest}
use Rattle.reassembly.specs.RuleRows.{call_of, answer_at, view_of}
use Rattle.reassembly.proofs.Order.{order_after}
use Rattle.reassembly.proofs.Offers.{joins, later}
use Rattle.reassembly.proofs.assembly.Assembly.offer.Goals as goal

pub returns-clause-answer : goal.returns-clause-answer
returns-clause-answer c settings calls st = (c.judge-answer.ensures.answered settings calls st.keeps).says

pub returns-clause-octets : goal.returns-clause-octets
returns-clause-octets c settings calls st = (c.judge-answer.ensures.answered settings calls st.keeps).octets

pub returns-clause-pieces : goal.returns-clause-pieces
returns-clause-pieces c settings calls st =
    let x = c.judge-answer.ensures.answered settings calls st.keeps in
    joins settings calls (fragment_of c.args.piece.now) c.judge-answer.result c.args.buf.now c.judge-answer.new.buf st.answered x.says x.octets

pub returns-clause-stands : goal.returns-clause-stands
returns-clause-stands c settings calls st =
    let time = st.time in
    let p = fragment_of c.args.piece.now in
    record {
      keeps = later settings c.judge-answer.new.self _ (call_of settings calls c.args.now p ∷ calls) refl refl refl refl (record {
        opened = c.judge-answer.ensures.opened settings st.keeps.opened;
        holds = (c.judge-answer.ensures.answered settings calls st.keeps).holds;
        order = order_after c.args.now p (answer_at (view_of settings calls p) p) (gathered settings.frag_time calls) (latest calls) st.keeps.order (omega (arith, time, c.requires.late));
      });
      time = omega (arith, time, c.requires.late);
      answered = (refl, st.answered);
    }

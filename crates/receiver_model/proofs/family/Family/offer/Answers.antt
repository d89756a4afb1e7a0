use Rattle.receiver_model.proofs.Streams.{goes_back}
use Rattle.receiver_model.proofs.family.Family.offer.Goals as goal

pub returns-clause-back : goal.returns-clause-back
returns-clause-back c =
    let f = c.self.inside in
    rw (← c.self.view_is) (record {
      first = goes_back c.take.result c.args.bytes.now f.first c.take.new.self c.take.ensures.same c.take.ensures.step c.take.ensures.taken c.take.ensures.err;
      newest = goes_back c.take-2.result c.args.bytes.now f.newest c.take-2.new.self c.take-2.ensures.same c.take-2.ensures.step c.take-2.ensures.taken c.take-2.ensures.err;
      left = goes_back c.take-3.result c.args.bytes.now f.left c.take-3.new.self c.take-3.ensures.same c.take-3.ensures.step c.take-3.ensures.taken c.take-3.ensures.err;
      right = goes_back c.take-4.result c.args.bytes.now f.right c.take-4.new.self c.take-4.ensures.same c.take-4.ensures.step c.take-4.ensures.taken c.take-4.ensures.err;
    })

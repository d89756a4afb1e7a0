use Rattle.receiver_model.proofs.Streams.{fresh-stands_as}
use Rattle.receiver_model.proofs.family.Family.open.Goals as goal

pub returns-clause-stands : goal.returns-clause-stands
returns-clause-stands c = λ distance. record {
  first = fresh-stands_as _ distance c.args.base c.args.start c.in_ok-open.field-0 c.in_ok-open.ensures.fresh;
  newest = fresh-stands_as _ distance c.args.base c.args.start c.in_ok-open-2.field-0 c.in_ok-open-2.ensures.fresh;
  left = fresh-stands_as _ distance c.args.base c.args.start c.in_ok-open-3.field-0 c.in_ok-open-3.ensures.fresh;
  right = fresh-stands_as _ distance c.args.base c.args.start c.in_ok-open-4.field-0 c.in_ok-open-4.ensures.fresh;
}

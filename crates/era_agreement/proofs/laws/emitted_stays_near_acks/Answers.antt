use Rattle.era_agreement.proofs.Acks.{stays_near_acks}
use Rattle.era_agreement.proofs.laws.emitted_stays_near_acks.Goals as goal

pub returns : goal.returns
returns c = stays_near_acks (record {
  near = c.emitted_is_near.ensures;
  joins = c.emitted_joins.ensures;
  same = c.inwards_acknowledge_nothing.ensures;
  remains = c.written_remains.ensures;
  grows = c.acked_never_falls.ensures;
})

use Rattle.run_audit.proofs.named.name_all.Goals as goal

pub returns-clause-fresh : goal.returns-clause-fresh
returns-clause-fresh c = λ h. c.in_ok-name_ended.ensures.fresh (c.in_ok-name_one-2.ensures.fresh (c.in_ok-name_one.ensures.fresh h))

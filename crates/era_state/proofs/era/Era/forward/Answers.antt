use Rattle.std.proofs.Common.{refl, sym, ap, ◌∙◌}
use Rattle.era_state.specs.Eras.{last_in}
use Rattle.era_state.proofs.era.Era.forward.Goals as goal

pub returns-then-is_over-clause-value : goal.returns-then-is_over-clause-value
returns-then-is_over-clause-value c =
    record { was = c.in-Warm.era; is = c.forward.new.self; was_last = ap last_in c.in-Warm.is; is_last = refl; with = c.forward.ensures.value }

pub returns-then-is_over-clause-list : goal.returns-then-is_over-clause-list
returns-then-is_over-clause-list c ws w frame h kept framed fresh =
    let here = rw c.in-Warm.is at h in
    c.forward.ensures.list ws w frame here.0 kept framed fresh

pub returns-else-is_over-clause-value : goal.returns-else-is_over-clause-value
returns-else-is_over-clause-value c =
    record { was = c.in-Warm.era; is = c.forward.new.self; was_last = ap last_in c.in-Warm.is; is_last = refl; with = c.forward.ensures.value }

pub returns-else-is_over-clause-list : goal.returns-else-is_over-clause-list
returns-else-is_over-clause-list c ws w frame h kept framed fresh =
    let here = rw c.in-Warm.is at h in
    (c.forward.ensures.list ws w frame here.0 kept framed fresh, sym c.is_over.ensures ∙ c.if-is_over.false)

pub returns-in-Closed-clause-value : goal.returns-in-Closed-clause-value
returns-in-Closed-clause-value c =
    record { was = c.in-Closed.era.last; is = c.forwarded.result; was_last = ap last_in c.in-Closed.is; is_last = c.settled.ensures.last; with = c.forwarded.ensures.value }

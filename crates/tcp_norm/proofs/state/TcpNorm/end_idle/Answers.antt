use Rattle.std.proofs.Common.{◌∙◌, Some, sym, ap, subst}
use Rattle.rule_book.specs.declared.entry.Reason.TheVariants as reasons
use Rattle.tcp_norm.specs.working.TableChanges.{Holds}
use Rattle.tcp_norm.specs.working.EraSteps.{EndsIdle}
use Rattle.tcp_norm.proofs.CallEffects.{without_none}
use Rattle.tcp_norm.proofs.EraCounts.{oldest_first, oldest_none, if_is, if_is_not}
use Rattle.tcp_norm.proofs.EraTable.{at_slot}
use Rattle.tcp_norm.proofs.state.TcpNorm.end_idle.Goals as goal

pub returns-in_err-slot-clause-ends : goal.returns-in_err-slot-clause-ends
returns-in_err-slot-clause-ends c lives segments h =
    let self = c.args.self.now in
    subst (EndsIdle self self c.args.now lives segments) (sym c.from_residual.ensures)
    (record { answer = sym (oldest_none self.limits.idle c.args.now lives segments self.begun self.table.entries self.store h c.in_err-slot.ensures.first); told = tt; left = subst (λ l. Holds self l segments) (sym (without_none lives)) h })

pub returns-then-not-is_idle-clause-ends : goal.returns-then-not-is_idle-clause-ends
returns-then-not-is_idle-clause-ends c lives segments h =
    let self = c.args.self.now in
    record {
      answer = sym (oldest_first self.limits.idle c.args.now lives segments self.begun self.table.entries self.store _ c.flow_at-flow.result.now h c.in_ok-slot.ensures.first c.flow_at-flow.ensures.value
          ∙ if_is_not _ c.flow_at-flow.result.now.number (sym c.if-not-is_idle.ensures));
      told = tt;
      left = subst (λ l. Holds self l segments) (sym (without_none lives)) h;
    }

pub returns-clause-ends : goal.returns-clause-ends
returns-clause-ends c lives segments h =
    let self = c.args.self.now in
    let flow = c.flow_at-flow.result.now in
    let valued = c.flow_at-flow.ensures.value in
    let at = at_slot lives segments self.begun self.table.entries self.store _ flow h c.in_ok-slot.ensures.inside c.entries_are_apart.ensures.slots_apart c.entries_are_apart.ensures.keys_apart valued in
    record {
      answer = sym (oldest_first self.limits.idle c.args.now lives segments self.begun self.table.entries self.store _ flow h c.in_ok-slot.ensures.first valued ∙ if_is _ flow.number (sym c.if-not-is_idle.ensures));
      told = ap (λ n. record { era = flow.number; reason = reasons.Idle; octets = Some n }) (c.octets-octets.ensures.list (segments flow.number) at.era);
      left = c.end.ensures.holds lives segments flow h valued;
    }

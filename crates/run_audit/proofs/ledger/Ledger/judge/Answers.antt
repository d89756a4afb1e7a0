use Rattle.std.proofs.Common.{◌≡◌, ◌+◌, ◌%◌, ◌^◌, ◌&&◌, ◌==◌, not, sym, ◌∙◌, ap, ap₂}
use Rattle.wire_base.specs.Tcp as tcp
use Rattle.run_audit.specs.declared.ledger.Ledger.{Ledger}
use Rattle.run_audit.specs.working.EraLedgers.{settled}
use Rattle.run_audit.proofs.InboundSegments.{base_with, base_is_missing, syn_is_other, whole_result, silent_verdict}
use Rattle.run_audit.proofs.ledger.Ledger.judge.Goals as goal

pub returns-then-brings_something : goal.returns-then-brings_something
returns-then-brings_something c ws w st is =
    let mid_is : c.base_with.new.self ≡ settled c.args.self.now (tcp.has_syn c.args.segment.flags.0) ((c.args.segment.seq + 1) % 2 ^ 32) = c.base_with.ensures.changes ∙ ap₂ (settled c.args.self.now) c.syn-syn.ensures c.sequence_plus-behind.ensures in
    base_is_missing c.args.segment ws w is
    (sym (base_with c.args.self.now c.args.segment ws w st is) ∙ sym (ap (λ (k : Ledger). k.base) mid_is) ∙ sym c.base_with.ensures.base ∙ c.in_default.is)
    (sym c.brings_something.ensures ∙ c.if-brings_something.true)

pub returns-in_default : goal.returns-in_default
returns-in_default c ws w st is =
    let mid_is : c.base_with.new.self ≡ settled c.args.self.now (tcp.has_syn c.args.segment.flags.0) ((c.args.segment.seq + 1) % 2 ^ 32) = c.base_with.ensures.changes ∙ ap₂ (settled c.args.self.now) c.syn-syn.ensures c.sequence_plus-behind.ensures in
    silent_verdict c.args.self.now c.base_with.new.self c.args.segment ws w st is mid_is (sym c.base_with.ensures.base ∙ c.in_default.is) (sym c.brings_something.ensures ∙ c.if-brings_something.false)

pub returns-then-is_another : goal.returns-then-is_another
returns-then-is_another c ws w st is =
    let mid_is : c.base_with.new.self ≡ settled c.args.self.now (tcp.has_syn c.args.segment.flags.0) ((c.args.segment.seq + 1) % 2 ^ 32) = c.base_with.ensures.changes ∙ ap₂ (settled c.args.self.now) c.syn-syn.ensures c.sequence_plus-behind.ensures in
    syn_is_other c.args.segment ws w c.in-Some.base is
    (sym (base_with c.args.self.now c.args.segment ws w st is) ∙ sym (ap (λ (k : Ledger). k.base) mid_is) ∙ sym c.base_with.ensures.base ∙ c.in-Some.is)
    (sym (ap₂ (λ f n. f && not (n == c.in-Some.base)) c.syn-syn.ensures c.sequence_plus-behind.ensures) ∙ sym c.is_another.ensures ∙ c.if-is_another.true)

pub returns : goal.returns
returns c =
    let mid_is : c.base_with.new.self ≡ settled c.args.self.now (tcp.has_syn c.args.segment.flags.0) ((c.args.segment.seq + 1) % 2 ^ 32) = c.base_with.ensures.changes ∙ ap₂ (settled c.args.self.now) c.syn-syn.ensures c.sequence_plus-behind.ensures in
    whole_result c.judge_octets.result c.args.self.now c.base_with.new.self c.judge_octets.new.self c.args.segment c.in-Some.base mid_is (sym c.base_with.ensures.base ∙ c.in-Some.is)
    (sym (ap₂ (λ f n. f && not (n == c.in-Some.base)) c.syn-syn.ensures c.sequence_plus-behind.ensures) ∙ sym c.is_another.ensures ∙ c.if-is_another.false)
    c.judge_octets.ensures.same_base c.judge_octets.ensures.verdict

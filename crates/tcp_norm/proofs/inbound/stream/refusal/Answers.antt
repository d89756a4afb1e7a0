use Rattle.std.proofs.Common.{◌≡◌, ◌+◌, ◌∙◌, cond, true, false, Some, None, sym, ap, ap₂, nat_lt}
use Rattle.rule_book.specs.declared.rule.Rule.TheVariants as rules
use Rattle.tcp_norm.specs.HeldOctets.{held_of}
use Rattle.tcp_norm.specs.RuleRows.{exceeds, wanted_of}
use Rattle.retain_store.proofs.Room.{no_room, some_room}
use Rattle.tcp_norm.proofs.Quotas.{at_most}
use Rattle.tcp_norm.proofs.KeptOctets.{wanted_is}
use Rattle.tcp_norm.proofs.inbound.stream.refusal.Goals as goal

pub returns-then-over-clause-value : goal.returns-then-over-clause-value
returns-then-over-clause-value c ws w keeps count is =
    let wanted = wanted_is ws w c.args.piece.now.kept.now _ c.chain_is_counted.ensures.map keeps is in
    let above : exceeds c.args.quota (held_of ws + wanted_of ws w) ≡ true = sym (ap₂ (λ a b. exceeds c.args.quota (a + b)) count wanted) ∙ (sym c.is_over-over.ensures ∙ c.if-over.true) in
    sym (ap (λ b. cond b (Some rules.TQuota) (cond (nat_lt c.args.piece.now.store.now.free (wanted_of ws w)) (Some rules.TRoom) None)) above)

pub returns-then-not-fits-clause-value : goal.returns-then-not-fits-clause-value
returns-then-not-fits-clause-value c ws w keeps count is =
    let wanted = wanted_is ws w c.args.piece.now.kept.now _ c.chain_is_counted.ensures.map keeps is in
    let above : exceeds c.args.quota (held_of ws + wanted_of ws w) ≡ false = sym (ap₂ (λ a b. exceeds c.args.quota (a + b)) count wanted) ∙ (sym c.is_over-over.ensures ∙ c.if-over.false) in
    let few : nat_lt c.args.piece.now.store.now.free (wanted_of ws w) ≡ true = ap (nat_lt c.args.piece.now.store.now.free) (sym wanted) ∙ no_room _ _ _ c.has_room-fits.ensures c.if-not-fits.true in
    sym (ap₂ (λ a b. cond a (Some rules.TQuota) (cond b (Some rules.TRoom) None)) above few)

pub returns-clause-value : goal.returns-clause-value
returns-clause-value c ws w keeps count is =
    let wanted = wanted_is ws w c.args.piece.now.kept.now _ c.chain_is_counted.ensures.map keeps is in
    let above : exceeds c.args.quota (held_of ws + wanted_of ws w) ≡ false = sym (ap₂ (λ a b. exceeds c.args.quota (a + b)) count wanted) ∙ (sym c.is_over-over.ensures ∙ c.if-over.false) in
    let enough : nat_lt c.args.piece.now.store.now.free (wanted_of ws w) ≡ false = ap (nat_lt c.args.piece.now.store.now.free) (sym wanted) ∙ some_room _ _ _ c.has_room-fits.ensures c.if-not-fits.false in
    sym (ap₂ (λ a b. cond a (Some rules.TQuota) (cond b (Some rules.TRoom) None)) above enough)

pub returns-clause-within : goal.returns-clause-within
returns-clause-within c = at_most c.args.quota _ (sym c.is_over-over.ensures ∙ c.if-over.false)

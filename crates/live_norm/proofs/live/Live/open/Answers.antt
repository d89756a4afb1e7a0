use Rattle.std.proofs.Common.{ap, rules}
use Rattle.rule_book.specs.Entries.{PlainEntry}
use Rattle.live_norm.proofs.Steps.{live_at_first}
use Rattle.live_norm.proofs.live.Live.open.Goals as goal

pub invariant_of-result : goal.invariant_of-result
invariant_of-result c =
    live_at_first c.in_ok-engine.engine c.set_link.new.self _ c.args.link c.in_ok-out.out _ _ c.in_ok-engine.ensures.settings c.in_ok-engine.ensures.stands c.set_link.ensures c.requires
    (search rules) (ap (λ (e : PlainEntry). e.ended) c.blank_entry.ensures)

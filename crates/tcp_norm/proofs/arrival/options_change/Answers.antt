use Rattle.std.proofs.Common.{sym, ap₂, ◌∙◌}
use Rattle.wire_base.specs.Tcp as tcp
use Rattle.wire_base.specs.Options.{cleaned}
use Rattle.tcp_norm.proofs.Lists.{differ_is}
use Rattle.tcp_norm.proofs.arrival.options_change.Goals as goal

pub returns-clause-changed : goal.returns-clause-changed
returns-clause-changed c =
    let area = c.options_of-options.ensures.area in
    let whole = ap₂ cleaned c.syn.ensures area in
    let e = c.options_change.ensures in
    differ_is (cleaned (tcp.has_syn c.args.arrival.now.head.now.flags.0) (tcp.options c.args.arrival.now.packet.now.payload.now)) (tcp.options c.args.arrival.now.packet.now.payload.now) c.options_change.result
    ((λ none. sym whole ∙ (e.0 none ∙ area)), (λ same. e.1 (whole ∙ (same ∙ sym area))))

use Rattle.std.proofs.Common.{◌&&◌, ap, sym, ◌∙◌}
use Rattle.wire_base.specs.Options.{are_well_formed}
use Rattle.tcp_codec.proofs.Segments.{area_is}
use Rattle.receiver_model.proofs.PlainPackets.{tcp-decides, tcp-header}
use Rattle.receiver_model.proofs.plain_packet.is_plain_tcp.Goals as goal

pub is_clean-clean-requires-clause-formed : goal.is_clean-clean-requires-clause-formed
is_clean-clean-requires-clause-formed c =
    let m = c.args.message.now in
    ap are_well_formed (area_is m _ (tcp-header m _ _ (sym c.in-Ok.is ∙ c.parse.ensures.exact)) c.in-Ok.ensures.header.0) ∙ c.in-Ok.ensures.options

pub returns-then-clean : goal.returns-then-clean
returns-then-clean c =
    λ p e f. tcp-decides p _ _ _ c.is_clean-clean.result c.is_bare-bare.result _ _ e f (sym c.in-Ok.is ∙ c.parse.ensures.exact) c.in-Ok.ensures.header.0 c.syn.ensures c.is_clean-clean.ensures c.is_bare-bare.ensures (sym (ap (λ b. b && c.is_bare-bare.result) c.if-clean.true))

pub returns-else-clean : goal.returns-else-clean
returns-else-clean c =
    λ p e f. tcp-decides p _ _ _ c.is_clean-clean.result c.is_bare-bare.result _ _ e f (sym c.in-Ok.is ∙ c.parse.ensures.exact) c.in-Ok.ensures.header.0 c.syn.ensures c.is_clean-clean.ensures c.is_bare-bare.ensures (c.if-clean.false ∙ sym (ap (λ b. b && c.is_bare-bare.result) c.if-clean.false))

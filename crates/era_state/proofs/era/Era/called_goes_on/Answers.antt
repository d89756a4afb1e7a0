use Rattle.std.proofs.Common.{sym, ◌∙◌, ◌<◌, ◌^◌, rules, ◌≡◌, true}
use Rattle.wire_base.specs.Tcp as tcp
use Rattle.era_state.proofs.Eras.{called_opens}
use Rattle.era_state.proofs.era.Era.called_goes_on.Goals as goal

pub returns-then-ack-clause-stands : goal.returns-then-ack-clause-stands
returns-then-ack-clause-stands c ws octets long h =
    let small : c.args.seg.now.ack < 2 ^ 32 = search rules in
    let answers : tcp.has_ack c.args.seg.now.flags.0 ≡ true = sym c.ack.ensures ∙ c.if-ack.true in
    c.settled.ensures.stands _ (called_opens c.args.seg.now octets c.args.era _ ws small answers c.requires.no_rst (c.open.ensures.stands octets long) h)

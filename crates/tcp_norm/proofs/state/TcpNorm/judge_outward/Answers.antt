use Rattle.std.proofs.Common.{ℕ, ◌≤◌, ◌∙◌, List, [], ◌∷◌, length, refl, sym, ap, subst, arith}
use Rattle.wire_base.specs.Tcp as tcp
use Rattle.tcp_codec.specs.declared.header.Tcp.{Tcp}
use Rattle.ip_rules.specs.Datagrams.{goes_in}
use Rattle.tcp_norm.specs.RuleViews.{view_of}
use Rattle.tcp_norm.specs.EmittedPackets.{packet_by}
use Rattle.tcp_norm.specs.working.InwardSegments.{passed}
use Rattle.tcp_norm.specs.Outcomes.{outcome_at}
use Rattle.tcp_norm.proofs.InboundSegments.{says}
use Rattle.tcp_norm.proofs.OutboundSegments.{out_outcome, out_does, sum_wrong}
use Rattle.tcp_norm.proofs.state.TcpNorm.judge_outward.Goals as goal

pub returns : goal.returns
returns c = says c.args.arrival.now c.args.self.now _ _ _ _ _ _ _ c.pass.ensures (λ settings calls d st is.
    let a = c.args.arrival.now in
    let v = view_of settings calls d in
    let step = c.depart-step.result in
    let made = c.depart-step.ensures settings calls d st is in
    let side = ap goes_in (is.side ∙ c.requires.outward.side) in
    let wrong = sum_wrong settings c.args.self.now.limits.offload a.packet.now a.link.now d a.head.now (λ k. (st.opened.limits k).offload) c.requires.outward.side is c.requires.outward.fields in
    let inside : 20 ≤ length d.octets = subst (λ (m : List ℕ). 20 ≤ length m) (sym is.octets) (omega (arith, a.read.least, a.read.inside)) in
    let words : 20 ≤ tcp.header_length d.octets = subst (λ (m : List ℕ). 20 ≤ tcp.header_length m) (sym is.octets) (subst (λ (h : Tcp). 20 ≤ h.header) a.read.fields a.read.least) in
    record {
      stands = made.stands (outcome_at settings v d) (out_does c.mended_say_the_same.ensures settings v d step _ side wrong made.is_step inside words);
      rules = record {
        outcome_is = out_outcome settings v d step _ side wrong made.is_step ∙ ap (λ rows. passed step d.fixes rows (packet_by settings v.segments d d.fixes rows ∷ [])) (sym c.summed-rows.ensures.rows);
        carried = record { anew = λ inward some. cc (sym side ∙ inward); alone = λ out. refl };
      };
    })

use Rattle.std.proofs.Common.{◌≡◌, ◌<◌, ◌∙◌, ◌++◌, ℕ, List, [], ◌∷◌, length, sym, ap, subst, arith, append-nil}
use Rattle.std.proofs.lemmas.Grind.{common_steps}
use Rattle.reset_probe.specs.ProbePackets.{probe_octets}
use Rattle.edge_io.specs.Outboxes.{last_frame, extended}
use Rattle.ip_rules.specs.Datagrams.{raised}
use Rattle.tcp_norm.specs.working.Rulings.{probe_frames}
use Rattle.tcp_norm.proofs.InboundSegments.{extended_last, last_of}
use Rattle.tcp_norm.proofs.emit.put_probe.Goals as goal

pub append-requires-clause-room : goal.append-requires-clause-room
append-requires-clause-room c =
    let none : length (last_frame c.begin.new.self) ≡ 0 = ap (λ l. length (last_frame l)) c.begin.ensures ∙ ap length (last_of c.args.out.now []) in
    omega (arith, none, c.args.arrival.now.brief)

pub append-requires-2-clause-begun : goal.append-requires-2-clause-begun
append-requires-2-clause-begun c =
    let is = c.append.ensures ∙ (ap (λ l. extended l c.args.arrival.now.link.now) c.begin.ensures ∙ extended_last c.args.out.now [] c.args.arrival.now.link.now) in
    subst (λ (l : List (List ℕ)). 0 < length l) (sym is) (grind (arith, common_steps))

pub append-requires-2-clause-room : goal.append-requires-2-clause-room
append-requires-2-clause-room c =
    let is = c.append.ensures ∙ (ap (λ l. extended l c.args.arrival.now.link.now) c.begin.ensures ∙ extended_last c.args.out.now [] c.args.arrival.now.link.now) in
    let last : length (last_frame c.append.new.self) ≡ length c.args.arrival.now.link.now = ap (λ l. length (last_frame l)) is ∙ ap length (last_of c.args.out.now c.args.arrival.now.link.now) in
    let long : length c.write_probe-size.new.buf ≡ 40 = c.write_probe-size.auto.buf in
    omega (arith, last, long, c.args.arrival.now.brief)

pub returns : goal.returns
returns c =
    let is = c.append.ensures ∙ (ap (λ l. extended l c.args.arrival.now.link.now) c.begin.ensures ∙ extended_last c.args.out.now [] c.args.arrival.now.link.now) in
    let written = c.write_probe-size.ensures.exact ∙ append-nil _ in
    c.append-2.ensures ∙ (ap (λ l. extended l c.write_probe-size.new.buf) is ∙ (extended_last c.args.out.now c.args.arrival.now.link.now c.write_probe-size.new.buf
    ∙ (ap (λ l. c.args.out.now ++ (c.args.arrival.now.link.now ++ l) ∷ []) written
    ∙ (ap (λ ip. c.args.out.now ++ (c.args.arrival.now.link.now ++ probe_octets ip c.args.arrival.now.head.now.sport c.args.arrival.now.head.now.dport c.in-Some.probe) ∷ []) c.raised-ip.ensures
    ∙ ap (λ p. c.args.out.now ++ probe_frames c.args.arrival.now.link.now (raised c.args.hops c.args.arrival.now.packet.now.head) c.args.arrival.now.head.now.sport c.args.arrival.now.head.now.dport p) (sym c.in-Some.is)))))

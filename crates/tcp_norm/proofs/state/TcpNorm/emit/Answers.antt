use Rattle.std.proofs.Common.{◌≡◌, ◌∙◌, ◌∷◌, ◌++◌, length, Some, refl, sym, ap, subst, arith}
use Rattle.ip_rules.specs.Datagrams.{goes_in, frames_of, raised}
use Rattle.tcp_norm.specs.EmittedPackets.{packet_by, probe_packets}
use Rattle.tcp_norm.specs.working.Rulings.{probe_frames, outcome_of, IsCarried, IsShort}
use Rattle.tcp_norm.proofs.SynsAndResets.{given_one, inward_of, probes_are}
use Rattle.tcp_norm.proofs.state.TcpNorm.emit.Goals as goal

pub emit_own-requires-clause-short : goal.emit_own-requires-clause-short
emit_own-requires-clause-short c = subst (IsShort c.args.arrival.now) c.in-Pass.is c.requires.short

pub emit_own-as_read-requires-clause-short : goal.emit_own-as_read-requires-clause-short
emit_own-as_read-requires-clause-short c = subst (IsShort c.args.arrival.now) c.in-Pass.is c.requires.short

pub put_probe-requires-in-Some-clause-room : goal.put_probe-requires-in-Some-clause-room
put_probe-requires-in-Some-clause-room c =
    let one : length c.put_given.new.out ≡ 1 = ap length c.put_given.ensures ∙ given_one c.emit_own-as_read.result c.args.arrival.now.packet.now.frame.now c.emit_own-as_read.new.out c.emit_own-as_read.ensures.one in
    omega (arith, one)

pub returns-in-Drop-clause-frames : goal.returns-in-Drop-clause-frames
returns-in-Drop-clause-frames c settings ws d opened is carried =
    let a = c.args.arrival.now in
    let hops = c.args.self.now.limits.hops in
    let ip = raised hops a.packet.now.head in
    let r = c.in-Drop.refusal in
    c.put_probe.ensures
    ∙ (ap (λ l. l ++ probe_frames a.link.now ip a.head.now.sport a.head.now.dport r.probe) c.requires.empty
    ∙ (probes_are settings d a.packet.now a.link.now a.head.now hops ip r.probe (λ k. (opened.limits k).hops) (subst (IsCarried ws d a c.args.self.now.scratch.items) c.in-Drop.is carried) is a.read.fields refl
    ∙ ap (λ x. frames_of a.link.now (outcome_of settings ws d x).packets) (sym c.in-Drop.is)))

pub returns-in-Ask-clause-frames : goal.returns-in-Ask-clause-frames
returns-in-Ask-clause-frames c settings ws d opened is carried =
    let a = c.args.arrival.now in
    let hops = c.args.self.now.limits.hops in
    let ip = raised hops a.packet.now.head in
    let probe = Some c.in-Ask.question.probe in
    c.put_probe-in-Ask.ensures
    ∙ (ap (λ l. l ++ probe_frames a.link.now ip a.head.now.sport a.head.now.dport probe) c.requires.empty
    ∙ (probes_are settings d a.packet.now a.link.now a.head.now hops ip probe (λ k. (opened.limits k).hops) (subst (IsCarried ws d a c.args.self.now.scratch.items) c.in-Ask.is carried) is a.read.fields refl
    ∙ ap (λ x. frames_of a.link.now (outcome_of settings ws d x).packets) (sym c.in-Ask.is)))

pub returns-in-None-clause-frames : goal.returns-in-None-clause-frames
returns-in-None-clause-frames c settings ws d opened is carried =
    let a = c.args.arrival.now in
    let own = packet_by settings ws d d.fixes c.in-Pass.passage.rows.items in
    c.emit_own.ensures.frames settings d ws opened is (subst (IsCarried ws d a c.args.self.now.scratch.items) c.in-Pass.is carried)
    ∙ (ap (λ p. frames_of a.link.now (own ∷ probe_packets settings d p)) (sym c.in-None.is)
    ∙ ap (λ x. frames_of a.link.now (outcome_of settings ws d x).packets) (sym c.in-Pass.is))

pub returns-in-Some-clause-frames : goal.returns-in-Some-clause-frames
returns-in-Some-clause-frames c settings ws d opened is carried =
    let a = c.args.arrival.now in
    let hops = c.args.self.now.limits.hops in
    let rewrites = subst (IsCarried ws d a c.args.self.now.scratch.items) c.in-Pass.is carried in
    let own = packet_by settings ws d d.fixes c.in-Pass.passage.rows.items in
    let front = c.put_given.ensures ∙ c.emit_own-as_read.ensures.frames settings d ws opened is rewrites in
    let side = inward_of a.packet.now.side c.in-Pass.passage.probe c.in-Some.probe c.in-Some.is (λ out. rewrites.alone (ap goes_in is.side ∙ out)) in
    let behind = probes_are settings d a.packet.now a.link.now a.head.now hops (raised hops a.packet.now.head) (Some c.in-Some.probe) (λ k. (opened.limits k).hops) side is a.read.fields refl in
    c.put_probe-in-Some.ensures ∙ ((λ k. front k ++ behind k)
    ∙ (ap (λ p. frames_of a.link.now (own ∷ probe_packets settings d p)) (sym c.in-Some.is)
    ∙ ap (λ x. frames_of a.link.now (outcome_of settings ws d x).packets) (sym c.in-Pass.is)))

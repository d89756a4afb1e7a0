use Rattle.std.proofs.Common.{length, take, cond, sym, subst}
use Rattle.tcp_norm.specs.working.Rulings.{PlacesOctets}
use Rattle.tcp_norm.proofs.update.place_taken.Goals as goal

pub returns-then-taking : goal.returns-then-taking
returns-then-taking c =
    let t = c.args.taking.now in
    let e = c.place_known.ensures in
    subst (λ b. PlacesOctets c.args.store.now c.place_known.new.self c.args.chain.0 t.kept.lo (cond b t.own.now (take (length t.own.now) c.args.scratch.now)) c.place_known.result) (sym c.if-taking.true)
    (record { places = e.octets; fresh = e.fresh; most = e.most; free = e.free; changed = e.changed; map = e.map; held = e.held })

pub returns-else-taking : goal.returns-else-taking
returns-else-taking c =
    let t = c.args.taking.now in
    let p = c.place_known-else-taking in
    let e = p.ensures in
    subst (λ b. PlacesOctets c.args.store.now p.new.self c.args.chain.0 t.kept.lo (cond b t.own.now (take (length t.own.now) c.args.scratch.now)) p.result) (sym c.if-taking.false)
    (record { places = e.octets; fresh = e.fresh; most = e.most; free = e.free; changed = e.changed; map = e.map; held = e.held })

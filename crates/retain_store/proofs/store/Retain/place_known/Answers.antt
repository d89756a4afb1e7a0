use Rattle.std.proofs.Common.{[], length, refl, sym, ap, arith}
use Rattle.std.proofs.lemmas.List.{set-get_or}
use Rattle.retain_store.specs.Maps.{chain_of}
use Rattle.retain_store.proofs.Parts.{fresh_none}
use Rattle.retain_store.proofs.Segments.{places_nothing}
use Rattle.retain_store.proofs.store.Retain.place_known.Goals as goal

pub returns-then-whole-clause-octets : goal.returns-then-whole-clause-octets
returns-then-whole-clause-octets c = places_nothing (chain_of c.args.self.now c.args.chain.0) c.args.from c.args.bytes.now (c.requires.whole c.if-whole.true).covers

pub returns-then-whole-clause-fresh : goal.returns-then-whole-clause-fresh
returns-then-whole-clause-fresh c = sym (fresh_none (chain_of c.args.self.now c.args.chain.0) c.args.from (length c.args.bytes.now) (c.requires.whole c.if-whole.true).covers)

pub returns-then-whole-clause-free : goal.returns-then-whole-clause-free
returns-then-whole-clause-free c = omega (arith, (c.requires.whole c.if-whole.true).none_missing)

pub returns-then-whole-clause-changed : goal.returns-then-whole-clause-changed
returns-then-whole-clause-changed c =
    let store = c.args.self.now in
    record {
      number = refl;
      others = ap (λ l. record store { chains = l }) (sym (set-get_or store.chains c.args.chain.0 []));
      cells = refl;
    }

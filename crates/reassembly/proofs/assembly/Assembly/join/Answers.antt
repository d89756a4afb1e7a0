use Rattle.std.proofs.Common.{◌≡◌, List, cond, length, true, false, sym, ap, ap₂, subst, ◌∙◌, nat_lt}
use Rattle.retain_store.specs.Maps.{chain_of, missing}
use Rattle.rule_book.specs.declared.rule.Rule.TheVariants.{FRoom}
use Rattle.reassembly.specs.DatagramFragments.{fragment_of, missing_of, octet_of}
use Rattle.reassembly.specs.Calls.{Gathered, pieces_in, of_others}
use Rattle.reassembly.specs.RuleRows.{view_in, first_row, odd_rows}
use Rattle.reassembly.specs.TableAndStore.{HoldsFor, Keeps}
use Rattle.reassembly.specs.working.FragmentAnswers.{IsAnswered}
use Rattle.retain_store.proofs.Room.{missing_are, no_room, some_room}
use Rattle.reassembly.proofs.Entries.{found, progress_of}
use Rattle.reassembly.proofs.Rules.{odd_drops, room_drops, none_drops, dropped_is, not_many}
use Rattle.reassembly.proofs.assembly.Assembly.join.Goals as goal
use Rattle.reassembly.proofs.assembly.Assembly.join.Goals.{After-odds, After-has_room-fits}

-- the chain has the octets of the datagram, and what the code found of its contradictions
found_of : (c : After-odds) (gs : List Gathered) → HoldsFor gs c.args.self.now.table.entries c.args.self.now.store
    → Keeps (chain_of c.args.self.now.store c.args.slot.0) (pieces_in gs (fragment_of c.args.piece.now).id)
    × (c.odds.result ≡ first_row (odd_rows (pieces_in gs (fragment_of c.args.piece.now).id) (fragment_of c.args.piece.now)))
found_of c gs h =
    let p = fragment_of c.args.piece.now in
    let a = c.args.self.now in
    let f = found gs a.table.entries a.store c.args.slot p.id h c.requires.inside c.len-count.ensures.slots_apart c.len-count.ensures.keys_apart c.requires.keyed in
    let was = progress_of gs a.table.entries a.store c.args.slot p.id c.at.result.now f (λ k d lt same. sym (c.at.ensures k d lt same)) in
    (f.keeps, c.odds.ensures.row (pieces_in gs p.id) f.keeps was)

-- the cells that the fragment needs
needs : (c : After-has_room-fits) (gs : List Gathered) → Keeps (chain_of c.args.self.now.store c.args.slot.0) (pieces_in gs (fragment_of c.args.piece.now).id)
    → missing (chain_of c.args.self.now.store c.args.slot.0) c.from.result c.len.result
    ≡ missing_of (pieces_in gs (fragment_of c.args.piece.now).id) (fragment_of c.args.piece.now).offset (length (fragment_of c.args.piece.now).octets)
needs c gs keeps =
    let p = fragment_of c.args.piece.now in
    let chain = chain_of c.args.self.now.store c.args.slot.0 in
    ap₂ (missing chain) c.from.ensures c.len.ensures ∙ missing_are chain (octet_of (pieces_in gs p.id)) p.offset (length p.octets) c.held-held.ensures.map keeps

pub returns-in-Some-clause-answered : goal.returns-in-Some-clause-answered
returns-in-Some-clause-answered c now gs full h some =
    let p = fragment_of c.args.piece.now in
    let v = view_in gs full c.args.self.now.store.free p in
    let row = (found_of (goal.at.returns-in-Some-clause-answered c).After-odds gs h).1 in
    dropped_is now gs p _ c.in-Some.rule c.args.buf.now c.forget.new.self (odd_drops v p c.in-Some.rule c.requires.own (sym row ∙ c.in-Some.is))
    (subst (λ b. HoldsFor (cond b (of_others p.id gs) gs) c.forget.new.self.table.entries c.forget.new.self.store) (sym c.in-Some.ensures.forgets)
    (c.forget.ensures.others gs p.id h c.requires.keyed))

pub returns-then-not-fits-clause-answered : goal.returns-then-not-fits-clause-answered
returns-then-not-fits-clause-answered c now gs full h some =
    let p = fragment_of c.args.piece.now in
    let v = view_in gs full c.args.self.now.store.free p in
    let at = goal.at.returns-then-not-fits-clause-answered c in
    let f = found_of at.After-odds gs h in
    let room : nat_lt v.room (missing_of v.pieces p.offset (length p.octets)) ≡ true = ap (nat_lt v.room) (sym (needs at.After-has_room-fits gs f.0)) ∙ no_room _ _ _ c.has_room-fits.ensures c.if-not-fits.true in
    dropped_is now gs p _ FRoom c.args.buf.now c.args.self.now (room_drops v p c.requires.own (sym f.1 ∙ c.in_default.is) (not_many v.pieces full some) room) h

pub returns-clause-answered : goal.returns-clause-answered
returns-clause-answered c now gs full h some =
    let p = fragment_of c.args.piece.now in
    let v = view_in gs full c.args.self.now.store.free p in
    let at = goal.at.returns-clause-answered c in
    let f = found_of at.After-odds gs h in
    let room : nat_lt v.room (missing_of v.pieces p.offset (length p.octets)) ≡ false = ap (nat_lt v.room) (sym (needs at.After-has_room-fits gs f.0)) ∙ some_room _ _ _ c.has_room-fits.ensures c.if-not-fits.false in
    subst (λ a. IsAnswered now gs p a c.accept.result c.args.buf.now c.accept.new.buf c.accept.new.self)
    (sym (none_drops v p c.requires.own (sym f.1 ∙ c.in_default.is) (not_many v.pieces full some) room)) (c.accept.ensures.answered now gs h)

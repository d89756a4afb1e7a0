use Rattle.std.proofs.Common.{◌≡◌, [], ◌∷◌, ◌++◌, List, length, true, false, sym, ap, subst, ◌∙◌, arith, nat_lt, nat_le}
use Rattle.std.specs.Coded.{le_prop}
use Rattle.std.proofs.Math.Logic.{∥∥₁_map, ∥∥₁_elim}
use Rattle.retain_store.specs.Maps.{chain_of, missing}
use Rattle.linked_table.specs.EntryTable.{HasNone, IsIn}
use Rattle.rule_book.specs.declared.rule.Rule.TheVariants.{FMany, FRoom}
use Rattle.reassembly.specs.DatagramFragments.{fragment_of, missing_of}
use Rattle.reassembly.specs.Calls.{Gathered, pieces_in}
use Rattle.reassembly.specs.RuleRows.{view_in, f_many}
use Rattle.reassembly.specs.TableAndStore.{HoldsFor}
use Rattle.reassembly.specs.working.FragmentAnswers.{IsAnswered}
use Rattle.reassembly.proofs.Rules.{many_drops, room_drops, none_drops, dropped_is, room_is, room_not}
use Rattle.reassembly.proofs.Offers.{IsFirst, is_first, fresh_datagram, fresh_entry, is_many, not_full, touched_at, blocks_missing, blocks_missing_of, blank_holds, blank_answered, chain_free, inserted, entries_added, max_stays, in_added}
use Rattle.reassembly.proofs.assembly.Assembly.begin.Goals as goal
use Rattle.reassembly.proofs.assembly.Assembly.begin.Goals.{After-free-free}

-- it is the first fragment, a further datagram may be held, and `need` cells are missing
record Fits (c : After-free-free) (gs : List Gathered) : Type 0 where
  first : IsFirst gs (fragment_of c.args.piece.now) c.args.self.now.table.entries
  many : f_many (view_in gs (nat_le c.args.self.now.table.max (length gs)) c.args.self.now.store.free (fragment_of c.args.piece.now)) ≡ false
  wanted : c.blocks_touched-need.result ≡ missing_of (pieces_in gs (fragment_of c.args.piece.now).id) (fragment_of c.args.piece.now).offset (length (fragment_of c.args.piece.now).octets)

fits : (c : After-free-free) (gs : List Gathered) → HoldsFor gs c.args.self.now.table.entries c.args.self.now.store → Fits c gs
fits c gs h =
    let p = fragment_of c.args.piece.now in
    let a = c.args.self.now in
    let first = is_first gs a.table.entries a.store p h c.requires.absent in
    let long = first.long in
    let need = c.blocks_touched-need.result in
    record {
      first = first;
      many = not_full (pieces_in gs p.id) a.table.max (length gs) first.none (omega (arith, long, c.if-count-max.false, c.len-count.ensures.number, c.len-count.ensures.bounded, c.max-max.ensures));
      wanted = sym (ap (λ l. missing_of l p.offset (length p.octets)) first.none
          ∙ blocks_missing_of p.offset (length p.octets) need (touched_at c.from.result c.len.result p.offset (length p.octets) need c.from.ensures c.len.ensures c.blocks_touched-need.ensures));
    }

pub returns-then-count-max-clause-answered : goal.returns-then-count-max-clause-answered
returns-then-count-max-clause-answered c gs h =
    let p = fragment_of c.args.piece.now in
    let a = c.args.self.now in
    let v = view_in gs (nat_le a.table.max (length gs)) a.store.free p in
    let f = is_first gs a.table.entries a.store p h c.requires.absent in
    let long = f.long in
    let many = is_many v.pieces a.table.max (length gs) f.none (omega (arith, long, c.if-count-max.true, c.len-count.ensures.number, c.max-max.ensures)) in
    dropped_is c.args.now gs p _ FMany c.args.buf.now a (many_drops v p c.requires.own f.odd many) h

pub returns-then-need-free-clause-answered : goal.returns-then-need-free-clause-answered
returns-then-need-free-clause-answered c gs h =
    let p = fragment_of c.args.piece.now in
    let a = c.args.self.now in
    let v = view_in gs (nat_le a.table.max (length gs)) a.store.free p in
    let f = fits (goal.at.returns-then-need-free-clause-answered c).After-free-free gs h in
    let room : nat_lt a.store.free (missing_of v.pieces p.offset (length p.octets)) ≡ true = room_is a.store.free c.blocks_touched-need.result _ f.wanted (omega (arith, c.if-need-free.true, c.free-free.ensures.value)) in
    dropped_is c.args.now gs p _ FRoom c.args.buf.now a (room_drops v p c.requires.own f.first.odd f.many room) h

pub invariant_of-self : goal.invariant_of-self
invariant_of-self c = record {
  sized = c.args.self.now.sized ∙ sym (max_stays c.args.self.now.table c.insert_hashed.new.self c.args.id.now.key c.none-progress.result c.insert_hashed.result c.insert_hashed.ensures.unchanged c.insert_hashed.ensures.added);
  sound = ∥∥₁_map c.args.self.now.sound (inserted c.args.self.now.table c.insert_hashed.new.self c.args.self.now.store c.args.id.now.key (fragment_of c.args.piece.now).id c.none-progress.result c.args.now
      c.insert_hashed.result c.insert_hashed.ensures.unchanged c.insert_hashed.ensures.fresh c.insert_hashed.ensures.added c.requires.keyed c.none-progress.ensures);
}

pub insert_hashed-requires : goal.insert_hashed-requires
insert_hashed-requires c = subst (λ d. HasNone c.args.self.now.table.entries d) (sym c.requires.keyed) c.requires.absent

pub accept-requires-clause-inside : goal.accept-requires-clause-inside
accept-requires-clause-inside c =
    let p = fragment_of c.args.piece.now in
    let grown = entries_added c.args.self.now.table c.insert_hashed.new.self c.in-Ok.slot c.args.id.now.key p.id c.none-progress.result c.args.now c.in-Ok.ensures.added c.requires.keyed c.none-progress.ensures in
    subst (λ l. IsIn l c.in-Ok.slot) (sym grown) (in_added c.args.self.now.table.entries (fresh_entry c.in-Ok.slot p.id c.args.now))

pub accept-requires-clause-room : goal.accept-requires-clause-room
accept-requires-clause-room c = ∥∥₁_elim c.args.self.now.sound le_prop (λ s.
    let p = fragment_of c.args.piece.now in
    let empty = chain_free s.datagrams c.args.self.now.table.entries c.args.self.now.store c.in-Ok.slot s.holds c.in-Ok.ensures.fresh in
    let wanted : missing (chain_of c.args.self.now.store c.in-Ok.slot.0) p.offset (length p.octets) ≡ c.blocks_touched-need.result =
    ap (λ b. missing b p.offset (length p.octets)) empty
    ∙ blocks_missing p.offset (length p.octets) c.blocks_touched-need.result (touched_at c.from.result c.len.result p.offset (length p.octets) c.blocks_touched-need.result c.from.ensures c.len.ensures c.blocks_touched-need.ensures) in
    omega (arith, wanted, c.if-need-free.false, c.free-free.ensures.value))

pub returns-clause-answered : goal.returns-clause-answered
returns-clause-answered c gs h =
    let p = fragment_of c.args.piece.now in
    let a = c.args.self.now in
    let v = view_in gs (nat_le a.table.max (length gs)) a.store.free p in
    let f = fits (goal.at.returns-clause-answered c).After-free-free gs h in
    let room : nat_lt a.store.free (missing_of v.pieces p.offset (length p.octets)) ≡ false = room_not a.store.free c.blocks_touched-need.result _ f.wanted (omega (arith, c.if-need-free.false, c.free-free.ensures.value)) in
    let gt = gs ++ fresh_datagram p.id c.args.now ∷ [] in
    let grown = entries_added a.table c.insert_hashed.new.self c.in-Ok.slot c.args.id.now.key p.id c.none-progress.result c.args.now c.in-Ok.ensures.added c.requires.keyed c.none-progress.ensures in
    let ht : HoldsFor gt c.insert_hashed.new.self.entries a.store = subst (λ l. HoldsFor gt l a.store) (sym grown) (blank_holds gs a.table.entries a.store c.in-Ok.slot p.id c.args.now h c.in-Ok.ensures.fresh) in
    subst (λ x. IsAnswered c.args.now gs p x c.accept.result c.args.buf.now c.accept.new.buf c.accept.new.self) (sym (none_drops v p c.requires.own f.first.odd f.many room))
    (blank_answered c.args.now gs p c.accept.result c.args.buf.now c.accept.new.buf c.accept.new.self f.first.new (c.accept.ensures.answered c.args.now gt ht))

pub returns-clause-opened : goal.returns-clause-opened
returns-clause-opened c settings o =
    let max = max_stays c.args.self.now.table c.insert_hashed.new.self c.args.id.now.key c.none-progress.result c.insert_hashed.result c.insert_hashed.ensures.unchanged c.insert_hashed.ensures.added in
    c.accept.ensures.opened settings (record { datagrams = max ∙ o.datagrams; chains = o.chains; cells = o.cells; store = o.store; time = o.time })

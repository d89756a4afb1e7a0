use Rattle.std.proofs.Math.Logic.{∥∥₁_map, ∥∥₁_elim}
use Rattle.std.specs.Coded.{le_prop}
use Rattle.retain_store.specs.Maps.{chain_of}
use Rattle.reassembly.specs.declared.id.DatagramId.{DatagramId}
use Rattle.reassembly.specs.declared.progress.Progress.{Progress}
use Rattle.reassembly.specs.DatagramFragments.{fragment_of, is_whole}
use Rattle.reassembly.specs.Calls.{Gathered, after, pieces_in}
use Rattle.reassembly.specs.RuleRows.{answer_by}
use Rattle.reassembly.specs.TableAndStore.{HoldsFor}
use Rattle.std.proofs.Common.{length-take-le, length-take, ◌≡◌, ◌≤◌, ◌∷◌, length, take, drop, List, false, None, refl, sym, ap, ◌∙◌, arith}
use Rattle.std.proofs.Math.Bool.{Bool-set}
use Rattle.linked_table.specs.EntryTable as table
use Rattle.reassembly.proofs.Entries.{found, progress_of}
use Rattle.reassembly.proofs.Pieces.{filled_short}
use Rattle.reassembly.proofs.Offers.{Taken, TellsWhole, taken, tells_whole, tells_none, whole_covers, whole_octets, done_says, held_says, done_holds, held_holds}
use Rattle.reassembly.proofs.assembly.Assembly.accept.Goals as goal
use Rattle.reassembly.proofs.assembly.Assembly.accept.Goals.{In-Some, In-None}

-- the octets joined those of the datagram, and it is complete
completes : (c : In-Some) (gs : List Gathered) → HoldsFor gs c.args.self.now.table.entries c.args.self.now.store
    → Taken gs (fragment_of c.args.piece.now) c.args.self.now.table.entries c.args.self.now.store c.take-next.new.store c.args.slot c.take-next.result
    × TellsWhole (fragment_of c.args.piece.now ∷ pieces_in gs (fragment_of c.args.piece.now).id) c.in-Some.whole
completes c gs h =
    let p = fragment_of c.args.piece.now in
    let a = c.args.self.now in
    let t = taken gs p a.table.entries a.store c.take-next.new.store c.args.slot c.args.progress.now c.take-next.result h c.requires.inside
    c.len-count.ensures.slots_apart c.len-count.ensures.keys_apart c.requires.keyed c.requires.valued c.requires.own c.requires.ends c.take-next.ensures.joined in
    (t, tells_whole c.take-next.result (p ∷ pieces_in gs p.id) c.in-Some.whole c.whole.result t.progress c.whole.ensures c.in-Some.is)

-- they joined, and it is not
stays : (c : In-None) (gs : List Gathered) → HoldsFor gs c.args.self.now.table.entries c.args.self.now.store
    → Taken gs (fragment_of c.args.piece.now) c.args.self.now.table.entries c.args.self.now.store c.take-next.new.store c.args.slot c.take-next.result
    × (is_whole (fragment_of c.args.piece.now ∷ pieces_in gs (fragment_of c.args.piece.now).id) ≡ false)
stays c gs h =
    let p = fragment_of c.args.piece.now in
    let a = c.args.self.now in
    let t = taken gs p a.table.entries a.store c.take-next.new.store c.args.slot c.args.progress.now c.take-next.result h c.requires.inside
    c.len-count.ensures.slots_apart c.len-count.ensures.keys_apart c.requires.keyed c.requires.valued c.requires.own c.requires.ends c.take-next.ensures.joined in
    (t, tells_none c.take-next.result (p ∷ pieces_in gs p.id) c.whole.result t.progress c.whole.ensures c.in-None.is)

short : (c : In-Some) → c.in-Some.whole.len ≤ 65515
short c = ∥∥₁_elim c.args.self.now.sound le_prop (λ s. (completes c s.datagrams s.holds).1.long.short)

pub take-next-requires-clause-short : goal.take-next-requires-clause-short
take-next-requires-clause-short c = ∥∥₁_elim c.args.self.now.sound le_prop (λ s.
    let p = fragment_of c.args.piece.now in
    let a = c.args.self.now in
    let f = found s.datagrams a.table.entries a.store c.args.slot p.id s.holds c.requires.inside c.len-count.ensures.slots_apart c.len-count.ensures.keys_apart c.requires.keyed in
    filled_short c.args.progress.now (pieces_in s.datagrams p.id) (progress_of s.datagrams a.table.entries a.store c.args.slot p.id c.args.progress.now f c.requires.valued))

pub slice_bounds-copy_out-end : goal.slice_bounds-copy_out-end
slice_bounds-copy_out-end c = let fits = short (goal.at.slice_bounds-copy_out-end c).In-Some in omega (arith, fits, c.requires.buffer)

pub slice_bounds-copy_out-end-in-Some : goal.slice_bounds-copy_out-end-in-Some
slice_bounds-copy_out-end-in-Some c =
    let low = short (goal.at.slice_bounds-copy_out-end-in-Some c).In-Some in
    let fits : c.in-Some.whole.len ≤ length c.args.buf.now = omega (arith, low, c.requires.buffer) in
    sym (length-take-le c.in-Some.whole.len c.args.buf.now fits)

pub copy_out-requires-clause-covered : goal.copy_out-requires-clause-covered
copy_out-requires-clause-covered c i lt = ∥∥₁_elim c.args.self.now.sound (hlevel Bool-set) (λ s.
    let t = completes (goal.at.copy_out-requires-clause-covered c).In-Some s.datagrams s.holds in
    let fits : length (take c.in-Some.whole.len c.args.buf.now) ≤ c.in-Some.whole.len = grind (arith, length-take c.in-Some.whole.len c.args.buf.now) in
    whole_covers (chain_of c.take-next.new.store c.args.slot.0) (fragment_of c.args.piece.now ∷ pieces_in s.datagrams (fragment_of c.args.piece.now).id) c.in-Some.whole.len
    (length (take c.in-Some.whole.len c.args.buf.now)) t.0.keeps t.1.long fits i lt)

pub invariant_of-self : goal.invariant_of-self
invariant_of-self c = record {
  sized = c.forget_all.ensures.changed.number ∙ (c.take-next.ensures.changed.number ∙ (c.args.self.now.sized ∙ sym (ap (λ (u : table.Table DatagramId Progress). u.max) c.remove-pair.ensures.left)));
  sound = ∥∥₁_map c.args.self.now.sound (λ s.
      let p = fragment_of c.args.piece.now in
      let t = completes (goal.at.invariant_of-self c).In-Some s.datagrams s.holds in
      record {
        datagrams = after 0 p (answer_by None (is_whole (p ∷ pieces_in s.datagrams p.id))) s.datagrams;
        holds = done_holds 0 s.datagrams p c.args.self.now.table c.remove-pair.new.self c.args.self.now.store c.take-next.new.store c.forget_all.new.self c.args.slot c.take-next.result c.in-Some.whole s.holds t.0 t.1
            c.take-next.ensures.changed c.forget_all.ensures.changed c.forget_all.ensures.empty c.remove-pair.ensures.left;
      });
}

pub invariant_of-self-in-None : goal.invariant_of-self-in-None
invariant_of-self-in-None c = record {
  sized = c.take-next.ensures.changed.number ∙ (c.args.self.now.sized ∙ sym (ap (λ (u : table.Table DatagramId Progress). u.max) c.put-before.ensures.after));
  sound = ∥∥₁_map c.args.self.now.sound (λ s.
      let p = fragment_of c.args.piece.now in
      let t = stays (goal.at.invariant_of-self-in-None c).In-None s.datagrams s.holds in
      record {
        datagrams = after 0 p (answer_by None (is_whole (p ∷ pieces_in s.datagrams p.id))) s.datagrams;
        holds = held_holds 0 s.datagrams p c.args.self.now.table c.put-before.new.self c.args.self.now.store c.take-next.new.store c.args.slot c.args.progress.now c.take-next.result s.holds t.0 t.1 c.requires.valued
            c.take-next.ensures.changed c.take-next.ensures.since c.put-before.ensures.after;
      });
}

pub returns-in-Some-clause-answered : goal.returns-in-Some-clause-answered
returns-in-Some-clause-answered c now gs h =
    let p = fragment_of c.args.piece.now in
    let t = completes (goal.at.returns-in-Some-clause-answered c).In-Some gs h in
    let low = t.1.long.short in
    let room : c.in-Some.whole.len ≤ length c.args.buf.now = omega (arith, low, c.requires.buffer) in
    let long : length c.copy_out.new.out ≡ c.in-Some.whole.len = c.copy_out.auto.out ∙ length-take-le c.in-Some.whole.len c.args.buf.now room in
    record {
      says = done_says (p ∷ pieces_in gs p.id) c.in-Some.whole t.1;
      holds = done_holds now gs p c.args.self.now.table c.remove-pair.new.self c.args.self.now.store c.take-next.new.store c.forget_all.new.self c.args.slot c.take-next.result c.in-Some.whole h t.0 t.1
          c.take-next.ensures.changed c.forget_all.ensures.changed c.forget_all.ensures.empty c.remove-pair.ensures.left;
      octets = whole_octets _ (p ∷ pieces_in gs p.id) c.in-Some.whole.len c.copy_out.new.out (drop c.in-Some.whole.len c.args.buf.now) t.0.keeps t.1.long long c.copy_out.ensures;
    }

pub returns-in-Some-clause-short : goal.returns-in-Some-clause-short
returns-in-Some-clause-short c = short (goal.at.returns-in-Some-clause-short c).In-Some

pub returns-in-None-clause-answered : goal.returns-in-None-clause-answered
returns-in-None-clause-answered c now gs h =
    let p = fragment_of c.args.piece.now in
    let t = stays (goal.at.returns-in-None-clause-answered c).In-None gs h in
    record {
      says = held_says (p ∷ pieces_in gs p.id) t.1;
      holds = held_holds now gs p c.args.self.now.table c.put-before.new.self c.args.self.now.store c.take-next.new.store c.args.slot c.args.progress.now c.take-next.result h t.0 t.1 c.requires.valued
          c.take-next.ensures.changed c.take-next.ensures.since c.put-before.ensures.after;
      octets = refl;
    }

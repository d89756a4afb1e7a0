use Rattle.std.proofs.Common.{◌≡◌, ◌+◌, ◌≤◌, ◌<◌, ◌∙◌, true, false, List, [], ◌∷◌, ◌++◌, length, Some, None, sym, ap, subst, arith, nat_le}
use Rattle.std.proofs.lemmas.Bool.Decides.{nat_tests}
use Rattle.std.proofs.lemmas.List.{length-map}
use Rattle.tcp_norm.specs.Calls.{Alive, without}
use Rattle.tcp_norm.specs.working.TableChanges.{Holds, Begins, ChangesTables}
use Rattle.tcp_norm.specs.TableAndStore.{alive_in}
use Rattle.tcp_norm.specs.working.EraSteps.{IsRoom, first_empty, place_of}
use Rattle.tcp_norm.proofs.CallEffects.{given_some, without_none}
use Rattle.tcp_norm.proofs.EraTable.{then_changes}
use Rattle.tcp_norm.proofs.state.TcpNorm.place.Goals as goal

pub begin-requires-clause-room : goal.begin-requires-clause-room
begin-requires-clause-room c = let self = c.args.self.now in subst (IsRoom self.table.entries self.table.max self.spare.slots) c.in-Free.is c.requires.room

pub returns-in-Free-clause-places : goal.returns-in-Free-clause-places
returns-in-Free-clause-places c lives segments h =
    let self = c.args.self.now in
    let long : length lives ≡ length self.table.entries = sym (ap length h.eras_are) ∙ length-map self.table.entries alive_in in
    let free : length self.table.entries < self.table.max = subst (IsRoom self.table.entries self.table.max self.spare.slots) c.in-Free.is c.requires.room in
    let full : nat_le self.table.max (length lives) ≡ false = grind (arith, nat_tests, long, free) in
    record {
      answer = sym (ap (λ b. place_of b (first_empty lives segments) (self.begun + 1)) full ∙ ap (λ n. Some (record { begun = n; evicted = None })) (sym c.begin.ensures.tables.begun_is));
      given = λ number is. cc;
      holds = λ later begins. subst (λ (l : List Alive). Holds c.begin.new.self (l ++ record { number = self.begun + 1; key = c.args.hashed.now.key.0; touched = c.args.now } ∷ []) later) (sym (without_none lives))
          (c.begin.ensures.holds lives segments later h begins);
    }

pub evict-ended-requires : goal.evict-ended-requires
evict-ended-requires c = let self = c.args.self.now in (subst (IsRoom self.table.entries self.table.max self.spare.slots) c.in-Spare.is c.requires.room).1

pub returns-in-Spare-clause-places : goal.returns-in-Spare-clause-places
returns-in-Spare-clause-places c lives segments h =
    let self = c.args.self.now in
    let long : length lives ≡ length self.table.entries = sym (ap length h.eras_are) ∙ length-map self.table.entries alive_in in
    let most : self.table.max ≤ length self.table.entries = (subst (IsRoom self.table.entries self.table.max self.spare.slots) c.in-Spare.is c.requires.room).0 in
    let full : nat_le self.table.max (length lives) ≡ true = grind (arith, nat_tests, long, most) in
    let e = c.evict-ended.ensures.evicts lives segments h in
    let left = without (c.evict-ended.result.era ∷ []) lives in
    let next : c.evict-ended.new.self.begun + 1 ≡ self.begun + 1 = ap (λ b. b + 1) c.evict-ended.ensures.tables.begun_is in
    record {
      answer = sym (ap (λ b. place_of b (first_empty lives segments) (self.begun + 1)) full ∙ (ap (λ r. place_of true r (self.begun + 1)) (sym e.answer)
          ∙ ap (λ n. Some (record { begun = n; evicted = Some c.evict-ended.result })) (sym (c.begin-in-Spare.ensures.tables.begun_is ∙ next))));
      given = λ number is. given_some c.evict-ended.result.era number e.given is;
      holds = λ later begins. subst (λ n. Holds c.begin-in-Spare.new.self (left ++ record { number = n; key = c.args.hashed.now.key.0; touched = c.args.now } ∷ []) later) next
          (c.begin-in-Spare.ensures.holds left segments later e.left (subst (λ n. Begins c.args.era.now n segments later) (sym next) begins));
    }

pub returns-in-Spare-clause-tables : goal.returns-in-Spare-clause-tables
returns-in-Spare-clause-tables c =
    subst (ChangesTables c.args.self.now c.begin-in-Spare.new.self) (ap (λ b. b + 1) c.evict-ended.ensures.tables.begun_is) (then_changes _ _ _ _ _ c.evict-ended.ensures.tables c.begin-in-Spare.ensures.tables)

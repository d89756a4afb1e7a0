use Rattle.std.proofs.Common.{◌≡◌, ℕ, ◌/◌, ◌%◌, Some, None, false, rules, tests, not, sym, ap, ◌∙◌, arith, is_eq, nat_cmp}
use Rattle.std.specs.Box.{with_value}
use Rattle.std.proofs.lemmas.Grind.{common_steps}
use Rattle.run_audit.specs.working.KeptOctets.{block_at, kept_with, octet_in, octet_in_some, some_stray}
use Rattle.run_audit.specs.declared.octets.Block.{Block}
use Rattle.run_audit.proofs.KeptOctets.{IsPut, run_kept, run_strays}
use Rattle.run_audit.proofs.octets.Octets.add_run.Goals as goal

unequal : (a b : ℕ) → (b ≡ a → ⊥) → is_eq (nat_cmp a b) ≡ false
unequal a b apart = search (rules, tests, apart)

pub returns-in-Some : goal.returns-in-Some
returns-in-Some c =
    let place = c.args.place.raised in
    let number = place / 256 in
    let block = c.in-Some.block.now in
    let old = c.args.self.now in
    let new = record old { blocks = c.get_mut.follows.lender (with_value block c.put_run.new.self) } in
    let was : block_at old number ≡ Some block = grind (arith, common_steps) in
    let is : block_at new number ≡ Some (with_value block c.put_run.new.self) = grind (arith, common_steps) in
    let put : IsPut old new (octet_in block.value) (octet_in c.put_run.new.self) place c.args.octets.now = record {
      fits = c.requires;
      had = λ at. ap (λ b. octet_in_some b at) was;
      has = λ at. ap (λ b. octet_in_some b at) is;
      others = λ other apart. ((c.get_mut.follows.holds (with_value block c.put_run.new.self)).3 (search rules)).2 (record { 0 = other }) (unequal other number apart);
    } in record {
      right = c.put_run.ensures.right
          ∙ ap (λ (b : Block). not (some_stray (octet_in b) None (place % 256) c.args.octets.now)) c.deref_mut.ensures.value
          ∙ ap not (run_strays old new _ _ place c.args.octets.now put);
      kept = λ right. run_kept old new _ _ place c.args.octets.now put (λ at. c.put_run.ensures.kept right at ∙ ap (λ (b : Block). kept_with (octet_in b) (place % 256) c.args.octets.now at) c.deref_mut.ensures.value);
    }

pub returns-in_ok-insert-in-None : goal.returns-in_ok-insert-in-None
returns-in_ok-insert-in-None c =
    let place = c.args.place.raised in
    let number = place / 256 in
    let old = c.args.self.now in
    let new = record old { blocks = c.insert.new.self } in
    let block = with_value c.in_ok-block-in-None.block c.put_run-right.new.self in
    let was : block_at old number ≡ None = grind (arith, common_steps) in
    let is : block_at new number ≡ Some block = grind (arith, common_steps) in
    let put : IsPut old new (octet_in c.new.result) (octet_in c.put_run-right.new.self) place c.args.octets.now = record {
      fits = c.requires;
      had = λ at. ap (λ b. octet_in_some b at) was ∙ sym (c.new.ensures at);
      has = λ at. ap (λ b. octet_in_some b at) is;
      others = λ other apart. c.in_ok-insert-in-None.ensures.updates.2 (record { 0 = other }) (unequal other number apart) ∙ ap (λ blocks. block_at (record old { blocks = blocks }) other) c.get_mut.follows.holds-at-none;
    } in
    let made : c.deref_mut-in-None.result.now ≡ c.new.result = grind (arith, common_steps) in
    record {
      right = c.put_run-right.ensures.right
          ∙ ap (λ (b : Block). not (some_stray (octet_in b) None (place % 256) c.args.octets.now)) made
          ∙ ap not (run_strays old new _ _ place c.args.octets.now put);
      kept = λ right. run_kept old new _ _ place c.args.octets.now put (λ at. c.put_run-right.ensures.kept right at ∙ ap (λ (b : Block). kept_with (octet_in b) (place % 256) c.args.octets.now at) made);
    }

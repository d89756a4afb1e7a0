use Rattle.std.proofs.Common.{◌≡◌, ℕ, suc, ◌+◌, ◌-◌, ◌<◌, ◌≤◌, List, [], ◌∷◌, ◌++◌, map, length, get_or, sym, ◌∙◌, ap, arith, replicate}
use Rattle.rule_book.specs.Entries.{plain}
use Rattle.rule_book.specs.declared.entry.Entry.{Entry}
use Rattle.run_audit.specs.OwnedFrames.{owners}
use Rattle.run_audit.specs.working.OwnedEntries.{left_from}
use Rattle.run_audit.proofs.owners.Owners.next.Goals as goal

given_on : (entries : List Entry) (given : ℕ) (item : Entry) → 1 ≤ length entries → item ≡ get_or entries 0 item → given < item.packets → left_from (map plain entries) given ≡ plain item ∷ left_from (map plain entries) (given + 1)
given_on [] given item long is less = absurd (omega (arith, long))
given_on (e ∷ es) given item long is less =
    let more : given < e.packets = let h = ap (λ (x : Entry). x.packets) is in omega (arith, less, h) in
    let next : e.packets - given ≡ suc (e.packets - (given + 1)) = omega (arith, more) in
    ap (λ n. replicate n (plain e) ++ owners (map plain es)) next ∙ ap (λ (x : Entry). plain x ∷ left_from (map plain (e ∷ es)) (given + 1)) (sym is)

pub returns-then-self-entry : goal.returns-then-self-entry
returns-then-self-entry c = sym c.entries.invariant ∙ given_on c.entries.self.entries.now c.entries.self.given c.entry-item.result c.in-len1-up.len_at_least c.entry-item.is c.if-self-entry.true

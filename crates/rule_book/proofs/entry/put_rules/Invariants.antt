use Rattle.std.proofs.Common.{◌≡◌, ◌+◌, ◌*◌, ◌≤◌, take}
use Rattle.rule_book.specs.working.LineBuffers.{Adds}
use Rattle.rule_book.specs.Text.{rule_parts}
use Rattle.rule_book.proofs.entry.put_rules.Given as goal

-- the names of the rules so far are written
abbrev pub invariant-loop-rule : goal.invariant-loop-rule
invariant-loop-rule l = record {
  same_buffer : l.line.buf.ghost_name ≡ l.fn.line.buf.ghost_name;
  adds : Adds l.fn.line l.line (rule_parts (take l.rule-index l.rules));
  bound : l.line.len ≤ l.fn.line.len + 10 * l.rule-index;
}

use Rattle.std.proofs.Common.{◌≡◌, ◌+◌, ◌*◌, ◌≤◌, take, flat_map}
use Rattle.rule_book.specs.working.LineBuffers.{Adds}
use Rattle.rule_book.specs.Text.{ended_part}
use Rattle.rule_book.proofs.entry.put_ended.Given as goal

-- the eras so far are written
abbrev pub invariant-loop-ended : goal.invariant-loop-ended
invariant-loop-ended l = record {
  same_buffer : l.line.buf.ghost_name ≡ l.fn.line.buf.ghost_name;
  adds : Adds l.fn.line l.line (flat_map ended_part (take l.ended-index l.eras));
  bound : l.line.len ≤ l.fn.line.len + 42 * l.ended-index;
}

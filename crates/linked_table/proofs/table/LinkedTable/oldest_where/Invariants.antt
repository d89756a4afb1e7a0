use Rattle.std.proofs.Common.{◌-◌}
use Rattle.linked_table.specs.NodeColumns.{columns}
use Rattle.linked_table.proofs.Walks.{IsScan}
use Rattle.linked_table.proofs.table.LinkedTable.oldest_where.Given as goal

abbrev pub invariant-loop : goal.invariant-loop
invariant-loop g l = IsScan g.F.Fn l.test l.self-inside.max (columns l.self-inside.nodes.items) l.self.entries l.node (l.end - l.counter)

use Rattle.std.proofs.Common.{◌-◌, ◌++◌}
use Rattle.linked_table.specs.NodeColumns.{columns}
use Rattle.linked_table.proofs.Walks.{IsSearch}
use Rattle.linked_table.proofs.table.LinkedTable.find_hashed.Given as goal

abbrev pub invariant-loop : goal.invariant-loop
invariant-loop g l = IsSearch (columns l.self-inside.nodes.items).pairs ((columns l.self-inside.nodes.items).chains ++ l.self-inside.hubs.items) l.hub l.hashed.key l.node (l.end - l.counter)

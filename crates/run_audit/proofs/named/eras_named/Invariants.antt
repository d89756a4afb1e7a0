use Rattle.std.proofs.Common.{◌≡◌, [], drop, map, flat_map}
use Rattle.indexmap.specs.IndexMap.{keys}
use Rattle.rule_book.specs.Entries.{plain}
use Rattle.run_audit.specs.working.EraTable.{AllStandFor}
use Rattle.run_audit.specs.NamedEras.{all_noted, named_in, eras_named}
use Rattle.run_audit.proofs.named.eras_named.Given as goal

abbrev pub invariant-loop-entry : goal.invariant-loop-entry
invariant-loop-entry l = record {
  named : all_noted (keys l.eras) (flat_map named_in (map plain (drop l.entry-index l.entries))) ≡ eras_named (map plain l.entries);
  fresh : AllStandFor l.eras [];
}

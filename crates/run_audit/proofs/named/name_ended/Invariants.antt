use Rattle.std.proofs.Common.{◌≡◌, [], drop}
use Rattle.indexmap.specs.IndexMap.{keys}
use Rattle.run_audit.specs.working.EraTable.{AllStandFor}
use Rattle.run_audit.specs.NamedEras.{all_noted, numbers_of}
use Rattle.run_audit.proofs.named.name_ended.Given as goal

abbrev pub invariant-loop-one : goal.invariant-loop-one
invariant-loop-one l = record {
  named : all_noted (keys l.eras) (numbers_of (drop l.one-index l.ended)) ≡ all_noted (keys l.initial.eras) (numbers_of l.ended);
  fresh : AllStandFor l.initial.eras [] → AllStandFor l.eras [];
}

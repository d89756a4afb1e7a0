use Rattle.std.proofs.Common.{◌≡◌, true, List, take, drop}
use Rattle.std.specs.List.{AllByRecursion}
use Rattle.norm_settings.specs.SettingValues.{PlainSettings}
use Rattle.reassembly.specs.Calls.{Gathered, is_old}
use Rattle.reassembly.specs.TableAndStore.{HoldsFor}
use Rattle.reassembly.specs.AssemblyState.{IsFor}
use Rattle.reassembly.proofs.assembly.Assembly.forget_old.Given as goal

abbrev pub invariant-loop-index : goal.invariant-loop-index
invariant-loop-index l =
    record {
      opened : (settings : PlainSettings) → IsFor settings l.fn.self → IsFor settings l.self;
      time : l.self.time ≡ l.fn.self.time;
      holds : (gs : List Gathered) → HoldsFor gs l.fn.self.table.entries l.fn.self.store → HoldsFor (drop l.index gs) l.self.table.entries l.self.store;
      old : (gs : List Gathered) → HoldsFor gs l.fn.self.table.entries l.fn.self.store → AllByRecursion (λ g. is_old l.self.time l.now g ≡ true) (take l.index gs);
    }

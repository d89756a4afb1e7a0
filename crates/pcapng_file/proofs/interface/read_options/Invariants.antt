use Rattle.std.proofs.Common.{◌≡◌, ◌≤◌, length, option_map}
use Rattle.pcapng_file.proofs.Options.{SeesOptions}
use Rattle.pcapng_file.proofs.interface.read_options.Given as goal

-- the options so far were taken, and `seen` are their facts
abbrev pub invariant-loop-left : goal.invariant-loop-left
invariant-loop-left g l = record {
  within : l.left ≤ l.fn.room;
  four : length l.head ≡ 4;
  enough : length l.kept ≡ 64;
  sees : SeesOptions (g.S.Source.left l.fn.source) (g.S.Source.left l.source) l.order (option_map (λ name. name.now) l.inside) l.snap l.fn.room l.left l.seen;
  counted : g.S.Source.fault_count l.source ≡ g.S.Source.fault_count l.fn.source;
}

abbrev pub decreases-loop-left : goal.decreases-loop-left
decreases-loop-left g l = l.left

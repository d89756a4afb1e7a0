use Rattle.std.specs.Prelude.{Bool, true, false, Option, Some, None}
use base.Fml.{Fml, feq, fsep}
use denote.RawPtr.{Ptr}
use Rattle.std.specs.Box.Ownership.{box_owns}
use Rattle.std.specs.declared.alloc.Global.{Global}
use Rattle.std.specs.contracts.impls.GlobalAllocator.TheImpl.{ghosts}
use Rattle.norm_gate.specs.contracts.gate.Gate.{the_row}
use Rattle.norm_gate.specs.GateState.{Gated}

-- the handle of the heap, which is one value
abbrev pub heap : Global
heap = record { memory = record { seal = tt } }

-- What a handle owns: the block of its gate. Whether it has one is told by `live`.
abbrev pub held : (live : Bool) → Ptr → Option Gated → Fml
held live at None = feq Bool live false
held live at (Some value) = fsep (feq Bool live true) (box_owns (ghosts.dealloc_token heap) the_row at value)

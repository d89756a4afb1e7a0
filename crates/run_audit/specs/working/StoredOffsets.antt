-- Offsets in the code.
use Rattle.std.specs.Prelude.{ℤ, Option, option_map}
use Rattle.receiver_model.specs.Offsets as receiver
use Rattle.run_audit.specs.declared.offset.Offset.{Offset}

-- the value of an offset: `raised` is the offset plus 2^31
abbrev pub offset_in : Offset → ℤ
offset_in o = receiver.offset_in o.raised

-- the value of an optional offset
abbrev pub some_offset : Option Offset → Option ℤ
some_offset o = option_map offset_in o

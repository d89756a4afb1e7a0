-- An offset as the code stores it.
use Rattle.std.specs.Prelude.{◌^◌, ℤ, pos, ◌-ℤ◌}
use Rattle.era_state.specs.declared.offset.Offset.{Offset}

-- the stored number is 2^31 larger
abbrev pub offset_in : Offset → ℤ
offset_in o = pos o.raised -ℤ pos (2 ^ 31)

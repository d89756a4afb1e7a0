-- The numbers of refusals in the report (this project's profile).
use Rattle.std.specs.Prelude.{ℕ}
use Rattle.norm_settings.specs.declared.fault.WordFault.{WordFault}
use Rattle.norm_settings.specs.declared.fault.WordFault.TheVariants.{Refused, Prefix, TooMany, NoMemory, Same}

-- the number in `stop words N`
abbrev pub number_of : WordFault → ℕ
number_of Refused = 1
number_of (Prefix place) = 2
number_of TooMany = 3
number_of NoMemory = 4
number_of Same = 5

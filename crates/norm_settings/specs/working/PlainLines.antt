-- The words of a run as the code has them, over plain values (this project's profile).
use Rattle.std.specs.Prelude.{map, string_bytes}
use Rattle.norm_settings.specs.declared.line.Use.{Use}
use Rattle.norm_settings.specs.declared.line.Line.{Line}
use Rattle.norm_settings.specs.declared.line.Met.{Met}
use Rattle.norm_settings.specs.declared.line.Met.TheVariants.{Names, Alone, Joined, Parted, Unknown}
use Rattle.norm_settings.specs.RunWords.{Word, names, alone, joined, parted, unknown, PlainUse, PlainLine}

-- the kind of a word in the code, over plain values
abbrev pub plain_word : Met → Word
plain_word Names = names
plain_word (Alone choice) = alone choice
plain_word (Joined choice value) = joined choice value.now
plain_word (Parted choice) = parted choice
plain_word Unknown = unknown

-- a use of the code, over plain values
abbrev pub plain_use : Use → PlainUse
plain_use use_ = record { choice = use_.choice; value = use_.value.now }

-- a line of the code, over plain values
abbrev pub plain_line : Line → PlainLine
plain_line line = record { uses = map plain_use line.uses.items; names = map string_bytes line.names.now }

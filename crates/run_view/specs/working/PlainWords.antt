-- A word of the code, over plain values.
use Rattle.run_view.specs.declared.words.Met.{Met}
use Rattle.run_view.specs.declared.words.Met.TheVariants.{Marked, Joined, Parted, Name, Unknown}
use Rattle.run_view.specs.ViewWords.{Word, marked, joined, parted, name, unknown}

-- the word as a list of octets
abbrev pub plain_word : Met → Word
plain_word (Marked mark) = marked mark
plain_word (Joined choice value) = joined choice value.now
plain_word (Parted choice) = parted choice
plain_word Name = name
plain_word Unknown = unknown

-- What a packet that is passed to the state asks of its record's entry and of the outbox.
use Rattle.std.specs.Prelude.{◌≡◌, ℕ, List, [], ◌≤◌, length}
use Rattle.rule_book.specs.declared.entry.Entry.{Entry}

-- two more eras can end in the entry
abbrev pub HasRoom : Entry → Type 0
HasRoom e = length e.ended.items ≤ 2

-- nothing is in the outbox
abbrev pub IsBlank : List (List ℕ) → Type 0
IsBlank out = out ≡ []

-- The forms of a report: of one engine in version 1 or 2, or of two engines in version 2 (this
-- project's profile).
use Rattle.std.specs.Prelude.{ℕ, Bool, true, false, List, [], ◌∷◌, ◌++◌, codes}
use Rattle.rule_book.specs.Text.{first_line}
use Rattle.run_view.specs.declared.form.Form.{Form}
use Rattle.run_view.specs.declared.form.Form.TheVariants.{Version1, Version2, Both}

-- the version of the lines of entries
abbrev pub version_of : Form → ℕ
version_of Version1 = 1
version_of Version2 = 2
version_of Both = 2

-- it has lines of a second engine
abbrev pub is_both : Form → Bool
is_both Version1 = false
is_both Version2 = false
is_both Both = true

-- its first line
abbrev pub heading : Form → List ℕ
heading Version1 = first_line 1
heading Version2 = first_line 2
heading Both = codes "norm 2 both" ++ 10 ∷ []

-- how many of the frames that a line of the first engine names are in the output: none where they
-- go to a second engine
abbrev pub own_frames : Form → (packets : ℕ) → ℕ
own_frames Version1 packets = packets
own_frames Version2 packets = packets
own_frames Both packets = 0

-- how many lines of a second engine follow a line of the first that names this number of frames:
-- one for each
abbrev pub answers : Form → (packets : ℕ) → ℕ
answers Version1 packets = 0
answers Version2 packets = 0
answers Both packets = packets

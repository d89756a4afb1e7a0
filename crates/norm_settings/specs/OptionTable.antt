-- The options of a run (this project's profile): one table, for the grammar, the clap command that
-- parses the words, and the help text.
use Rattle.std.specs.Prelude.{ℕ, ◌≤◌, ◌==◌, ◌&&◌, nat_le, Bool, true, false, List, [], ◌∷◌, length, Option, Some, None, is_some, codes, if◌then◌else◌}
use Rattle.wire_base.specs.Prefixes.{is_number, number_of}
use Rattle.wire_base.specs.declared.limits.TheConstants.{MAX_PACKET}
use Rattle.norm_settings.specs.declared.options.TheConstants.{MAX_CELLS}
use Rattle.norm_settings.specs.declared.options.Choice.{Choice}
use Rattle.norm_settings.specs.declared.options.Choice.TheVariants.{Hops, Flows, Cells, Frags, FragCells, Idle, FragTime, Seed, Quota, Mtu, Inside, Offload, Both}
use Rattle.norm_settings.specs.declared.options.Kind.{Kind}
use Rattle.norm_settings.specs.declared.options.Kind.TheVariants.{Number, Limit, Name, Alone}

-- a word, a name or a value: the list of its octets
abbrev pub Text : Type 0
Text = List ℕ

-- an entry of the table: the name of an option, without `--`, and the value that it takes: a number
-- (least, greatest, default); a limit (least, greatest; no limit if not given); a name; none
pub record PlainRow : Type 0 where
  pub name : Text
  pub kind : Kind

abbrev pub row : Text → Kind → PlainRow
row name kind = record { name = name; kind = kind }

-- the table of options
abbrev pub row_of : Choice → PlainRow
row_of Hops = row (codes "hops") (Number 0 254 30)
row_of Flows = row (codes "flows") (Number 1 65536 4096)
row_of Cells = row (codes "cells") (Number 1 MAX_CELLS 65536)
row_of Frags = row (codes "frags") (Number 1 4096 256)
row_of FragCells = row (codes "frag-cells") (Number 256 65536 4096)
row_of Idle = row (codes "idle") (Number 1 1000000 3600)
row_of FragTime = row (codes "frag-time") (Number 1 3600 30)
row_of Seed = row (codes "seed") (Number 0 18446744073709551615 0)
row_of Quota = row (codes "quota") (Limit 1 MAX_CELLS)
row_of Mtu = row (codes "mtu") (Limit 576 MAX_PACKET)
row_of Inside = row (codes "inside") Name
row_of Offload = row (codes "offload") Alone
row_of Both = row (codes "both") Alone

abbrev pub name_of : Choice → Text
name_of choice = (row_of choice).name

abbrev pub kind_of : Choice → Kind
kind_of choice = (row_of choice).kind

-- the options, in the order of the table
abbrev pub all_choices : List Choice
all_choices = Hops ∷ Flows ∷ Cells ∷ Frags ∷ FragCells ∷ Idle ∷ FragTime ∷ Seed ∷ Quota ∷ Mtu ∷ Inside ∷ Offload ∷ Both ∷ []

-- an option of this kind takes a value
abbrev pub takes_value : Kind → Bool
takes_value Alone = false
takes_value _ = true

-- the value of 1 to 20 decimal digits, if it is in the range
abbrev pub number_within : (least greatest : ℕ) → Text → Option ℕ
number_within least greatest text =
    if is_number 20 text && nat_le least (number_of text) && nat_le (number_of text) greatest then Some (number_of text) else None

-- a word that is not empty and does not begin with `-` (45)
abbrev pub is_name : Text → Bool
is_name [] = false
is_name (first ∷ _) = if first == 45 then false else true

-- the number of an option of this kind with this value
abbrev pub number_by : Kind → Text → Option ℕ
number_by (Number least greatest standard) text = number_within least greatest text
number_by (Limit least greatest) text = number_within least greatest text
number_by _ text = None

-- the value fits an option of this kind; no value of an option that takes one may begin with `-`
abbrev pub is_value : Kind → Text → Bool
is_value (Number least greatest standard) text = is_some (number_within least greatest text)
is_value (Limit least greatest) text = is_some (number_within least greatest text)
is_value Name text = is_name text && nat_le (length text) 64
is_value Alone text = true

-- the range of an option's numbers
abbrev pub least_of : Kind → ℕ
least_of (Number least greatest standard) = least
least_of (Limit least greatest) = least
least_of _ = 0

abbrev pub greatest_of : Kind → ℕ
greatest_of (Number least greatest standard) = greatest
greatest_of (Limit least greatest) = greatest
greatest_of _ = 0

-- a number from one to another
abbrev pub IsWithin : (least greatest n : ℕ) → Type 0
IsWithin least greatest n = (least ≤ n) × (n ≤ greatest)

-- a number in the range of an option of this kind
abbrev pub IsInRange : Kind → ℕ → Type 0
IsInRange kind n = IsWithin (least_of kind) (greatest_of kind) n

-- the default number of an option of this kind
abbrev pub standard_of : Kind → ℕ
standard_of (Number least greatest standard) = standard
standard_of _ = 0

-- the option has a default number, and it is in the range
abbrev pub HasStandard : Kind → Type 0
HasStandard (Number least greatest standard) = IsWithin least greatest standard
HasStandard _ = ⊥

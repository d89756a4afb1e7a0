-- What is said in the fields determines a frame.
use Rattle.std.specs.Prelude.{◌≡◌, ◌<◌, ◌↔◌, ℕ, List, [], slice_index}
use Rattle.wire_base.specs.declared.address.Link.{Link}
use Rattle.frame_view.specs.Readings.{reading}
use Rattle.frame_view.specs.Changes.{changes_of}
use Rattle.frame_view.specs.declared.field.Field.{Field}

-- each element is an octet
abbrev pub AreOctets : List ℕ → Type 0
AreOctets octets = (at : ℕ) → slice_index octets at < 256

-- two frames say the same in each field
abbrev pub SayTheSame : Link → (one other : List ℕ) → Type 0
SayTheSame link one other = (field : Field) → reading link field one ≡ reading link field other

-- two frames say the same in each field exactly if they have the same octets
abbrev pub SayTheSameIfEqual : Type 0
SayTheSameIfEqual = (link : Link) (one other : List ℕ) → AreOctets one → AreOctets other → SayTheSame link one other ↔ (one ≡ other)

-- nothing differs exactly if the octets are the same
abbrev pub NothingDiffersIfEqual : Type 0
NothingDiffersIfEqual = (link : Link) (number : ℕ) (octets frame : List ℕ) → AreOctets octets → AreOctets frame → (changes_of link number octets frame ≡ []) ↔ (octets ≡ frame)

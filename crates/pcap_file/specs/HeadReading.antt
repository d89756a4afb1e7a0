-- What reading the head does to the known octets of a source. None means that it has no known
-- octets; then nothing is claimed of them.
use Rattle.std.specs.Prelude.{◌≡◌, ℕ, List, drop, Option, Some, None, Result, Ok, Err}
use Rattle.edge_io.specs.KnownOctets.{TakesFewer}
use Rattle.pcap_file.specs.declared.head.Head.{Head}
use Rattle.pcap_file.specs.declared.head.HeadFault.{HeadFault}
use Rattle.pcap_file.specs.declared.head.HeadFault.TheVariants as faults
use Rattle.pcap_file.specs.Flaws.{Flaw, cut_short, bad_magic, bad_version, bad_link}
use Rattle.pcap_file.specs.FileHead.{head_of}

-- the octets left begin with this head or have this flaw, and the first 24 of them were taken, or
-- all if they are fewer
abbrev pub Begins : Option (List ℕ) → Option (List ℕ) → Result Head Flaw → Type 0
Begins None new verdict = Unit {0}
Begins (Some xs) None verdict = ⊥
Begins (Some xs) (Some ys) verdict = (head_of xs ≡ verdict) × (ys ≡ drop 24 xs)

-- The head was read, or this is its flaw; if the source fails, fewer than 24 octets were taken.
abbrev pub ReadsHead : Option (List ℕ) → Option (List ℕ) → Result Head HeadFault → Type 0
ReadsHead old new (Ok head) = Begins old new (Ok head)
ReadsHead old new (Err faults.Cut) = Begins old new (Err cut_short)
ReadsHead old new (Err faults.Magic) = Begins old new (Err bad_magic)
ReadsHead old new (Err faults.Version) = Begins old new (Err bad_version)
ReadsHead old new (Err faults.Link) = Begins old new (Err bad_link)
ReadsHead old new (Err faults.ReadFault) = TakesFewer old new 24

-- The count of faults is unchanged unless the source fails.
abbrev pub KeepsCount : Result Head HeadFault → (before now : ℕ) → Type 0
KeepsCount (Ok head) before now = now ≡ before
KeepsCount (Err faults.Cut) before now = now ≡ before
KeepsCount (Err faults.Magic) before now = now ≡ before
KeepsCount (Err faults.Version) before now = now ≡ before
KeepsCount (Err faults.Link) before now = now ≡ before
KeepsCount (Err faults.ReadFault) before now = Unit {0}

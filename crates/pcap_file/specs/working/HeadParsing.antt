-- What parsing the octets of a head gives.
use Rattle.std.specs.Prelude.{◌≡◌, ℕ, List, Result, Ok, Err}
use Rattle.pcap_file.specs.declared.head.Head.{Head}
use Rattle.pcap_file.specs.declared.head.HeadFault.{HeadFault}
use Rattle.pcap_file.specs.declared.head.HeadFault.TheVariants as faults
use Rattle.pcap_file.specs.Flaws.{cut_short, bad_magic, bad_version, bad_link}
use Rattle.pcap_file.specs.FileHead.{head_of}

-- the result of parsing the 24 octets of a head; a failure of the source is no such result
abbrev pub Judges : List ℕ → Result Head HeadFault → Type 0
Judges octets (Ok head) = head_of octets ≡ Ok head
Judges octets (Err faults.Cut) = head_of octets ≡ Err cut_short
Judges octets (Err faults.Magic) = head_of octets ≡ Err bad_magic
Judges octets (Err faults.Version) = head_of octets ≡ Err bad_version
Judges octets (Err faults.Link) = head_of octets ≡ Err bad_link
Judges octets (Err faults.ReadFault) = ⊥

-- The payload of a record of a load (this project's profile).
use Rattle.std.specs.Prelude.{ℕ, List, []}
use Rattle.load_make.specs.declared.flow.Turn.{Turn}
use Rattle.load_make.specs.declared.flow.Turn.TheVariants.{Call, Answer, Octets, Changed, Acknowledged}
use Rattle.load_make.specs.Packets.{octets_from, changed_from}

-- the payload of a record
abbrev pub octets_of : (flow : ℕ) → Turn → List ℕ
octets_of flow Call = []
octets_of flow Answer = []
octets_of flow (Octets offset) = octets_from flow offset
octets_of flow (Changed offset) = changed_from flow offset
octets_of flow (Acknowledged offset) = []

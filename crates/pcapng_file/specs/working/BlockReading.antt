-- The effect of reading a block, whole or in parts, on the known octets of a source (this project's
-- profile).
use Rattle.std.specs.Prelude.{◌≡◌, ℕ, ◌+◌, ◌-◌, ◌<◌, ◌≤◌, true, false, List, [], ◌∷◌, ◌++◌, length, take, drop, Option, Some, None, Result, Ok, Err}
use Rattle.std.specs.Io.KnownBytes.{Consumes}
use Rattle.pcap_file.specs.declared.record.Order.{Order}
use Rattle.pcap_file.specs.Records.{Packet}
use Rattle.pcapng_file.specs.declared.fault.NgFault.{NgFault}
use Rattle.pcapng_file.specs.declared.fault.OpenFault.{OpenFault}
use Rattle.pcapng_file.specs.declared.front.Front.{Front}
use Rattle.pcapng_file.specs.declared.content.Stamp.{Stamp}
use Rattle.pcapng_file.specs.declared.content.Content.{Content}
use Rattle.pcapng_file.specs.declared.content.Content.TheVariants as says
use Rattle.pcapng_file.specs.declared.content.Found.{Found}
use Rattle.pcapng_file.specs.declared.content.Found.TheVariants as is
use Rattle.pcapng_file.specs.declared.block.Block.{Block}
use Rattle.pcapng_file.specs.SectionState.{Sections, counted}
use Rattle.pcapng_file.specs.InterfaceOptions.{options_of, described}
use Rattle.pcapng_file.specs.BlockContents.{interface_found}
use Rattle.pcapng_file.specs.working.ContentFaults.{IsSound}
use Rattle.pcapng_file.specs.Blocks.{Step, sized_at, block_at, step_of, packet_of, before}
use Rattle.pcapng_file.specs.working.BlockFronts.{IsInterface, IsPacket}
use Rattle.pcapng_file.specs.ReaderState.{NgReading}
use Rattle.pcapng_file.specs.working.SectionLinks.{IsUnlinked}
use Rattle.pcapng_file.specs.working.PartReading.{Short}
use Rattle.wire_base.specs.declared.limits.TheConstants.{MAX_CAPTURED}
use Rattle.pcapng_file.specs.RecordReading.{EndsHere, most_of, Stops, TakesSteps, Moves, TakesPacket, HaltsBehind}

-- the captured octets of a packet block are in the buffer
abbrev pub IsKept : Found → (block buf : List ℕ) → Type 0
IsKept (is.Packet stamp) block buf = take stamp.size (drop stamp.place block) ≡ take stamp.size buf
IsKept found block buf = Unit {0}

-- the block found by its fixed fields and the octets between these and its last four octets
abbrev pub IsBody : (inside : Option (List ℕ)) → Order → Content → (octets buf : List ℕ) → Found → Type 0
IsBody inside order (says.Fails fault) octets buf found = found ≡ is.Fails fault
IsBody inside order says.Passed octets buf found = found ≡ is.Passed
IsBody inside order says.Section octets buf found = found ≡ is.Section
IsBody inside order (says.Interface link snap) octets buf found = found ≡ interface_found link (described inside snap (options_of order octets))
IsBody inside order (says.Packet stamp) octets buf found = (found ≡ is.Packet stamp) × (take stamp.size octets ≡ take stamp.size buf)

-- the captured octets of a packet block fit into the `room` octets read of the block, and into the
-- buffer
abbrev pub HasRoom : Content → (room size : ℕ) → Type 0
HasRoom (says.Packet stamp) room size = (stamp.size ≤ room) × (stamp.size ≤ size)
HasRoom content room size = Unit {0}

-- `room` octets were taken, and with them the block is `found`.
pub record TakesBody (inside old new : Option (List ℕ)) (order : Order) (content : Content) (room : ℕ) (buf : List ℕ) (found : Found) : Type 0 where
  pub octets : List ℕ
  pub taken : Consumes old new octets
  pub size : length octets ≡ room
  pub says : IsBody inside order content octets buf found

-- the octets taken of a block after its fixed fields
abbrev pub ReadsBody : (inside old new : Option (List ℕ)) → Order → Content → (room : ℕ) → (buf : List ℕ) → Result Found NgFault → Type 0
ReadsBody inside old new order content room buf (Ok found) = TakesBody inside old new order content room buf found
ReadsBody inside old new order content room buf (Err fault) = Short old new room fault

-- All octets of a block after its first twelve were taken, and the block is `found`.
pub record TakesRest (inside : Option (List ℕ)) (sections : Sections) (old new : Option (List ℕ)) (front : Front) (head buf : List ℕ) (found : Found) : Type 0 where
  pub octets : List ℕ
  pub taken : Consumes old new octets
  pub size : 12 + length octets ≡ front.size
  pub says : (rest : List ℕ) → sized_at inside sections front.order (head ++ octets ++ rest) front.size
      ≡ before rest (step_of (counted sections) front.order front.size (head ++ octets) found)
  pub kept : IsKept found (head ++ octets) buf
  pub room : IsInterface found → length sections.interfaces < 64
  pub some : IsPacket found → 0 < length sections.interfaces
  pub sound : IsSound found

-- the octets taken of a block after its first twelve
abbrev pub ReadsRest : (inside : Option (List ℕ)) → Sections → (old new : Option (List ℕ)) → Front → (head buf : List ℕ) → Result Found NgFault → Type 0
ReadsRest inside sections old new front head buf (Ok found) = TakesRest inside sections old new front head buf found
ReadsRest inside sections old new front head buf (Err fault) = Short old new (front.size - 12) fault

-- A block was taken: its octets are this block, whatever octets follow.
pub record TakesBlock (inside : Option (List ℕ)) (sections : Sections) (old new : Option (List ℕ)) (order : Order) (size : ℕ) (buf : List ℕ) (found : Found) : Type 0 where
  pub octets : List ℕ
  pub taken : Consumes old new octets
  pub whole : length octets ≡ size
  pub says : (rest : List ℕ) → block_at inside sections (octets ++ rest) ≡ before rest (step_of (counted sections) order size octets found)
  pub within : length octets ≤ most_of sections octets
  pub kept : IsKept found octets buf
  pub few : sections.blocks < 4294967295
  pub room : IsInterface found → length sections.interfaces < 64
  pub some : IsPacket found → 0 < length sections.interfaces
  pub sound : IsSound found

-- the block at the front was read, or the end was reached, or the block has this fault
abbrev pub ReadsBlock : (inside : Option (List ℕ)) → Sections → (old new : Option (List ℕ)) → (buf : List ℕ) → Result (Option Block) NgFault → Type 0
ReadsBlock inside sections old new buf (Ok None) = EndsHere inside sections old new
ReadsBlock inside sections old new buf (Ok (Some block)) = TakesBlock inside sections old new block.order block.size buf block.found
ReadsBlock inside sections old new buf (Err fault) = Stops inside sections old new fault

-- the record of a block, with its octets in the buffer
abbrev pub IsGiven : Found → (buf : List ℕ) → Option Packet → Type 0
IsGiven (is.Fails fault) buf given = ⊥
IsGiven (is.Packet stamp) buf given = given ≡ Some (packet_of stamp (take stamp.size buf))
IsGiven found buf given = given ≡ None

-- One block was taken, with this content.
pub record LooksAt (old new : NgReading) (before after : Option (List ℕ)) (buf : List ℕ) (found : Found) : Type 0 where
  pub step : Step
  pub steps : TakesSteps old.inside old.sections before after (step ∷ [])
  pub moves : Moves old new (step ∷ []) old.place true
  pub given : IsGiven found buf step.given
  pub few : old.sections.blocks < 4294967295
  pub counted : new.sections.blocks ≡ old.sections.blocks + 1
  pub some : IsPacket found → 0 < length old.sections.interfaces
  pub sound : IsSound found
  pub unlinked : IsUnlinked new.sections.link new.sections.interfaces

-- Nothing more was read.
pub record Halts (old new : NgReading) (P : Type 0) : Type 0 where
  pub moves : Moves old new [] old.place false
  pub why : P

-- the block at the front was taken, or the end was reached, or the block has this fault
abbrev pub Looks : (old new : NgReading) → (before after : Option (List ℕ)) → (buf : List ℕ) → Result (Option Found) NgFault → Type 0
Looks old new before after buf (Ok None) = Halts old new (EndsHere old.inside old.sections before after)
Looks old new before after buf (Ok (Some found)) = LooksAt old new before after buf found
Looks old new before after buf (Err fault) = Halts old new (Stops old.inside old.sections before after fault)

-- One more block was taken before the first interface, or the end was reached.
pub record LooksOn (old new : NgReading) (before after : Option (List ℕ)) : Type 0 where
  pub given : Option Found
  pub looked : Looks old new before after [] (Ok given)

-- The next block before the first interface has this fault, or the source failed in it; the offset
-- is that of the block.
pub record LooksStopped (old new : NgReading) (before after : Option (List ℕ)) (stop : OpenFault) : Type 0 where
  pub halted : Halts old new (Stops old.inside old.sections before after stop.fault)
  pub place : stop.offset ≡ new.asked

-- one more block was taken before the first interface, or it has this fault
abbrev pub LooksAhead : (old new : NgReading) → (before after : Option (List ℕ)) → Result (Unit {0}) OpenFault → Type 0
LooksAhead old new before after (Ok done) = LooksOn old new before after
LooksAhead old new before after (Err stop) = LooksStopped old new before after stop

-- the next record was read, its octets in the buffer, or the end was reached, or this is the fault
abbrev pub Finds : (old new : NgReading) → (before after : Option (List ℕ)) → (buf : List ℕ) → Result (Option Stamp) NgFault → Type 0
Finds old new before after buf (Ok None) = HaltsBehind old new before after (λ sections between. EndsHere old.inside sections between after)
Finds old new before after buf (Ok (Some stamp)) = TakesPacket old new before after (packet_of stamp (take stamp.size buf))
Finds old new before after buf (Err fault) = HaltsBehind old new before after (λ sections between. Stops old.inside sections between after fault)

-- a packet block has at most 262,144 captured octets
abbrev pub IsSmall : Result (Option Stamp) NgFault → Type 0
IsSmall (Ok (Some stamp)) = stamp.size ≤ MAX_CAPTURED
IsSmall (Ok None) = Unit {0}
IsSmall (Err fault) = Unit {0}

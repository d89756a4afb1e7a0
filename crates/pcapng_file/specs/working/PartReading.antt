-- The effect of reading a part of a block on the known octets of a source (this project's profile).
use Rattle.std.specs.Prelude.{◌≡◌, ℕ, ◌<◌, ◌==◌, Bool, List, length, take, min, Option, Result, Ok, Err}
use Rattle.std.specs.Io.KnownBytes.{Consumes, IsAtEnd}
use Rattle.edge_io.specs.KnownOctets.{TakesFewer}
use Rattle.pcap_file.specs.declared.record.Order.{Order}
use Rattle.pcap_file.specs.FileNumbers.{u32_at}
use Rattle.pcapng_file.specs.declared.fault.NgFault.{NgFault}
use Rattle.pcapng_file.specs.declared.fault.NgFault.TheVariants as faults
use Rattle.pcapng_file.specs.declared.interface.Interface.{Interface}
use Rattle.pcapng_file.specs.InterfaceOptions.{padded, options_of, described}

-- All octets left were taken, and they are fewer than `count`.
pub record EndsBefore (old new : Option (List ℕ)) (count : ℕ) : Type 0 where
  pub octets : List ℕ
  pub taken : Consumes old new octets
  pub fewer : length octets < count
  pub end : IsAtEnd new

-- fewer octets than `count` were taken: none is left, or the source failed
abbrev pub Short : (old new : Option (List ℕ)) → (count : ℕ) → NgFault → Type 0
Short old new count faults.Cut = EndsBefore old new count
Short old new count faults.ReadFault = TakesFewer old new count
Short old new count _ = ⊥

-- The buffer was filled.
abbrev pub FillsWhole : {T : Type 0} → (old new : Option (List ℕ)) → Result T NgFault → (buf : List ℕ) → Type 0
FillsWhole old new (Ok done) buf = Consumes old new buf
FillsWhole old new (Err fault) buf = Short old new (length buf) fault

-- `count` octets were taken.
pub record TakesCount (old new : Option (List ℕ)) (count : ℕ) : Type 0 where
  pub octets : List ℕ
  pub taken : Consumes old new octets
  pub size : length octets ≡ count

-- `count` octets were skipped.
abbrev pub Passes : {T : Type 0} → (old new : Option (List ℕ)) → (count : ℕ) → Result T NgFault → Type 0
Passes old new count (Ok done) = TakesCount old new count
Passes old new count (Err fault) = Short old new count fault

-- Four octets were taken, and `same` says whether they are this size.
pub record TakesSize (old new : Option (List ℕ)) (order : Order) (size : ℕ) (same : Bool) : Type 0 where
  pub octets : List ℕ
  pub taken : Consumes old new octets
  pub four : length octets ≡ 4
  pub says : same ≡ (u32_at order octets 0 == size)

-- The last four octets of a block of this size were taken.
abbrev pub Closes : (old new : Option (List ℕ)) → Order → (size : ℕ) → Result Bool NgFault → Type 0
Closes old new order size (Ok same) = TakesSize old new order size same
Closes old new order size (Err fault) = Short old new 4 fault

-- The value of an option was taken with its padding, and its first octets, at most 64, were kept.
pub record TakesValue (old new : Option (List ℕ)) (size : ℕ) (kept : List ℕ) : Type 0 where
  pub octets : List ℕ
  pub taken : Consumes old new octets
  pub whole : length octets ≡ padded size
  pub first : take (min size 64) kept ≡ take (min size 64) octets

abbrev pub ReadsValue : {T : Type 0} → (old new : Option (List ℕ)) → (size : ℕ) → Result T NgFault → (kept : List ℕ) → Type 0
ReadsValue old new size (Ok done) kept = TakesValue old new size kept
ReadsValue old new size (Err fault) kept = Short old new (padded size) fault

-- The options of an interface were taken, and describe `interface`.
pub record TakesOptions (old new : Option (List ℕ)) (order : Order) (inside : Option (List ℕ)) (snap room : ℕ) (interface : Option Interface) : Type 0 where
  pub octets : List ℕ
  pub taken : Consumes old new octets
  pub size : length octets ≡ room
  pub says : interface ≡ described inside snap (options_of order octets)

abbrev pub ReadsOptions : (old new : Option (List ℕ)) → Order → (inside : Option (List ℕ)) → (snap room : ℕ) → Result (Option Interface) NgFault → Type 0
ReadsOptions old new order inside snap room (Ok interface) = TakesOptions old new order inside snap room interface
ReadsOptions old new order inside snap room (Err fault) = Short old new room fault

-- The result of parsing octets: a value, or their first fault.
use Rattle.std.specs.Prelude.{Option, Some, None, Result, Ok, Err}

-- the fault if there is one, else the value
abbrev pub value_or_fault : {T F : Type 0} → T → Option F → Result T F
value_or_fault value None = Ok value
value_or_fault value (Some fault) = Err fault

-- the value that is left where a reader stored it, or the reader's fault
abbrev pub stored : {T F : Type 0} → T → Result (Unit {0}) F → Result T F
stored value (Ok _) = Ok value
stored value (Err fault) = Err fault

use Rattle.std.proofs.Common.{◌≡◌, ℕ, true, List, Option, Some, None, Ok}
use Rattle.std.specs.Prelude.{IfSome}
use Rattle.pcap_file.specs.declared.record.Record.{Record}
use Rattle.capture_input.specs.declared.input.Input.{Input}
use Rattle.capture_input.specs.Inputs.{Walk}
use Rattle.capture_input.specs.ReaderState.{is_open_in}
use Rattle.capture_input.specs.RecordReading.{Reads}
use Rattle.run_view.specs.working.ReaderPositions.{IsBehind}
use Rattle.run_view.proofs.Records.{record_stops}
use Rattle.run_view.proofs.sources.next_record.Goals as goal

went_on : (old new : Input) (walk : Walk) (before after : Option (List ℕ)) (given : Option Record) → Reads old new None walk before after (Ok given)
    → IfSome given (λ _. is_open_in new ≡ true)
went_on old new walk before after None reads = tt
went_on old new walk before after (Some r) reads = reads.goes_on

stands : (old new : Input) (walk : Walk) (before after : Option (List ℕ)) (given : Option Record) → Reads old new None walk before after (Ok given)
    → IfSome given (λ _. IsBehind new)
stands old new walk before after None reads = tt
stands old new walk before after (Some r) reads = record { walk = reads.farther; behind = reads.behind }

pub returns-in-Ok-clause-goes_on : goal.returns-in-Ok-clause-goes_on
returns-in-Ok-clause-goes_on g c =
    went_on _ _ c.requires.behind.walk _ _ _ (c.in-Ok.ensures.octets None c.requires.behind.walk c.requires.behind.behind)

pub returns-in-Ok-clause-behind : goal.returns-in-Ok-clause-behind
returns-in-Ok-clause-behind g c =
    stands _ _ c.requires.behind.walk _ _ _ (c.in-Ok.ensures.octets None c.requires.behind.walk c.requires.behind.behind)

pub returns-in-Err-clause-stops : goal.returns-in-Err-clause-stops
returns-in-Err-clause-stops g c head all packets at =
    rw (c.input_stop.ensures, c.offset.ensures)
    (record_stops _ _ head all _ _ packets _ _ c.in-Err.fault c.in-Err.ensures.octets at c.in-Err.ensures.cause)

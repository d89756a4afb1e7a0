-- The effect of one record on the sinks (this project's profile).
use Rattle.std.specs.Prelude.{ℕ, ◌<◌, [], Result, IfOk, IfErr}
use Rattle.pcap_file.specs.declared.record.Order.{Order}
use Rattle.both_sides.specs.declared.fault.RelayFault.{RelayFault}
use Rattle.both_sides.specs.Outputs.{BreaksOff}
use Rattle.both_sides.specs.RecordOutputs.{IsPut, Put, put_outputs}
use Rattle.both_sides.specs.Sinks.{OnlyRose, Sinks}

-- The output for a record was written, with fewer than 256 frames, and no sink failed. Or a sink
-- failed, as the only one, and the output breaks off there.
pub record IsWritten (order : Order) (put : Put) (result : Result ℕ RelayFault) (before now : Sinks) : Type 0 where
  pub whole : IfOk result (λ frames. IsPut order put frames before now)
  pub few : IfOk result (λ frames. frames < 256)
  pub broke : IfErr result (λ fault. BreaksOff [] (put_outputs order put) fault before now)
  pub first : IfErr result (λ fault. OnlyRose fault before now)

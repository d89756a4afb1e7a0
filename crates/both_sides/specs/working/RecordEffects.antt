-- The effect of one record on the sinks and on the engines (this project's profile).
use Rattle.std.specs.Prelude.{ℕ, List, ◌∷◌, ◌++◌, Result}
use Rattle.pcap_file.specs.declared.record.Order.{Order}
use Rattle.pcap_file.specs.Records.{Packet}
use Rattle.norm_engine.specs.Items.{Item}
use Rattle.norm_engine.specs.Trace.{item_of}
use Rattle.norm_engine.specs.CleanRecords.{HasOctets}
use Rattle.norm_engine.specs.EngineState.{Engaged}
use Rattle.norm_engine.specs.EngineState as single
use Rattle.both_sides.specs.TwoEngines.{Joined}
use Rattle.both_sides.specs.TwoEngines as double
use Rattle.both_sides.specs.Traces.{records_for}
use Rattle.both_sides.specs.declared.fault.RelayFault.{RelayFault}
use Rattle.norm_engine.specs.WrittenTrace.{FramesHaveOctets, item_written}
use Rattle.both_sides.specs.RecordOutputs.{put_by_one, put_by_two}
use Rattle.both_sides.specs.RunTraces.{answers}
use Rattle.both_sides.specs.Sinks.{Sinks}
use Rattle.both_sides.specs.WrittenRecord.{IsWritten}

-- One engine read a record after this history: its output is written, or breaks off at the sink
-- that failed, and the engine represents the history with its item. The octets of the record, and
-- of its frames if they may be cut, are numbers below 256.
pub record HasRead (order : Order) (old new : Engaged) (history : List Item) (r : Packet) (result : Result ℕ RelayFault) (before now : Sinks) : Type 0 where
  pub written : IsWritten order (put_by_one (item_written old.settings.mtu old.link (item_of old.settings old.link history r))) result before now
  pub stands : single.StandsFor new (item_of old.settings old.link history r ∷ history)
  pub octets : HasOctets r
  pub frames : FramesHaveOctets old.settings.mtu (item_of old.settings old.link history r).frames

-- Two engines read a record after these traces: the frames of the second and the lines of both are
-- written, or break off, and they represent their traces with its items. The octets of the record
-- are numbers below 256.
pub record HaveRead (order : Order) (old new : Joined) (trace mirror : List Item) (r : Packet) (result : Result ℕ RelayFault) (before now : Sinks) : Type 0 where
  pub written : let item = item_of old.first.settings old.first.link trace r in
      IsWritten order (put_by_two item (answers old.first.settings old.first.link mirror (records_for item))) result before now
  pub stands : let item = item_of old.first.settings old.first.link trace r in
      double.StandsFor new (item ∷ trace) (answers old.first.settings old.first.link mirror (records_for item) ++ mirror)
  pub octets : HasOctets r

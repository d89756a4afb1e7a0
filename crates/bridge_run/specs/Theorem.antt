-- The headline: what `run` has written when it returns 0 after reading a capture to its end. The
-- page docs/dev/STATEMENT.md has its first three promises for a run by one engine without an MTU,
-- with every definition that they rest on.
use Rattle.std.specs.Prelude.{◌≡◌, ℕ, ◌-◌, ◌^◌, ◌≤◌, true, List, ◌++◌, length, Option}
use Rattle.std.specs.Io.KnownBytes.{Appends}
use Rattle.pcap_file.specs.declared.head.Head.{Head}
use Rattle.pcap_file.specs.FileHead.{head_octets}
use Rattle.capture_input.specs.Inputs.{TookAll, TakenWhole}
use Rattle.rule_book.specs.declared.last.Last.TheVariants.{End}
use Rattle.norm_settings.specs.SettingValues.{AreInRange, PlainSettings}
use Rattle.both_sides.specs.RecordOutputs.{count_put, octets_put, puts, report_of}
use Rattle.both_sides.specs.BroughtOctets.{RunInventsNothing, RunNamesEachClash, RunNamesEachFragmentClash, RunReadsRecords}
use Rattle.both_sides.specs.RunTraces.{LawfulRun, RunHasOctets, RunTrace, packets_of}
use Rattle.bridge_run.specs.Promises.{CleanKeepPayload, FramesFit, HaveTimes, InwardArePlain, MessagesAreReadAlike, MonitorMissesNothing, ReceiversAgree, ReceiversReadOneStream, StateIsBounded}

-- A capture was normalized under these settings. `source` has the octets not yet read before the
-- run, source' those after it; `capture` and `report` have the octets that each sink held before
-- the run, capture' and report' those after it. None means that the octets are unknown, and then
-- nothing is claimed of them.
pub record Normalized (settings : PlainSettings) (source source' capture capture' report report' : Option (List ℕ)) : Type 0 where
  -- the head of the capture, and the trace of its records: by one engine, or by two if both sides
  -- are protected
  pub head : Head
  pub run : RunTrace
  -- each number of the settings is in the range of its option, so `hops` is at most 254
  pub range : AreInRange settings
  -- In each era with a base any two receivers of the family that start at the same offset agree.
  -- The stream of one is a prefix of the other's, and a stream that has ended is not the shorter
  -- one. It does not matter which of the frames written inwards in that era reach each of them in
  -- time, how often and in which order. An era without a base sends no octet, SYN or FIN inwards.
  -- If both sides are protected, this holds for each engine.
  pub agree : ReceiversAgree settings head.link run
  -- In each era with a base, before the first record and after each, a monitor misses nothing. It
  -- took every frame written inwards in the era so far, and kept each octet not yet read where none
  -- waited, and a FIN if it had none. It took them in the order in which they were written, from an
  -- offset of at most 2^31 on, and delivered after each all that it could. Or it took them in any
  -- order, each in time, and has delivered all that it can. The stream of each receiver from the
  -- same offset, which any of these frames reach in time, is a prefix of the monitor's; if it has
  -- ended, both are equal and the monitor's has ended. With both sides protected this holds for
  -- each engine.
  pub monitor : MonitorMissesNothing settings head.link run
  -- In each era with a base there is one stream: at each offset the octet that was written first
  -- there, up to the offset of the first FIN. Every receiver of the family, from whichever offset
  -- it starts, reads a part of it. Each octet is the stream's at its offset, none is at or past the
  -- end, and a receiver that has ended has read up to the end. It does not matter which of the
  -- frames written inwards in that era reach it in time, how often and in which order. With both
  -- sides protected this holds for each engine.
  pub reads : ReceiversReadOneStream settings head.link run
  -- The trace is the lawful one: each record has the entry and the frames that the rules require,
  -- so each drop and rewrite names a rule whose condition holds.
  pub lawful : LawfulRun settings head.link run
  -- Nothing is invented: in each era with a base each octet of that one stream, and its end, was
  -- brought by the very record that added it. That record went inwards and was written in the era,
  -- and its datagram, which it carries or its fragment completes, has it at this offset. With both
  -- sides protected this holds for each engine and its own records. A record of the second engine
  -- is a frame that the first wrote for a record of the capture, in order; `lawful` says which
  -- octets it has.
  pub brought : RunInventsNothing settings head.link run
  -- A line names T_CLASH exactly if its record is written, has neither SYN nor RST, and brings, at
  -- an offset at or past Acked, an octet that differs from the one written first there. With both
  -- sides protected this holds for the lines of each engine.
  pub clashes : RunNamesEachClash settings head.link run
  -- A line names F_CLASH exactly if its record carries a fragment, which no rule tested before
  -- drops, that contradicts a held one. At an offset of their datagram its octet differs from that
  -- of a fragment of an earlier record. With both sides protected this holds for the lines of each
  -- engine.
  pub fragment_clashes : RunNamesEachFragmentClash settings head.link run
  -- Before the first record and after each, no engine holds more state than the settings allow,
  -- counted from its trace.
  pub within : StateIsBounded settings head.link run
  -- Each record that no rule drops and whose payload no rule touches (`is_clean` in norm_engine)
  -- keeps it, in one frame or in segments. With an MTU this does not apply if its frame is too long
  -- and cannot be cut. With two engines this holds for each engine and its own records.
  pub clean : CleanKeepPayload settings head.link run
  -- Each frame written inwards is plain (`Plain` in wire_base), except ARP; if both sides are
  -- protected, also each frame written outwards.
  pub plain : InwardArePlain settings head.link run
  -- No frame written has more than 65,549 octets; with an MTU, which only one engine can have, no
  -- IPv4 packet written has a total length above it.
  pub fit : FramesFit settings head.link run
  -- The source was read to its end: its octets are a capture of exactly these records. Each octet
  -- of a record, and of a frame that is cut or read by a second engine, is a number below 256; the
  -- time of a record is two numbers of 32 bits.
  pub whole : TookAll settings.inside source head (packets_of run)
  pub taken : TakenWhole source source'
  pub octets : RunHasOctets settings run
  pub times : HaveTimes (packets_of run)
  -- If both sides are protected, there are at most 2^31 - 1 records.
  pub few : settings.both ≡ true → length (packets_of run) ≤ 2 ^ 31 - 1
  -- The capture got exactly a head of the same byte order, time unit and link, and then the frames
  -- of each record in turn. They are as the last engine or the cutting made them, at the time of
  -- their record. The report got exactly the lines of these records.
  pub frames_written : Appends capture capture' (head_octets head ++ octets_put head.order (puts settings head.link run))
  pub report_written : let output = puts settings head.link run in
      Appends report report' (report_of settings.both output (End (length (packets_of run)) (count_put output)))

-- For each capture that was normalized: any two receivers read alike each packet written inwards.
abbrev pub NormalizedIsReadAlike : Type 0
NormalizedIsReadAlike =
    (settings : PlainSettings) (source source' capture capture' report report' : Option (List ℕ)) (n : Normalized settings source source' capture capture' report report')
    → MessagesAreReadAlike settings n.head.link n.run

-- For each capture that was normalized: receivers of the packets written inwards, cut for an MTU if
-- there is one, read only what records brought. If no record of an era differs from an earlier one
-- at an offset at or past Acked, they read what the sender gave, and no line of the era names
-- T_CLASH. With both sides protected this holds for each engine.
abbrev pub NormalizedReadsRecords : Type 0
NormalizedReadsRecords =
    (settings : PlainSettings) (source source' capture capture' report report' : Option (List ℕ)) (n : Normalized settings source source' capture capture' report report')
    → RunReadsRecords settings n.head.link n.run

-- The promises of a finished run over a capture, each by one engine or by two (this project's
-- profile). `bridge_run/specs/Theorem.antt` joins them.
use Rattle.std.specs.Prelude.{ℕ, ◌<◌, ◌^◌, List}
use Rattle.std.specs.List.{AllByRecursion}
use Rattle.wire_base.specs.declared.address.Link.{Link}
use Rattle.pcap_file.specs.Records.{Packet}
use Rattle.norm_settings.specs.SettingValues.{PlainSettings}
use Rattle.norm_engine.specs.Agreement.{Agree, AtEachHistory, MissesNothing, ReadsOneStream}
use Rattle.norm_engine.specs.CleanRecords.{CleanIsKept}
use Rattle.norm_engine.specs.TraceLaws.{IsAlwaysWithin}
use Rattle.norm_engine.specs.SentFrames.{ArePlainInwards, AreReadAlike, HasShortFrames}
use Rattle.both_sides.specs.EngineLaws.{InwardGoesThrough}
use Rattle.both_sides.specs.Traces.{mirrored}
use Rattle.norm_engine.specs.WrittenTrace.{AgreeAsWritten, CleanIsWritten, MissesNothingAsWritten, NoneIsLong, ReadsOneStreamAsWritten, written}
use Rattle.both_sides.specs.RunTraces.{RunTrace, one, two}

-- In each era any two receivers of the family that start at the same offset agree: the stream of
-- one is a prefix of the other's. It does not matter which of the frames written inwards reach them
-- in time, how often and in which order. If both sides are protected, that holds for either side,
-- since frames of the first engine to the inside pass the second unchanged.
abbrev pub ReceiversAgree : PlainSettings → Link → RunTrace → Type 0
ReceiversAgree settings link (one trace) = AgreeAsWritten settings link trace
ReceiversAgree settings link (two trace mirror) = Agree settings.hops link trace × Agree settings.hops link mirror × InwardGoesThrough trace mirror

-- In each era with a base every receiver of the family, from whichever offset it starts, reads a
-- part of one stream. It does not matter which of the frames written inwards reach it in time, how
-- often and in which order. If both sides are protected, that holds for either side, by
-- `InwardGoesThrough` as above.
abbrev pub ReceiversReadOneStream : PlainSettings → Link → RunTrace → Type 0
ReceiversReadOneStream settings link (one trace) = ReadsOneStreamAsWritten settings link trace
ReceiversReadOneStream settings link (two trace mirror) = ReadsOneStream settings.hops link trace × ReadsOneStream settings.hops link mirror

-- Before the first record and after each, and in each era with a base, a monitor misses nothing. It
-- took every frame written inwards so far, kept each octet not yet read and the FIN, and delivered
-- after each frame all that it could. The stream of each receiver of the family that starts at the
-- same offset and hears its frames in time is a prefix of the monitor's. It took the frames in the
-- order in which they were written, whenever each arrived, from an offset of at most 2^31 on; or in
-- any order, each in time. If both sides are protected, that holds for either side.
abbrev pub MonitorMissesNothing : PlainSettings → Link → RunTrace → Type 0
MonitorMissesNothing settings link (one trace) = AtEachHistory (MissesNothingAsWritten settings link) trace
MonitorMissesNothing settings link (two trace mirror) =
    AtEachHistory (MissesNothing settings.hops link) trace × AtEachHistory (MissesNothing settings.hops link) mirror

-- Before the first record and after each, no more is held than the settings allow.
abbrev pub StateIsBounded : PlainSettings → Link → RunTrace → Type 0
StateIsBounded settings link (one trace) = IsAlwaysWithin settings link trace
StateIsBounded settings link (two trace mirror) = IsAlwaysWithin settings link trace × IsAlwaysWithin (mirrored settings) link mirror

-- Each clean record has exactly one frame with its payload, or is cut into segments that carry it,
-- unless its frame is too long and cannot be cut.
abbrev pub CleanKeepPayload : PlainSettings → Link → RunTrace → Type 0
CleanKeepPayload settings link (one trace) = CleanIsWritten settings link trace
CleanKeepPayload settings link (two trace mirror) = CleanIsKept settings link trace × CleanIsKept (mirrored settings) link mirror

-- Each frame written inwards is plain for the routers behind norm, except ARP; if both sides are
-- protected, also each frame written outwards.
abbrev pub InwardArePlain : PlainSettings → Link → RunTrace → Type 0
InwardArePlain settings link (one trace) = ArePlainInwards settings.hops link (written settings link trace)
InwardArePlain settings link (two trace mirror) = ArePlainInwards settings.hops link trace × ArePlainInwards settings.hops link mirror

-- Any two receivers of the family read each packet written inwards alike, as a segment, a UDP
-- datagram or an ICMP message; if both sides are protected, also each packet written outwards.
abbrev pub MessagesAreReadAlike : PlainSettings → Link → RunTrace → Type 0
MessagesAreReadAlike settings link (one trace) = AreReadAlike settings.hops link (written settings link trace)
MessagesAreReadAlike settings link (two trace mirror) = AreReadAlike settings.hops link trace × AreReadAlike settings.hops link mirror

-- No frame written has more than 65,549 octets. With an MTU, which only one engine may have, no
-- packet written is longer than it, except ARP.
abbrev pub FramesFit : PlainSettings → Link → RunTrace → Type 0
FramesFit settings link (one trace) = NoneIsLong settings.mtu link (written settings link trace) × AllByRecursion HasShortFrames (written settings link trace)
FramesFit settings link (two trace mirror) = AllByRecursion HasShortFrames mirror

-- The time of each record is two numbers of 32 bits.
abbrev pub HaveTimes : List Packet → Type 0
HaveTimes packets = AllByRecursion (λ (p : Packet). (p.seconds < 2 ^ 32) × (p.fraction < 2 ^ 32)) packets

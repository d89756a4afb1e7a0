-- Agreement of receivers on what was written inwards in each era of a trace (this project's
-- profile).
use Rattle.std.specs.Prelude.{ℕ, List, [], ◌∷◌, map}
use Rattle.wire_base.specs.declared.address.Link.{Link}
use Rattle.wire_base.specs.Frames.{packet_in}
use Rattle.ip_rules.specs.RuleRows.{is_inward}
use Rattle.era_agreement.specs.SentPackets.{Sent}
use Rattle.era_agreement.specs.Agreement as eras
use Rattle.tcp_norm.specs.Calls.{is_written}
use Rattle.norm_engine.specs.Items.{Item}

-- the packets of an item's frames, and the era in its entry
abbrev pub sent_for : Link → Item → Sent
sent_for link item =
    record {
      inward = is_inward item.entry.side;
      era = item.entry.era;
      written = is_written item.entry.verdict;
      packets = map (packet_in link) item.frames;
    }

-- what was sent in a trace
abbrev pub sent_in : Link → List Item → List Sent
sent_in link trace = map (sent_for link) trace

-- In each era of the trace whose base is fixed, the packets written inwards are plain, and their
-- SYNs have the number before the base. Any two receivers of the family behind at most `hops`
-- routers that start at the same offset agree: one stream is a prefix of the other, and one that
-- has ended is not the shorter. It does not matter which packets reach them in time, how often and
-- in which order. An era without a base has no octet, no SYN and no FIN inwards.
abbrev pub Agree : (hops : ℕ) → Link → List Item → Type 0
Agree hops link trace = eras.Agree hops (sent_in link trace)

-- In each era of the trace whose base is fixed, any receiver of the family behind at most `hops`
-- routers reads a part of one stream. The stream has at each offset the octet that was written
-- first there, up to the offset of the first FIN, if there is one. The receiver may start at any
-- offset, and any of the packets written inwards reach it, each in time, how often and in which
-- order.
abbrev pub ReadsOneStream : (hops : ℕ) → Link → List Item → Type 0
ReadsOneStream hops link trace = eras.ReadsOneStream hops (sent_in link trace)

-- In each era of the trace whose base is fixed, a monitor behind at most `hops` routers misses
-- nothing. The monitor takes every packet written inwards, keeps each octet not yet read and the
-- FIN, and delivers after each packet all that it can. Every other receiver's stream is a prefix of
-- its stream, if both start at the same offset and the other hears its packets in time. It has
-- ended if the other's has. It takes the packets in the order in which they were written, whenever
-- each arrives, from an offset of at most 2^31 on; or in any order, each in time.
abbrev pub MissesNothing : (hops : ℕ) → Link → List Item → Type 0
MissesNothing hops link trace = eras.MissesNothing hops (sent_in link trace)

-- this holds for each history of a trace: before its first record and after each
abbrev pub AtEachHistory : (List Item → Type 0) → List Item → Type 0
AtEachHistory P [] = P []
AtEachHistory P (item ∷ older) = AtEachHistory P older × P (item ∷ older)

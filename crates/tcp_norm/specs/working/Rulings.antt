-- Rulings on segments of either side: the outcome that each represents, what is rewritten, and what
-- changes in the tables (this project's profile).
use Rattle.std.specs.Prelude.{◌≡◌, ◌≢◌, ◌==◌, ℕ, Bool, true, false, ◌+◌, ◌-◌, ◌*◌, ◌^◌, ◌<◌, ◌≤◌, length, List, [], ◌∷◌, ◌++◌, take, IsTrue, Option, Some, None, if◌then◌else◌}
use Rattle.std.specs.List.{All, AllByRecursion, AllPairs, count_by, range_with_len}
use Rattle.wire_base.specs.Segments.{Written}
use Rattle.ipv4_codec.specs.declared.header.Ipv4.{Ipv4}
use Rattle.linked_table.specs.EntryTable as table
use Rattle.rule_book.specs.declared.rule.Rule.TheVariants as rules
use Rattle.rule_book.specs.declared.entry.Verdict.TheVariants as verdicts
use Rattle.rule_book.specs.declared.entry.Entry.{Entry}
use Rattle.norm_settings.specs.SettingValues.{PlainSettings}
use Rattle.era_state.specs.declared.probe.Probe.{Probe}
use Rattle.era_state.specs.EraFields.{WarmFor}
use Rattle.era_state.specs.KeptIntervals.{KeptOf}
use Rattle.era_state.specs.WrittenFrames.{IsGiven, IsFrame}
use Rattle.retain_store.specs.Maps.{Store, ChangesOnly, IsMap, IsWithin, Places, chain_of, holds, missing}
use Rattle.retain_store.specs.Maps as maps
use Rattle.reset_probe.specs.ProbePackets.{probe_octets}
use Rattle.ip_rules.specs.Datagrams.{Datagram, Packet, frames_of, goes_in, IsDatagram}
use Rattle.tcp_norm.specs.declared.arrival.Arrival.{Arrival}
use Rattle.tcp_norm.specs.declared.state.TcpNorm.{TcpNorm}
use Rattle.tcp_norm.specs.declared.step.Refusal.{Refusal}
use Rattle.tcp_norm.specs.declared.step.Passage.{Passage}
use Rattle.tcp_norm.specs.declared.step.Ruling.{Ruling}
use Rattle.tcp_norm.specs.declared.step.Ruling.TheVariants.{Drop, Pass, Ask}
use Rattle.tcp_norm.specs.declared.step.Taking.{Taking}
use Rattle.tcp_norm.specs.working.LiveSlots.{Live}
use Rattle.tcp_norm.specs.declared.key.Flow.{Flow}
use Rattle.tcp_norm.specs.declared.key.EraKey.{EraKey}
use Rattle.era_state.specs.declared.era.Era.{Era}
use Rattle.era_state.specs.declared.warm.Warm.{Warm}
use Rattle.era_state.specs.declared.segment.Seg.{Seg}
use Rattle.era_state.specs.declared.offered.Offered.{Offered}
use Rattle.era_state.specs.SegmentFields.{came, sent}
use Rattle.era_state.specs.Quantities.{base_at, fresh_places}
use Rattle.era_state.specs.declared.offset.Interval.{Interval}
use Rattle.linked_table.specs.declared.table.Slot.{Slot}
use Rattle.tcp_norm.specs.working.SpareSlots.{written_back}
use Rattle.era_state.specs.States.{is_acknowledged, state_of}
use Rattle.era_state.specs.Rules.{t_state, t_syn}
use Rattle.cold_start.specs.Rules.{cold_probe_of}
use Rattle.reset_probe.specs.Rules.{era_probe}
use Rattle.era_state.specs.Eras as eraspec
use Rattle.era_state.specs.EraFields as erastanding
use Rattle.wire_base.specs.Tcp as tcp
use Rattle.wire_base.specs.Options.{cleaned}
use Rattle.wire_base.specs.declared.address.FlowKey.{FlowKey}
use Rattle.wire_base.specs.declared.address.Side.TheVariants.{Inward, Outward}
use Rattle.wire_base.specs.Checksums.{pseudo_sum}
use Rattle.tcp_codec.specs.HeaderFields.{fields_of}
use Rattle.rule_book.specs.declared.entry.Reason.TheVariants as reasons
use Rattle.tcp_norm.specs.working.EraSteps.{Does}
use Rattle.tcp_norm.specs.Calls.{Call, datagram, Outcome, key_at, key_of, segment_in, segments, written_by}
use Rattle.tcp_norm.specs.RuleViews.{View, view_of}
use Rattle.tcp_norm.specs.QuotaBounds.{IsAtMost}
use Rattle.tcp_norm.specs.EmittedPackets.{packet_by, probe_packet, probe_packets, segment_anew}
use Rattle.tcp_norm.specs.working.RewrittenSegments.{anew_segment}
use Rattle.tcp_norm.specs.working.InwardSegments.{passed}
use Rattle.tcp_norm.specs.Outcomes.{call_of, outcome_at}
use Rattle.tcp_norm.specs.TableAndStore.{IsFor, StandsFor}
use Rattle.tcp_norm.specs.PassedPackets.{given, IsUnsent, Reports}
use Rattle.tcp_norm.specs.working.ColdDatagrams.{IsUnheard}
use Rattle.tcp_norm.specs.working.LiveWrites.{WritesAll}
use Rattle.tcp_norm.specs.working.EmptySegments.{BringsNone}
use Rattle.wire_base.specs.declared.limits.TheConstants.{MAX_PAYLOAD}

-- the packets of a segment that passes
abbrev pub packets_of : PlainSettings → List Written → Datagram → Passage → List Packet
packets_of settings ws d p = packet_by settings ws d d.fixes p.rows.items ∷ probe_packets settings d p.probe

-- the outcome of a ruling
abbrev pub outcome_of : PlainSettings → List Written → Datagram → Ruling → Outcome
outcome_of settings ws d (Drop r) =
    record { verdict = verdicts.Drop; rules = r.rule ∷ []; era = r.era; begun = None; ended = []; packets = probe_packets settings d r.probe }
outcome_of settings ws d (Pass p) = passed p.step d.fixes p.rows.items (packets_of settings ws d p)
outcome_of settings ws d (Ask q) = passed (record { era = None; begun = None; ended = None; full = false }) d.fixes q.rows.items (probe_packet settings d q.probe ∷ [])

-- an inbound segment that a rule rewrites is made from the fields that were read, the ruling and
-- the front of the scratch; an outbound segment has no probe
pub record IsRewritten (ws : List Written) (d : Datagram) (a : Arrival) (scratch : List ℕ) (p : Passage) : Type 0 where
  pub anew : goes_in d.side ≡ true → (length p.rows.items == 0) ≡ false → segment_anew ws d
      ≡ anew_segment a.packet.now.head a.head.now p.seq p.fin (cleaned (tcp.has_syn a.head.now.flags.0) (tcp.options a.packet.now.payload.now)) (take p.size scratch)
  pub alone : goes_in d.side ≡ false → p.probe ≡ None

-- the packets are those of the ruling: a probe only for an inbound segment
abbrev pub IsCarried : List Written → Datagram → Arrival → (scratch : List ℕ) → Ruling → Type 0
IsCarried ws d a scratch (Drop r) = a.packet.now.side ≡ Inward
IsCarried ws d a scratch (Ask q) = a.packet.now.side ≡ Inward
IsCarried ws d a scratch (Pass p) = IsRewritten ws d a scratch p

-- the refusal of a SYN of the era of this number, with these segments, by T_STATE or T_SYN
abbrev pub refused_by : List Written → Written → (number : ℕ) → Option Refusal
refused_by ws w number =
    if t_state ws w then Some (record { rule = rules.TState; era = Some number; probe = Some (cold_probe_of w) })
    else if t_syn ws w then Some (record { rule = rules.TSyn; era = Some number; probe = era_probe ws w })
    else None

-- the header that was read and the octets of the passage are no more than the longest segment
abbrev pub Fits : Arrival → Passage → Type 0
Fits a p = a.head.now.header + p.size ≤ MAX_PAYLOAD

-- a segment that passes is no longer than the longest
abbrev pub IsShort : Arrival → Ruling → Type 0
IsShort a (Drop r) = Unit {0}
IsShort a (Ask q) = Unit {0}
IsShort a (Pass p) = Fits a p

-- the ruling is that of the rule table
pub record IsRuling (settings : PlainSettings) (v : View) (d : Datagram) (a : Arrival) (scratch : List ℕ) (r : Ruling) : Type 0 where
  pub outcome_is : outcome_at settings v d ≡ outcome_of settings v.segments d r
  pub carried : IsCarried v.segments d a scratch r

-- a datagram of this outcome is counted at this time, and the scratch is as it was
pub record IsCounted (settings : PlainSettings) (calls : List Call) (d : Datagram) (o : Outcome) (now : ℕ) (old new : TcpNorm) : Type 0 where
  pub stands : StandsFor settings new (datagram now d o ∷ calls)
  pub scratch_is : new.scratch ≡ old.scratch

-- the table has the era in its slot
pub record IsHeld (t : table.Table EraKey Flow) (live : Live) : Type 0 where
  pub inside : table.IsIn t.entries live.slot
  pub entry : table.Wherever t.entries live.slot (λ e. e.value ≡ live.flow)
  pub keyed : table.Wherever t.entries live.slot (λ e. e.key.0 ≡ live.key)
  pub below : All (λ e. e.slot.0 < t.max) t.entries
  pub slots_apart : AllPairs (λ e f. e.slot ≢ f.slot) t.entries
  pub keys_apart : AllPairs (λ e f. e.key ≢ f.key) t.entries

-- the era of this entry was changed by this outbound segment and touched at this time; `acked` is
-- its greatest acknowledged offset
pub record Continues (old new : table.Table EraKey Flow) (slot : Slot) (s : Seg) (now acked : ℕ) (flow : Flow) : Type 0 where
  pub era : Era
  pub entries : new ≡ record old { entries = written_back old.entries slot (record { era = era; number = flow.number; touched = now }) }
  pub stands : (ws : List Written) (octets : List ℕ) → length octets ≡ s.len → eraspec.StandsFor flow.era ws → eraspec.StandsFor era (ws ++ sent s octets ∷ [])
  pub near : eraspec.acked_in era < eraspec.acked_in flow.era + 2 ^ 31
  pub octets_are : eraspec.octets_in era ≡ eraspec.octets_in flow.era
  pub acked_is : acked ≡ eraspec.acked_in era

-- the same of the entry in this slot
pub record SendsIn (old new : table.Table EraKey Flow) (slot : Slot) (s : Seg) (now acked : ℕ) : Type 0 where
  pub flow : Flow
  pub was : table.Wherever old.entries slot (λ e. flow ≡ e.value)
  pub continues : Continues old new slot s now acked flow

-- the entry in this slot had this value, and has this era now, with as much acknowledged and as
-- many octets, and was touched at this time
pub record Touches (old new : table.Table EraKey Flow) (slot : Slot) (now : ℕ) (flow : Flow) (era : Era) : Type 0 where
  pub was : table.Wherever old.entries slot (λ e. flow ≡ e.value)
  pub entries : new ≡ record old { entries = written_back old.entries slot (record { era = era; number = flow.number; touched = now }) }
  pub same : eraspec.acked_in era ≡ eraspec.acked_in flow.era
  pub octets_are : eraspec.octets_in era ≡ eraspec.octets_in flow.era

-- only the time of the entry in this slot has changed
pub record TouchesIn (old new : table.Table EraKey Flow) (slot : Slot) (now : ℕ) : Type 0 where
  pub flow : Flow
  pub touches : Touches old new slot now flow flow.era

-- the era of the entry in this slot heard this SYN
pub record HearsIn (old new : table.Table EraKey Flow) (slot : Slot) (s : Seg) (now : ℕ) : Type 0 where
  pub flow : Flow
  pub era : Era
  pub touches : Touches old new slot now flow era
  pub stands : (ws : List Written) → eraspec.StandsFor flow.era ws → eraspec.StandsFor era (ws ++ came s ∷ [])

-- the era of the entry in this slot was changed by a frame of this interval and touched at this
-- time; `fresh` octets of the frame are the first at their offsets
pub record TakesIn (old new : table.Table EraKey Flow) (slot : Slot) (i : Interval) (fresh now : ℕ) : Type 0 where
  pub flow : Flow
  pub era : Era
  pub was : table.Wherever old.entries slot (λ e. flow ≡ e.value)
  pub entries : new ≡ record old { entries = written_back old.entries slot (record { era = era; number = flow.number; touched = now }) }
  pub value : eraspec.ForwardsIn i fresh flow.era era
  pub stands : (ws : List Written) (w frame : Written) → eraspec.StandsFor flow.era ws → KeptOf ws w i → IsFrame ws w i frame → fresh ≡ fresh_places (base_at ws) ws i.lo i.hi
      → eraspec.StandsFor era (ws ++ frame ∷ [])
  pub same : eraspec.acked_in era ≡ eraspec.acked_in flow.era
  pub octets_are : eraspec.octets_in era ≡ eraspec.octets_in flow.era + fresh

-- the flags may be set together
abbrev pub IsLegal : Seg → Type 0
IsLegal s = tcp.are_legal s.flags.0 ≡ true

-- the segment is neither a SYN nor a RST
pub record IsPlain (a : Arrival) : Type 0 where
  pub no_syn : tcp.has_syn a.head.now.flags.0 ≡ false
  pub no_rst : tcp.has_rst a.head.now.flags.0 ≡ false

-- the segment is inbound, and of the connection of this key
pub record IsKeyed (a : Arrival) (key : FlowKey) : Type 0 where
  pub side : a.packet.now.side ≡ Inward
  pub key_is : key ≡ key_at Inward a.packet.now.head a.packet.now.payload.now

-- the segment is outbound, and its header says whether its checksum is right
pub record IsOutward (a : Arrival) : Type 0 where
  pub side : a.packet.now.side ≡ Outward
  pub fields : a.head.now ≡ fields_of (pseudo_sum a.packet.now.head.src.0 a.packet.now.head.dst.0 6 (length a.packet.now.payload.now)) a.packet.now.payload.now

-- the era is in the table, and is that of the segment's connection
pub record IsFound (norm : TcpNorm) (a : Arrival) (live : Live) : Type 0 where
  pub held : IsHeld norm.table live
  pub keyed : IsKeyed a live.key

-- the live era in this slot is that of the segment's connection
pub record IsLiveIn (norm : TcpNorm) (a : Arrival) (slot : Slot) : Type 0 where
  pub key : FlowKey
  pub inside : table.IsIn norm.table.entries slot
  pub of_key : table.Wherever norm.table.entries slot (λ e. e.key.0 ≡ key)
  pub keyed : IsKeyed a key

-- the era is in the state Warm or Closed, with these quantities
pub record IsLast (era : Era) (warm : Warm) : Type 0 where
  pub settled : (ws : List Written) → eraspec.StandsFor era ws → WarmFor warm ws
  pub acknowledged : (ws : List Written) → eraspec.StandsFor era ws → is_acknowledged (state_of ws) ≡ true
  pub gives : (i : Interval) → IsGiven warm i → eraspec.GivesTo era i

-- the octets that an era takes: the segment's own, or those at the front of the scratch
abbrev pub taken : Taking → (scratch : List ℕ) → List ℕ
taken t scratch = if t.as_read then t.own.now else take (length t.own.now) scratch

-- the octets fit into the chain, and the scratch has at least as many; if they are whole, the chain
-- has an octet at each of their offsets
pub record CanPlace (store : Store) (chain : ℕ) (t : Taking) (scratch : List ℕ) : Type 0 where
  pub offsets : t.kept.lo + length t.own.now ≤ 2 ^ 64 - 1
  pub inside : length t.own.now ≤ length scratch
  pub room : missing (chain_of store chain) t.kept.lo (length t.own.now) ≤ store.free
  pub whole : IsTrue t.whole → maps.IsWhole (chain_of store chain) t.kept.lo (length t.own.now)

-- these octets are added to the chain at the offsets that had none; `count` is the number of these
-- offsets
pub record PlacesOctets (old new : Store) (chain from : ℕ) (octets : List ℕ) (count : ℕ) : Type 0 where
  pub places : Places (chain_of old chain) (chain_of new chain) from octets
  pub fresh : count ≡ maps.fresh (chain_of old chain) from (length octets)
  pub most : count ≤ length octets
  pub free : new.free + missing (chain_of old chain) from (length octets) ≡ old.free
  pub changed : ChangesOnly old new chain
  pub map : IsMap (chain_of new chain)
  pub held : (n : ℕ) → IsWithin (chain_of new chain) (256 * n) → length (chain_of new chain) ≡ count_by (holds (chain_of new chain)) (range_with_len 0 n)

-- the era in this slot can take the octets, with this quota
pub record CanTake (entries : List (table.Entry EraKey Flow)) (store : Store) (most : Option ℕ) (slot : Slot) (t : Taking) : Type 0 where
  pub given : table.Wherever entries slot (λ e. eraspec.GivesTo e.value.era t.kept)
  pub long : t.kept.lo + length t.own.now ≡ t.kept.hi
  pub fits : length t.own.now ≤ MAX_PAYLOAD
  pub room : missing (chain_of store slot.0) t.kept.lo (length t.own.now) ≤ store.free
  pub whole : IsTrue t.whole → maps.IsWhole (chain_of store slot.0) t.kept.lo (length t.own.now)
  pub quota : IsAtMost most (length (chain_of store slot.0) + missing (chain_of store slot.0) t.kept.lo (length t.own.now))

-- the outcome writes these octets in the era, after the segments before
pub record Brings (calls : List Call) (scratch : List ℕ) (d : Datagram) (live : Live) (t : Taking) (o : Outcome) : Type 0 where
  pub key_is : live.key ≡ key_of d
  pub kept_is : KeptOf (segments live.flow.number calls) (segment_in d) t.kept
  pub frame : Written
  pub framed : IsFrame (segments live.flow.number calls) (segment_in d) t.kept frame
  pub octets_are : frame.octets ≡ taken t scratch
  pub own : written_by live.flow.number (datagram 0 d o) ≡ frame ∷ []
  pub more : List Written
  pub writes : WritesAll d live.flow.number more o

-- the outcome writes in the era what brings it no octet, and then the state of the era is this one
pub record Extends (calls : List Call) (d : Datagram) (live : Live) (e : Era) (ws : List Written) (o : Outcome) : Type 0 where
  pub key_is : live.key ≡ key_of d
  pub none : AllByRecursion BringsNone ws
  pub stands : eraspec.StandsFor e (segments live.flow.number calls ++ ws)
  pub writes : WritesAll d live.flow.number ws o

-- the outcome writes a SYN in the era
pub record Hears (calls : List Call) (d : Datagram) (live : Live) (s : Seg) (o : Outcome) : Type 0 where
  pub key_is : live.key ≡ key_of d
  pub stood : eraspec.StandsFor live.flow.era (segments live.flow.number calls)
  pub does : Does d (came s) (record { era = Some live.flow.number; begun = None; ended = None; full = false }) o

-- the outcome ends the era, and begins the next one of its connection
pub record Reopens (norm : TcpNorm) (d : Datagram) (live : Live) (era : Offered) (o : Outcome) : Type 0 where
  pub key_is : live.key ≡ key_of d
  pub first : Seg
  pub stands : erastanding.OfferedFor era (came first ∷ [])
  pub octets : ℕ
  pub does : Does d (came first) (record { era = Some (norm.begun + 1); begun = Some (norm.begun + 1); ended = Some (record { era = live.flow.number; reason = reasons.Reopened; octets = Some octets }); full = false }) o

-- the ruling on a datagram is right, and no era hears of it
pub record IsDropped (settings : PlainSettings) (calls : List Call) (d : Datagram) (a : Arrival) (norm : TcpNorm) (r : Ruling) : Type 0 where
  pub rules : IsRuling settings (view_of settings calls d) d a norm.scratch.items r
  pub unheard : IsUnheard (outcome_at settings (view_of settings calls d) d)

-- only the buffers have changed
pub record IsSame (old new : TcpNorm) : Type 0 where
  pub table_is : new.table ≡ old.table
  pub stays : (settings : PlainSettings) (calls : List Call) → StandsFor settings old calls → StandsFor settings new calls
  pub calls_are : new.calls ≡ old.calls
  pub latest_is : new.latest ≡ old.latest

-- the frames of a probe, if there is one
abbrev pub probe_frames : (link : List ℕ) → Ipv4 → (source destination : ℕ) → Option Probe → List (List ℕ)
probe_frames link ip source destination None = []
probe_frames link ip source destination (Some probe) = (link ++ probe_octets ip source destination probe) ∷ []

-- the entry and the frames are those of this outcome
pub record Shows (a : Arrival) (before after : Entry) (out : List (List ℕ)) (as_read : Bool) (o : Outcome) : Type 0 where
  pub entry : Reports before after o
  pub frames : given as_read a.packet.now.frame.now out ≡ frames_of a.link.now o.packets

-- a ruling is carried out: the entry and the frames are those of its outcome, and only the buffers
-- have changed
pub record CarriesOut (a : Arrival) (old new : TcpNorm) (before after : Entry) (out : List (List ℕ)) (as_read : Bool) (r : Ruling) : Type 0 where
  pub same : IsSame old new
  pub unsent : IsUnsent as_read a.packet.now.frame.now out
  pub shows : (settings : PlainSettings) (ws : List Written) (d : Datagram) → IsFor settings old → IsDatagram a.packet.now a.link.now d
      → IsCarried ws d a old.scratch.items r → Shows a before after out as_read (outcome_of settings ws d r)

-- the eras, the entry and the frames after a datagram are those of its outcome
pub record IsAnswered (settings : PlainSettings) (calls : List Call) (d : Datagram) (a : Arrival) (new : TcpNorm) (before after : Entry) (out : List (List ℕ)) (as_read : Bool) : Type 0 where
  pub stands : StandsFor settings new (call_of settings calls a.time d ∷ calls)
  pub shows : Shows a before after out as_read (outcome_at settings (view_of settings calls d) d)

-- after any calls; the frame that was read is not in the outbox
pub record Answers (a : Arrival) (old new : TcpNorm) (before after : Entry) (out : List (List ℕ)) (as_read : Bool) : Type 0 where
  pub unsent : IsUnsent as_read a.packet.now.frame.now out
  pub answered : (settings : PlainSettings) (calls : List Call) (d : Datagram) → StandsFor settings old calls → IsDatagram a.packet.now a.link.now d
      → IsAnswered settings calls d a new before after out as_read

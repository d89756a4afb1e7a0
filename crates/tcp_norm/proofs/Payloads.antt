-- What is sent of a payload: all where no rule touches it, else the octets in the kept interval, or
-- none.
use Rattle.std.proofs.Common.{◌++◌, ◌≡◌, ℕ, ◌&&◌, ◌||◌, not, Bool, true, false, cond, List, [], ◌∷◌, length, filter, find, Option, Some, None, is_some, refl, sym, ap, ap₂, ◌∙◌, arith, map, inl, inr, pos, ◌-ℤ◌, subst, nat_lt}
use Rattle.std.specs.List.{AllByRecursion, list_any}
use Rattle.std.proofs.lemmas.Bool.{false≢true, and_right, or_parts}
use Rattle.wire_base.specs.Tcp as tcp
use Rattle.wire_base.specs.Segments.{Written}
use Rattle.rule_book.specs.declared.rule.Rule.{Rule}
use Rattle.rule_book.specs.declared.rule.Rule.TheVariants as rules
use Rattle.rule_book.specs.Rules.{era_rows, touches_payload}
use Rattle.norm_settings.specs.SettingValues.{PlainSettings}
use Rattle.tcp_codec.specs.CleanedOptions.{CleansOctets}
use Rattle.tcp_codec.specs.MendedSegment.{MendedSayTheSame}
use Rattle.tcp_codec.specs.WrittenSegment.{AreReadBack, segment_octets}
use Rattle.era_state.specs.Quantities.{out, iss, base_of}
use Rattle.era_state.specs.ForwardedOctets.{bounds_of, offset_of, begins_below, passes_window, passes_end}
use Rattle.era_state.specs.States.{State, called, offered, warm, closed, state_of, is_called, is_offered, is_acknowledged}
use Rattle.era_state.specs.Rules as era
use Rattle.era_state.specs.QuantityLaws.{IntervalsFit}
use Rattle.cold_start.specs.Rules.{is_asked, cold_probe_of}
use Rattle.reset_probe.specs.Rules.{era_probe, probe_with, awaited_number}
use Rattle.ip_rules.specs.Datagrams.{Datagram, Packet, goes_in}
use Rattle.tcp_codec.specs.declared.header.Tcp.{Tcp}
use Rattle.era_state.specs.Offsets.{off, natural}
use Rattle.era_state.specs.SegmentMarks.{octet_at, get_at}
use Rattle.era_state.specs.declared.probe.Probe.{Probe}
use Rattle.era_state.specs.Emission.{AreEmitted}
use Rattle.ip_rules.proofs.Lists.{none_found}
use Rattle.tcp_norm.specs.Calls.{segment_in, datagram, read, is_era, is_written, written_by}
use Rattle.tcp_norm.specs.RuleViews.{View}
use Rattle.tcp_norm.specs.RuleRows.{is_live, holds_era, mends, dropped_by, mended_by, pseudo_of, clashes, c_probe, t_quota, t_room, bare_mends, header_mends, stream_mends}
use Rattle.tcp_norm.specs.EmittedPackets.{packet_by, packets_passed, probe_packet, probe_packets, segment_sent, segment_anew, bare_segment, stream_segment, sum_mended}
use Rattle.tcp_norm.specs.Outcomes.{outcome_at, outcome_by, outcome_dropped, outcome_passed}
use Rattle.tcp_norm.specs.SegmentPackets.{IsSegment, KeepsPayload}
use Rattle.tcp_norm.specs.working.EmptySegments.{BringsNone}
use Rattle.tcp_norm.proofs.StreamFrames.{Own, own, own_octets}
use Rattle.tcp_norm.proofs.Packets.{bare_fits_here, stream_fits_here}
use Rattle.tcp_norm.proofs.EmittedSegments.{packet_sent}
use Rattle.tcp_norm.proofs.BareSegments.{empty, behind}
use Rattle.tcp_norm.proofs.KeptOctets.{outbound_brings_none}
use Rattle.tcp_norm.proofs.SegmentRules.{sent_long}
use Rattle.tcp_norm.proofs.HeldBlocks.{Laws, Stands, own_stands, anew_stands}
use Rattle.tcp_norm.proofs.Connections.{get_none}
use Rattle.linked_table.proofs.Lists.{all_after}

-- A datagram on which no rule holds that touches a payload: one packet is sent, which carries what
-- its segment does.

-- a rule that is not named does not hold
unnamed : (t p : Rule → Bool) (xs : List Rule) → list_any t (filter p xs) ≡ false → AllByRecursion (λ x. t x ≡ true → p x ≡ false) xs
unnamed t p [] none = tt
unnamed t p (x ∷ xs) none = cases (p x) none (unnamed t p xs)
  where
    cases : (b : Bool) → list_any t (cond b (x ∷ filter p xs) (filter p xs)) ≡ false
        → (list_any t (filter p xs) ≡ false → AllByRecursion (λ y. t y ≡ true → p y ≡ false) xs)
        → (t x ≡ true → b ≡ false) × AllByRecursion (λ y. t y ≡ true → p y ≡ false) xs
    cases false none rest = ((λ touches. refl), rest none)
    cases true none rest =
        let parts = or_parts (t x) (list_any t (filter p xs)) none in
        ((λ touches. absurd (false≢true (sym parts.0 ∙ touches))), rest parts.1)

-- none of those that touch a payload holds
pub record Clean (p : Rule → Bool) : Type 0 where
  pub strip : p rules.TStrip ≡ false
  pub probe : p rules.CProbe ≡ false
  pub old : p rules.TOld ≡ false
  pub window : p rules.TWindow ≡ false
  pub end : p rules.TEnd ≡ false
  pub clash : p rules.TClash ≡ false

pub clean : (p : Rule → Bool) → list_any touches_payload (filter p mends) ≡ false → Clean p
clean p none =
    let each = all_after (λ rule. touches_payload rule ≡ true → p rule ≡ false) (rules.TSumOut ∷ header_mends) (bare_mends ++ stream_mends) (unnamed touches_payload p mends none) in
    record {
      strip = each.0 refl;
      probe = each.1.0 refl;
      old = each.1.1.0 refl;
      window = each.1.1.1.0 refl;
      end = each.1.1.1.1.0 refl;
      clash = each.1.1.1.1.1.0 refl;
    }

-- the packets of a datagram that no rule drops, by whether a host is asked about it, and whether it
-- is a RST to a live era
abbrev pub packets_if : PlainSettings → View → Datagram → (mended : List Rule) → (asked reset : Bool) → List Packet
packets_if settings v d mended asked reset =
    let w = segment_in d in
    cond asked (probe_packet settings d (cold_probe_of w) ∷ [])
    (packet_by settings v.segments d d.fixes mended ∷ cond reset (probe_packets settings d (era_probe v.segments w)) [])

-- without a probe its own packet goes out alone
alone : (settings : PlainSettings) (v : View) (d : Datagram) (mended : List Rule) → c_probe v (segment_in d) ≡ false
    → packets_passed settings v d mended ≡ packet_by settings v.segments d d.fixes mended ∷ []
alone settings v d mended none =
    let w = segment_in d in
    let reset = is_live v && w.inward && tcp.has_rst w.flags in
    let parts = or_parts (not (is_live v) && is_asked w) (reset && is_some (out v.segments)) none in
    ap (λ a. packets_if settings v d mended a reset) parts.0
    ∙ ap (λ l. packet_by settings v.segments d d.fixes mended ∷ l) (none_behind reset (awaited_number v.segments w) (out v.segments) w parts.1)
  where
    none_behind : (reset : Bool) (number : ℕ) (o : Option ℕ) (w : Written) → (reset && is_some o) ≡ false
        → cond reset (probe_packets settings d (probe_with number o w)) [] ≡ []
    none_behind false number o w e = refl
    none_behind true number None w e = refl
    none_behind true number (Some x) w e = cc

-- an inbound segment with neither SYN nor RST that no rule drops and no probe replaces is of the
-- stream of a live era
pub record Streams (v : View) (w : Written) : Type 0 where
  pub live : is_live v ≡ true
  pub stream : era.is_of_stream v.segments w ≡ true

reached : (s : State) (other : Bool) → ((is_called s && (not false || other)) || (is_offered s && not false)) ≡ false → is_acknowledged s ≡ true
reached called other e = cc
reached offered other e = cc
reached warm other e = refl
reached closed other e = refl

live_of : (live asked : Bool) → asked ≡ true → (not live && asked) ≡ false → live ≡ true
live_of true asked is e = refl
live_of false true is e = cc
live_of false false is e = cc

pub streams : (v : View) (w : Written) → w.inward ≡ true → tcp.has_syn w.flags ≡ false → tcp.has_rst w.flags ≡ false
    → (not (is_live v) && is_asked w) ≡ false → (is_live v && era.t_state v.segments w) ≡ false → Streams v w
streams v w inward syn rst unasked early =
    let live = live_of (is_live v) (is_asked w) (λ k. inward k && not (syn k) && not (rst k)) unasked in
    let state = state_of v.segments in
    let other = tcp.has_ack w.flags && not (era.follows (iss v.segments) w.ack) in
    let none : ((is_called state && (not false || other)) || (is_offered state && not false)) ≡ false =
    sym (λ k. live k && (inward k && not (rst k) && ((is_called state && (not (syn k) || other)) || (is_offered state && not (syn k))))) ∙ early in
    record { live = live; stream = (λ k. inward k && not (syn k) && not (rst k) && is_acknowledged state) ∙ reached state other none }

-- such a segment on which none of the rules on the stream holds has the kept interval's octets
pub owned : (v : View) (w : Written) → Streams v w → (is_live v && era.t_old v.segments w) ≡ false
    → (is_live v && era.t_window v.segments w) ≡ false → (is_live v && era.t_end v.segments w) ≡ false
    → Own (bounds_of v.segments) (offset_of v.segments w.seq) (length w.octets) (tcp.has_fin w.flags)
owned v w s old window end =
    let b = bounds_of v.segments in
    let at = offset_of v.segments w.seq in
    let row : (x : Bool) → (is_live v && (era.is_of_stream v.segments w && x)) ≡ false → x ≡ false = λ x e. sym (λ k. s.live k && (s.stream k && x)) ∙ e in
    own b at (length w.octets) (tcp.has_fin w.flags) (record {
      below = row (begins_below b at (length w.octets)) old;
      window = row (passes_window b at (length w.octets)) window;
      end = row (passes_end b at (length w.octets) (tcp.has_fin w.flags)) end;
    })

-- what the segment that goes out carries
carried : AreReadBack → CleansOctets → IntervalsFit → MendedSayTheSame → (settings : PlainSettings) (v : View) (d : Datagram) → IsSegment settings d
    → dropped_by settings v d ≡ None → Clean (holds_era settings v d) → (mended : List Rule) → tcp.payload (segment_sent v.segments d mended) ≡ tcp.payload d.octets
carried back cleans intervals same settings v d is passes rows [] = refl
carried back cleans intervals same settings v d is passes rows (rule ∷ more) = by_side (goes_in d.side) refl
  where
    w : Written
    w = segment_in d

    anew : goes_in d.side ≡ true → (b : Bool) → (tcp.has_syn w.flags || tcp.has_rst w.flags) ≡ b
        → tcp.payload (segment_octets (cond b (bare_segment d) (stream_segment v.segments d))) ≡ tcp.payload d.octets
    anew side true marked =
        let none = behind (w.inward && (tcp.has_syn w.flags || tcp.has_rst w.flags)) (nat_lt 0 (length w.octets)) (λ k. side k && marked k) rows.strip in
        (back (bare_segment d) (bare_fits_here cleans settings d is)).octets ∙ sym (empty (tcp.payload d.octets) none)
    anew side false marked =
        let flags = or_parts (tcp.has_syn w.flags) (tcp.has_rst w.flags) marked in
        let unasked = or_parts (not (is_live v) && is_asked w) (is_live v && w.inward && tcp.has_rst w.flags && is_some (out v.segments)) rows.probe in
        let undropped = none_found (holds_era settings v d) era_rows (sym (ap (λ b. cond b (find (holds_era settings v d) era_rows) None) side) ∙ passes) in
        let s = streams v w side flags.0 flags.1 unasked.0 undropped.1.0 in
        let mine = own_octets v.segments w (owned v w s rows.old rows.window rows.end) (sym (λ k. s.live k && s.stream k && clashes v.segments w) ∙ rows.clash) in
        (back (stream_segment v.segments d) (stream_fits_here cleans settings v.segments d is)).octets ∙ sym mine

    by_side : (b : Bool) → goes_in d.side ≡ b → tcp.payload (cond b (segment_octets (segment_anew v.segments d)) (sum_mended d)) ≡ tcp.payload d.octets
    by_side false side = (same (pseudo_of d) d.octets (omega (arith, is.least, is.inside)) is.least).payload
    by_side true side = anew side (tcp.has_syn w.flags || tcp.has_rst w.flags) refl

pub keeps_payload : AreReadBack → CleansOctets → IntervalsFit → MendedSayTheSame → (settings : PlainSettings) (v : View) (d : Datagram) → IsSegment settings d
    → dropped_by settings v d ≡ None → list_any touches_payload (mended_by settings v d) ≡ false
    → KeepsPayload d (mended_by settings v d) (outcome_at settings v d).packets
keeps_payload back cleans intervals same settings v d is passes none =
    let rows = clean (holds_era settings v d) none in
    let mended = mended_by settings v d in
    record {
      packet = packet_by settings v.segments d d.fixes mended;
      only = ap (λ r. (outcome_by settings v d r mended).packets) passes ∙ alone settings v d mended rows.probe;
      same = ap tcp.payload (packet_sent settings v.segments d d.fixes mended) ∙ carried back cleans intervals same settings v d is passes rows mended;
      whole = λ unfixed unmended. ap₂ (packet_by settings v.segments d) unfixed unmended;
    }

-- What a call of a datagram writes: segments that bring no octet, or one whose octets are in the
-- kept interval.

-- What is written: nothing that brings an octet, or, in a live era and where T_QUOTA and T_ROOM do
-- not hold, one frame.
pub data Writes (settings : PlainSettings) (v : View) (d : Datagram) (more : List Written) : Type 0 where
  silent : AllByRecursion BringsNone more → Writes settings v d more
  framed : (frame : Written) → more ≡ frame ∷ [] → Streams v (segment_in d) → t_quota settings v (segment_in d) ≡ false → t_room v (segment_in d) ≡ false
      → Stands v.segments (segment_in d) frame → Writes settings v d more

-- the packet carries nothing
abbrev IsEmpty : Packet → Type 0
IsEmpty p = tcp.payload p.octets ≡ []

brings_none : (inward : Bool) (m : List ℕ) → tcp.payload m ≡ [] → BringsNone (read inward m)
brings_none inward m none base at o = cases inward
  where
    cases : (b : Bool) → octet_at base at (pos o) (read b m) ≡ None
    cases false = refl
    cases true = ap (λ l. octet_at base at (pos o) (record (read true m) { octets = l })) none ∙ get_none (natural (pos o -ℤ off base at (tcp.sequence m)))

all_silent : (d : Datagram) (ps : List Packet) → AllByRecursion IsEmpty ps → AllByRecursion BringsNone (map (λ p. read (goes_in d.side) p.octets) ps)
all_silent d [] all = tt
all_silent d (p ∷ ps) all = (brings_none (goes_in d.side) p.octets all.0, all_silent d ps all.1)

-- outwards no octet of the stream goes
outwards : (side : Bool) (ps : List Packet) → side ≡ false → AllByRecursion BringsNone (map (λ p. read side p.octets) ps)
outwards side [] e = tt
outwards side (p ∷ ps) e = (outbound_brings_none (read side p.octets) e, outwards side ps e)

-- the packets of a datagram whose own carries nothing
packets_empty : (settings : PlainSettings) (v : View) (d : Datagram) (mended : List Rule) → IsEmpty (packet_by settings v.segments d d.fixes mended)
    → (asked reset : Bool) → AllByRecursion IsEmpty (packets_if settings v d mended asked reset)
packets_empty settings v d mended none true reset = (refl, tt)
packets_empty settings v d mended none false false = (none, tt)
packets_empty settings v d mended none false true = (none, behind_it (era_probe v.segments (segment_in d)))
  where
    behind_it : (probe : Option Probe) → AllByRecursion IsEmpty (probe_packets settings d probe)
    behind_it None = tt
    behind_it (Some p) = (refl, tt)

-- a SYN or RST goes inwards without octets
bare_empty : Laws → (settings : PlainSettings) (v : View) (d : Datagram) → IsSegment settings d → goes_in d.side ≡ true
    → (tcp.has_syn (segment_in d).flags || tcp.has_rst (segment_in d).flags) ≡ true → (mended : List Rule) → mended_by settings v d ≡ mended
    → tcp.payload (segment_sent v.segments d mended) ≡ []
bare_empty l settings v d is side marked [] named =
    let w = segment_in d in
    let rows = clean (holds_era settings v d) (ap (list_any touches_payload) named) in
    empty (tcp.payload d.octets) (behind (w.inward && (tcp.has_syn w.flags || tcp.has_rst w.flags)) (nat_lt 0 (length w.octets)) (λ k. side k && marked k) rows.strip)
bare_empty l settings v d is side marked (rule ∷ more) named =
    ap (λ b. tcp.payload (cond b (segment_octets (segment_anew v.segments d)) (sum_mended d))) side
    ∙ (ap (λ b. tcp.payload (segment_octets (cond b (bare_segment d) (stream_segment v.segments d)))) marked
    ∙ (l.back (bare_segment d) (bare_fits_here l.cleans settings d is)).octets)

-- a segment of the stream goes inwards with the octets of its interval
stream_stands : Laws → (settings : PlainSettings) (v : View) (d : Datagram) → IsSegment settings d → goes_in d.side ≡ true
    → (tcp.has_syn (segment_in d).flags || tcp.has_rst (segment_in d).flags) ≡ false → Streams v (segment_in d)
    → (mended : List Rule) → mended_by settings v d ≡ mended → Stands v.segments (segment_in d) (read true (segment_sent v.segments d mended))
stream_stands l settings v d is side unmarked s [] named =
    let w = segment_in d in
    let rows = clean (holds_era settings v d) (ap (list_any touches_payload) named) in
    let mine = own_stands v.segments w (owned v w s rows.old rows.window rows.end) in
    subst (λ b. Stands v.segments w (read b d.octets)) side mine
stream_stands l settings v d is side unmarked s (rule ∷ more) named =
    let w = segment_in d in
    let r = l.back (stream_segment v.segments d) (stream_fits_here l.cleans settings v.segments d is) in
    let sent : segment_sent v.segments d (rule ∷ more) ≡ segment_octets (stream_segment v.segments d) =
    ap (λ b. cond b (segment_octets (segment_anew v.segments d)) (sum_mended d)) side ∙ ap (λ b. segment_octets (cond b (bare_segment d) (stream_segment v.segments d))) unmarked in
    subst (λ m. Stands v.segments w (read true m)) (sym sent)
    (anew_stands l v.segments w (read true (segment_octets (stream_segment v.segments d))) (ap (λ (h : Tcp). h.seq) r.header) (ap length r.octets ∙ sent_long v.segments w))

-- these packets as they are written
abbrev as_written : Datagram → List Packet → List Written
as_written d packets = map (λ p. read (goes_in d.side) p.octets) packets

-- what is sent of a datagram that no rule drops
passed_writes : Laws → (settings : PlainSettings) (v : View) (d : Datagram) → IsSegment settings d → dropped_by settings v d ≡ None
    → (mended : List Rule) → mended_by settings v d ≡ mended → Writes settings v d (as_written d (packets_passed settings v d mended))
passed_writes l settings v d is passes mended named = by_side (goes_in d.side) refl
  where
    w : Written
    w = segment_in d

    reset : Bool
    reset = is_live v && w.inward && tcp.has_rst w.flags

    packets : Bool → List Packet
    packets asked = packets_if settings v d mended asked reset

    none : goes_in d.side ≡ true → AllByRecursion (λ x. holds_era settings v d x ≡ false) era_rows
    none side = none_found (holds_era settings v d) era_rows (sym (ap (λ b. cond b (find (holds_era settings v d) era_rows) None) side) ∙ passes)

    stream : goes_in d.side ≡ true → tcp.has_syn w.flags ≡ false → tcp.has_rst w.flags ≡ false → (asked : Bool) → (not (is_live v) && is_asked w) ≡ asked
        → Writes settings v d (as_written d (packets asked))
    stream side syn rst true e = silent (all_silent d (packets true) (refl, tt))
    stream side syn rst false e =
        let rows = none side in
        let s = streams v w side syn rst e rows.1.0 in
        let alone : packets false ≡ packet_by settings v.segments d d.fixes mended ∷ [] =
        ap (packets_if settings v d mended false) (and_right (is_live v && w.inward) (tcp.has_rst w.flags) rst) in
        let sent = ap₂ read side (packet_sent settings v.segments d d.fixes mended) in
        framed (read true (segment_sent v.segments d mended)) (ap (as_written d) alone ∙ ap (λ x. x ∷ []) sent) s rows.1.1.1.1.1.0 rows.1.1.1.1.1.1.0
        (stream_stands l settings v d is side (λ k. syn k || rst k) s mended named)

    marked : goes_in d.side ≡ true → (b : Bool) → (tcp.has_syn w.flags || tcp.has_rst w.flags) ≡ b → (asked : Bool) → (not (is_live v) && is_asked w) ≡ asked
        → Writes settings v d (as_written d (packets asked))
    marked side true e asked same =
        let empty = ap tcp.payload (packet_sent settings v.segments d d.fixes mended) ∙ bare_empty l settings v d is side e mended named in
        silent (all_silent d (packets asked) (packets_empty settings v d mended empty asked reset))
    marked side false e asked same = let flags = or_parts (tcp.has_syn w.flags) (tcp.has_rst w.flags) e in stream side flags.0 flags.1 asked same

    by_side : (b : Bool) → goes_in d.side ≡ b → Writes settings v d (as_written d (packets_passed settings v d mended))
    by_side false side = silent (outwards (goes_in d.side) (packets_passed settings v d mended) side)
    by_side true side = marked side (tcp.has_syn w.flags || tcp.has_rst w.flags) refl (not (is_live v) && is_asked w) refl

-- what is written in an era
pub call_writes : Laws → (settings : PlainSettings) (v : View) (d : Datagram) (now n : ℕ) → IsSegment settings d
    → Writes settings v d (written_by n (datagram now d (outcome_at settings v d)))
call_writes l settings v d now n is = by_row (dropped_by settings v d) refl
  where
    named : List Rule
    named = mended_by settings v d

    by_row : (rule : Option Rule) → dropped_by settings v d ≡ rule → Writes settings v d (written_by n (datagram now d (outcome_by settings v d rule named)))
    by_row (Some rule) drops =
        let unwritten : (is_era n v.era && false) ≡ false = and_right (is_era n v.era) false refl in
        silent (subst (AllByRecursion BringsNone) (sym (ap (λ b. cond b (as_written d (outcome_dropped settings v d rule).packets) []) unwritten)) tt)
    by_row None passes =
        let o = outcome_passed settings v d named in
        elim (is_era n o.era && is_written o.verdict) as (λ b. Writes settings v d (cond b (as_written d o.packets) [])) [
          | true ↦ passed_writes l settings v d is passes named refl
          | false ↦ silent tt
        ]

-- a frame needs a base
pub first_is_silent : (frame : Written) → AreEmitted [] (frame ∷ []) → BringsNone frame
first_is_silent frame emitted base at o =
    elim emitted.0 [
      | inl out ↦ outbound_brings_none frame out.outward base at o
      | inr (inl bare) ↦ none_in bare.no_octets
      | inr (inr kept) ↦ absurd (unbased kept.based)
    ]
  where
    unbased : {b : ℕ} → base_of [] ≡ Some b → ⊥
    unbased e = cc

    none_in : frame.octets ≡ [] → octet_at base at (pos o) frame ≡ None
    none_in e = cases frame.inward
      where
        cases : (b : Bool) → cond b (get_at frame.octets (natural (pos o -ℤ off base at frame.seq))) None ≡ None
        cases true = ap (λ l. get_at l (natural (pos o -ℤ off base at frame.seq))) e ∙ get_none (natural (pos o -ℤ off base at frame.seq))
        cases false = refl

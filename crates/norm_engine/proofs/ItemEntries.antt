-- An item's entry: its count of frames, at most this number of rules, no T_ROOM if there are cells
-- for all.
use Rattle.std.proofs.Common.{◌≡◌, ◌≤◌, ◌&&◌, not, Bool, true, false, cond, List, [], ◌∷◌, ◌++◌, length, filter, Option, Some, None, refl, sym, ap, subst, ◌∙◌, arith, append_assoc, ℕ, ◌≢◌, ◌*◌, find, option_map}
use Rattle.std.proofs.lemmas.List.{length-append, length-map}
use Rattle.std.specs.List.{AllByRecursion, list_any}
use Rattle.std.specs.Option.{option_or}
use Rattle.std.proofs.lemmas.Bool.{or_parts}
use Rattle.wire_base.specs.declared.address.Link.{Link}
use Rattle.wire_base.specs.Tcp as tcp
use Rattle.pcap_file.specs.Records as records
use Rattle.rule_book.specs.declared.rule.Rule.{Rule}
use Rattle.rule_book.specs.declared.rule.Rule.TheVariants as rules
use Rattle.norm_settings.specs.SettingValues.{PlainSettings}
use Rattle.ip_rules.specs.JudgedRecord.{where_holds}
use Rattle.ip_rules.specs.RuleRows.{ip_fixes, piece_fix_rows, holds_ip, ip_drop_rows, ip_dropped_by}
use Rattle.ip_rules.specs.Datagrams.{Datagram, goes_in, Packet, frame_of}
use Rattle.dgram_rules.specs.RuleRows.{holds_dgram, dgram_dropped_by}
use Rattle.reassembly.specs.RuleRows as fragments
use Rattle.tcp_norm.specs.RuleRows as era
use Rattle.tcp_norm.specs.Calls.{segment_in, segments, Call}
use Rattle.tcp_norm.specs.RuleViews.{View, view_of, idle_at}
use Rattle.tcp_norm.specs.Outcomes.{outcome_by, outcome_at, ends}
use Rattle.wire_base.specs.Segments.{Written}
use Rattle.wire_base.specs.Frames.{link_octets}
use Rattle.rule_book.specs.declared.entry.Ended.{Ended}
use Rattle.rule_book.specs.declared.entry.Reason.{Reason}
use Rattle.rule_book.specs.declared.entry.Reason.TheVariants as reasons
use Rattle.rule_book.specs.Entries.{HasOctets}
use Rattle.era_state.specs.declared.probe.Probe.{Probe}
use Rattle.era_state.specs.Quantities.{octets_of}
use Rattle.tcp_norm.specs.IdleEnds.{idled}
use Rattle.tcp_norm.specs.EmittedPackets.{probe_packet, probe_packets, probe_dropped}
use Rattle.rule_book.specs.Rules.{datagram_rows, fix_rows, fragment_rows, segment_rows, step_rows}
use Rattle.icmp_codec.specs.QuotedPacket.{quoted_in}
use Rattle.tcp_norm.specs.SegmentPackets.{AreOfSegments, QuotaLeavesRoom}
use Rattle.tcp_norm.proofs.Lists.{fewer}
use Rattle.reassembly.specs.RuleRows.{holds_fragment}
use Rattle.reassembly.proofs.Rules.{first_row_drops}
use Rattle.norm_engine.specs.Items.{Item, now_with}
use Rattle.norm_engine.specs.Fragments.{Offering, holds_offered, i_ttl}
use Rattle.norm_engine.specs.RuleRows.{is_segment, holds_tcp}
use Rattle.norm_engine.specs.Calls.{Past, datagram_after, past_of, segment_after, where_passes, flow_calls}
use Rattle.norm_engine.specs.Trace.{Read, read_after, is_held, dropped_by, named_rows, rules_by, item_of, frames_by, frames_with, outcome_of, ended_by, is_quoted_live, holds, noted_rows}
use Rattle.norm_engine.specs.TraceLaws.{ItemsAreCounted, LawfulCallsAreMade, LawfulLeavesRoom, IsSound}
use Rattle.norm_engine.proofs.Items.{segment_rules, nothing_noted, found_of}
use Rattle.norm_engine.proofs.Datagrams.{IsMade, made_of, named_of_piece, passes, row_of_piece, row_of_datagram, row_of_header, row_of_era, notes_of_era, no_pass}
use Rattle.norm_engine.proofs.Layers.{bare_named, datagram_named_is, dropped_by_layers, noted_by_layers}
use Rattle.norm_engine.proofs.Frames.{few_parts}
use Rattle.norm_engine.proofs.Traces.{RowsAreOfEras}
use Rattle.tcp_norm.proofs.EmittedSegments.{inward_few}
use Rattle.tcp_norm.proofs.OutboundSegments.{out_mended}

-- The number of rules in an entry.

-- a rule that does not hold is not named, and one rule adds at most one
skipped : (test : Rule → Bool) (rule : Rule) (more : List Rule) → test rule ≡ false → length (filter test (rule ∷ more)) ≤ length (filter test more)
skipped test rule more no_pass = let e : length (filter test (rule ∷ more)) ≡ length (filter test more) = ap (λ b. length (cond b (rule ∷ filter test more) (filter test more))) no_pass in omega (arith, e)

at_most_one : (b : Bool) (rule : Rule) → length (where_holds b rule) ≤ 1
at_most_one true rule = omega arith
at_most_one false rule = omega arith

-- the rules of a fragment that is not held
piece_few : (piece : Option Offering) → holds_offered piece rules.FHeld ≡ false → length (named_of_piece piece) ≤ 1
piece_few None held = omega arith
piece_few (Some o) held =
    let test = fragments.holds_fragment o.view o.piece in
    let skip = skipped test rules.FHeld (rules.FDone ∷ []) held in
    let rest = fewer test (rules.FDone ∷ []) in
    omega (arith, skip, rest)

-- the rules that rewrite a datagram before those of its segment
fixes_few : (settings : PlainSettings) (link : Link) (read : Read) (r : records.Packet) (d : Datagram) → IsMade settings link read r d → length d.fixes ≤ 5
fixes_few settings link read r d m =
    let parts = ip_fixes settings link r piece_fix_rows in
    let life = where_holds (i_ttl settings d) rules.ITtl in
    let piece = named_of_piece read.piece in
    let size : length d.fixes ≡ length (parts ++ (life ++ piece)) = ap length (sym m.fixes) in
    omega (arith, size, length-append parts (life ++ piece), length-append life piece, few_parts settings link r, at_most_one (i_ttl settings d) rules.ITtl, piece_few read.piece m.held)

-- the rules of a segment
module _ (settings : PlainSettings) (v : View) (d : Datagram) where
  segment_few : length d.fixes ≤ 5 → (inward : Bool) → goes_in d.side ≡ inward → length (era.noted v d ++ (d.fixes ++ era.mended_by settings v d)) ≤ 14
  segment_few few true side =
      let none : length (era.noted v d) ≡ 0 = ap (λ b. length (cond (not b && era.t_full v (segment_in d)) (rules.TFull ∷ []) [])) side in
      omega (arith, few, length-append (era.noted v d) (d.fixes ++ era.mended_by settings v d), length-append d.fixes (era.mended_by settings v d), none, inward_few settings v d side)
  segment_few few false side =
      let note : length (era.noted v d) ≤ 1 = at_most_one (not (goes_in d.side) && era.t_full v (segment_in d)) rules.TFull in
      let sum : length (era.mended_by settings v d) ≤ 1 = subst (λ l. length l ≤ 1) (sym (out_mended settings v d _ side refl)) (at_most_one (era.t_sum_out settings d) rules.TSumOut) in
      omega (arith, few, length-append (era.noted v d) (d.fixes ++ era.mended_by settings v d), length-append d.fixes (era.mended_by settings v d), note, sum)

  outcome_few : length d.fixes ≤ 5 → (dropped : Option Rule) → length (outcome_by settings v d dropped (era.mended_by settings v d)).rules ≤ 14
  outcome_few few (Some rule) = omega arith
  outcome_few few None =
      subst (λ xs. length xs ≤ 14) (sym (append_assoc (era.noted v d) d.fixes (era.mended_by settings v d))) (segment_few few (goes_in d.side) refl)

-- a record that is not a segment
plain_few : (dropped : Option Rule) (held : Bool) (named : List Rule) → (held ≡ false → length named ≤ 14) → length (rules_by dropped held [] named) ≤ 14
plain_few (Some rule) held named few = omega arith
plain_few None true named few = omega arith
plain_few None false named few = few refl

pub rules_are_few : RowsAreOfEras → (settings : PlainSettings) (link : Link) (history : List Item) (r : records.Packet) → length (item_of settings link history r).entry.rules ≤ 14
rules_are_few rows settings link history r = by (segment_after settings link history r) refl
  where
    read : Read
    read = read_after settings link history r

    past : Past
    past = past_of settings link history r

    named_few : read.segment ≡ None → (datagram : Option Datagram) → read.datagram ≡ datagram → is_held read ≡ false → length (named_rows settings link read r) ≤ 14
    named_few none None h held =
        let parts = ip_fixes settings link r piece_fix_rows in
        let size : length (named_rows settings link read r) ≡ length (parts ++ named_of_piece read.piece) = ap length (bare_named settings link past r h) in
        omega (arith, size, length-append parts (named_of_piece read.piece), few_parts settings link r, piece_few read.piece held)
    named_few none (Some d) h held =
        let other = no_pass (is_segment settings d) d (sym (ap (where_passes (is_segment settings)) h) ∙ none) in
        let made = made_of settings link past r d h in
        let sum = where_holds (holds_dgram settings false d rules.USumOut) rules.USumOut in
        let size : length (named_rows settings link read r) ≡ length (d.fixes ++ sum) = ap length (datagram_named_is settings link past r d made other) in
        omega (arith, size, length-append d.fixes sum, fixes_few settings link read r d made, at_most_one (holds_dgram settings false d rules.USumOut) rules.USumOut)

    by : (segment : Option Datagram) → segment_after settings link history r ≡ segment → length (item_of settings link history r).entry.rules ≤ 14
    by None h =
        subst (λ noted. length (rules_by (dropped_by settings link read r) (is_held read) noted (named_rows settings link read r)) ≤ 14) (sym (nothing_noted settings link read r h))
        (plain_few (dropped_by settings link read r) (is_held read) (named_rows settings link read r) (named_few h read.datagram refl))
    by (Some d) h =
        let v = view_of settings read.past.calls d in
        let here = passes (is_segment settings) (datagram_after settings link history r) d h in
        subst (λ xs. length xs ≤ 14) (sym (segment_rules settings link read r d (rows settings link history r d h)))
        (outcome_few settings v d (fixes_few settings link read r d (made_of settings link past r d here.0)) (era.dropped_by settings v d))

-- An entry counts the frames of its item, of which there are at most two, and reports each era that
-- ended with its octets.

one_probe : (settings : PlainSettings) (d : Datagram) (probe : Option Probe) → length (probe_packets settings d probe) ≤ 1
one_probe settings d None = omega arith
one_probe settings d (Some probe) = omega arith

few_passed : (settings : PlainSettings) (d : Datagram) (asked reset : Bool) (own : Packet) (cold : Probe) (probe : Option Probe)
    → length (cond asked (probe_packet settings d cold ∷ []) (own ∷ cond reset (probe_packets settings d probe) [])) ≤ 2
few_passed settings d true reset own cold probe = omega arith
few_passed settings d false true own cold probe = let one = one_probe settings d probe in omega (arith, one)
few_passed settings d false false own cold probe = omega arith

few_packets : (settings : PlainSettings) (v : View) (d : Datagram) (dropped : Option Rule) (mended : List Rule) → length (outcome_by settings v d dropped mended).packets ≤ 2
few_packets settings v d (Some rule) mended = let one = one_probe settings d (probe_dropped v d rule) in omega (arith, one)
few_packets settings v d None mended = few_passed settings d _ _ _ _ _

few_plain : (dropped : Option Rule) (held : Bool) (passed : List ℕ) → length (frames_by dropped held passed) ≤ 2
few_plain None true passed = omega arith
few_plain None false passed = omega arith
few_plain (Some rule) held passed = omega arith

few_frames : (settings : PlainSettings) (link : Link) (read : Read) (r : records.Packet) (segment : Option Datagram) → length (frames_with settings link read r segment) ≤ 2
few_frames settings link read r None = few_plain (dropped_by settings link read r) (is_held read) _
few_frames settings link read r (Some d) =
    let v = view_of settings read.past.calls d in
    subst (λ n. n ≤ 2) (sym (length-map (outcome_at settings v d).packets (frame_of (link_octets link r.octets)))) (few_packets settings v d (era.dropped_by settings v d) (era.mended_by settings v d))

-- each era that ended is reported with its octets

both_told : (xs ys : List Ended) → AllByRecursion (HasOctets 2) xs → AllByRecursion (HasOctets 2) ys → AllByRecursion (HasOctets 2) (xs ++ ys)
both_told [] ys a b = b
both_told (x ∷ xs) ys a b = (a.0, both_told xs ys a.1 b)

idle_told : (segments : ℕ → List Written) (numbers : List ℕ) → AllByRecursion (HasOctets 2) (idled segments numbers)
idle_told segments [] = tt
idle_told segments (n ∷ ns) = (refl, idle_told segments ns)

ends_told : (number : Option ℕ) (octets : ℕ) (reason : Reason) → AllByRecursion (HasOctets 2) (ends number octets reason)
ends_told None octets reason = tt
ends_told (Some era) octets reason = (refl, tt)

ended_told : (v : View) (again taken reset : Bool) (own : ℕ)
    → AllByRecursion (HasOctets 2) (cond again (ends v.era own reasons.Reopened) (cond taken (ends v.evictable v.evictable_octets reasons.Evicted) (cond reset (ends v.era own reasons.Reset) [])))
ended_told v true taken reset own = ends_told v.era own reasons.Reopened
ended_told v false true reset own = ends_told v.evictable v.evictable_octets reasons.Evicted
ended_told v false false true own = ends_told v.era own reasons.Reset
ended_told v false false false own = tt

outcome_told : (settings : PlainSettings) (v : View) (d : Datagram) (dropped : Option Rule) (mended : List Rule) → AllByRecursion (HasOctets 2) (outcome_by settings v d dropped mended).ended
outcome_told settings v d (Some rule) mended = tt
outcome_told settings v d None mended =
    let w = segment_in d in
    ended_told v (era.reopens v w) (era.begins v w && v.is_full) (not w.inward && tcp.has_rst w.flags) (octets_of v.segments)

segment_told : (settings : PlainSettings) (read : Read) (segment : Option Datagram) → AllByRecursion (HasOctets 2) (ended_by (option_map (outcome_of settings read) segment))
segment_told settings read None = tt
segment_told settings read (Some d) =
    let v = view_of settings read.past.calls d in
    outcome_told settings v d (era.dropped_by settings v d) (era.mended_by settings v d)

pub items_counted : ItemsAreCounted
items_counted settings link history r =
    let read = read_after settings link history r in
    record {
      packets = refl;
      few = few_frames settings link read r read.segment;
      octets = both_told read.past.idle (ended_by (option_map (outcome_of settings read) read.segment))
          (idle_told (λ number. segments number (flow_calls settings link history)) (idle_at settings (now_with history r) (flow_calls settings link history)))
          (segment_told settings read read.segment);
    }

-- T_ROOM drops nothing if there are cells for all.

abbrev is_room : Rule → Bool
is_room rules.TRoom = true
is_room _ = false

none_are : (test : Rule → Bool) (rows : List Rule) → list_any test rows ≡ false → AllByRecursion (λ x. test x ≡ false) rows
none_are test [] h = tt
none_are test (x ∷ xs) h = let both = or_parts (test x) (list_any test xs) h in (both.0, none_are test xs both.1)

-- none of these rules is this one
not_among : (test : Rule → Bool) (f : Rule → Bool) (rows : List Rule) (rule : Rule) → AllByRecursion (λ x. test x ≡ false) rows → test rule ≡ true → find f rows ≡ Some rule → ⊥
not_among test f rows rule all is h = let other : test rule ≡ false = found_of (λ x. test x ≡ false) f rows rule all h in absurd (cc)

left_by : {A : Type 0} (x : A) (one other : Option A) → (one ≡ Some x → ⊥) → option_or one other ≡ Some x → (one ≡ None) × (other ≡ Some x)
left_by x None other never h = (refl, h)
left_by x (Some y) other never h = absurd (never h)

-- a rule of the last layer
record IsLate (test : Rule → Bool) : Type 0 where
  ip : AllByRecursion (λ x. test x ≡ false) ip_drop_rows
  piece : AllByRecursion (λ x. test x ≡ false) fragment_rows
  datagram : AllByRecursion (λ x. test x ≡ false) datagram_rows
  header : AllByRecursion (λ x. test x ≡ false) segment_rows

room_late : IsLate is_room
room_late = record {
  ip = none_are is_room ip_drop_rows refl;
  piece = none_are is_room fragment_rows refl;
  datagram = none_are is_room datagram_rows refl;
  header = none_are is_room segment_rows refl;
}

module _ (settings : PlainSettings) (link : Link) (r : records.Packet) (read : Read) where
  late_row : (test : Rule → Bool) (rule : Rule) → IsLate test → test rule ≡ true → dropped_by settings link read r ≡ Some rule
      → row_of_era settings read.past.calls read.segment ≡ Some rule
  unfolding ip_dropped_by dgram_dropped_by
  late_row test rule late is h =
      let one = left_by rule (ip_dropped_by settings link r) _ not_ip (sym (dropped_by_layers settings link r read) ∙ h) in
      let two = left_by rule (row_of_piece read.piece) _ (not_piece read.piece) one.1 in
      let three = left_by rule (row_of_datagram settings read.past.calls read.datagram) _ (not_datagram read.datagram) two.1 in
      (left_by rule (row_of_header settings read.datagram) _ (not_header read.datagram) three.1).1
    where
      not_ip : ip_dropped_by settings link r ≡ Some rule → ⊥
      not_ip = not_among test (holds_ip settings link r) ip_drop_rows rule late.ip is

      not_piece : (piece : Option Offering) → row_of_piece piece ≡ Some rule → ⊥
      not_piece None h = absurd (cc)
      not_piece (Some o) h = not_among test (holds_fragment o.view o.piece) fragment_rows rule late.piece is (sym (first_row_drops o.view o.piece) ∙ h)

      not_datagram : (datagram : Option Datagram) → row_of_datagram settings read.past.calls datagram ≡ Some rule → ⊥
      not_datagram None h = absurd (cc)
      not_datagram (Some d) h = not_among test (holds_dgram settings (is_quoted_live read.past.calls (quoted_in d.octets)) d) datagram_rows rule late.datagram is h

      not_header : (datagram : Option Datagram) → row_of_header settings datagram ≡ Some rule → ⊥
      not_header None h = absurd (cc)
      not_header (Some d) h = not_among test (holds_tcp settings d) segment_rows rule late.header is h

undropped_by_room : LawfulCallsAreMade → QuotaLeavesRoom → (settings : PlainSettings) (link : Link) (history : List Item) (r : records.Packet) (most : ℕ) → IsSound settings link history
    → settings.quota ≡ Some most → settings.flows * most ≤ settings.cells → dropped_by settings link (read_after settings link history r) r ≢ Some rules.TRoom
undropped_by_room made room settings link history r most sound quota cells h =
    let read = read_after settings link history r in
    let before = made settings link history sound in
    let calls : AreOfSegments settings read.past.calls = record { made = (refl, before.made); asked = (tt, before.asked) } in
    by calls read.segment (late_row settings link r read is_room rules.TRoom room_late refl h)
  where
    by : AreOfSegments settings (past_of settings link history r).calls → (segment : Option Datagram)
        → row_of_era settings (past_of settings link history r).calls segment ≡ Some rules.TRoom → ⊥
    by calls None late = absurd (cc)
    by calls (Some d) late = room settings (past_of settings link history r).calls d most calls quota cells late

-- no rule in the entry is T_ROOM

abbrev IsNotRoom : Rule → Type 0
IsNotRoom rule = rule ≢ rules.TRoom

not_room : (rule : Rule) → is_room rule ≡ false → IsNotRoom rule
not_room rule is e = let room : is_room rule ≡ true = ap is_room e in absurd (cc)

none_room : (rows : List Rule) → AllByRecursion (λ x. is_room x ≡ false) rows → AllByRecursion IsNotRoom rows
none_room [] all = tt
none_room (x ∷ xs) all = (not_room x all.0, none_room xs all.1)

kept_by : (b : Bool) (x : Rule) (rest : List Rule) → IsNotRoom x → AllByRecursion IsNotRoom rest → AllByRecursion IsNotRoom (cond b (x ∷ rest) rest)
kept_by true x rest here all = (here, all)
kept_by false x rest here all = all

kept_rows : (f : Rule → Bool) (rows : List Rule) → AllByRecursion IsNotRoom rows → AllByRecursion IsNotRoom (filter f rows)
kept_rows f [] all = tt
kept_rows f (x ∷ xs) all = kept_by (f x) x (filter f xs) all.0 (kept_rows f xs all.1)

both_rows : (xs ys : List Rule) → AllByRecursion IsNotRoom xs → AllByRecursion IsNotRoom ys → AllByRecursion IsNotRoom (xs ++ ys)
both_rows [] ys a b = b
both_rows (x ∷ xs) ys a b = (a.0, both_rows xs ys a.1 b)

of_rules : (dropped : Option Rule) (held : Bool) (noted named : List Rule) → dropped ≢ Some rules.TRoom → AllByRecursion IsNotRoom noted → AllByRecursion IsNotRoom named
    → AllByRecursion IsNotRoom (rules_by dropped held noted named)
of_rules (Some rule) held noted named never a b = (λ e. never (ap Some e), tt)
of_rules None true noted named never a b = (not_room rules.FHeld refl, tt)
of_rules None false noted named never a b = both_rows noted named a b

note_rows : (b : Bool) → AllByRecursion IsNotRoom (cond b (rules.TFull ∷ []) [])
note_rows true = (not_room rules.TFull refl, tt)
note_rows false = tt

notes : (settings : PlainSettings) (calls : List Call) (segment : Option Datagram) → AllByRecursion IsNotRoom (notes_of_era settings calls segment)
notes settings calls None = tt
notes settings calls (Some d) = note_rows _

named_room : (settings : PlainSettings) (link : Link) (read : Read) (r : records.Packet) → AllByRecursion IsNotRoom (named_rows settings link read r)
unfolding named_rows
named_room settings link read r = kept_rows (holds settings link read r) (fix_rows ++ step_rows) (none_room (fix_rows ++ step_rows) (none_are is_room (fix_rows ++ step_rows) refl))

pub leaves_room : LawfulCallsAreMade → QuotaLeavesRoom → LawfulLeavesRoom
leaves_room made room settings link history r most sound quota cells =
    let read = read_after settings link history r in
    of_rules (dropped_by settings link read r) (is_held read) (noted_rows settings link read r) (named_rows settings link read r)
    (undropped_by_room made room settings link history r most sound quota cells)
    (subst (AllByRecursion IsNotRoom) (sym (noted_by_layers settings link r read)) (notes settings read.past.calls read.segment))
    (named_room settings link read r)

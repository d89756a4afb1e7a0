-- The item of a record as it was judged: its frames, verdict, rules and calls, and what is read
-- back of it.
use Rattle.std.proofs.Common.{◌≡◌, ℕ, Bool, true, false, cond, ◌&&◌, not, List, [], ◌∷◌, ◌++◌, length, take, map, filter, Option, Some, None, refl, sym, ap, ap₂, ◌∙◌, find, subst, option_map}
use Rattle.std.specs.List.{AllByRecursion, list_all}
use Rattle.std.proofs.lemmas.List.{append_assoc, append-nil, length-map}
use Rattle.std.proofs.Math.Seq.{take-append_seam}
use Rattle.std.proofs.lemmas.List.Elements.{filter-append}
use Rattle.wire_base.specs.declared.address.Link.{Link}
use Rattle.wire_base.specs.Ipv4 as ip
use Rattle.wire_base.specs.Tcp as tcp
use Rattle.wire_base.specs.Segments.{Written}
use Rattle.wire_base.specs.Frames.{link_octets, packet_in}
use Rattle.rule_book.specs.declared.rule.Rule.{Rule}
use Rattle.rule_book.specs.declared.entry.Ended.{Ended}
use Rattle.rule_book.specs.declared.entry.Reason.{Reason}
use Rattle.rule_book.specs.declared.entry.Reason.TheVariants as reasons
use Rattle.norm_settings.specs.SettingValues.{PlainSettings}
use Rattle.ip_rules.specs.Datagrams.{Datagram, Packet, IsPacketOf, frame_of, frames_of, goes_in}
use Rattle.era_state.specs.Quantities.{octets_of}
use Rattle.tcp_norm.specs.Calls.{segment_in, Call, expiry, segments}
use Rattle.tcp_norm.specs.RuleViews.{View, view_of, idle_at}
use Rattle.tcp_norm.specs.IdleEnds.{idled, idle_end}
use Rattle.tcp_norm.specs.RuleRows as era
use Rattle.tcp_norm.specs.Outcomes.{outcome_by, outcome_at, ended_with, ends, call_of}
use Rattle.wire_base.specs.declared.address.Side.{Side}
use Rattle.pcap_file.specs.Records as records
use Rattle.tcp_codec.specs.declared.header.Tcp.{Tcp}
use Rattle.rule_book.specs.declared.rule.Rule.TheVariants as rules
use Rattle.rule_book.specs.declared.entry.Entry.{Entry}
use Rattle.rule_book.specs.Entries.{plain}
use Rattle.rule_book.specs.Rules.{era_rows}
use Rattle.ip_rules.specs.declared.rows.IpPacket.{IpPacket}
use Rattle.ip_rules.specs.RuleRows.{tells_side, l_short}
use Rattle.tcp_norm.specs.PassedPackets.{Reports}
use Rattle.norm_engine.specs.Calls.{is_idle, packet_of, past_of, outcome_in, with_asked, flow_calls}
use Rattle.norm_engine.specs.Trace.{verdict_by, rules_by, Read, read_after, is_held, holds, holds_of, dropped_by, noted_rows, named_rows, outcome_of, frames_with, frames_by, emits, side_by, era_by, begun_by, ended_by, item_by, item_of}
use Rattle.norm_engine.specs.working.RecordJudgment.{Judgment, Arp, Drop, Hold, Send, Segment}
use Rattle.norm_engine.specs.Items.{Item, now_with}
use Rattle.norm_engine.specs.RuleRows.{side_of_record}
use Rattle.norm_engine.specs.MessageFrames.{frame_by}
use Rattle.norm_engine.specs.working.EngineAnswers.{IsTaken, Judges, entry_for}
use Rattle.norm_engine.proofs.Frames.{packet_behind}

-- What is read back of the item of a segment: its call is the one that the rules make.

-- the packet follows the link octets

-- the packet of a frame is the one that was written
pub packet_back : (settings : PlainSettings) (link : Link) (frame : List ℕ) (d : Datagram) (p : Packet) → l_short link frame ≡ false → IsPacketOf settings d p
    → packet_of link (frame_of (link_octets link frame) p) ≡ p
packet_back settings link frame d p long is =
    let whole : packet_in link (frame_of (link_octets link frame) p) ≡ p.header ++ p.octets =
    ap (packet_in link) (append_assoc (link_octets link frame) p.header p.octets) ∙ packet_behind link frame (p.header ++ p.octets) long in
    let header : ip.header (p.header ++ p.octets) ≡ p.header =
    ap (λ n. take n (p.header ++ p.octets)) (is.header.header_length ∙ sym is.long) ∙ take-append_seam p.header p.octets in
    λ i. record { header = (ap ip.header whole ∙ header) i; octets = (ap ip.payload whole ∙ is.carries) i }

pub packets_back : (settings : PlainSettings) (link : Link) (frame : List ℕ) (d : Datagram) (packets : List Packet) → l_short link frame ≡ false → AllByRecursion (IsPacketOf settings d) packets
    → map (packet_of link) (frames_of (link_octets link frame) packets) ≡ packets
packets_back settings link frame d [] long all = refl
packets_back settings link frame d (p ∷ ps) long all = ap₂ (λ x xs. x ∷ xs) (packet_back settings link frame d p long all.0) (packets_back settings link frame d ps long all.1)

-- idle eras differ from others by their reason

pub idle_kept : (segments : ℕ → List Written) (numbers : List ℕ) → filter is_idle (idled segments numbers) ≡ idled segments numbers
idle_kept segments [] = refl
idle_kept segments (n ∷ ns) = ap (λ xs. idle_end segments n ∷ xs) (idle_kept segments ns)

pub idle_left : (segments : ℕ → List Written) (numbers : List ℕ) → filter (λ e. not (is_idle e)) (idled segments numbers) ≡ []
idle_left segments [] = refl
idle_left segments (n ∷ ns) = idle_left segments ns

pub idle_numbers : (segments : ℕ → List Written) (numbers : List ℕ) → map (λ (e : Ended). e.era) (idled segments numbers) ≡ numbers
idle_numbers segments [] = refl
idle_numbers segments (n ∷ ns) = ap (λ xs. n ∷ xs) (idle_numbers segments ns)

-- none of these ended because it was idle
pub record AreOther (ended : List Ended) : Type 0 where
  pub kept : filter (λ e. not (is_idle e)) ended ≡ ended
  pub left : filter is_idle ended ≡ []

ends_other : (number : Option ℕ) (octets : ℕ) (reason : Reason) → is_idle (record { era = 0; reason = reason; octets = None }) ≡ false → AreOther (ends number octets reason)
ends_other None octets reason other = record { kept = refl; left = refl }
ends_other (Some era) octets reason other =
    let e : Ended = record { era = era; reason = reason; octets = Some octets } in
    record { kept = ap (λ b. cond (not b) (e ∷ []) []) other; left = ap (λ b. cond b (e ∷ []) []) other }

ended_other : (v : View) (w : Written) → AreOther (ended_with v w)
ended_other v w = by (era.reopens v w) (era.begins v w && v.is_full) (not w.inward && tcp.has_rst w.flags)
  where
    by : (again taken reset : Bool)
        → AreOther (cond again (ends v.era (octets_of v.segments) reasons.Reopened)
        (cond taken (ends v.evictable v.evictable_octets reasons.Evicted) (cond reset (ends v.era (octets_of v.segments) reasons.Reset) [])))
    by true taken reset = ends_other v.era (octets_of v.segments) reasons.Reopened refl
    by false true reset = ends_other v.evictable v.evictable_octets reasons.Evicted refl
    by false false true = ends_other v.era (octets_of v.segments) reasons.Reset refl
    by false false false = record { kept = refl; left = refl }

pub outcome_other : (settings : PlainSettings) (v : View) (d : Datagram) → AreOther (outcome_at settings v d).ended
outcome_other settings v d = by (era.dropped_by settings v d)
  where
    by : (dropped : Option Rule) → AreOther (outcome_by settings v d dropped (era.mended_by settings v d)).ended
    by (Some rule) = record { kept = refl; left = refl }
    by None = ended_other v (segment_in d)

-- the verdict and the rules of an entry are those of the outcome
pub verdict_back : (settings : PlainSettings) (v : View) (d : Datagram) (dropped : Option Rule) (mended : List Rule)
    → verdict_by dropped false (d.fixes ++ mended) ≡ (outcome_by settings v d dropped mended).verdict
verdict_back settings v d None mended = refl
verdict_back settings v d (Some rule) mended = refl

pub rules_back : (settings : PlainSettings) (v : View) (d : Datagram) (dropped : Option Rule) (mended : List Rule)
    → rules_by dropped false (era.noted v d) (d.fixes ++ mended) ≡ (outcome_by settings v d dropped mended).rules
rules_back settings v d None mended = sym (append_assoc (era.noted v d) d.fixes mended)
rules_back settings v d (Some rule) mended = refl

-- The item of a record, as it was judged.

-- an element that is found passes the test of all
pub found_of : {A : Type 0} (P : A → Type 0) (f : A → Bool) (xs : List A) (x : A) → AllByRecursion P xs → find f xs ≡ Some x → P x
found_of P f [] x all h = absurd (cc)
found_of P f (y ∷ ys) x all h = by (found_of P f ys x all.1) (f y) h
  where
    by : (find f ys ≡ Some x → P x) → (b : Bool) → cond b (Some y) (find f ys) ≡ Some x → P x
    by rest true here = let same : y ≡ x = cc in subst P same all.0
    by rest false later = rest later

-- an element that is found among those that pass a test passes it
pub found_passes : {A : Type 0} (test f : A → Bool) (xs : List A) (x : A) → list_all test xs ≡ true → find f xs ≡ Some x → test x ≡ true
found_passes {A} test f xs x all = found_of (λ y. test y ≡ true) f xs x (each xs all)
  where
    both : (a b : Bool) → (a && b) ≡ true → (a ≡ true) × (b ≡ true)
    both true b h = (refl, h)
    both false b h = absurd (cc)

    each : (ys : List A) → list_all test ys ≡ true → AllByRecursion (λ y. test y ≡ true) ys
    each [] h = tt
    each (y ∷ ys) h = let parts = both (test y) (list_all test ys) h in (parts.0, each ys parts.1)

-- the side is known of a record that a rule on eras drops
pub era_told : (settings : PlainSettings) (calls : List Call) (d : Datagram) (rule : Rule) → era.dropped_by settings (view_of settings calls d) d ≡ Some rule → tells_side rule ≡ true
era_told settings calls d rule h = by (goes_in d.side) h
  where
    by : (inward : Bool) → cond inward (find (era.holds_era settings (view_of settings calls d) d) era_rows) None ≡ Some rule → tells_side rule ≡ true
    by true here = found_passes tells_side (era.holds_era settings (view_of settings calls d) d) era_rows rule refl here
    by false here = absurd (cc)

pub sides : (dropped : Option Rule) (side : Option Side) → ((rule : Rule) → dropped ≡ Some rule → tells_side rule ≡ true) → side_by dropped side ≡ side
sides None side told = refl
sides (Some rule) side told = ap (λ b. cond b side None) (told rule refl)

-- the rules of a segment are those of its connection
pub record AreOfEra (settings : PlainSettings) (link : Link) (read : Read) (r : records.Packet) (d : Datagram) : Type 0 where
  pub segment : read.segment ≡ Some d
  pub held : is_held read ≡ false
  pub dropped : dropped_by settings link read r ≡ era.dropped_by settings (view_of settings read.past.calls d) d
  pub noted : noted_rows settings link read r ≡ era.noted (view_of settings read.past.calls d) d
  pub named : named_rows settings link read r ≡ d.fixes ++ era.mended_by settings (view_of settings read.past.calls d) d

pub taken_rows : (settings : PlainSettings) (link : Link) (read : Read) (r : records.Packet) (packet : IpPacket) (head : Tcp) (t : IsTaken settings link read r packet head) → AreOfEra settings link read r t.own
taken_rows settings link read r packet head t = record { segment = t.segment; held = t.held; dropped = t.dropped; noted = t.noted; named = t.named }

-- the frames, the verdict and the rules of a segment's item are those of its outcome

pub segment_frames : (settings : PlainSettings) (link : Link) (read : Read) (r : records.Packet) (d : Datagram) → AreOfEra settings link read r d
    → emits settings link read r ≡ frames_of (link_octets link r.octets) (outcome_of settings read d).packets
segment_frames settings link read r d t = ap (frames_with settings link read r) t.segment

pub segment_verdict : (settings : PlainSettings) (link : Link) (read : Read) (r : records.Packet) (d : Datagram) → AreOfEra settings link read r d
    → verdict_by (dropped_by settings link read r) (is_held read) (named_rows settings link read r) ≡ (outcome_of settings read d).verdict
segment_verdict settings link read r d t =
    let v = view_of settings read.past.calls d in
    (λ i. verdict_by (t.dropped i) (t.held i) (t.named i)) ∙ verdict_back settings v d (era.dropped_by settings v d) (era.mended_by settings v d)

pub segment_rules : (settings : PlainSettings) (link : Link) (read : Read) (r : records.Packet) (d : Datagram) → AreOfEra settings link read r d
    → rules_by (dropped_by settings link read r) (is_held read) (noted_rows settings link read r) (named_rows settings link read r) ≡ (outcome_of settings read d).rules
segment_rules settings link read r d t =
    let v = view_of settings read.past.calls d in
    (λ i. rules_by (t.dropped i) (t.held i) (t.noted i) (t.named i)) ∙ rules_back settings v d (era.dropped_by settings v d) (era.mended_by settings v d)

-- the entry of a segment
pub segment_entry : (settings : PlainSettings) (link : Link) (read : Read) (r : records.Packet) (packet : IpPacket) (head : Tcp) (number : ℕ) (old new : Entry)
    → (t : IsTaken settings link read r packet head) → old.number ≡ number → old.side ≡ Some packet.side → old.ended.items ≡ read.past.idle
    → Reports old new (outcome_of settings read t.own) → plain new ≡ (item_by settings link read r number).entry
segment_entry settings link read r packet head number old new t counted sided idle says =
    let d = t.own in
    let rows = taken_rows settings link read r packet head t in
    let o = outcome_of settings read d in
    let side : Some packet.side ≡ side_by (dropped_by settings link read r) (side_of_record settings link r) =
    sym (sides (dropped_by settings link read r) (side_of_record settings link r) (λ rule h. era_told settings read.past.calls d rule (sym t.dropped ∙ h)) ∙ t.told) in
    let packets : length o.packets ≡ length (emits settings link read r) =
    sym (ap length (segment_frames settings link read r d rows) ∙ length-map o.packets (frame_of (link_octets link r.octets))) in
    let told : Some o ≡ option_map (outcome_of settings read) read.segment = sym (ap (option_map (outcome_of settings read)) t.segment) in
    λ i. record {
      number = (says.number ∙ counted) i;
      side = (says.side ∙ sided ∙ side) i;
      verdict = (says.verdict ∙ sym (segment_verdict settings link read r d rows)) i;
      packets = (says.packets ∙ packets) i;
      rules = (says.rules ∙ sym (segment_rules settings link read r d rows)) i;
      era = (says.era ∙ ap era_by told) i;
      begun = (says.begun ∙ ap begun_by told) i;
      ended = (says.ended ∙ ap₂ (λ xs ys. xs ++ ys) idle (ap ended_by told)) i;
    }

-- there is no note without a segment
pub nothing_noted : (settings : PlainSettings) (link : Link) (read : Read) (r : records.Packet) → read.segment ≡ None → noted_rows settings link read r ≡ []
unfolding noted_rows
nothing_noted settings link read r none =
    ap (λ (segment : Option Datagram). cond (holds_of segment (λ d. not (goes_in d.side)) && holds settings link read r rules.TFull) (rules.TFull ∷ []) []) none

-- the eras of an item without segment
era_none : (settings : PlainSettings) (read : Read) → read.segment ≡ None → option_map (outcome_of settings read) read.segment ≡ None
era_none settings read none = ap (option_map (outcome_of settings read)) none

pub plain_frames : (settings : PlainSettings) (link : Link) (read : Read) (r : records.Packet) → read.segment ≡ None
    → emits settings link read r ≡ frames_by (dropped_by settings link read r) (is_held read) (frame_by settings (link_octets link r.octets) r.octets read.datagram (named_rows settings link read r))
plain_frames settings link read r none = ap (frames_with settings link read r) none

-- the entry of a record that is not a segment, by its rule, whether it is held, and the rules that
-- rewrite it
plain_entry : (settings : PlainSettings) (link : Link) (read : Read) (r : records.Packet) (number : ℕ) (dropped : Option Rule) (held : Bool) (named : List Rule) (side : Option Side)
    → read.segment ≡ None → dropped_by settings link read r ≡ dropped → is_held read ≡ held → named_rows settings link read r ≡ named → side_by dropped (side_of_record settings link r) ≡ side
    → (item_by settings link read r number).entry
    ≡ record { number = number; side = side; verdict = verdict_by dropped held named; packets = length (frames_by dropped held r.octets); rules = rules_by dropped held [] named; era = None; begun = None; ended = read.past.idle }
plain_entry settings link read r number dropped held named side none d w n s =
    λ i. record {
      number = number;
      side = (ap (λ x. side_by x (side_of_record settings link r)) d ∙ s) i;
      verdict = verdict_by (d i) (w i) (n i);
      packets = (ap length (plain_frames settings link read r none) ∙ (counts (dropped_by settings link read r) (is_held read) _ ∙ ap₂ (λ x y. length (frames_by x y r.octets)) d w)) i;
      rules = rules_by (d i) (w i) (nothing_noted settings link read r none i) (n i);
      era = era_by (era_none settings read none i);
      begun = begun_by (era_none settings read none i);
      ended = (ap (λ o. read.past.idle ++ ended_by o) (era_none settings read none) ∙ append-nil read.past.idle) i;
    }
  where
    counts : (x : Option Rule) (held : Bool) (frame : List ℕ) → length (frames_by x held frame) ≡ length (frames_by x held r.octets)
    counts None true frame = refl
    counts None false frame = refl
    counts (Some rule) held frame = refl

pub other_entry : (settings : PlainSettings) (link : Link) (read : Read) (r : records.Packet) (number : ℕ) (judgment : Judgment) → Judges settings link read r judgment
    → read.segment ≡ None → entry_for number judgment read.past.idle ≡ (item_by settings link read r number).entry
other_entry settings link read r number Arp j none =
    sym (plain_entry settings link read r number None false [] None none j.undropped j.held j.named j.side)
other_entry settings link read r number (Drop side rule) j none =
    sym (plain_entry settings link read r number (Some rule) (is_held read) (named_rows settings link read r) side none j.dropped refl refl (sym j.side))
other_entry settings link read r number (Hold side) j none =
    sym (plain_entry settings link read r number None true (named_rows settings link read r) (Some side) none j.undropped j.held refl j.told)
other_entry settings link read r number (Send packet mend) j none =
    sym (plain_entry settings link read r number None false packet.fixes.items (Some packet.side) none j.undropped j.held j.named j.told)
other_entry settings link read r number (Segment packet head) j none = let no = sym j.segment ∙ none in absurd (cc)

-- the calls of a history with an item

pub segment_calls : (settings : PlainSettings) (link : Link) (history : List Item) (r : records.Packet) (d : Datagram)
    → l_short link r.octets ≡ false → AreOfEra settings link (read_after settings link history r) r d
    → AllByRecursion (IsPacketOf settings d) (outcome_of settings (read_after settings link history r) d).packets
    → flow_calls settings link (item_of settings link history r ∷ history)
    ≡ call_of settings (past_of settings link history r).calls (now_with history r) d ∷ (past_of settings link history r).calls
segment_calls settings link history r d long rows own =
    let read = read_after settings link history r in
    let item = item_of settings link history r in
    let o = outcome_of settings read d in
    let calls = flow_calls settings link history in
    let now = now_with history r in
    let numbers = idle_at settings now calls in
    let segments_at : ℕ → List Written = λ n. segments n calls in
    let told : option_map (outcome_of settings read) read.segment ≡ Some o = ap (option_map (outcome_of settings read)) rows.segment in
    let ended : item.entry.ended ≡ idled segments_at numbers ++ o.ended = ap (λ x. idled segments_at numbers ++ ended_by x) told in
    let other = outcome_other settings (view_of settings read.past.calls d) d in
    let outcome : outcome_in link item ≡ o = λ i. record {
      verdict = segment_verdict settings link read r d rows i;
      rules = segment_rules settings link read r d rows i;
      era = era_by (told i);
      begun = begun_by (told i);
      ended = (ap (filter (λ e. not (is_idle e))) ended
          ∙ (filter-append (λ e. not (is_idle e)) (idled segments_at numbers) o.ended
          ∙ ap₂ (λ xs ys. xs ++ ys) (idle_left segments_at numbers) other.kept)) i;
      packets = (ap (map (packet_of link)) (segment_frames settings link read r d rows) ∙ packets_back settings link r.octets d o.packets long own) i;
    } in
    let idle : map (λ (e : Ended). e.era) (filter is_idle item.entry.ended) ≡ numbers =
    ap (λ es. map (λ (e : Ended). e.era) (filter is_idle es)) ended
    ∙ (ap (map (λ (e : Ended). e.era)) (filter-append is_idle (idled segments_at numbers) o.ended ∙ (ap₂ (λ xs ys. xs ++ ys) (idle_kept segments_at numbers) other.left ∙ append-nil (idled segments_at numbers)))
    ∙ idle_numbers segments_at numbers) in
    λ i. with_asked (rows.segment i) now (outcome i) (expiry now (idle i) ∷ calls)

pub plain_calls : (settings : PlainSettings) (link : Link) (history : List Item) (r : records.Packet) → (read_after settings link history r).segment ≡ None
    → flow_calls settings link (item_of settings link history r ∷ history) ≡ (past_of settings link history r).calls
plain_calls settings link history r none =
    let read = read_after settings link history r in
    let item = item_of settings link history r in
    let calls = flow_calls settings link history in
    let now = now_with history r in
    let numbers = idle_at settings now calls in
    let segments_at : ℕ → List Written = λ n. segments n calls in
    let ended : item.entry.ended ≡ idled segments_at numbers = ap (λ o. idled segments_at numbers ++ ended_by o) (era_none settings read none) ∙ append-nil (idled segments_at numbers) in
    let idle : map (λ (e : Ended). e.era) (filter is_idle item.entry.ended) ≡ numbers =
    ap (λ es. map (λ (e : Ended). e.era) (filter is_idle es)) ended ∙ (ap (map (λ (e : Ended). e.era)) (idle_kept segments_at numbers) ∙ idle_numbers segments_at numbers) in
    λ i. with_asked (none i) now (outcome_in link item) (expiry now (idle i) ∷ calls)

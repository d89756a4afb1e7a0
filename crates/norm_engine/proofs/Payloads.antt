-- Clean records keep their payload, even if a rule rewrites their packet.
use Rattle.std.proofs.Common.{◌≡◌, ℕ, ◌+◌, ◌≤◌, Bool, true, false, cond, ◌&&◌, ◌||◌, ◌==◌, not, nat_lt, List, [], ◌∷◌, ◌++◌, length, take, drop, Option, Some, None, is_none, refl, sym, ap, ap₂, ◌∙◌, subst, arith, option_map, eqb-true, append_assoc, length-append, length-take-le}
use Rattle.std.specs.List.{AllByRecursion, list_any}
use Rattle.std.proofs.lemmas.Grind.{common_steps}
use Rattle.std.proofs.lemmas.Bool.Decides.{nat_tests}
use Rattle.std.proofs.Math.Seq.{drop-append_seam}
use Rattle.std.proofs.lemmas.Bool.{or_parts}
use Rattle.wire_base.specs.declared.address.Link.{Link}
use Rattle.wire_base.specs.Numbers.{u16_octets, with_u16}
use Rattle.wire_base.specs.Ipv4 as ip
use Rattle.wire_base.specs.Tcp as tcp
use Rattle.wire_base.specs.Frames.{link_octets, packet_in}
use Rattle.icmp_codec.specs.QuotedPacket.{quoted_in}
use Rattle.pcap_file.specs.Records as records
use Rattle.udp_codec.specs.WrittenChecksum.{mended}
use Rattle.rule_book.specs.declared.rule.Rule.{Rule}
use Rattle.rule_book.specs.declared.rule.Rule.TheVariants as rules
use Rattle.rule_book.specs.declared.entry.Verdict.TheVariants as verdicts
use Rattle.rule_book.specs.Rules.{touches_payload}
use Rattle.norm_settings.specs.SettingValues.{PlainSettings}
use Rattle.ip_rules.specs.RuleRows.{l_short, piece_fix_rows, ip_fixes}
use Rattle.ip_rules.specs.Datagrams.{Datagram, Packet, IsPacketOf, DatagramsAreKnown, AnewIsPacket, datagram_in, frame_of, frames_of, anew}
use Rattle.dgram_rules.specs.RuleRows.{pseudo_of, holds_dgram, dgram_dropped_by, u_short, u_sum_out}
use Rattle.tcp_norm.specs.RuleRows as era
use Rattle.tcp_norm.specs.RuleViews.{view_of}
use Rattle.tcp_norm.specs.Outcomes.{verdict_of}
use Rattle.tcp_norm.specs.SegmentPackets.{PacketsAreItsOwn, CleanKeepsPayload}
use Rattle.tcp_norm.proofs.StreamFrames.{empty_left}
use Rattle.reassembly.specs.DatagramFragments.{is_whole}
use Rattle.reassembly.specs.RuleRows as fragments
use Rattle.reassembly.specs.RuleRows.{answer_by, is_done}
use Rattle.norm_engine.specs.Items.{Item}
use Rattle.norm_engine.specs.Fragments.{Offering, fragment_in, offering_of, holds_offered, pieces_before}
use Rattle.norm_engine.specs.TraceLaws.{IsSound}
use Rattle.norm_engine.specs.MessageFrames.{octets_sent, mended_frame, frame_by}
use Rattle.norm_engine.specs.Calls.{segment_after}
use Rattle.norm_engine.specs.Trace.{Read, read_after, is_held, is_quoted_live, dropped_by, named_rows, outcome_of, frames_by, verdict_by, item_of}
use Rattle.norm_engine.specs.CleanRecords.{is_clean, payload_of, payload_in, KeepsPayload, CleanIsKept, HasOctets, HaveOctets}
use Rattle.norm_engine.proofs.Frames.{packet_behind, carries_behind, whole_frame}
use Rattle.norm_engine.proofs.Items.{segment_frames, plain_frames}
use Rattle.norm_engine.proofs.Datagrams.{IsCarried, carried_in, row_of_piece, row_of_datagram, mends_of_life, named_of_piece, first_none}
use Rattle.norm_engine.proofs.Layers.{dropped_by_layers, named_by_layers}
use Rattle.norm_engine.proofs.Judgments.{unjoined}
use Rattle.norm_engine.proofs.Traces.{RowsAreOfEras, both_of, segment_is, link_kept}

-- the payload by the protocol
abbrev payload_by : (protocol : ℕ) → List ℕ → List ℕ
payload_by protocol octets = cond (protocol == 6) (tcp.payload octets) (cond (protocol == 17) (drop 8 octets) octets)

module _ (settings : PlainSettings) (link : Link) (r : records.Packet) (d : Datagram) (c : IsCarried settings link r d) where
  long : l_short link r.octets ≡ false
  long = link_kept settings link r c.undropped

  -- the payload of a packet of the datagram in its frame, and of the record
  sent_payload : (p : Packet) → IsPacketOf settings d p → payload_in link (frame_of (link_octets link r.octets) p) ≡ payload_by d.head.protocol p.octets
  sent_payload p is =
      let rest = p.header ++ p.octets in
      let whole : frame_of (link_octets link r.octets) p ≡ link_octets link r.octets ++ rest = append_assoc (link_octets link r.octets) p.header p.octets in
      let carried = carries_behind link r.octets rest long ∙ c.carried in
      ap (payload_in link) whole
      ∙ (ap (λ b. cond b (payload_of (packet_in link (link_octets link r.octets ++ rest))) (link_octets link r.octets ++ rest)) carried
      ∙ (ap payload_of (packet_behind link r.octets rest long) ∙ ap₂ payload_by is.protocol is.carries))

  read_payload : payload_in link r.octets ≡ payload_by d.head.protocol d.octets
  read_payload =
      ap (λ b. cond b (payload_of (packet_in link r.octets)) r.octets) c.carried
      ∙ ap (λ (e : Datagram). payload_by e.head.protocol e.octets) c.is

-- a message with a corrected checksum has all octets after its header unchanged

behind_checksum : (m : List ℕ) (value : ℕ) → 8 ≤ length m → drop 8 (with_u16 m 6 value) ≡ drop 8 m
behind_checksum m value whole =
    let eight : length (take 6 m ++ u16_octets value) ≡ 8 =
    length-append (take 6 m) (u16_octets value) ∙ ap (λ n. n + 2) (length-take-le 6 m (omega arith)) in
    ap (λ n. drop n (with_u16 m 6 value)) (sym eight) ∙ drop-append_seam (take 6 m ++ u16_octets value) (drop 8 m)

same_length : (m : List ℕ) (value : ℕ) → 8 ≤ length m → length (with_u16 m 6 value) ≡ length m
same_length m value whole = grind (arith, common_steps)

both_true : (a b : Bool) → (a && b) ≡ true → a ≡ true
both_true true b h = refl
both_true false b h = absurd (cc)

-- what is written of a datagram has its payload, and its length
record SendsPayload (settings : PlainSettings) (d : Datagram) : Type 0 where
  payload : payload_by d.head.protocol (octets_sent settings d) ≡ payload_by d.head.protocol d.octets
  size : length (octets_sent settings d) ≡ length d.octets

sent_by : (b : Bool) (settings : PlainSettings) (d : Datagram) → holds_dgram settings false d rules.USumOut ≡ b → (b ≡ true → 8 ≤ length d.octets) → SendsPayload settings d
sent_by false settings d is whole =
    let same : octets_sent settings d ≡ d.octets = ap (λ b. cond b (mended (pseudo_of d) d.octets) d.octets) is in
    record { payload = ap (payload_by d.head.protocol) same; size = ap length same }
sent_by true settings d is whole =
    let long = whole refl in
    let udp : d.head.protocol ≡ 17 = eqb-true d.head.protocol 17 (both_true (d.head.protocol == 17) (u_sum_out settings d) is) in
    let same : octets_sent settings d ≡ mended (pseudo_of d) d.octets = ap (λ b. cond b (mended (pseudo_of d) d.octets) d.octets) is in
    record {
      payload = ap₂ payload_by udp same ∙ (behind_checksum d.octets _ long ∙ sym (ap (λ n. payload_by n d.octets) udp));
      size = ap length same ∙ same_length d.octets _ long;
    }

short_by : (udp short : Bool) (rest : Option Rule) → cond (udp && short) (Some rules.UShort) rest ≡ None → udp ≡ true → short ≡ false
short_by true true rest h u = absurd (cc)
short_by true false rest h u = refl
short_by false short rest h u = absurd (cc)

whole_message : (octets : ℕ) → nat_lt octets 8 ≡ false → 8 ≤ octets
whole_message octets h = grind (arith, nat_tests)

not_short_udp : (settings : PlainSettings) (live : Bool) (d : Datagram) → dgram_dropped_by settings live d ≡ None → (d.head.protocol == 17) ≡ true → 8 ≤ length d.octets
unfolding dgram_dropped_by
not_short_udp settings live d none udp = whole_message (length d.octets) (short_by (d.head.protocol == 17) (u_short d) _ none udp)

-- the item of a clean record, by its segment and its datagram

pass_is_bare : (rule : Rule) (more : List Rule) → verdict_of (rule ∷ more) ≡ verdicts.Pass → ⊥
pass_is_bare rule more h = absurd (cc)

bare_of_pass : (named : List Rule) → verdict_of named ≡ verdicts.Pass → named ≡ []
bare_of_pass [] h = refl
bare_of_pass (rule ∷ more) h = absurd (pass_is_bare rule more h)

clean_parts : (dropped : Option Rule) (touched : Bool) → (is_none dropped && not touched) ≡ true → (dropped ≡ None) × (touched ≡ false)
clean_parts None false h = (refl, refl)
clean_parts None true h = absurd (cc)
clean_parts (Some rule) touched h = absurd (cc)

-- a record that no rule drops and for which no rule that touches a payload holds carries no
-- fragment

any_parts : (xs ys : List Rule) → list_any touches_payload (xs ++ ys) ≡ false → (list_any touches_payload xs ≡ false) × (list_any touches_payload ys ≡ false)
any_parts [] ys h = (refl, h)
any_parts (x ∷ xs) ys h =
    let here = or_parts (touches_payload x) (list_any touches_payload (xs ++ ys)) h in
    let rest = any_parts xs ys here.1 in
    (ap₂ (λ a b. a || b) here.0 rest.0, rest.1)

touched_by : (row : Option Rule) (whole : Bool) → row ≡ None
    → let answer = answer_by row whole in
    list_any touches_payload (cond (fragments.is_held answer) (rules.FHeld ∷ cond (is_done answer) (rules.FDone ∷ []) []) (cond (is_done answer) (rules.FDone ∷ []) [])) ≡ true
touched_by None true h = refl
touched_by None false h = refl
touched_by (Some rule) whole h = absurd (cc)

no_piece : (piece : Option Offering) → row_of_piece piece ≡ None → list_any touches_payload (named_of_piece piece) ≡ false → piece ≡ None
no_piece None row named = refl
no_piece (Some o) row named = let touched = touched_by (fragments.dropped_by o.view o.piece) (is_whole (o.piece ∷ o.view.pieces)) row in absurd (both_ways (sym touched ∙ named))
  where
    both_ways : true ≡ false → ⊥
    both_ways e = absurd (cc)

nothing_in : {A B : Type 0} (f : A → B) (x : Option A) → option_map f x ≡ None → x ≡ None
nothing_in f None h = refl
nothing_in f (Some x) h = absurd (cc)

module _ (known : DatagramsAreKnown) (fresh : AnewIsPacket) (own : PacketsAreItsOwn) (keeps : CleanKeepsPayload) (rows : RowsAreOfEras)
    (settings : PlainSettings) (link : Link) (older : List Item) (r : records.Packet) (hops : settings.hops ≤ 254) (before : HaveOctets older) (octets : HasOctets r) where
  abbrev read : Read
  read = read_after settings link older r

  -- a record that carries no fragment makes the datagram that it carries
  own_datagram : fragment_in settings link r ≡ None → read.datagram ≡ datagram_in settings link r
  own_datagram bare = unjoined settings link (pieces_before settings link older r) r bare

  not_held : fragment_in settings link r ≡ None → is_held read ≡ false
  not_held bare = ap (λ x. holds_offered (option_map (offering_of settings (pieces_before settings link older r)) x) rules.FHeld) bare

  -- a segment
  of_segment : (d : Datagram) → fragment_in settings link r ≡ None → segment_after settings link older r ≡ Some d → dropped_by settings link read r ≡ None → list_any touches_payload (named_rows settings link read r) ≡ false
      → KeepsPayload link (item_of settings link older r)
  of_segment d bare h undropped untouched =
      let v = view_of settings read.past.calls d in
      let t = rows settings link older r d h in
      let made = sym (own_datagram bare) ∙ (both_of _ _ d h).0 in
      let c = carried_in settings link r d made in
      let s = segment_is known settings link older r d before octets h in
      let kept = keeps settings v d s (sym t.dropped ∙ undropped) (any_parts d.fixes (era.mended_by settings v d) (sym (ap (list_any touches_payload) t.named) ∙ untouched)).1 in
      let packets : List Packet = (outcome_of settings read d).packets in
      let is : IsPacketOf settings d kept.packet = (subst (AllByRecursion (IsPacketOf settings d)) kept.only (own settings v d hops s)).0 in
      let six = s.protocol in
      let frame = frame_of (link_octets link r.octets) kept.packet in
      record {
        frame = frame;
        only = segment_frames settings link read r d t ∙ ap (frames_of (link_octets link r.octets)) kept.only;
        same = sent_payload settings link r d c kept.packet is
            ∙ (ap (λ n. payload_by n kept.packet.octets) six ∙ (kept.same ∙ sym (ap (λ n. payload_by n d.octets) six)) ∙ sym (read_payload settings link r d c));
        whole = λ pass.
            let unmended = bare_of_pass (named_rows settings link read r) (sym (ap₂ (λ x y. verdict_by x y (named_rows settings link read r)) undropped t.held) ∙ pass) in
            let none = empty_left d.fixes (era.mended_by settings v d) (sym t.named ∙ unmended) in
            let header : d.header ≡ ip.header (packet_in link r.octets) = sym (ap (λ (e : Datagram). e.header) c.is) in
            let body : d.octets ≡ ip.payload (packet_in link r.octets) = sym (ap (λ (e : Datagram). e.octets) c.is) in
            ap (frame_of (link_octets link r.octets)) (kept.whole none.0 none.1)
            ∙ ((λ i. link_octets link r.octets ++ header i ++ body i)
            ∙ sym (whole_frame settings link r (record { undropped = c.undropped; carries = c.carried }) (ap (λ (e : Datagram). e.fixes) c.is ∙ none.0)));
      }

  -- another record
  of_other : (datagram : Option Datagram) (named : List Rule) → fragment_in settings link r ≡ None → datagram_in settings link r ≡ datagram → named_rows settings link read r ≡ named → read.segment ≡ None
      → dropped_by settings link read r ≡ None → KeepsPayload link (item_of settings link older r)
  of_other None named bare made is none undropped = record {
    frame = r.octets;
    only = plain_frames settings link read r none
        ∙ (λ i. frames_by (undropped i) (not_held bare i) (frame_by settings (link_octets link r.octets) r.octets ((own_datagram bare ∙ made) i) (named_rows settings link read r)));
    same = refl;
    whole = λ pass. refl;
  }
  of_other (Some d) [] bare made is none undropped = record {
    frame = r.octets;
    only = plain_frames settings link read r none
        ∙ (λ i. frames_by (undropped i) (not_held bare i) (frame_by settings (link_octets link r.octets) r.octets ((own_datagram bare ∙ made) i) (is i)));
    same = refl;
    whole = λ pass. refl;
  }
  of_other (Some d) (rule ∷ more) bare made is none undropped =
      let c = carried_in settings link r d made in
      let live = is_quoted_live read.past.calls (quoted_in d.octets) in
      let row : row_of_datagram settings read.past.calls read.datagram ≡ None =
      (first_none _ _ (first_none _ _ (first_none _ _ (sym (dropped_by_layers settings link r read) ∙ undropped)).1).1).0 in
      let passes : dgram_dropped_by settings live d ≡ None = sym (ap (row_of_datagram settings read.past.calls) (own_datagram bare ∙ made)) ∙ row in
      let sends = sent_by (holds_dgram settings false d rules.USumOut) settings d refl
      (λ mends. not_short_udp settings live d passes (both_true (d.head.protocol == 17) (u_sum_out settings d) mends)) in
      let k = known settings link r d octets made in
      let short = k.short in
      let size = sends.size in
      let p = anew settings d (octets_sent settings d) in
      record {
        frame = mended_frame settings (link_octets link r.octets) d;
        only = plain_frames settings link read r none
            ∙ (λ i. frames_by (undropped i) (not_held bare i) (frame_by settings (link_octets link r.octets) r.octets ((own_datagram bare ∙ made) i) (is i)));
        same = sent_payload settings link r d c p (fresh settings d (octets_sent settings d) hops k.sizes (omega (arith, short, size))) ∙ (sends.payload ∙ sym (read_payload settings link r d c));
        whole = λ pass. absurd (pass_is_bare rule more (sym (λ i. verdict_by (undropped i) (not_held bare i) (is i)) ∙ pass));
      }

  pub of_clean : is_clean settings link older r ≡ true → KeepsPayload link (item_of settings link older r)
  of_clean clean =
      let parts = clean_parts (dropped_by settings link read r) (list_any touches_payload (named_rows settings link read r)) clean in
      let row = (first_none _ _ (first_none _ _ (sym (dropped_by_layers settings link r read) ∙ parts.0)).1).0 in
      let named = sym (ap (list_any touches_payload) (named_by_layers settings link r read)) ∙ parts.1 in
      let piece = (any_parts (named_of_piece read.piece) _ (any_parts (mends_of_life settings read.datagram) _ (any_parts (ip_fixes settings link r piece_fix_rows) _ named).1).1).0 in
      let bare = nothing_in (offering_of settings (pieces_before settings link older r)) (fragment_in settings link r) (no_piece read.piece row piece) in
      by bare read.segment refl parts.0 parts.1
    where
      by : fragment_in settings link r ≡ None → (segment : Option Datagram) → read.segment ≡ segment → dropped_by settings link read r ≡ None
          → list_any touches_payload (named_rows settings link read r) ≡ false → KeepsPayload link (item_of settings link older r)
      by bare None h undropped untouched = of_other (datagram_in settings link r) (named_rows settings link read r) bare refl refl h undropped
      by bare (Some d) h undropped untouched = of_segment d bare h undropped untouched

pub clean_is_kept : DatagramsAreKnown → AnewIsPacket → PacketsAreItsOwn → CleanKeepsPayload → RowsAreOfEras → (settings : PlainSettings) (link : Link) (trace : List Item)
    → IsSound settings link trace → CleanIsKept settings link trace
clean_is_kept known fresh own keeps rows settings link [] sound = tt
clean_is_kept known fresh own keeps rows settings link (item ∷ older) sound = (
  clean_is_kept known fresh own keeps rows settings link older (record { hops = sound.hops; octets = sound.octets.0; lawful = sound.lawful.0 }),
  λ clean. subst (KeepsPayload link) (sym sound.lawful.1) (of_clean known fresh own keeps rows settings link older item.packet sound.hops sound.octets.0 sound.octets.1 clean),
)

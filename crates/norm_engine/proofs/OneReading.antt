-- What is written for a record is read in one way: segments with whole headers, plain packets
-- inwards.
use Rattle.std.proofs.Common.{◌≡◌, ℕ, ◌≤◌, Bool, cond, ◌&&◌, ◌==◌, List, ◌++◌, length, find, Option, Some, refl, sym, ap, ◌∙◌, subst, arith, append_assoc, IsSome, is_none, is_some, option_map, true, false, [], ◌∷◌, None}
use Rattle.std.specs.List.{AllByRecursion}
use Rattle.wire_base.specs.declared.address.Link.{Link}
use Rattle.wire_base.specs.declared.address.Side.{Side}
use Rattle.wire_base.specs.declared.address.Side.TheVariants.{Inward, Outward}
use Rattle.wire_base.specs.Ipv4 as ip
use Rattle.wire_base.specs.Plain.{Plain}
use Rattle.wire_base.specs.Frames.{link_octets, packet_in}
use Rattle.icmp_codec.specs.QuotedPacket.{quoted_in}
use Rattle.pcap_file.specs.Records as records
use Rattle.tcp_codec.specs.MendedSegment.{MendedSayTheSame}
use Rattle.rule_book.specs.declared.rule.Rule.{Rule}
use Rattle.rule_book.specs.declared.rule.Rule.TheVariants as rules
use Rattle.rule_book.specs.Rules.{segment_rows}
use Rattle.norm_settings.specs.SettingValues.{PlainSettings}
use Rattle.ip_rules.specs.Datagrams.{Datagram, AnewIsPacket, DatagramsAreKnown, IsKnown, anew, as_read, frame_of, goes_in}
use Rattle.ip_rules.specs.RuleRows.{carries_ip, side_in, ip_fixes, whole_fix_rows, l_short}
use Rattle.ip_rules.specs.JudgedRecord.{IsKept}
use Rattle.dgram_rules.specs.RuleRows.{dgram_dropped_by}
use Rattle.tcp_norm.specs.Calls.{is_written}
use Rattle.tcp_norm.specs.RuleViews.{View, view_of}
use Rattle.tcp_norm.specs.SegmentPackets.{IsSegment}
use Rattle.tcp_norm.proofs.StreamFrames.{empty_left}
use Rattle.norm_engine.specs.Items.{Item}
use Rattle.norm_engine.specs.RuleRows.{side_of_record, holds_tcp, is_segment}
use Rattle.norm_engine.specs.Fragments.{pieces_before}
use Rattle.norm_engine.specs.MessageFrames.{octets_sent, mended_frame, frame_by}
use Rattle.norm_engine.specs.Calls.{where_passes, segment_after, datagram_after, past_of}
use Rattle.norm_engine.specs.Trace.{Read, read_after, is_held, is_quoted_live, dropped_by, named_rows, outcome_of, emits, frames_by, side_by, era_by, item_of}
use Rattle.norm_engine.specs.CleanRecords.{HasOctets, HaveOctets}
use Rattle.norm_engine.specs.CertainReading.{IsWholeSegment, IsCertain, ItemsAreCertain}
use Rattle.norm_engine.proofs.Frames.{packet_behind, whole_frame}
use Rattle.norm_engine.proofs.Items.{AreOfEra, era_told, plain_frames, segment_frames, segment_verdict, sides}
use Rattle.norm_engine.proofs.Datagrams.{carried, joined, IsCarried, IsEither, either_of, made_of, first_none}
use Rattle.norm_engine.proofs.Layers.{datagram_row_is, datagram_named_is}
use Rattle.norm_engine.proofs.Judgments.{not_nil}
use Rattle.norm_engine.proofs.Traces.{both_of, datagram_known, link_kept, long_enough, segment_is, rows_are_of_eras}
use Rattle.norm_engine.proofs.Receivers.{AreOf, PacketLaws, packets_are}
use Rattle.norm_engine.proofs.SegmentPackets.{each_frame, outward_written, whole_segments}
use Rattle.norm_engine.proofs.ItemFrames.{carries_none}
use Rattle.norm_engine.proofs.Messages.{IsMessage, message_of, plain_message, sent_is_read}

-- records that are not segments

module _ (fresh : AnewIsPacket) (known : DatagramsAreKnown) (settings : PlainSettings) (link : Link) (history : List Item) (r : records.Packet)
    (hops : settings.hops ≤ 254) (older : HaveOctets history) (octets : HasOctets r) where
  abbrev read : Read
  read = read_after settings link history r

  abbrev p : List ℕ
  p = packet_in link r.octets

  -- one that goes inwards, and that no rule drops, is held, or makes a datagram
  makes_datagram : read.datagram ≡ None → dropped_by settings link read r ≡ None → is_held read ≡ false → side_of_record settings link r ≡ Some Inward → ⊥
  makes_datagram none undropped unheld side =
      let four = carries_none settings link (past_of settings link history r) r none undropped unheld (carries_ip link r.octets) refl in
      let e = ap (λ b. cond b (side_in settings r.side p) None) (sym four) ∙ side in
      absurd (cc)

  -- its packet, if a datagram is read and no rule drops it
  plain_packet : (d : Datagram) (named : List Rule) → datagram_after settings link history r ≡ Some d → read.segment ≡ None → dropped_by settings link read r ≡ None → goes_in d.side ≡ true
      → named_rows settings link read r ≡ named → Plain settings.hops (packet_in link (frame_by settings (link_octets link r.octets) r.octets (Some d) named))
  plain_packet d named makes no_segment undropped side is = by named is
    where
      other : is_segment settings d ≡ false
      other = test (is_segment settings d) refl
        where
          test : (b : Bool) → is_segment settings d ≡ b → b ≡ false
          test false e = refl
          test true e =
              let none : cond true (Some d) None ≡ None = ap (λ b. cond b (Some d) None) (sym e) ∙ (ap (where_passes (is_segment settings)) (sym makes) ∙ no_segment) in
              absurd (cc)

      k : IsKnown settings d
      k = datagram_known known settings link history r d older octets makes

      live : Bool
      live = is_quoted_live read.past.calls (quoted_in d.octets)

      rows : (dgram_dropped_by settings live d ≡ None) × (find (holds_tcp settings d) segment_rows ≡ None)
      rows = first_none _ _ (sym (datagram_row_is settings link (past_of settings link history r) r d (made_of settings link (past_of settings link history r) r d makes) other) ∙ undropped)

      message : IsMessage d
      message = message_of settings live d k side (not_six (d.head.protocol == 6) refl) rows.0
        where
          not_six : (six : Bool) → (d.head.protocol == 6) ≡ six → six ≡ false
          not_six false e = refl
          not_six true e =
              let seen : is_segment settings d ≡ true = λ i. e i && is_none (rows.1 i) in
              let both = sym seen ∙ other in absurd (cc)

      kept : IsCarried settings link r d → IsKept settings link r
      kept c = record { undropped = c.undropped; carries = c.carried }

      long : IsCarried settings link r d → l_short link r.octets ≡ false
      long c = link_kept settings link r c.undropped

      -- as it was read
      as_it_was : d.fixes ≡ [] → IsEither settings link (pieces_before settings link history r) r d → Plain settings.hops (packet_in link r.octets)
      as_it_was unmended (joined j) = absurd (not_nil _ rules.FDone (ap (λ (e : Datagram). e.fixes) j.is ∙ unmended))
      as_it_was unmended (carried c) =
          let header : ip.header p ≡ d.header = ap (λ (e : Datagram). e.header) c.is in
          let body : ip.payload p ≡ d.octets = ap (λ (e : Datagram). e.octets) c.is in
          let fixes : ip_fixes settings link r whole_fix_rows ≡ [] = ap (λ (e : Datagram). e.fixes) c.is ∙ unmended in
          let lo = link_octets link r.octets in
          let same : packet_in link r.octets ≡ d.header ++ d.octets =
          ap (packet_in link) (whole_frame settings link r (kept c) fixes ∙ append_assoc lo (ip.header p) (ip.payload p))
          ∙ packet_behind link r.octets (ip.header p ++ ip.payload p) (long c) ∙ (λ i. header i ++ body i) in
          subst (Plain settings.hops) (sym same) (plain_message settings d (as_read d) (k.whole unmended) side refl message)

      -- with a rewritten header
      mended_packet : Plain settings.hops (packet_in link (mended_frame settings (link_octets link r.octets) d))
      mended_packet =
          let sent = sent_is_read settings d side in
          let short = k.short in
          let size = ap length sent in
          let out = anew settings d (octets_sent settings d) in
          let lo = link_octets link r.octets in
          let same : packet_in link (frame_of lo out) ≡ out.header ++ out.octets =
          ap (packet_in link) (append_assoc lo out.header out.octets) ∙ packet_behind link r.octets (out.header ++ out.octets) (link_kept settings link r (made_of settings link (past_of settings link history r) r d makes).undropped) in
          subst (Plain settings.hops) (sym same) (plain_message settings d out (fresh settings d (octets_sent settings d) hops k.sizes (omega (arith, short, size))) side sent message)

      by : (named : List Rule) → named_rows settings link read r ≡ named → Plain settings.hops (packet_in link (frame_by settings (link_octets link r.octets) r.octets (Some d) named))
      by [] none =
          as_it_was
          (empty_left d.fixes _ (sym (datagram_named_is settings link (past_of settings link history r) r d (made_of settings link (past_of settings link history r) r d makes) other) ∙ none)).0
          (either_of settings link (pieces_before settings link history r) r d makes)
      by (rule ∷ more) some = mended_packet

  -- the frames of a record that is not a segment
  plain_other : read.segment ≡ None → side_by (dropped_by settings link read r) (side_of_record settings link r) ≡ Some Inward
      → AllByRecursion (λ f. Plain settings.hops (packet_in link f)) (emits settings link read r)
  plain_other none side =
      subst (AllByRecursion (λ f. Plain settings.hops (packet_in link f))) (sym (plain_frames settings link read r none))
      (by (dropped_by settings link read r) refl (is_held read) refl read.datagram refl)
    where
      by : (row : Option Rule) → dropped_by settings link read r ≡ row → (held : Bool) → is_held read ≡ held → (made : Option Datagram) → read.datagram ≡ made
          → AllByRecursion (λ f. Plain settings.hops (packet_in link f)) (frames_by row held (frame_by settings (link_octets link r.octets) r.octets made (named_rows settings link read r)))
      by (Some rule) d held h made m = tt
      by None d true h made m = tt
      by None d false h None m = absurd (makes_datagram m d h (ap (λ row. side_by row (side_of_record settings link r)) (sym d) ∙ side))
      by None d false h (Some e) m = (plain_packet e (named_rows settings link read r) m none d (goes (made_of settings link (past_of settings link history r) r e m).told) refl, tt)
        where
          goes : side_of_record settings link r ≡ Some e.side → goes_in e.side ≡ true
          goes told =
              let same : Some e.side ≡ Some Inward = sym told ∙ (ap (λ row. side_by row (side_of_record settings link r)) (sym d) ∙ side) in
              let is : e.side ≡ Inward = cc same in
              ap goes_in is

  other_certain : read.segment ≡ None → IsCertain settings.hops link (item_of settings link history r)
  other_certain none = record {
    plain = plain_other none;
    segments = λ there. absurd (no_era there);
    sided = λ there. absurd (no_era there);
    written = λ side there. absurd (no_era there);
  }
    where
      no_era : IsSome (item_of settings link history r).entry.era → ⊥
      no_era there = let e = sym (ap (λ o. is_some (era_by (option_map (outcome_of settings read) o))) none) ∙ there in absurd (cc)

-- records that are segments
segment_certain : PacketLaws → MendedSayTheSame → (settings : PlainSettings) (link : Link) (history : List Item) (r : records.Packet) (d : Datagram)
    → settings.hops ≤ 254 → HaveOctets history → HasOctets r → segment_after settings link history r ≡ Some d → IsCertain settings.hops link (item_of settings link history r)
segment_certain laws mends settings link history r d hops older octets h = record {
  plain = λ inward. each (Plain settings.hops) (are.plain (goes Inward inward));
  segments = λ there. each IsWholeSegment (whole_segments mends settings v d s are (goes_in d.side) refl);
  sided = λ there. ap is_some side;
  written = λ outward there. ap is_written (segment_verdict settings link read r d rows) ∙ outward_written settings v d (goes Outward outward);
}
  where
    read : Read
    read = read_after settings link history r

    v : View
    v = view_of settings read.past.calls d

    rows : AreOfEra settings link read r d
    rows = rows_are_of_eras settings link history r d h

    s : IsSegment settings d
    s = segment_is laws.known settings link history r d older octets h

    are : AreOf settings d (outcome_of settings read d)
    are = packets_are laws settings link history r d hops older octets h

    side : (item_of settings link history r).entry.side ≡ Some d.side
    side =
        sides (dropped_by settings link read r) (side_of_record settings link r) (λ rule dropped. era_told settings read.past.calls d rule (sym rows.dropped ∙ dropped))
        ∙ (made_of settings link (past_of settings link history r) r d (both_of (is_segment settings) (datagram_after settings link history r) d h).0).told

    goes : (to : Side) → (item_of settings link history r).entry.side ≡ Some to → goes_in d.side ≡ goes_in to
    goes to is =
        let same : Some d.side ≡ Some to = sym side ∙ is in
        let e : d.side ≡ to = cc same in
        ap goes_in e

    each : (P : List ℕ → Type 0) → AllByRecursion (λ q. P (q.header ++ q.octets)) (outcome_of settings read d).packets → AllByRecursion (λ f. P (packet_in link f)) (item_of settings link history r).frames
    each P all =
        subst (AllByRecursion (λ f. P (packet_in link f))) (sym (segment_frames settings link read r d rows))
        (each_frame P link r.octets (outcome_of settings read d).packets (long_enough settings link history r d h) all)

pub items_certain : PacketLaws → AnewIsPacket → MendedSayTheSame → ItemsAreCertain
items_certain laws fresh mends settings link history r hops older octets = by (segment_after settings link history r) refl
  where
    by : (o : Option Datagram) → segment_after settings link history r ≡ o → IsCertain settings.hops link (item_of settings link history r)
    by None none = other_certain fresh laws.known settings link history r hops older octets none
    by (Some d) h = segment_certain laws mends settings link history r d hops older octets h

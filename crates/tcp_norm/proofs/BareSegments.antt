-- An inbound segment that brings no octet of the stream: its rules, and what goes inwards.
use Rattle.std.proofs.Common.{◌≡◌, true, ℕ, ◌+◌, ◌-◌, ◌&&◌, ◌||◌, Bool, false, cond, List, [], ◌∷◌, ◌++◌, length, refl, sym, ap, ap₂, ◌∙◌, arith, drop, nat_lt, length-append, append-nil}
use Rattle.std.proofs.lemmas.Bool.Decides.{nat_tests}
use Rattle.std.proofs.lemmas.Grind.{common_steps}
use Rattle.wire_base.specs.Tcp as tcp
use Rattle.wire_base.specs.declared.address.FlowKey.{FlowKey}
use Rattle.era_state.specs.declared.segment.Seg.{Seg}
use Rattle.ip_rules.specs.Datagrams.{Datagram, goes_in}
use Rattle.wire_base.specs.Options.{scale_of, cleaned}
use Rattle.wire_base.specs.Segments.{Written, Segment}
use Rattle.rule_book.specs.declared.rule.Rule.{Rule}
use Rattle.rule_book.specs.declared.rule.Rule.TheVariants as rules
use Rattle.norm_settings.specs.SettingValues.{PlainSettings}
use Rattle.tcp_codec.specs.WrittenSegment.{Fits, AreReadBack, segment_octets, header_octets, checksum_of}
use Rattle.era_state.specs.SegmentFields.{came}
use Rattle.tcp_codec.specs.declared.header.Tcp.{Tcp}
use Rattle.era_state.specs.Rules as era
use Rattle.era_state.specs.ForwardedOctets.{bounds_of, offset_of, begins_below, passes_window, passes_end}
use Rattle.linked_table.proofs.Lists.{filter_none}
use Rattle.tcp_norm.specs.Calls.{segment_in, key_of, read}
use Rattle.tcp_norm.specs.RuleRows.{t_strip, is_live, holds_era, mended_by, differ, c_probe, clashes, bare_mends, header_mends, stream_mends}
use Rattle.tcp_norm.specs.EmittedPackets.{packet_by, segment_sent, segment_anew, bare_segment, sum_mended, flags_cleared}
use Rattle.tcp_norm.specs.working.RewriteTests.{bare_rows, and_those, bare_tests, header_rows}
use Rattle.tcp_norm.specs.working.InwardSegments.{bare_read}
use Rattle.tcp_norm.specs.working.ReadHeads.{seen}
use Rattle.tcp_norm.specs.RuleViews.{View}
use Rattle.tcp_norm.proofs.SegmentRules.{mended_parts, flags_stay, header_are, header_mended, header_stays, those_are}
use Rattle.tcp_norm.proofs.StreamFrames.{none_held}
use Rattle.std.specs.Prelude.{filter}
use Rattle.ip_rules.proofs.Lists.{none_named}

-- An inbound datagram and what is sent of it.

-- The datagram is inbound between these ends, and what is sent inwards of it has its numbers, its
-- window and its flags but for urgent ones.
pub record Comes (d : Datagram) (key : FlowKey) (s : Seg) : Type 0 where
  pub side : goes_in d.side ≡ true
  pub key_is : key_of d ≡ key
  pub seq : s.seq ≡ (segment_in d).seq
  pub ack : s.ack ≡ (segment_in d).ack
  pub window : s.window ≡ (segment_in d).window
  pub syn : tcp.has_syn s.flags.0 ≡ tcp.has_syn (segment_in d).flags
  pub rst : tcp.has_rst s.flags.0 ≡ tcp.has_rst (segment_in d).flags
  pub ack_flag : tcp.has_ack s.flags.0 ≡ tcp.has_ack (segment_in d).flags

-- What goes inwards of a datagram that brings no octet of the stream.

-- the datagram is what arrived
pub comes_bare : (d : Datagram) (key : FlowKey) (s : Seg) → goes_in d.side ≡ true → key_of d ≡ key → came s ≡ bare_read d.octets → Comes d key s
comes_bare d key s side keyed is =
    let flags : s.flags.0 ≡ flags_cleared (tcp.flags d.octets) = ap (λ (w : Written). w.flags) is in
    record {
      side = side;
      key_is = keyed;
      seq = ap (λ (w : Written). w.seq) is;
      ack = ap (λ (w : Written). w.ack) is;
      window = ap (λ (w : Written). w.window) is;
      syn = ap tcp.has_syn flags ∙ (flags_stay (tcp.flags d.octets)).syn;
      rst = ap tcp.has_rst flags ∙ (flags_stay (tcp.flags d.octets)).rst;
      ack_flag = ap tcp.has_ack flags ∙ (flags_stay (tcp.flags d.octets)).ack;
    }

pub empty : (xs : List ℕ) → nat_lt 0 (length xs) ≡ false → xs ≡ []
empty [] e = refl
empty (x ∷ xs) e = absurd (grind (arith, nat_tests, e))

pub behind : (a b : Bool) → a ≡ true → (a && b) ≡ false → b ≡ false
behind true b is e = e
behind false b is e = cc

-- what is read of the packet, where the rewritten segment is a bare one
pub bare_is_read : AreReadBack → (settings : PlainSettings) (v : View) (d : Datagram) (probe : Bool) (named : List Rule) → goes_in d.side ≡ true → Fits (bare_segment d)
    → segment_anew v.segments d ≡ bare_segment d → (tcp.has_syn (segment_in d).flags || tcp.has_rst (segment_in d).flags) ≡ true
    → bare_rows (header_mended settings v d) (t_strip (segment_in d)) probe ≡ named → read true (packet_by settings v.segments d d.fixes named).octets ≡ bare_read d.octets
bare_is_read back settings v d probe [] side fits bare marked none =
    let rows = none_held (header_mended settings v d) (bare_tests (t_strip (segment_in d)) probe) none in
    let stays = header_stays settings v d side (none_named (holds_era settings v d) header_mends rows.0) in
    let strip : nat_lt 0 (length (tcp.payload d.octets)) ≡ false = behind (goes_in d.side && (tcp.has_syn (segment_in d).flags || tcp.has_rst (segment_in d).flags)) _ (ap₂ (λ a b. a && b) side marked) rows.1.0 in
    let payload : tcp.payload d.octets ≡ [] = empty (tcp.payload d.octets) strip in
    ap (read true) (as_read d.fixes)
    ∙ (λ k. record {
      inward = true;
      seq = tcp.sequence d.octets;
      ack = tcp.acknowledgment d.octets;
      flags = (sym stays.flags) k;
      window = tcp.window d.octets;
      scale = scale_of ((sym stays.options) k);
      octets = payload k;
    })
  where
    as_read : (fixes : List Rule) → (packet_by settings v.segments d fixes []).octets ≡ d.octets
    as_read [] = refl
    as_read (x ∷ xs) = refl
bare_is_read back settings v d probe (rule ∷ more) side fits bare marked some =
    let it = back (bare_segment d) fits in
    let header = it.header in
    ap (read true) (mended d.fixes ∙ (ap (λ b. cond b (segment_octets (segment_anew v.segments d)) (sum_mended d)) side ∙ ap segment_octets bare))
    ∙ (λ k. record {
      inward = true;
      seq = (header k).seq;
      ack = (header k).ack;
      flags = (header k).flags.0;
      window = (header k).window;
      scale = scale_of (it.options k);
      octets = it.octets k;
    })
  where
    mended : (fixes : List Rule) → (packet_by settings v.segments d fixes (rule ∷ more)).octets ≡ segment_sent v.segments d (rule ∷ more)
    mended [] = refl
    mended (x ∷ xs) = refl

-- a SYN or a RST is written bare
pub bare_anew : (ws : List Written) (d : Datagram) → (tcp.has_syn (segment_in d).flags || tcp.has_rst (segment_in d).flags) ≡ true → segment_anew ws d ≡ bare_segment d
bare_anew ws d marked = rw marked refl

pub written_long : (s : Segment) → length (segment_octets s) ≡ 20 + length s.options + length s.octets
written_long s =
    let joined = length-append s.options s.octets in
    let whole = length-append (header_octets s (checksum_of s)) (s.options ++ s.octets) in
    let header : length (header_octets s (checksum_of s)) ≡ 20 = refl in
    omega (arith, joined, whole, header)

-- The rules that rewrite an inbound datagram that brings no octet of the stream.

first_two : (a b c : Bool) → (a && b) ≡ false → (a && (b && c)) ≡ false
first_two true b c e = ap (λ x. x && c) e
first_two false b c e = refl

pub bare_mended : (settings : PlainSettings) (v : View) (d : Datagram) (probe : Bool) → goes_in d.side ≡ true → (is_live v && era.is_of_stream v.segments (segment_in d)) ≡ false
    → c_probe v (segment_in d) ≡ probe → mended_by settings v d ≡ bare_rows (header_mended settings v d) (t_strip (segment_in d)) probe
bare_mended settings v d probe side none asks =
    let p = holds_era settings v d in
    let w = segment_in d in
    let live = is_live v in
    let stream = era.is_of_stream v.segments w in
    let sum : p rules.TSumOut ≡ false = rw side refl in
    let old : p rules.TOld ≡ false = first_two live stream (begins_below (bounds_of v.segments) (offset_of v.segments w.seq) _) none in
    let window : p rules.TWindow ≡ false = first_two live stream (passes_window (bounds_of v.segments) (offset_of v.segments w.seq) _) none in
    let end : p rules.TEnd ≡ false = first_two live stream (passes_end (bounds_of v.segments) (offset_of v.segments w.seq) _ _) none in
    let clash : p rules.TClash ≡ false = ap (λ x. x && clashes v.segments w) none in
    mended_parts settings v d false (filter p bare_mends) [] sum refl (filter_none p stream_mends (old, (window, (end, (clash, tt)))))
    ∙ (ap (λ l. header_mended settings v d ++ l) (append-nil (filter p bare_mends))
    ∙ (sym (those_are p (header_mended settings v d) bare_mends) ∙ (λ k. and_those (header_mended settings v d) ((rules.TStrip, t_strip w) ∷ (rules.CProbe, asks k) ∷ []))))

dropped_long : (n : ℕ) (m : List ℕ) → length (drop n m) ≡ length m - n
dropped_long n m = grind (arith, common_steps)

-- the rules by the fields of the header are those of the datagram
pub beside_are : (settings : PlainSettings) (v : View) (d : Datagram) (m : List ℕ) (head : Tcp) (changed probe : Bool) (rows : List Rule)
    → head ≡ seen m head → d.octets ≡ m → goes_in d.side ≡ true → (is_live v && era.is_of_stream v.segments (segment_in d)) ≡ false → c_probe v (segment_in d) ≡ probe
    → changed ≡ differ (cleaned (tcp.has_syn head.flags.0) (tcp.options m)) (tcp.options m)
    → rows ≡ bare_rows (header_rows head changed)
    ((tcp.has_syn head.flags.0 || tcp.has_rst head.flags.0) && nat_lt 0 (length m - head.header)) probe
    → mended_by settings v d ≡ rows
beside_are settings v d m head changed probe rows fields octets side none asks cleans listed =
    let here = sym octets in
    let strip : ((tcp.has_syn head.flags.0 || tcp.has_rst head.flags.0) && nat_lt 0 (length m - head.header)) ≡ t_strip (segment_in d) =
    ap (λ (h : Tcp). (tcp.has_syn h.flags.0 || tcp.has_rst h.flags.0) && nat_lt 0 (length m - h.header)) fields
    ∙ (ap (λ n. (tcp.has_syn (tcp.flags m) || tcp.has_rst (tcp.flags m)) && nat_lt 0 n) (sym (dropped_long (tcp.header_length m) m))
    ∙ ap₂ (λ b l. (b && (tcp.has_syn (tcp.flags l) || tcp.has_rst (tcp.flags l))) && nat_lt 0 (length (tcp.payload l))) (sym side) here) in
    bare_mended settings v d probe side none asks
    ∙ (sym (λ k. bare_rows (header_are settings v d m head changed fields octets side cleans k) (strip k) probe) ∙ sym listed)

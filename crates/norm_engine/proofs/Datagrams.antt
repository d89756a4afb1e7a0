-- What is read of a record: an unfragmented datagram, a fragment, or a fragment that completes a
-- datagram.
use Rattle.std.proofs.Common.{◌≡◌, Bool, true, false, cond, ◌&&◌, List, ◌∷◌, ◌++◌, Option, Some, None, find, filter, refl, sym, ap, ap₂, ◌∙◌, subst, arith, append-nil, append_assoc, is_none, option_map, nat_le, []}
use Rattle.std.specs.Option.{option_or}
use Rattle.std.proofs.lemmas.List.Elements.{filter-append}
use Rattle.wire_base.specs.declared.address.Link.{Link}
use Rattle.wire_base.specs.declared.address.Side.{Side}
use Rattle.wire_base.specs.Ipv4 as ip
use Rattle.wire_base.specs.Frames.{packet_in}
use Rattle.icmp_codec.specs.QuotedPacket.{quoted_in}
use Rattle.ipv4_codec.specs.HeaderFields.{fields_of}
use Rattle.pcap_file.specs.Records.{Packet}
use Rattle.rule_book.specs.declared.rule.Rule.{Rule}
use Rattle.rule_book.specs.declared.rule.Rule.TheVariants as rules
use Rattle.rule_book.specs.Rules.{segment_rows}
use Rattle.norm_settings.specs.SettingValues.{PlainSettings}
use Rattle.ip_rules.specs.Datagrams.{Datagram, datagram_of, datagram_in}
use Rattle.ip_rules.specs.RuleRows.{carries_ip, side_in, is_inward, holds_in, holds_ip, whole_fix_rows, piece_fix_rows, ip_dropped_by, ip_fixes}
use Rattle.ip_rules.specs.JudgedRecord.{where_holds}
use Rattle.ip_rules.proofs.Datagrams.{made_by, inward_is}
use Rattle.dgram_rules.specs.RuleRows.{holds_dgram, dgram_dropped_by}
use Rattle.dgram_rules.proofs.Telling.{others_have_none}
use Rattle.tcp_norm.specs.Calls.{Call}
use Rattle.tcp_norm.specs.RuleViews.{view_of}
use Rattle.tcp_norm.specs.RuleRows as era
use Rattle.reassembly.specs.DatagramFragments.{Fragment, is_whole, whole_of, datagram_octets}
use Rattle.reassembly.specs.RuleRows as fragments
use Rattle.reassembly.specs.Calls as reassembly
use Rattle.norm_engine.specs.RuleRows.{side_of_record, is_tcp, holds_tcp, is_segment}
use Rattle.norm_engine.specs.Fragments.{Offering, fragment_with, fragment_in, offering_of, offering_in, holds_offered, pieces_with, completes, i_ttl, head_of_whole, datagram_made, joined_in}
use Rattle.norm_engine.specs.Calls.{Past, where_passes, datagram_by}
use Rattle.norm_engine.specs.Trace.{Read, is_quoted_live, is_held}
use Rattle.norm_engine.specs.working.EngineAnswers.{read_with}
use Rattle.ipv4_codec.specs.declared.header.Ipv4.{Ipv4}

-- the rules of each layer, of what was read

-- the first rule on a fragment that drops it
abbrev pub row_of_piece : Option Offering → Option Rule
row_of_piece None = None
row_of_piece (Some o) = fragments.dropped_by o.view o.piece

-- the first rule on a datagram that drops it
abbrev pub row_of_datagram : PlainSettings → List Call → Option Datagram → Option Rule
row_of_datagram settings calls None = None
row_of_datagram settings calls (Some d) = dgram_dropped_by settings (is_quoted_live calls (quoted_in d.octets)) d

-- the first rule on the header of its segment that drops it
abbrev pub row_of_header : PlainSettings → Option Datagram → Option Rule
row_of_header settings None = None
row_of_header settings (Some d) = find (holds_tcp settings d) segment_rows

-- the first rule on the connection of a segment that drops it
abbrev pub row_of_era : PlainSettings → List Call → Option Datagram → Option Rule
row_of_era settings calls None = None
row_of_era settings calls (Some d) = era.dropped_by settings (view_of settings calls d) d

-- the rule that rewrites the time to live of a datagram
abbrev pub mends_of_life : PlainSettings → Option Datagram → List Rule
mends_of_life settings None = []
mends_of_life settings (Some d) = where_holds (i_ttl settings d) rules.ITtl

-- the rules that apply to a fragment which no rule drops
abbrev pub named_of_piece : Option Offering → List Rule
named_of_piece None = []
named_of_piece (Some o) = filter (fragments.holds_fragment o.view o.piece) (rules.FHeld ∷ rules.FDone ∷ [])

-- the rule that corrects the checksum of a datagram
abbrev pub mends_of_datagram : PlainSettings → Option Datagram → List Rule
mends_of_datagram settings None = []
mends_of_datagram settings (Some d) = where_holds (holds_dgram settings false d rules.USumOut) rules.USumOut

-- the rules that rewrite a segment
abbrev pub mends_of_era : PlainSettings → List Call → Option Datagram → List Rule
mends_of_era settings calls None = []
mends_of_era settings calls (Some d) = era.mended_by settings (view_of settings calls d) d

-- the note on a segment
abbrev pub notes_of_era : PlainSettings → List Call → Option Datagram → List Rule
notes_of_era settings calls None = []
notes_of_era settings calls (Some d) = era.noted (view_of settings calls d) d

-- what is read of a record that carries an unfragmented datagram, which no rule on the link, the
-- header and the protocol drops
pub record IsCarried (settings : PlainSettings) (link : Link) (r : Packet) (d : Datagram) : Type 0 where
  pub undropped : ip_dropped_by settings link r ≡ None
  pub carried : carries_ip link r.octets ≡ true
  pub whole : ip.is_fragment (packet_in link r.octets) ≡ false
  pub told : side_in settings r.side (packet_in link r.octets) ≡ Some d.side
  pub is : datagram_of (packet_in link r.octets) (ip_fixes settings link r whole_fix_rows) d.side ≡ d

pub carried_in : (settings : PlainSettings) (link : Link) (r : Packet) (d : Datagram) → datagram_in settings link r ≡ Some d → IsCarried settings link r d
carried_in settings link r d made =
    let make = datagram_of (packet_in link r.octets) (ip_fixes settings link r whole_fix_rows) in
    let m = made_by (ip_dropped_by settings link r) (carries_ip link r.octets) (ip.is_fragment (packet_in link r.octets)) (side_in settings r.side (packet_in link r.octets)) make d made in
    let side : m.side ≡ d.side = ap (λ (e : Datagram). e.side) m.made in
    record { undropped = m.undropped; carried = m.carried; whole = m.whole; told = m.told_is ∙ ap Some side; is = sym (ap make side) ∙ m.made }

-- the rules on the header and the lifetime are those of the packet
life_is : (settings : PlainSettings) (link : Link) (r : Packet) (d : Datagram) → IsCarried settings link r d → holds_ip settings link r rules.ITtl ≡ i_ttl settings d
life_is settings link r d c =
    let p = packet_in link r.octets in
    ap (λ b. b && holds_in settings r.side p rules.ITtl) c.carried
    ∙ (ap (λ s. is_inward s && nat_le (ip.time_to_live p) settings.hops) c.told
    ∙ ap₂ (λ b (head : Ipv4). b && nat_le head.ttl settings.hops) (inward_is d.side) (ap (λ (e : Datagram). e.head) c.is))

carried_fixes : (settings : PlainSettings) (link : Link) (r : Packet) (d : Datagram) → IsCarried settings link r d
    → ip_fixes settings link r piece_fix_rows ++ (where_holds (i_ttl settings d) rules.ITtl ++ []) ≡ d.fixes
unfolding ip_fixes
carried_fixes settings link r d c =
    ap (λ xs. filter (holds_ip settings link r) piece_fix_rows ++ xs) (append-nil (where_holds (i_ttl settings d) rules.ITtl))
    ∙ (ap (λ b. filter (holds_ip settings link r) piece_fix_rows ++ where_holds b rules.ITtl) (sym (life_is settings link r d c))
    ∙ (sym (filter-append (holds_ip settings link r) piece_fix_rows (rules.ITtl ∷ []))
    ∙ ap (λ (e : Datagram). e.fixes) c.is))

-- what is read of a record that carries a fragment, which no rule on the link, the header and the
-- protocol drops
pub record IsFragment (settings : PlainSettings) (link : Link) (r : Packet) (piece : Fragment) : Type 0 where
  pub undropped : ip_dropped_by settings link r ≡ None
  pub carried : carries_ip link r.octets ≡ true
  pub part : ip.is_fragment (packet_in link r.octets) ≡ true
  pub is : fragment_with (fields_of (packet_in link r.octets)) (ip.payload (packet_in link r.octets)) ≡ piece

pub fragment_is : (settings : PlainSettings) (link : Link) (r : Packet) (piece : Fragment) → fragment_in settings link r ≡ Some piece → IsFragment settings link r piece
fragment_is settings link r piece h =
    let p = packet_in link r.octets in
    let parts = by (ip_dropped_by settings link r) (carries_ip link r.octets) (ip.is_fragment p) h in
    record { undropped = parts.0; carried = parts.1; part = parts.2; is = parts.3 }
  where
    by : (dropped : Option Rule) (carried part : Bool) → cond (is_none dropped && carried && part) (Some (fragment_with (fields_of (packet_in link r.octets)) (ip.payload (packet_in link r.octets)))) None ≡ Some piece
        → (dropped ≡ None) × (carried ≡ true) × (part ≡ true) × (fragment_with (fields_of (packet_in link r.octets)) (ip.payload (packet_in link r.octets)) ≡ piece)
    by (Some rule) carried part h = absurd (cc)
    by None false part h = absurd (cc)
    by None true false h = absurd (cc)
    by None true true h = (refl, refl, refl, cc)

pub fragment_by : (settings : PlainSettings) (link : Link) (r : Packet) (dropped : Option Rule) (carried part : Bool) → ip_dropped_by settings link r ≡ dropped → carries_ip link r.octets ≡ carried
    → ip.is_fragment (packet_in link r.octets) ≡ part
    → fragment_in settings link r ≡ cond (is_none dropped && carried && part) (Some (fragment_with (fields_of (packet_in link r.octets)) (ip.payload (packet_in link r.octets)))) None
fragment_by settings link r dropped carried part d c p =
    λ i. cond (is_none (d i) && c i && p i) (Some (fragment_with (fields_of (packet_in link r.octets)) (ip.payload (packet_in link r.octets)))) None

pub no_fragment : (settings : PlainSettings) (link : Link) (r : Packet) (d : Datagram) → IsCarried settings link r d → fragment_in settings link r ≡ None
no_fragment settings link r d c = fragment_by settings link r None true false c.undropped c.carried c.whole

-- what is read of a record whose fragment completes a datagram
pub record IsJoined (settings : PlainSettings) (link : Link) (calls : List reassembly.Call) (r : Packet) (d : Datagram) : Type 0 where
  pub piece : Fragment
  pub offered : fragment_in settings link r ≡ Some piece
  pub done : completes (offering_of settings calls piece) ≡ true
  pub told : side_in settings r.side (packet_in link r.octets) ≡ Some d.side
  pub is : datagram_made settings (ip_fixes settings link r piece_fix_rows)
      (head_of_whole (fields_of (packet_in link r.octets)) (whole_of (pieces_with (offering_of settings calls piece)))) (datagram_octets (pieces_with (offering_of settings calls piece))) d.side ≡ d

pub joined_of : (settings : PlainSettings) (link : Link) (calls : List reassembly.Call) (r : Packet) (d : Datagram) → joined_in settings link r (offering_in settings link calls r) ≡ Some d
    → IsJoined settings link calls r d
joined_of settings link calls r d h = by (fragment_in settings link r) refl h
  where
    make : Fragment → Side → Datagram
    make piece side =
        let ps = pieces_with (offering_of settings calls piece) in
        datagram_made settings (ip_fixes settings link r piece_fix_rows) (head_of_whole (fields_of (packet_in link r.octets)) (whole_of ps)) (datagram_octets ps) side

    made : (piece : Fragment) (whole : Bool) (told : Option Side) → completes (offering_of settings calls piece) ≡ whole → side_in settings r.side (packet_in link r.octets) ≡ told
        → fragment_in settings link r ≡ Some piece → cond whole (option_map (make piece) told) None ≡ Some d → IsJoined settings link calls r d
    made piece false told w s f h = absurd (cc)
    made piece true None w s f h = absurd (cc)
    made piece true (Some side) w s f h =
        let is : make piece side ≡ d = cc in
        let same : side ≡ d.side = ap (λ (e : Datagram). e.side) is in
        record { piece = piece; offered = f; done = w; told = s ∙ ap Some same; is = ap (make piece) (sym same) ∙ is }

    by : (x : Option Fragment) → fragment_in settings link r ≡ x → joined_in settings link r (option_map (offering_of settings calls) x) ≡ Some d → IsJoined settings link calls r d
    by None f h = absurd (cc)
    by (Some piece) f h = made piece (completes (offering_of settings calls piece)) (side_in settings r.side (packet_in link r.octets)) refl refl f h

-- no rule drops a fragment that completes its datagram, and it is not held
done_drops : (row : Option Rule) (whole : Bool) → fragments.is_done (fragments.answer_by row whole) ≡ true → row ≡ None
done_drops None whole h = refl
done_drops (Some rule) whole h = absurd (cc)

done_holds : (answer : reassembly.Answer) → fragments.is_done answer ≡ true → fragments.is_held answer ≡ false
done_holds reassembly.held h = absurd (cc)
done_holds reassembly.done h = refl
done_holds (reassembly.dropped rule) h = absurd (cc)

-- what is read of a record that makes a datagram
pub record IsMade (settings : PlainSettings) (link : Link) (read : Read) (r : Packet) (d : Datagram) : Type 0 where
  pub datagram : read.datagram ≡ Some d
  pub undropped : ip_dropped_by settings link r ≡ None
  pub told : side_of_record settings link r ≡ Some d.side
  pub stays : row_of_piece read.piece ≡ None
  pub held : is_held read ≡ false
  pub fixes : ip_fixes settings link r piece_fix_rows ++ (where_holds (i_ttl settings d) rules.ITtl ++ named_of_piece read.piece) ≡ d.fixes

pub carried_is_made : (settings : PlainSettings) (link : Link) (past : Past) (r : Packet) (d : Datagram) → datagram_by settings link past.pieces r ≡ Some d → IsCarried settings link r d
    → IsMade settings link (read_with settings link past r) r d
carried_is_made settings link past r d h c =
    let bare : offering_in settings link past.pieces r ≡ None = ap (option_map (offering_of settings past.pieces)) (no_fragment settings link r d c) in
    record {
      datagram = h;
      undropped = c.undropped;
      told = ap (λ b. cond b (side_in settings r.side (packet_in link r.octets)) None) c.carried ∙ c.told;
      stays = ap row_of_piece bare;
      held = ap (λ o. holds_offered o rules.FHeld) bare;
      fixes = ap (λ o. ip_fixes settings link r piece_fix_rows ++ (where_holds (i_ttl settings d) rules.ITtl ++ named_of_piece o)) bare ∙ carried_fixes settings link r d c;
    }

pub joined_is_made : (settings : PlainSettings) (link : Link) (past : Past) (r : Packet) (d : Datagram) → datagram_by settings link past.pieces r ≡ Some d → IsJoined settings link past.pieces r d
    → IsMade settings link (read_with settings link past r) r d
joined_is_made settings link past r d h j =
    let o = offering_of settings past.pieces j.piece in
    let answer = fragments.answer_at o.view o.piece in
    let f = fragment_is settings link r j.piece j.offered in
    let is : offering_in settings link past.pieces r ≡ Some o = ap (option_map (offering_of settings past.pieces)) j.offered in
    let held = done_holds answer j.done in
    let named : named_of_piece (Some o) ≡ rules.FDone ∷ [] =
    λ i. cond (held i) (rules.FHeld ∷ cond (j.done i) (rules.FDone ∷ []) []) (cond (j.done i) (rules.FDone ∷ []) []) in
    let fixes = ip_fixes settings link r piece_fix_rows in
    record {
      datagram = h;
      undropped = f.undropped;
      told = ap (λ b. cond b (side_in settings r.side (packet_in link r.octets)) None) f.carried ∙ j.told;
      stays = ap row_of_piece is ∙ done_drops (fragments.dropped_by o.view o.piece) (is_whole (o.piece ∷ o.view.pieces)) j.done;
      held = ap (λ x. holds_offered x rules.FHeld) is ∙ held;
      fixes = ap (λ x. fixes ++ (where_holds (i_ttl settings d) rules.ITtl ++ named_of_piece x)) is
          ∙ (ap (λ xs. fixes ++ (where_holds (i_ttl settings d) rules.ITtl ++ xs)) named
          ∙ (sym (append_assoc fixes (where_holds (i_ttl settings d) rules.ITtl) (rules.FDone ∷ []))
          ∙ subst (λ (e : Datagram). (fixes ++ where_holds (i_ttl settings e) rules.ITtl) ++ rules.FDone ∷ [] ≡ e.fixes) j.is refl));
    }

-- a datagram is carried or reassembled
pub data IsEither (settings : PlainSettings) (link : Link) (calls : List reassembly.Call) (r : Packet) (d : Datagram) : Type 0 where
  carried : IsCarried settings link r d → IsEither settings link calls r d
  joined : IsJoined settings link calls r d → IsEither settings link calls r d

pub either_of : (settings : PlainSettings) (link : Link) (calls : List reassembly.Call) (r : Packet) (d : Datagram) → datagram_by settings link calls r ≡ Some d → IsEither settings link calls r d
either_of settings link calls r d h = by (datagram_in settings link r) refl h
  where
    by : (x : Option Datagram) → datagram_in settings link r ≡ x → option_or x (joined_in settings link r (offering_in settings link calls r)) ≡ Some d → IsEither settings link calls r d
    by None is h = joined (joined_of settings link calls r d h)
    by (Some e) is h = carried (carried_in settings link r d (is ∙ h))

pub made_of : (settings : PlainSettings) (link : Link) (past : Past) (r : Packet) (d : Datagram) → datagram_by settings link past.pieces r ≡ Some d → IsMade settings link (read_with settings link past r) r d
made_of settings link past r d h = by (either_of settings link past.pieces r d h)
  where
    by : IsEither settings link past.pieces r d → IsMade settings link (read_with settings link past r) r d
    by (carried c) = carried_is_made settings link past r d h c
    by (joined j) = joined_is_made settings link past r d h j

pub first_none : {A : Type 0} (one other : Option A) → option_or one other ≡ None → (one ≡ None) × (other ≡ None)
first_none None other h = (refl, h)
first_none (Some x) other h = absurd (cc)

pub no_pass : (b : Bool) (d : Datagram) → cond b (Some d) None ≡ None → b ≡ false
no_pass true d h = absurd (cc)
no_pass false d h = refl

-- what passes a test is a datagram that satisfies it
pub passes : (test : Datagram → Bool) (o : Option Datagram) (d : Datagram) → where_passes test o ≡ Some d → (o ≡ Some d) × (test d ≡ true)
passes test None d h = absurd (cc)
passes test (Some e) d h = by (test e) refl h
  where
    by : (told : Bool) → test e ≡ told → cond told (Some e) None ≡ Some d → (Some e ≡ Some d) × (test d ≡ true)
    by true is h = let same : e ≡ d = cc in (ap Some same, ap test (sym same) ∙ is)
    by false is h = absurd (cc)

-- the tests of a segment
pub segment_tests : (settings : PlainSettings) (d : Datagram) → is_segment settings d ≡ true → (is_tcp d ≡ true) × (find (holds_tcp settings d) segment_rows ≡ None)
segment_tests settings d h = by (is_tcp d) (find (holds_tcp settings d) segment_rows) h
  where
    by : (six : Bool) (row : Option Rule) → (six && is_none row) ≡ true → (six ≡ true) × (row ≡ None)
    by true None h = (refl, refl)
    by true (Some rule) h = absurd (cc)
    by false row h = absurd (cc)

-- no rule on UDP and ICMP applies to TCP
pub no_row_on_tcp : (settings : PlainSettings) (live : Bool) (d : Datagram) → d.head.protocol ≡ 6 → (dgram_dropped_by settings live d ≡ None) × (holds_dgram settings live d rules.USumOut ≡ false)
no_row_on_tcp settings live d six =
    let none = others_have_none settings live d (λ e. let both = sym six ∙ e in omega (arith, both)) (λ e. let both = sym six ∙ e in omega (arith, both)) in
    (none.0, none.1 rules.USumOut)

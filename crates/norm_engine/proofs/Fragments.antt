-- A fragment of a record: which rule drops it, whether it is held, and its judgment by the answer
-- to it.
use Rattle.std.proofs.Common.{◌≡◌, ℕ, ◌≤◌, ◌<◌, Bool, true, false, cond, ◌&&◌, nat_le, List, ◌∷◌, ◌++◌, length, take, Option, Some, None, refl, sym, ap, ap₂, ◌∙◌, subst, arith, length-take, option_map, is_none, []}
use Rattle.std.specs.Option.{option_or}
use Rattle.wire_base.specs.declared.address.Link.{Link}
use Rattle.wire_base.specs.declared.address.Side.{Side}
use Rattle.wire_base.specs.Frames.{packet_in}
use Rattle.wire_base.specs.Numbers.{u16_at}
use Rattle.wire_base.specs.Ipv4 as ip
use Rattle.pcap_file.specs.Records.{Packet as Record}
use Rattle.rule_book.specs.declared.rule.Rule.{Rule}
use Rattle.rule_book.specs.declared.rule.Rule.TheVariants as rules
use Rattle.rule_book.specs.Rules.{fragment_rows}
use Rattle.norm_settings.specs.SettingValues.{PlainSettings}
use Rattle.ip_rules.specs.declared.rows.IpPacket.{IpPacket}
use Rattle.ip_rules.specs.RuleRows.{carries_ip, side_in, tells_side, piece_fix_rows, ip_dropped_by, ip_fixes}
use Rattle.ipv4_codec.specs.HeaderFields.{fields_of}
use Rattle.ip_rules.specs.Datagrams.{Datagram, AreOctets, HasSizes, goes_in}
use Rattle.ip_rules.specs.JudgedRecord.{IsKept, IsRead, where_holds}
use Rattle.reassembly.specs.declared.piece.Whole.{Whole}
use Rattle.reassembly.specs.declared.piece.Offered.TheVariants as offers
use Rattle.tcp_norm.specs.Calls as flows
use Rattle.reassembly.specs.DatagramFragments.{Fragment, IsPiece, is_whole, whole_of, datagram_octets}
use Rattle.reassembly.specs.Calls.{Answer, held, dropped, Call, done}
use Rattle.reassembly.specs.RuleRows as fragments
use Rattle.reassembly.specs.RuleRows.{answer_by, answer_at, view_of, call_of, offered, offered_at, is_held, is_done, holds_fragment}
use Rattle.reassembly.proofs.Rules.{first_row_drops}
use Rattle.norm_engine.specs.working.RecordJudgment.{Judgment, Drop, Hold}
use Rattle.norm_engine.specs.RuleRows.{side_of_record, is_segment}
use Rattle.norm_engine.specs.Fragments.{Offering, fragment_with, fragment_in, with_offered, offering_of, offering_in, holds_offered, pieces_with, completes, i_ttl, head_of_whole, datagram_made, joined_in}
use Rattle.norm_engine.specs.Calls.{Past, where_passes, datagram_by}
use Rattle.norm_engine.specs.working.EngineAnswers.{IsMadeWhole, IsPieceJudged, IsWholeJudged, Judges, read_with}
use Rattle.norm_engine.proofs.Items.{found_passes}
use Rattle.norm_engine.proofs.Datagrams.{IsMade, row_of_piece, fragment_by, made_of}
use Rattle.norm_engine.proofs.Layers.{bare_row}
use Rattle.norm_engine.proofs.Frames.{kept_packet, payload_fits}
use Rattle.norm_engine.proofs.Judgments.{StandsIn, few_made, kept_as, later_part, not_nil, offset_fits, whole_judged}

-- a fragment

-- the side is known of a record that a rule on fragments drops
piece_is_told : (o : Offering) (rule : Rule) → row_of_piece (Some o) ≡ Some rule → tells_side rule ≡ true
piece_is_told o rule h =
    found_passes tells_side (holds_fragment o.view o.piece) fragment_rows rule refl
    (sym (first_row_drops o.view o.piece) ∙ h)

side_here : (settings : PlainSettings) (link : Link) (r : Record) (side : Side) → IsKept settings link r → side_in settings r.side (packet_in link r.octets) ≡ Some side → side_of_record settings link r ≡ Some side
side_here settings link r side kept told = ap (λ c. cond c (side_in settings r.side (packet_in link r.octets)) None) kept.carries ∙ told

-- the fragment of a record that is kept
pub record IsOffered (settings : PlainSettings) (link : Link) (past : Past) (r : Record) (o : Offering) : Type 0 where
  pub kept : IsKept settings link r
  pub part : ip.is_fragment (packet_in link r.octets) ≡ true
  pub offering : offering_in settings link past.pieces r ≡ Some o

-- no datagram is made by a fragment that does not complete it
pub unmade : (settings : PlainSettings) (link : Link) (past : Past) (r : Record) (o : Offering) → IsOffered settings link past r o → completes o ≡ false → datagram_by settings link past.pieces r ≡ None
unmade settings link past r o is other =
    let p = packet_in link r.octets in
    let make = datagram_made settings (ip_fixes settings link r piece_fix_rows) (head_of_whole (fields_of p) (whole_of (pieces_with o))) (datagram_octets (pieces_with o)) in
    (λ i. option_or (kept_as settings link r None true true is.kept.undropped is.kept.carries is.part i) (joined_in settings link r (is.offering i)))
    ∙ ap (λ b. cond b (option_map make (side_in settings r.side p)) None) other

-- a fragment that a rule drops
dropped_is : (row : Option Rule) (whole : Bool) (rule : Rule) → answer_by row whole ≡ dropped rule → row ≡ Some rule
dropped_is None true rule h = absurd (cc)
dropped_is None false rule h = absurd (cc)
dropped_is (Some other) whole rule h = let same : other ≡ rule = cc in ap Some same

held_is : (row : Option Rule) (whole : Bool) → answer_by row whole ≡ held → row ≡ None
held_is None whole h = refl
held_is (Some rule) whole h = absurd (cc)

pub piece_drops : (settings : PlainSettings) (link : Link) (past : Past) (r : Record) (side : Side) (rule : Rule) (o : Offering) → IsOffered settings link past r o
    → answer_at o.view o.piece ≡ dropped rule → side_in settings r.side (packet_in link r.octets) ≡ Some side
    → Judges settings link (read_with settings link past r) r (Drop (Some side) rule)
piece_drops settings link past r side rule o is answer told =
    let empty = unmade settings link past r o is (ap is_done answer) in
    let row : row_of_piece (Some o) ≡ Some rule = dropped_is (fragments.dropped_by o.view o.piece) (is_whole (o.piece ∷ o.view.pieces)) rule answer in
    record {
      segment = ap (where_passes (is_segment settings)) empty;
      dropped = bare_row settings link past r empty ∙ ((λ i. option_or (is.kept.undropped i) (row_of_piece (is.offering i))) ∙ row);
      side = sym (ap (λ t. cond t (side_of_record settings link r) None) (piece_is_told o rule row) ∙ side_here settings link r side is.kept told);
    }

pub piece_holds : (settings : PlainSettings) (link : Link) (past : Past) (r : Record) (side : Side) (o : Offering) → IsOffered settings link past r o
    → answer_at o.view o.piece ≡ held → side_in settings r.side (packet_in link r.octets) ≡ Some side
    → Judges settings link (read_with settings link past r) r (Hold side)
piece_holds settings link past r side o is answer told =
    let empty = unmade settings link past r o is (ap is_done answer) in
    let row : row_of_piece (Some o) ≡ None = held_is (fragments.dropped_by o.view o.piece) (is_whole (o.piece ∷ o.view.pieces)) answer in
    record {
      segment = ap (where_passes (is_segment settings)) empty;
      undropped = bare_row settings link past r empty ∙ ((λ i. option_or (is.kept.undropped i) (row_of_piece (is.offering i))) ∙ row);
      held = ap (λ x. holds_offered x rules.FHeld) is.offering ∙ ap is_held answer;
      told = side_here settings link r side is.kept told;
    }

-- the answer to a fragment

pub answer_held : (answer : Answer) (whole : Whole) → offered answer whole ≡ offers.Held → answer ≡ held
answer_held held whole h = refl
answer_held done whole h = absurd (cc)
answer_held (dropped rule) whole h = absurd (cc)

pub answer_dropped : (answer : Answer) (whole : Whole) (rule : Rule) → offered answer whole ≡ offers.Drop rule → answer ≡ dropped rule
answer_dropped held whole rule h = absurd (cc)
answer_dropped done whole rule h = absurd (cc)
answer_dropped (dropped other) whole rule h = let same : other ≡ rule = cc in ap dropped same

pub answer_done : (answer : Answer) (whole told : Whole) → offered answer whole ≡ offers.Done told → (answer ≡ done) × (whole ≡ told)
answer_done held whole told h = absurd (cc)
answer_done done whole told h = (refl, cc)
answer_done (dropped rule) whole told h = absurd (cc)

-- a fragment of a record that is kept
module _ (settings : PlainSettings) (link : Link) (past : Past) (r : Record) (packet : IpPacket)
    (kept : IsKept settings link r) (part : ip.is_fragment (packet_in link r.octets) ≡ true)
    (read : IsRead settings r.side r.octets (packet_in link r.octets) (ip_fixes settings link r piece_fix_rows) packet) where
  abbrev o : Offering
  o = offering_of settings past.pieces (fragment_with packet.head packet.payload.now)

  abbrev p : List ℕ
  p = packet_in link r.octets

  is_offered : IsOffered settings link past r o
  is_offered = record {
    kept = kept;
    part = part;
    offering = ap (option_map (offering_of settings past.pieces)) (fragment_by settings link r None true true kept.undropped kept.carries part)
        ∙ sym (ap₂ (λ head octets. Some (offering_of settings past.pieces (fragment_with head octets))) read.head read.payload);
  }

  abbrev own_joined : Datagram
  own_joined = datagram_made settings (ip_fixes settings link r piece_fix_rows) (head_of_whole (fields_of p) (whole_of (pieces_with o))) (datagram_octets (pieces_with o)) packet.side

  made_joined : answer_at o.view o.piece ≡ done → IsMade settings link (read_with settings link past r) r own_joined
  made_joined answer =
      made_of settings link past r own_joined
      ((λ i. option_or (kept_as settings link r None true true kept.undropped kept.carries part i) (joined_in settings link r (is_offered.offering i)))
      ∙ (λ i. cond (is_done (answer i))
      (option_map (datagram_made settings (ip_fixes settings link r piece_fix_rows) (head_of_whole (fields_of p) (whole_of (pieces_with o))) (datagram_octets (pieces_with o))) (read.side i)) None))

  module _ (made : IpPacket) (makes : IsMadeWhole settings.hops packet (whole_of (pieces_with o)) (datagram_octets (pieces_with o)) made) where
    head_is : own_joined.head ≡ made.head
    head_is = ap (λ head. head_of_whole head (whole_of (pieces_with o))) (sym read.head) ∙ sym makes.head

    fixes_are : own_joined.fixes ≡ made.fixes.items
    fixes_are =
        ap (λ xs. (xs ++ where_holds (goes_in packet.side && nat_le (whole_of (pieces_with o)).ttl settings.hops) rules.ITtl) ++ rules.FDone ∷ []) (sym read.fixes)
        ∙ sym makes.fixes

    never : made.fixes.items ≡ [] → ⊥
    never none = not_nil (ip_fixes settings link r piece_fix_rows ++ where_holds (i_ttl settings own_joined) rules.ITtl) rules.FDone (fixes_are ∙ none)

    stands_joined : HasSizes made.head → AreOctets made.payload.now → length made.payload.now ≤ 65515 → StandsIn settings link r own_joined made
    stands_joined sizes each short = record {
      is = record {
        side = sym makes.side;
        head = head_is;
        octets = sym makes.payload;
        fixes = fixes_are;
        frame = λ none. absurd (never none);
      };
      known = record {
        sizes = subst HasSizes (sym head_is) sizes;
        known = (kept_packet settings link r kept).known;
        short = subst (λ xs. length xs ≤ 65515) makes.payload short;
        each = subst AreOctets makes.payload each;
        whole = λ none. absurd (never (sym fixes_are ∙ none));
      };
      record_frame = makes.frame ∙ read.frame;
      fits = short;
      few = subst (λ xs. length xs ≤ 6) fixes_are (few_made settings link r (i_ttl settings own_joined));
      short = λ none. absurd (never none);
    }

  -- the judgment on a fragment is that of its rules
  pub piece_judged : (judgment : Judgment) → IsPieceJudged settings past.calls o packet judgment (answer_at o.view o.piece) → Judges settings link (read_with settings link past r) r judgment
  piece_judged judgment says = by (answer_at o.view o.piece) refl says
    where
      by : (answer : Answer) → answer_at o.view o.piece ≡ answer → IsPieceJudged settings past.calls o packet judgment answer → Judges settings link (read_with settings link past r) r judgment
      by held is says = subst (Judges settings link (read_with settings link past r) r) (sym says) (piece_holds settings link past r packet.side o is_offered is read.side)
      by (dropped rule) is says = subst (Judges settings link (read_with settings link past r) r) (sym says) (piece_drops settings link past r packet.side rule o is_offered is read.side)
      by done is says =
          whole_judged settings link past r own_joined says.made (made_joined is) (stands_joined says.made says.makes says.sizes says.each says.short) judgment says.judged

  -- the calls with this fragment
  pub piece_called : (now : ℕ) (calls : List Call) → with_offered settings (fragment_in settings link r) now calls ≡ call_of settings calls now (fragment_with packet.head packet.payload.now) ∷ calls
  piece_called now calls =
      ap (λ x. with_offered settings x now calls) (fragment_by settings link r None true true kept.undropped kept.carries part
      ∙ sym (ap₂ (λ head octets. Some (fragment_with head octets)) read.head read.payload))

  -- it is a fragment that is possible in a packet
  pub is_piece : ip.total_length p < 65536 → IsPiece (fragment_with packet.head packet.payload.now)
  is_piece small =
      subst IsPiece (sym (ap₂ fragment_with read.head read.payload)) (record {
        part = later_part (ip.has_more_fragments p) (ip.fragment_offset p) part;
        offset = offset_fits (u16_at p 6);
        short = payload_fits p (kept_packet settings link r kept) small;
      })

-- no call of fragments is made for a record that carries none
pub none_called : (settings : PlainSettings) (link : Link) (r : Record) (now : ℕ) (calls : List Call) (row : Option Rule) (carried part : Bool) → ip_dropped_by settings link r ≡ row
    → carries_ip link r.octets ≡ carried → ip.is_fragment (packet_in link r.octets) ≡ part → (is_none row && carried && part) ≡ false
    → with_offered settings (fragment_in settings link r) now calls ≡ calls
none_called settings link r now calls row carried piece d c p none =
    ap (λ x. with_offered settings x now calls) (fragment_by settings link r row carried piece d c p
    ∙ ap (λ b. cond b (Some (fragment_with (fields_of (packet_in link r.octets)) (ip.payload (packet_in link r.octets)))) None) none)

-- a fragment is judged by the answer to it

module _ (settings : PlainSettings) (calls : List flows.Call) (came : List Call) (packet : IpPacket) where
  abbrev judged_as : Fragment → Judgment → Type 0
  judged_as piece judgment = IsPieceJudged settings calls (offering_of settings came piece) packet judgment (answer_at (view_of settings came piece) piece)

  pub held_judged : (q piece : Fragment) → q ≡ piece → offers.Held ≡ offered_at (view_of settings came q) q → judged_as piece (Hold packet.side)
  held_judged q piece same says =
      let is = answer_held (answer_at (view_of settings came q) q) (whole_of (pieces_with (offering_of settings came q))) (sym says) in
      subst (λ x. judged_as x (Hold packet.side)) same
      (subst (IsPieceJudged settings calls (offering_of settings came q) packet (Hold packet.side)) (sym is) refl)

  pub dropped_judged : (q piece : Fragment) (rule : Rule) → q ≡ piece → offers.Drop rule ≡ offered_at (view_of settings came q) q → judged_as piece (Drop (Some packet.side) rule)
  dropped_judged q piece rule same says =
      let is = answer_dropped (answer_at (view_of settings came q) q) (whole_of (pieces_with (offering_of settings came q))) rule (sym says) in
      subst (λ x. judged_as x (Drop (Some packet.side) rule)) same
      (subst (IsPieceJudged settings calls (offering_of settings came q) packet (Drop (Some packet.side) rule)) (sym is) refl)

  pub done_judged : (q piece : Fragment) (whole : Whole) (buffer : List ℕ) (made : IpPacket) (judgment : Judgment) → q ≡ piece
      → offers.Done whole ≡ offered_at (view_of settings came q) q → take whole.len buffer ≡ datagram_octets (q ∷ (view_of settings came q).pieces)
      → IsMadeWhole settings.hops packet whole (take whole.len buffer) made → HasSizes made.head → AreOctets (take whole.len buffer) → whole.len ≤ 65515
      → IsWholeJudged settings calls [] made judgment → judged_as piece judgment
  done_judged q piece whole buffer made judgment same says joins makes sizes each short judged =
      let o = offering_of settings came q in
      let is = answer_done (answer_at o.view q) (whole_of (pieces_with o)) whole (sym says) in
      let long : length (take whole.len buffer) ≤ whole.len = grind (arith, length-take whole.len buffer) in
      let fits : length (take whole.len buffer) ≤ 65515 = omega (arith, long, short) in
      subst (λ x. judged_as x judgment) same
      (subst (IsPieceJudged settings calls o packet judgment) (sym is.0) (record {
        made = made;
        makes = subst (λ w. IsMadeWhole settings.hops packet w (datagram_octets (pieces_with o)) made) (sym is.1) (subst (λ xs. IsMadeWhole settings.hops packet whole xs made) joins makes);
        sizes = sizes;
        each = subst AreOctets (sym makes.payload) each;
        short = subst (λ xs. length xs ≤ 65515) (sym makes.payload) fits;
        judged = judged;
      }))

-- The calls of reassembly that a history makes, and the datagram that a fragment completes (RFC 791
-- sections 2.3 and 3.2; the rules are this project's profile). Lists of calls have the newest at
-- the head, as the history has.
use Rattle.std.specs.Prelude.{ℕ, ◌&&◌, nat_le, Bool, false, List, [], ◌∷◌, ◌++◌, Option, Some, None, is_none, option_map, if◌then◌else◌}
use Rattle.wire_base.specs.declared.address.Link.{Link}
use Rattle.wire_base.specs.declared.address.Side.{Side}
use Rattle.wire_base.specs.Ipv4 as ip
use Rattle.wire_base.specs.Frames.{packet_in}
use Rattle.pcap_file.specs.Records as records
use Rattle.ipv4_codec.specs.declared.header.Ipv4.{Ipv4}
use Rattle.ipv4_codec.specs.HeaderFields.{fields_of}
use Rattle.rule_book.specs.declared.rule.Rule.{Rule}
use Rattle.rule_book.specs.declared.rule.Rule.TheVariants as rules
use Rattle.norm_settings.specs.SettingValues.{PlainSettings}
use Rattle.ip_rules.specs.Datagrams.{Datagram, goes_in}
use Rattle.ip_rules.specs.RuleRows.{carries_ip, side_in, piece_fix_rows, ip_dropped_by, ip_fixes}
use Rattle.ip_rules.specs.JudgedRecord.{where_holds}
use Rattle.reassembly.specs.declared.piece.Whole.{Whole}
use Rattle.reassembly.specs.DatagramFragments.{Fragment, whole_of, datagram_octets}
use Rattle.reassembly.specs.Calls.{Call, expiry}
use Rattle.reassembly.specs.RuleRows.{View, view_of, answer_at, call_of, is_done, holds_fragment}
use Rattle.norm_engine.specs.Items.{Item, now_with}

-- the fragment with a header of these fields, followed by these octets
abbrev pub fragment_with : Ipv4 → (octets : List ℕ) → Fragment
fragment_with head octets =
    record {
      id = record { src = head.src; dst = head.dst; protocol = head.protocol; ident = head.ident };
      offset = head.offset;
      more = head.more;
      df = head.df;
      tos = head.tos;
      ttl = head.ttl;
      octets = octets;
    }

-- the fragment that a record carries, if no rule on the link, the header and the protocol drops it
abbrev pub fragment_in : PlainSettings → Link → records.Packet → Option Fragment
fragment_in settings link r =
    let p = packet_in link r.octets in
    if is_none (ip_dropped_by settings link r) && carries_ip link r.octets && ip.is_fragment p then Some (fragment_with (fields_of p) (ip.payload p)) else None

-- the calls with that of a fragment, if there is one
abbrev pub with_offered : PlainSettings → Option Fragment → (now : ℕ) → List Call → List Call
with_offered settings None now calls = calls
with_offered settings (Some piece) now calls = call_of settings calls now piece ∷ calls

-- the calls that a history makes: for each record first the removal of old datagrams by its time,
-- then its fragment
abbrev pub piece_calls : PlainSettings → Link → List Item → List Call
piece_calls settings link [] = []
piece_calls settings link (item ∷ older) =
    let now = now_with older item.packet in
    with_offered settings (fragment_in settings link item.packet) now (expiry now ∷ piece_calls settings link older)

-- the calls before the fragment of a record, after the removal of old datagrams by its time
abbrev pub pieces_before : PlainSettings → Link → (history : List Item) → records.Packet → List Call
pieces_before settings link history r = expiry (now_with history r) ∷ piece_calls settings link history

-- a fragment, and what its rules read of the calls before it
pub record Offering : Type 0 where
  pub piece : Fragment
  pub view : View

-- a fragment after these calls
abbrev pub offering_of : PlainSettings → List Call → Fragment → Offering
offering_of settings calls piece = record { piece = piece; view = view_of settings calls piece }

-- the fragment of a record after these calls, if it carries one
abbrev pub offering_in : PlainSettings → Link → List Call → records.Packet → Option Offering
offering_in settings link calls r = option_map (offering_of settings calls) (fragment_in settings link r)

-- whether the condition of a rule on fragments applies to it
abbrev pub holds_offered : Option Offering → Rule → Bool
holds_offered None rule = false
holds_offered (Some o) rule = holds_fragment o.view o.piece rule

-- its fragment with those held before it
abbrev pub pieces_with : Offering → List Fragment
pieces_with o = o.piece ∷ o.view.pieces

-- it completes its datagram
abbrev pub completes : Offering → Bool
completes o = is_done (answer_at o.view o.piece)

-- I_TTL: the datagram goes inwards and would not pass all routers behind the bridge
abbrev pub i_ttl : PlainSettings → Datagram → Bool
i_ttl settings d = goes_in d.side && nat_le d.head.ttl settings.hops

-- the header of a complete datagram: that of the packet which completed it, with the fields from
-- the first fragment that arrived with offset 0
abbrev pub head_of_whole : Ipv4 → Whole → Ipv4
head_of_whole head whole = record head { tos = whole.tos; df = whole.df; more = false; offset = 0; ttl = whole.ttl }

-- the datagram to this side with this header, made of fragments, the last of which arrived in a
-- packet that these rules rewrite
abbrev pub datagram_made : PlainSettings → (fixes : List Rule) → Ipv4 → (octets : List ℕ) → Side → Datagram
datagram_made settings fixes head octets side =
    let low = goes_in side && nat_le head.ttl settings.hops in
    record { side = side; head = head; header = []; octets = octets; fixes = fixes ++ where_holds low rules.ITtl ++ rules.FDone ∷ [] }

-- the datagram that a fragment in a record completes, if it does
abbrev pub joined_in : PlainSettings → Link → records.Packet → Option Offering → Option Datagram
joined_in settings link r None = None
joined_in settings link r (Some o) =
    let p = packet_in link r.octets in
    let head = head_of_whole (fields_of p) (whole_of (pieces_with o)) in
    if completes o
    then option_map (datagram_made settings (ip_fixes settings link r piece_fix_rows) head (datagram_octets (pieces_with o))) (side_in settings r.side p)
    else None

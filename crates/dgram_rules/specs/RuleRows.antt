-- The rules on UDP and ICMP, one definition each, in the order of their numbers (this project's
-- profile). A rule depends on one whole datagram, the settings, and whether the TCP connection that
-- an ICMP error quotes has a live era. The rules on UDP apply only to UDP, and those on ICMP only
-- to ICMP; this is stated once for all of them (`holds_dgram`).
use Rattle.std.specs.Prelude.{ℕ, ◌==◌, ◌&&◌, ◌||◌, not, Bool, true, false, length, Option, Some, None, find}
use Rattle.wire_base.specs.Checksums.{pseudo_sum}
use Rattle.wire_base.specs.Udp as udp
use Rattle.wire_base.specs.Icmp as icmp
use Rattle.icmp_codec.specs.declared.quote.QuotedKey.{QuotedKey}
use Rattle.icmp_codec.specs.QuotedPacket.{quoted_in}
use Rattle.rule_book.specs.declared.rule.Rule.{Rule}
use Rattle.rule_book.specs.declared.rule.Rule.TheVariants as rules
use Rattle.rule_book.specs.Rules.{datagram_rows}
use Rattle.norm_settings.specs.SettingValues.{PlainSettings}
use Rattle.norm_settings.specs.Side.{is_trusted}
use Rattle.ip_rules.specs.Datagrams.{Datagram, goes_in}

-- the sum of the pseudo-header of a datagram (RFC 768, RFC 9293 section 3.1)
abbrev pub pseudo_of : Datagram → ℕ
pseudo_of d = pseudo_sum d.head.src.0 d.head.dst.0 d.head.protocol (length d.octets)

-- the sender made a UDP checksum, and it is wrong (RFC 768: a checksum of 0 means that the sender
-- made none)
abbrev pub has_wrong_sum : Datagram → Bool
has_wrong_sum d = udp.has_wrong_sum (pseudo_of d) d.octets

-- outbound, and the sender leaves checksums to its network card
abbrev pub is_offloaded : PlainSettings → Datagram → Bool
is_offloaded settings d = not (goes_in d.side) && settings.offload

-- U_SHORT: the message has fewer than 8 octets
abbrev pub u_short : Datagram → Bool
u_short d = udp.is_short d.octets

-- U_LEN: the length field is not the length of the datagram's payload
abbrev pub u_len : Datagram → Bool
u_len d = udp.has_other_length d.octets

-- U_SUM: the checksum is not 0 and is wrong, unless the datagram is outbound under `offload`
abbrev pub u_sum : PlainSettings → Datagram → Bool
u_sum settings d = has_wrong_sum d && not (is_offloaded settings d)

-- M_SHORT: the message has fewer than 8 octets
abbrev pub m_short : Datagram → Bool
m_short d = icmp.is_short d.octets

-- M_SUM: the checksum over the whole message is wrong
abbrev pub m_sum : Datagram → Bool
m_sum d = icmp.has_wrong_sum d.octets

-- the types of the errors that quote a packet: destination unreachable, time exceeded, parameter
-- problem (RFC 792)
abbrev pub is_error : (kind : ℕ) → Bool
is_error kind = (kind == 3) || (kind == 11) || (kind == 12)

-- the types of echo and of timestamps, each with its reply (RFC 792)
abbrev pub is_query : (kind : ℕ) → Bool
is_query kind = (kind == 0) || (kind == 8) || (kind == 13) || (kind == 14)

-- M_TYPE: the type is not 0, 3, 8, 11, 12, 13 or 14
abbrev pub m_type : Datagram → Bool
m_type d = not (is_error (icmp.kind d.octets) || is_query (icmp.kind d.octets))

-- an error does not quote a packet that went outwards: the quote is not readable, its source is not
-- trusted, its destination is trusted, or it is TCP of a connection without a live era
abbrev pub is_stray : PlainSettings → (live : Bool) → Option QuotedKey → Bool
is_stray settings live None = true
is_stray settings live (Some quote) =
    not (is_trusted settings quote.src.0) || is_trusted settings quote.dst.0 || ((quote.protocol == 6) && not live)

-- M_QUOTE: an inbound error that does not quote a packet that went outwards
abbrev pub m_quote : PlainSettings → (live : Bool) → Datagram → Bool
m_quote settings live d = goes_in d.side && is_error (icmp.kind d.octets) && is_stray settings live (quoted_in d.octets)

-- U_SUM_OUT: outbound under `offload`, and the checksum is not 0 and is wrong
abbrev pub u_sum_out : PlainSettings → Datagram → Bool
u_sum_out settings d = is_offloaded settings d && has_wrong_sum d

-- whether a rule on UDP or ICMP applies to a datagram: its protocol is 17 or 1, and the condition
-- of the rule holds; other rules do not hold
abbrev pub holds_dgram : PlainSettings → (live : Bool) → Datagram → Rule → Bool
holds_dgram settings live d rules.UShort = (d.head.protocol == 17) && u_short d
holds_dgram settings live d rules.ULen = (d.head.protocol == 17) && u_len d
holds_dgram settings live d rules.USum = (d.head.protocol == 17) && u_sum settings d
holds_dgram settings live d rules.MShort = (d.head.protocol == 1) && m_short d
holds_dgram settings live d rules.MSum = (d.head.protocol == 1) && m_sum d
holds_dgram settings live d rules.MType = (d.head.protocol == 1) && m_type d
holds_dgram settings live d rules.MQuote = (d.head.protocol == 1) && m_quote settings live d
holds_dgram settings live d rules.USumOut = (d.head.protocol == 17) && u_sum_out settings d
holds_dgram settings live d _ = false

-- the first rule that drops the datagram, in the order of testing, if there is one
unfoldable pub dgram_dropped_by : PlainSettings → (live : Bool) → Datagram → Option Rule
dgram_dropped_by settings live d = find (holds_dgram settings live d) datagram_rows

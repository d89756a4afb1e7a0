-- The rules of the rule table on connections, one definition each, in the order of testing, then of
-- naming (this project's profile). A rule is read of a datagram under settings, with what it asks
-- of the calls before.
use Rattle.std.specs.Prelude.{ℕ, ◌+◌, ◌-◌, ◌==◌, ◌&&◌, ◌||◌, nat_lt, not, Bool, true, false, List, [], ◌∷◌, ◌++◌, length, find, filter, pos, ◌-ℤ◌, Option, Some, None, is_some, is_none, slice_index, if◌then◌else◌}
use Rattle.std.specs.List.{list_any, range_with_len}
use Rattle.std.specs.Option.{unwrap_or}
use Rattle.wire_base.specs.Tcp as tcp
use Rattle.wire_base.specs.Checksums.{pseudo_sum}
use Rattle.wire_base.specs.Options.{cleaned}
use Rattle.wire_base.specs.Segments.{Written}
use Rattle.rule_book.specs.declared.rule.Rule.{Rule}
use Rattle.rule_book.specs.declared.rule.Rule.TheVariants as rules
use Rattle.rule_book.specs.Rules.{era_rows}
use Rattle.norm_settings.specs.SettingValues.{PlainSettings}
use Rattle.era_state.specs.Offsets.{nat_of}
use Rattle.era_state.specs.Quantities.{base_at, first, out}
use Rattle.era_state.specs.ForwardedOctets.{bounds_of, offset_of, low, high}
use Rattle.era_state.specs.Rules as era
use Rattle.cold_start.specs.Rules as cold
use Rattle.ip_rules.specs.Datagrams.{Datagram, goes_in}
use Rattle.tcp_norm.specs.Calls.{segment_in}
use Rattle.tcp_norm.specs.HeldOctets.{held_of, missing_of}
use Rattle.tcp_norm.specs.RuleViews.{View}

-- an era is live
abbrev pub is_live : View → Bool
is_live v = is_some v.era

-- the offset of the first octet that is sent, and the offset after the last (both the same, where
-- none goes out)
abbrev pub low_of : List Written → Written → ℕ
low_of ws w = low (bounds_of ws) (offset_of ws w.seq)

abbrev pub high_of : List Written → Written → ℕ
high_of ws w = high (bounds_of ws) (offset_of ws w.seq) (length w.octets)

-- the segment's own octet at an offset
abbrev pub own_octet : List Written → Written → (offset : ℕ) → ℕ
own_octet ws w offset = slice_index w.octets (nat_of (pos offset -ℤ offset_of ws w.seq))

-- the octet that goes out at an offset: First, where there is one
abbrev pub octet_sent : List Written → Written → (offset : ℕ) → ℕ
octet_sent ws w offset = unwrap_or (first (base_at ws) ws (pos offset)) (own_octet ws w offset)

-- the offsets of the kept interval
abbrev pub kept_offsets : List Written → Written → List ℕ
kept_offsets ws w = range_with_len (low_of ws w) (high_of ws w - low_of ws w)

-- an era begins with the segment where none is live: the outside calls, or the inside sends what is
-- no RST
abbrev pub begins_cold : Written → Bool
begins_cold w = cold.is_call w || (not w.inward && not (tcp.has_rst w.flags))

-- an era would begin, not by reopening
abbrev pub begins : View → Written → Bool
begins v w = not (is_live v) && begins_cold w

-- the live era ends, and another begins
abbrev pub reopens : View → Written → Bool
reopens v w = is_live v && (era.reopens_inward v.segments w || era.reopens_outward v.segments w)

-- T_COLD: no era is live, and an inbound segment has RST, or SYN with ACK
abbrev pub t_cold : View → Written → Bool
t_cold v w = not (is_live v) && cold.t_cold w

-- T_STATE
abbrev pub t_state : View → Written → Bool
t_state v w = is_live v && era.t_state v.segments w

-- T_SYN
abbrev pub t_syn : View → Written → Bool
t_syn v w = is_live v && era.t_syn v.segments w

-- T_RST
abbrev pub t_rst : View → Written → Bool
t_rst v w = is_live v && era.t_rst v.segments w

-- T_FULL: an era would begin, as many are live as may be, and each of them holds octets
abbrev pub t_full : View → Written → Bool
t_full v w = begins v w && v.is_full && is_none v.evictable

-- how many cells the octets that go out need besides those of the era
abbrev pub wanted_of : List Written → Written → ℕ
wanted_of ws w = missing_of ws (low_of ws w) (high_of ws w - low_of ws w)

-- the number is above the bound, where one is set
abbrev pub exceeds : Option ℕ → (number : ℕ) → Bool
exceeds None number = false
exceeds (Some most) number = nat_lt most number

-- T_QUOTA: with the octets that go out the era would take more cells than one may
abbrev pub t_quota : PlainSettings → View → Written → Bool
t_quota settings v w =
    is_live v && era.is_of_stream v.segments w && exceeds settings.quota (held_of v.segments + wanted_of v.segments w)

-- T_ROOM: the octets that go out need more cells than are free
abbrev pub t_room : View → Written → Bool
t_room v w =
    is_live v && era.is_of_stream v.segments w && nat_lt v.room (wanted_of v.segments w)

-- what is summed before the segment (RFC 9293 section 3.1)
abbrev pub pseudo_of : Datagram → ℕ
pseudo_of d = pseudo_sum d.head.src.0 d.head.dst.0 6 (length d.octets)

-- T_SUM_OUT: outbound, checksums are left to the sender's interface, and the checksum is not right
abbrev pub t_sum_out : PlainSettings → Datagram → Bool
t_sum_out settings d = not (goes_in d.side) && settings.offload && tcp.has_wrong_sum (pseudo_of d) d.octets

-- T_RES: inbound, reserved bits are not 0
abbrev pub t_res : Datagram → Bool
t_res d = goes_in d.side && not (tcp.reserved d.octets == 0)

-- T_URG: inbound, URG is set or the urgent pointer is not 0
abbrev pub t_urg : Datagram → Bool
t_urg d = goes_in d.side && (tcp.has_urg (tcp.flags d.octets) || not (tcp.urgent_pointer d.octets == 0))

-- the lists differ at an index
abbrev pub differ : List ℕ → List ℕ → Bool
differ [] [] = false
differ [] (y ∷ ys) = true
differ (x ∷ xs) [] = true
differ (x ∷ xs) (y ∷ ys) = not (x == y) || differ xs ys

-- the options that go out: cleaned
abbrev pub options_sent : Datagram → List ℕ
options_sent d = cleaned (tcp.has_syn (tcp.flags d.octets)) (tcp.options d.octets)

-- T_OPT: inbound, an option before the end option is not kept, or an octet after it is not 0
abbrev pub t_opt : Datagram → Bool
t_opt d = goes_in d.side && differ (options_sent d) (tcp.options d.octets)

-- T_STRIP: an inbound SYN or RST with payload
abbrev pub t_strip : Written → Bool
t_strip w = w.inward && (tcp.has_syn w.flags || tcp.has_rst w.flags) && nat_lt 0 (length w.octets)

-- C_PROBE: inbound, and no era is live and neither SYN nor RST is set; or RST, and something was
-- sent outwards in the live era
abbrev pub c_probe : View → Written → Bool
c_probe v w =
    (not (is_live v) && cold.is_asked w) || (is_live v && w.inward && tcp.has_rst w.flags && is_some (out v.segments))

-- T_OLD, T_WINDOW, T_END, of an inbound segment with neither SYN nor RST of a Warm or Closed era
abbrev pub t_old : View → Written → Bool
t_old v w = is_live v && era.t_old v.segments w

abbrev pub t_window : View → Written → Bool
t_window v w = is_live v && era.t_window v.segments w

abbrev pub t_end : View → Written → Bool
t_end v w = is_live v && era.t_end v.segments w

-- an octet that goes out differs from the segment's own
abbrev pub clashes : List Written → Written → Bool
clashes ws w = list_any (λ offset. not (octet_sent ws w offset == own_octet ws w offset)) (kept_offsets ws w)

-- T_CLASH
abbrev pub t_clash : View → Written → Bool
t_clash v w = is_live v && era.is_of_stream v.segments w && clashes v.segments w

-- whether the condition of a rule on connections holds; those of other layers never hold
abbrev pub holds_era : PlainSettings → View → Datagram → Rule → Bool
holds_era settings v d rules.TCold = t_cold v (segment_in d)
holds_era settings v d rules.TState = t_state v (segment_in d)
holds_era settings v d rules.TSyn = t_syn v (segment_in d)
holds_era settings v d rules.TRst = t_rst v (segment_in d)
holds_era settings v d rules.TFull = t_full v (segment_in d)
holds_era settings v d rules.TQuota = t_quota settings v (segment_in d)
holds_era settings v d rules.TRoom = t_room v (segment_in d)
holds_era settings v d rules.TSumOut = t_sum_out settings d
holds_era settings v d rules.TRes = t_res d
holds_era settings v d rules.TUrg = t_urg d
holds_era settings v d rules.TOpt = t_opt d
holds_era settings v d rules.TStrip = t_strip (segment_in d)
holds_era settings v d rules.CProbe = c_probe v (segment_in d)
holds_era settings v d rules.TOld = t_old v (segment_in d)
holds_era settings v d rules.TWindow = t_window v (segment_in d)
holds_era settings v d rules.TEnd = t_end v (segment_in d)
holds_era settings v d rules.TClash = t_clash v (segment_in d)
holds_era settings v d _ = false

-- the rules on the header of an inbound datagram that is not dropped, in the order of their numbers
abbrev pub header_mends : List Rule
header_mends = rules.TRes ∷ rules.TUrg ∷ rules.TOpt ∷ []

-- those on one that brings no octet of the stream, and those on one of the stream
abbrev pub bare_mends : List Rule
bare_mends = rules.TStrip ∷ rules.CProbe ∷ []

abbrev pub stream_mends : List Rule
stream_mends = rules.TOld ∷ rules.TWindow ∷ rules.TEnd ∷ rules.TClash ∷ []

-- the rules that are named of one that is not dropped, in the order of their numbers
abbrev pub mends : List Rule
mends = rules.TSumOut ∷ (header_mends ++ (bare_mends ++ stream_mends))

-- the rule that drops the datagram, if one does: the first that holds; outbound none does
abbrev pub dropped_by : PlainSettings → View → Datagram → Option Rule
dropped_by settings v d = if goes_in d.side then find (holds_era settings v d) era_rows else None

-- the rules that rewrite it
abbrev pub mended_by : PlainSettings → View → Datagram → List Rule
mended_by settings v d = filter (holds_era settings v d) mends

-- a note: T_FULL of an outbound datagram, which it does not drop
abbrev pub noted : View → Datagram → List Rule
noted v d = if not (goes_in d.side) && t_full v (segment_in d) then rules.TFull ∷ [] else []

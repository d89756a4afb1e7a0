-- Conditions of rules on one segment and one era (this project's profile): `ws` are the segments
-- written of the era so far, `w` is the next one. Each is named as its rule, in the order of the
-- rules' numbers. The functions before them state the same in terms of an era's state, base and
-- first SYN.
use Rattle.std.specs.Prelude.{ℕ, ◌+◌, ◌%◌, ◌^◌, ◌&&◌, ◌||◌, not, Bool, false, List, length, pos, Option, Some, None, nat_eq, int_le, if◌then◌else◌}
use Rattle.wire_base.specs.Tcp as tcp
use Rattle.wire_base.specs.Segments.{Written}
use Rattle.era_state.specs.Offsets.{off}
use Rattle.era_state.specs.SegmentMarks.{is_inbound_syn, is_outbound_syn}
use Rattle.era_state.specs.Quantities.{base_of, base_at, acked, next, iss}
use Rattle.era_state.specs.States.{State, state_of, is_called, is_offered, is_closed, is_acknowledged}
use Rattle.era_state.specs.ForwardedOctets.{bounds_of, offset_of, begins_below, passes_window, passes_end}

-- the number is one past that of `call`, if there is one
abbrev pub follows : Option ℕ → ℕ → Bool
follows None number = false
follows (Some call) number = nat_eq number ((call + 1) % 2 ^ 32)

-- the sequence number is the one before the base, if one is fixed
abbrev pub precedes : Option ℕ → ℕ → Bool
precedes None sequence = false
precedes (Some base) sequence = nat_eq ((sequence + 1) % 2 ^ 32) base

-- the number is not that of the first outbound SYN; if there was none, any number, unless the era
-- is Offered
abbrev pub is_another : Option ℕ → State → ℕ → Bool
is_another None state sequence = not (is_offered state)
is_another (Some iss) state sequence = not (nat_eq iss sequence)

-- an outbound SYN that opens another connection
abbrev pub reopens_outward_at : State → Option ℕ → Written → Bool
reopens_outward_at state iss w = is_outbound_syn w && is_another iss state w.seq

-- an outbound segment ends the era and begins a new one
abbrev pub reopens_outward : List Written → Written → Bool
reopens_outward ws w = reopens_outward_at (state_of ws) (iss ws) w

-- an inbound SYN without ACK to a Closed era, other than the one before its base
abbrev pub reopens_inward_at : State → Option ℕ → Written → Bool
reopens_inward_at state base w = is_closed state && (is_inbound_syn w && not (tcp.has_ack w.flags)) && not (precedes base w.seq)

-- an inbound segment ends the era and begins a new one: a SYN that opens another connection, to a
-- Closed era
abbrev pub reopens_inward : List Written → Written → Bool
reopens_inward ws w = reopens_inward_at (state_of ws) (base_of ws) w

-- an inbound segment without RST: to a Called era without SYN, or with an ACK that does not
-- acknowledge the first outbound SYN; to an Offered era without SYN
abbrev pub is_early_at : State → Option ℕ → Written → Bool
is_early_at state iss w =
    w.inward && not (tcp.has_rst w.flags)
    && ((is_called state && (not (tcp.has_syn w.flags) || (tcp.has_ack w.flags && not (follows iss w.ack))))
    || (is_offered state && not (tcp.has_syn w.flags)))

-- T_STATE
abbrev pub t_state : List Written → Written → Bool
t_state ws w = is_early_at (state_of ws) (iss ws) w

-- an inbound SYN that is not the one before the base, to an Offered or Warm era, or with ACK to a
-- Closed one
abbrev pub is_stray_at : State → Option ℕ → Written → Bool
is_stray_at state base w = is_inbound_syn w && not (precedes base w.seq) && not (is_called state) && (not (is_closed state) || tcp.has_ack w.flags)

-- T_SYN
abbrev pub t_syn : List Written → Written → Bool
t_syn ws w = is_stray_at (state_of ws) (base_of ws) w

-- a sequence number with an offset from Acked to Next, both included
abbrev pub is_awaited : (base acked next sequence : ℕ) → Bool
is_awaited base acked next sequence = int_le (pos acked) (off base acked sequence) && int_le (off base acked sequence) (pos next)

-- a reset that acknowledges the first SYN of a Called era, or has an awaited sequence number in
-- another era
abbrev pub takes_reset : List Written → Written → Bool
takes_reset ws w =
    if is_called (state_of ws)
    then tcp.has_ack w.flags && follows (iss ws) w.ack
    else is_awaited (base_at ws) (acked (base_at ws) ws) (next (base_at ws) ws) w.seq

-- T_RST: an inbound RST that the era does not take
abbrev pub t_rst : List Written → Written → Bool
t_rst ws w = w.inward && tcp.has_rst w.flags && not (takes_reset ws w)

-- an inbound segment with neither SYN nor RST, to a Warm or Closed era
abbrev pub is_of_stream : List Written → Written → Bool
is_of_stream ws w = w.inward && not (tcp.has_syn w.flags) && not (tcp.has_rst w.flags) && is_acknowledged (state_of ws)

-- T_OLD: its octets begin below Acked
abbrev pub t_old : List Written → Written → Bool
t_old ws w = is_of_stream ws w && begins_below (bounds_of ws) (offset_of ws w.seq) (length w.octets)

-- T_WINDOW: its octets extend more than one past the window
abbrev pub t_window : List Written → Written → Bool
t_window ws w = is_of_stream ws w && passes_window (bounds_of ws) (offset_of ws w.seq) (length w.octets)

-- T_END: its octets extend past the end, or its FIN is not kept
abbrev pub t_end : List Written → Written → Bool
t_end ws w = is_of_stream ws w && passes_end (bounds_of ws) (offset_of ws w.seq) (length w.octets) (tcp.has_fin w.flags)

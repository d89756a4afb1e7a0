-- Which octets of an inbound segment are forwarded, and whether its FIN is (this project's
-- profile). `at` is the offset of the segment's sequence number, `len` the number of its octets.
use Rattle.std.specs.Prelude.{ℕ, ◌+◌, ◌%◌, ◌^◌, ◌&&◌, ◌||◌, not, max, min, Bool, false, List, length, ℤ, pos, ◌+ℤ◌, Option, Some, None, nat_lt, int_lt, int_le, if◌then◌else◌}
use Rattle.std.specs.Ordering.{int_eq}
use Rattle.wire_base.specs.Tcp as tcp
use Rattle.wire_base.specs.Segments.{Written}
use Rattle.era_state.specs.Offsets.{off, nat_of}
use Rattle.era_state.specs.Quantities.{acked, edge, top, end_of, base_at}

-- the quantities of an era on which the interval depends
pub record Bounds : Type 0 where
  pub acked : ℕ
  pub edge : ℕ
  pub top : ℕ
  pub end : Option ℤ

-- the bounds of a list with this base
abbrev pub bounds : ℕ → List Written → Bounds
bounds base ws = record { acked = acked base ws; edge = edge base ws; top = top base ws; end = end_of base ws }

-- the bounds of the segments written so far
abbrev pub bounds_of : List Written → Bounds
bounds_of ws = bounds (base_at ws) ws

-- the offset of a sequence number, after the segments written so far
abbrev pub offset_of : List Written → ℕ → ℤ
offset_of ws sequence = off (base_at ws) (acked (base_at ws) ws) sequence

-- the smaller of an offset and the end, if the end is known
abbrev pub up_to_end : Option ℤ → ℕ → ℕ
up_to_end None place = place
up_to_end (Some end) place = min place (nat_of end)

-- the first forwarded offset: that of the segment, but not below Acked
abbrev pub low : Bounds → ℤ → ℕ
low b at = max (nat_of at) b.acked

-- the limit of forwarded octets: one past the window, and the end
abbrev pub reach : Bounds → ℕ
reach b = up_to_end b.end (b.edge + 1)

-- the end of the forwarded octets, or `low` if none is forwarded
abbrev pub high : Bounds → ℤ → ℕ → ℕ
high b at len = max (low b at) (min (nat_of (at +ℤ pos len)) (reach b))

-- a FIN at this offset is kept: at the end, if it is known; otherwise at or after Top and Acked,
-- and at most at Edge
abbrev pub is_kept_fin : Option ℤ → Bounds → ℤ → Bool
is_kept_fin None b place = int_le (pos (max b.top b.acked)) place && int_le place (pos b.edge)
is_kept_fin (Some end) b place = int_eq place end

-- the segment has a FIN, and it is kept
abbrev pub keeps_fin : Bounds → ℤ → ℕ → Bool → Bool
keeps_fin b at len fin = fin && is_kept_fin b.end b (at +ℤ pos len)

-- its octets begin below Acked
abbrev pub begins_below : Bounds → ℤ → ℕ → Bool
begins_below b at len = nat_lt 0 len && int_lt at (pos b.acked)

-- its octets extend more than one past the window
abbrev pub passes_window : Bounds → ℤ → ℕ → Bool
passes_window b at len = nat_lt 0 len && int_lt (pos (b.edge + 1)) (at +ℤ pos len)

-- the end is known and below this offset
abbrev pub ends_below : Option ℤ → ℤ → Bool
ends_below None place = false
ends_below (Some end) place = int_lt end place

-- its octets extend past the end, or its FIN is not kept
abbrev pub passes_end : Bounds → ℤ → ℕ → Bool → Bool
passes_end b at len fin = (nat_lt 0 len && ends_below b.end (at +ℤ pos len)) || (fin && not (is_kept_fin b.end b (at +ℤ pos len)))

-- the sequence number of the frame: that of its first octet; that of its FIN if only this is
-- forwarded; otherwise the segment's own
abbrev pub frame_sequence : (base : ℕ) → Bounds → ℤ → (sequence len : ℕ) → Bool → ℕ
frame_sequence base b at sequence len fin =
    if nat_lt (low b at) (high b at len)
    then (base + low b at) % 2 ^ 32
    else (if keeps_fin b at len fin then (base + nat_of (at +ℤ pos len)) % 2 ^ 32 else sequence)

-- the same of segment `w`, after the segments written so far
abbrev pub frame_sequence_of : List Written → Written → ℕ
frame_sequence_of ws w = frame_sequence (base_at ws) (bounds_of ws) (offset_of ws w.seq) w.seq (length w.octets) (tcp.has_fin w.flags)

-- Top after the octets from `lo` to below `hi`
abbrev pub top_after : (top lo hi : ℕ) → ℕ
top_after top lo hi = if nat_lt lo hi then max top hi else top

-- the end after a frame that may have a FIN at this offset: the first FIN stays
abbrev pub end_after : Option ℕ → Bool → ℕ → Option ℕ
end_after (Some end) fin place = Some end
end_after None fin place = if fin then Some place else None

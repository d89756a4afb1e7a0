-- The quantities of an era: first and last elements, maxima and counts over the whole list of its
-- written segments, in order (this project's profile). RFC 9293 sections 3.4 and 3.10 have numbers
-- and windows, RFC 7323 section 2 their scaling. `base` is the number that Base fixes; the numbers
-- of a segment are read relative to Acked before it.
use Rattle.std.specs.Prelude.{◌≡◌, ℕ, ◌-◌, ◌&&◌, max, min, Bool, false, List, fold, ℤ, pos, ◌+ℤ◌, Option, Some, None, is_none, is_some, nat_le, if◌then◌else◌}
use Rattle.std.specs.List.{list_any, count_by, range_with_len}
use Rattle.wire_base.specs.Segments.{Written}
use Rattle.era_state.specs.ListElements.{first_of, last_of, greatest, Moment, moments}
use Rattle.era_state.specs.Offsets.{nat_of, number_in}
use Rattle.era_state.specs.SegmentMarks.{is_outbound_syn, is_inbound_syn, is_outbound_fin, number_behind, fixes, ack_of, edge_place, top_place, octet_at, fin_place}
use Rattle.wire_base.specs.declared.limits.TheConstants.{MAX_SHIFT}

-- Base: the number of the stream's first octet, from the first segment that fixes one
abbrev pub base_of : List Written → Option ℕ
base_of ws = first_of fixes ws

-- Base, or 0 if none is fixed: then no forwarded inward segment has an octet, and no quantity below
-- is used
abbrev pub base_at : List Written → ℕ
base_at ws = number_in (base_of ws)

-- Acked: the greatest offset that an outbound segment acknowledges, each the one nearest to Acked
-- before it, or 0 if none does. In an era that norm tracks the first outbound segment with ACK
-- fixes the base if nothing has before, so Acked is 0 until then; a RST with ACK fixes none, but
-- ends the era.
abbrev pub acked : ℕ → List Written → ℕ
acked base ws = fold (λ a w. max a (number_in (ack_of base a w))) 0 ws

-- some outbound segment acknowledges an offset of the stream
abbrev pub is_opened : ℕ → List Written → Bool
is_opened base ws = list_any (λ (m : Moment Written). is_some (ack_of base (acked base m.before) m.now)) (moments ws)

-- some outbound SYN was written
abbrev pub out_seen : List Written → Bool
out_seen ws = list_any is_outbound_syn ws

-- some inbound SYN was written
abbrev pub in_seen : List Written → Bool
in_seen ws = list_any is_inbound_syn ws

-- some outbound SYN has a window scale
abbrev pub out_scaled : List Written → Bool
out_scaled ws = list_any (λ (w : Written). is_outbound_syn w && is_some w.scale) ws

-- some inbound SYN has a window scale
abbrev pub in_scaled : List Written → Bool
in_scaled ws = list_any (λ (w : Written). is_inbound_syn w && is_some w.scale) ws

-- the greatest shift of an outbound SYN, at most 14 (RFC 7323 section 2.3)
abbrev pub out_scale : List Written → ℕ
out_scale ws = min MAX_SHIFT (greatest (λ (w : Written). if is_outbound_syn w then number_in w.scale else 0) ws)

-- The shift, from which sides' SYNs were written and which of them had a scale. Both must have one
-- (RFC 7323 section 2.2). While a side's SYN is missing the greatest shift, 14, is assumed.
abbrev pub shift_with : (out_seen in_seen out_scaled in_scaled : Bool) → ℕ → ℕ
shift_with out_seen in_seen out_scaled in_scaled scale =
    if out_seen && in_seen then (if out_scaled && in_scaled then scale else 0) else MAX_SHIFT

-- Shift: by how many bits the windows of the trusted side are scaled
abbrev pub shift : List Written → ℕ
shift ws = shift_with (out_seen ws) (in_seen ws) (out_scaled ws) (in_scaled ws) (out_scale ws)

-- Edge: the greatest end of a window, each scaled by the Shift of its own moment
abbrev pub edge : ℕ → List Written → ℕ
edge base ws = greatest (λ (m : Moment Written). edge_place (ack_of base (acked base m.before) m.now) (shift m.before) m.now) (moments ws)

-- Top: the greatest offset after the octets of an inward segment
abbrev pub top : ℕ → List Written → ℕ
top base ws = greatest (λ (m : Moment Written). top_place base (acked base m.before) m.now) (moments ws)

-- First: the octet at an offset, of the first inward segment that has one there
abbrev pub first : ℕ → List Written → ℤ → Option ℕ
first base ws offset = first_of (λ (m : Moment Written). octet_at base (acked base m.before) offset m.now) (moments ws)

-- End: the offset of the FIN of the first inward segment with FIN
abbrev pub end_of : ℕ → List Written → Option ℤ
end_of base ws = first_of (λ (m : Moment Written). fin_place base (acked base m.before) m.now) (moments ws)

-- Octets: how many offsets have an octet. A forwarded octet is at an offset from 0 to below Top
-- (`EmittedOctetsArePlaces`), so these are counted
abbrev pub octet_count : ℕ → List Written → ℕ
octet_count base ws = count_by (λ n. is_some (first base ws (pos n))) (range_with_len 0 (top base ws))

-- the same with an optional base: without one, no offset has an octet
abbrev pub octets_with : Option ℕ → List Written → ℕ
octets_with None ws = 0
octets_with (Some base) ws = octet_count base ws

-- the same with the list's own base
abbrev pub octets_of : List Written → ℕ
octets_of ws = octets_with (base_of ws) ws

-- how many of the offsets from `lo` to below `hi` have no octet
abbrev pub fresh_places : (base : ℕ) → List Written → (lo hi : ℕ) → ℕ
fresh_places base ws lo hi = count_by (λ n. is_none (first base ws (pos n))) (range_with_len lo (hi - lo))

-- the offset after the end, or 0 if the end is not known
abbrev pub behind_end : Option ℤ → ℕ
behind_end None = 0
behind_end (Some end) = nat_of (end +ℤ pos 1)

-- Next: the offset after all that is acknowledged, was written inwards, or is the end
abbrev pub next : ℕ → List Written → ℕ
next base ws = max (acked base ws) (max (top base ws) (behind_end (end_of base ws)))

-- Iss: the sequence number of the first outbound SYN
abbrev pub iss : List Written → Option ℕ
iss ws = first_of (λ (w : Written). if is_outbound_syn w then Some w.seq else None) ws

-- Out: the sequence number after the last outbound segment
abbrev pub out : List Written → Option ℕ
out ws = last_of (λ (w : Written). if w.inward then None else Some (number_behind w)) ws

-- some outbound segment has FIN
abbrev pub out_fin : List Written → Bool
out_fin ws = list_any is_outbound_fin ws

-- both sides have sent a FIN, and the inbound FIN is acknowledged
abbrev pub is_over : (acked : ℕ) → Option ℤ → (out_fin : Bool) → Bool
is_over acked None out_fin = false
is_over acked (Some end) out_fin = nat_le (nat_of (end +ℤ pos 1)) acked && out_fin

-- no part of the stream is acknowledged, written inwards or ended
pub record Untouched (base : ℕ) (ws : List Written) : Type 0 where
  pub unopened : is_opened base ws ≡ false
  pub acked_is : acked base ws ≡ 0
  pub edge_is : edge base ws ≡ 0
  pub top_is : top base ws ≡ 0
  pub end_is : end_of base ws ≡ None

-- The faults of a frame, after those before it (this project's profile). Base, Acked, First, End
-- and the offset of a number are those of `era_state`: `ws` are the segments written in the frame's
-- era before it, and `w` is its own.
use Rattle.std.specs.Prelude.{◌≡◌, ℕ, ◌==◌, ◌&&◌, ◌||◌, not, Bool, true, false, List, [], ◌∷◌, ◌++◌, length, ℤ, pos, ◌+ℤ◌, int_le, int_lt, Option, Some, None, IsSome, is_none, is_ok}
use Rattle.std.specs.Ordering.{int_eq}
use Rattle.std.specs.List.{AllByRecursion}
use Rattle.wire_base.specs.declared.address.Side.{Side}
use Rattle.wire_base.specs.declared.address.Side.TheVariants.{Inward, Outward}
use Rattle.wire_base.specs.Ipv4 as ip
use Rattle.wire_base.specs.Tcp as tcp
use Rattle.wire_base.specs.Plain.{Plain}
use Rattle.wire_base.specs.Segments.{Segment, Written, segment_of, written_of}
use Rattle.ipv4_codec.specs.HeaderFields as header
use Rattle.tcp_codec.specs.HeaderFields as segment
use Rattle.tcp_codec.specs.declared.header.SumRule.TheVariants.{Skip}
use Rattle.era_state.specs.Offsets.{off}
use Rattle.era_state.specs.SegmentMarks.{has_octets}
use Rattle.era_state.specs.Quantities.{base_of, base_at, acked, first, end_of}
use Rattle.era_state.specs.Rules.{precedes}
use Rattle.era_agreement.specs.SentPackets.{Sent, written_in}
use Rattle.run_audit.specs.declared.answer.Reason.{Reason}
use Rattle.run_audit.specs.declared.answer.Reason.TheVariants.{Count, Plain as Misread, Base, Syn, Octet, Fin}
use Rattle.run_audit.specs.OwnedFrames.{Frame}
use Rattle.run_audit.specs.EraTops.{top}

-- the packet is a TCP segment whose headers have no fault; its TCP checksum is not tested
abbrev pub is_segment : List ℕ → Bool
is_segment p = is_ok (header.parsed p) && (ip.protocol p == 6) && is_ok (segment.parsed Skip 0 (ip.payload p))

-- The frame is well read. One that went inwards is plain for `hops` routers, and is TCP if its
-- entry names an era. One that went outwards in an era is a segment. An entry without a side names
-- no era.
abbrev pub IsWellReadAs : (hops : ℕ) → List ℕ → Option Side → (era : Option ℕ) → Type 0
IsWellReadAs hops p (Some Inward) era = Plain hops p × (IsSome era → ip.protocol p ≡ 6)
IsWellReadAs hops p (Some Outward) era = IsSome era → is_segment p ≡ true
IsWellReadAs hops p None era = era ≡ None

-- the frame of a report is well read
abbrev pub IsWellRead : (hops : ℕ) → Frame → Type 0
IsWellRead hops f = IsWellReadAs hops f.packet f.side f.era

-- base: it has octets or a FIN, and no base is fixed before it or by it
abbrev pub lacks_base : List Written → Written → Bool
lacks_base ws w = is_none (base_of (ws ++ w ∷ [])) && (has_octets w || tcp.has_fin w.flags)

-- syn: it has a SYN, and its sequence number is not the one before the base
abbrev pub has_other_syn : List Written → Written → Bool
has_other_syn ws w = tcp.has_syn w.flags && not (precedes (base_of (ws ++ w ∷ [])) w.seq)

-- an octet differs from the first one at its offset, if there is one
abbrev pub is_other : Option ℕ → (octet : ℕ) → Bool
is_other None octet = false
is_other (Some first) octet = not (first == octet)

-- an offset is at or past the end, if there is an end
abbrev pub is_past : (end : Option ℤ) → (place : ℤ) → Bool
is_past None place = false
is_past (Some end) place = int_le end place

-- of octets that begin at `place`, one differs from the first one at its offset, or is at or past
-- the end
abbrev pub some_strays : (first : ℤ → Option ℕ) → (end : Option ℤ) → (place : ℤ) → List ℕ → Bool
some_strays first end place [] = false
some_strays first end place (octet ∷ octets) =
    (is_other (first place) octet || is_past end place) || some_strays first end (place +ℤ pos 1) octets

-- octet: one of its octets differs from the first one at its offset, or is at or past the end of
-- the segments before it
abbrev pub has_other_octet : List Written → Written → Bool
has_other_octet ws w =
    let base = base_at (ws ++ w ∷ []) in
    some_strays (first base ws) (end_of base ws) (off base (acked base ws) w.seq) w.octets

-- a FIN's offset is not the end; or, if there is no end, it is below Top
abbrev pub fin_strays : (end : Option ℤ) → (top place : ℤ) → Bool
fin_strays None top place = int_lt place top
fin_strays (Some end) top place = not (int_eq place end)

-- fin: its FIN is not at the end of the segments before it; or, if they have no end, it is below
-- Top of these segments and its own
abbrev pub has_other_fin : List Written → Written → Bool
has_other_fin ws w =
    let base = base_at (ws ++ w ∷ []) in
    tcp.has_fin w.flags && fin_strays (end_of base ws) (top base (ws ++ w ∷ [])) (off base (acked base ws) w.seq +ℤ pos (length w.octets))

-- a packet went inwards in an era, and this holds for its segment after those written in the era
-- before it
abbrev pub in_stream_as : (List Written → Written → Bool) → List Sent → Option Side → (era : Option ℕ) → Option Segment → Bool
in_stream_as test older (Some Inward) (Some era) (Some s) = test (written_in era older) (written_of true s)
in_stream_as test older _ _ _ = false

-- the same of a frame
abbrev pub in_stream : (List Written → Written → Bool) → List Sent → Frame → Bool
in_stream test older f = in_stream_as test older f.side f.era (segment_of f.packet)

-- the reason applies to the frame, after what was sent before it; `count` holds for no frame, since
-- it is the reason for one that is missing
abbrev pub Holds : (hops : ℕ) → List Sent → Frame → Reason → Type 0
Holds hops older f Count = ⊥
Holds hops older f Misread = IsWellRead hops f → ⊥
Holds hops older f Base = in_stream lacks_base older f ≡ true
Holds hops older f Syn = in_stream has_other_syn older f ≡ true
Holds hops older f Octet = in_stream has_other_octet older f ≡ true
Holds hops older f Fin = in_stream has_other_fin older f ≡ true

-- the reasons before one, in the order of testing
abbrev pub earlier : Reason → List Reason
earlier Count = []
earlier Misread = Count ∷ []
earlier Base = Count ∷ Misread ∷ []
earlier Syn = Count ∷ Misread ∷ Base ∷ []
earlier Octet = Count ∷ Misread ∷ Base ∷ Syn ∷ []
earlier Fin = Count ∷ Misread ∷ Base ∷ Syn ∷ Octet ∷ []

-- this is the first reason that applies to the frame
pub record IsFirstReason (hops : ℕ) (older : List Sent) (f : Frame) (reason : Reason) : Type 0 where
  pub holds : Holds hops older f reason
  pub none_before : AllByRecursion (λ other. Holds hops older f other → ⊥) (earlier reason)

-- no reason applies to the frame
pub record IsFaultless (hops : ℕ) (older : List Sent) (f : Frame) : Type 0 where
  pub read : IsWellRead hops f
  pub base : in_stream lacks_base older f ≡ false
  pub syn : in_stream has_other_syn older f ≡ false
  pub octet : in_stream has_other_octet older f ≡ false
  pub fin : in_stream has_other_fin older f ≡ false

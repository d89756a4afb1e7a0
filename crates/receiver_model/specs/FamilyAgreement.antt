-- When all members of the receiver family agree on the frames of one era (this project's profile).
use Rattle.std.specs.Prelude.{◌≡◌, ℕ, ◌+◌, ◌%◌, ◌^◌, ◌≤◌, ◌<ℤ◌, ◌⊎◌, Bool, true, IsTrue, List, ◌++◌, length, ℤ, pos, ◌+ℤ◌, Some, slice_get, All, IfSome}
use Rattle.wire_base.specs.Plain.{Plain}
use Rattle.wire_base.specs.Segments.{Segment, segment_of}
use Rattle.wire_base.specs.Tcp as tcp
use Rattle.receiver_model.specs.declared.member.Member.{Member}
use Rattle.receiver_model.specs.Offsets.{IsPlace}
use Rattle.receiver_model.specs.Delivery.{DeliversInTime}

-- the second list continues the first
abbrev pub IsPrefixOf : List ℕ → List ℕ → Type 0
IsPrefixOf xs ys = (rest : List ℕ) × (xs ++ rest ≡ ys)

-- one stream is a prefix of the other; an ended stream is a prefix only of an equal one; two ended
-- streams are equal
pub record Agree (a : List ℕ) (a_ended : Bool) (b : List ℕ) (b_ended : Bool) : Type 0 where
  pub prefix : IsPrefixOf a b ⊎ IsPrefixOf b a
  pub first : a_ended ≡ true → IsPrefixOf a b → a ≡ b
  pub second : b_ended ≡ true → IsPrefixOf b a → b ≡ a
  pub both : a_ended ≡ true → b_ended ≡ true → a ≡ b

-- some frame has this octet at this offset: the frame's place plus the octet's index in its payload
pub record OctetAt (places : List ℤ) (frames : List (List ℕ)) (offset : ℤ) (octet : ℕ) : Type 0 where
  pub number : ℕ
  pub frame : List ℕ
  pub place : ℤ
  pub segment : Segment
  pub index : ℕ
  pub stands : slice_get frames number ≡ Some frame
  pub placed : slice_get places number ≡ Some place
  pub says : segment_of frame ≡ Some segment
  pub has : slice_get segment.octets index ≡ Some octet
  pub there : offset ≡ place +ℤ pos index

-- some frame has a FIN at this offset, the one after its last octet
pub record FinAt (places : List ℤ) (frames : List (List ℕ)) (offset : ℤ) : Type 0 where
  pub number : ℕ
  pub frame : List ℕ
  pub place : ℤ
  pub segment : Segment
  pub stands : slice_get frames number ≡ Some frame
  pub placed : slice_get places number ≡ Some place
  pub says : segment_of frame ≡ Some segment
  pub has : IsTrue (tcp.has_fin segment.flags)
  pub there : offset ≡ place +ℤ pos (length segment.octets)

-- each frame has one place: an offset that its sequence number represents
pub record ArePlaces (base : ℕ) (places : List ℤ) (frames : List (List ℕ)) : Type 0 where
  pub one_each : length places ≡ length frames
  pub placed : (number : ℕ) (frame : List ℕ) (s : Segment) (place : ℤ) → slice_get frames number ≡ Some frame → segment_of frame ≡ Some s → slice_get places number ≡ Some place → IsPlace base s.sequence place

-- a SYN has the sequence number before the base (RFC 9293 section 3.4: a SYN precedes the first
-- octet)
abbrev pub HasSynBefore : (base : ℕ) → List ℕ → Type 0
HasSynBefore base p = IfSome (segment_of p) (λ s. IsTrue (tcp.has_syn s.flags) → (s.sequence + 1) % 2 ^ 32 ≡ base % 2 ^ 32)

-- plain frames with these places that describe one stream: one octet at each offset, one end, and
-- no octet at or after it
pub record TellOneStream (hops base : ℕ) (places : List ℤ) (frames : List (List ℕ)) : Type 0 where
  pub plain : All (λ p. Plain hops p) frames
  pub syns : All (λ p. HasSynBefore base p) frames
  pub placed : ArePlaces base places frames
  pub one_octet : (offset : ℤ) (x y : ℕ) → OctetAt places frames offset x → OctetAt places frames offset y → x ≡ y
  pub one_end : (one other : ℤ) → FinAt places frames one → FinAt places frames other → one ≡ other
  pub none_past : (offset : ℤ) (x : ℕ) (end : ℤ) → OctetAt places frames offset x → FinAt places frames end → offset <ℤ end

-- a host is a member of the family behind at most `hops` routers
abbrev pub IsMember : (hops : ℕ) → Member → Type 0
IsMember hops member = member.distance ≤ hops

-- Each frame is plain, so all members read it alike. Each SYN has the number before the base. Any
-- two members that start at the same offset agree, whichever of the frames reach each of them in
-- time, how often and in which order, and whichever octets each keeps.
pub record EraAgrees (hops base : ℕ) (places : List ℤ) (frames : List (List ℕ)) : Type 0 where
  pub plain : All (λ p. Plain hops p) frames
  pub syns : All (λ p. HasSynBefore base p) frames
  pub agree :
      (a b : Member) (start : ℕ) (a_schedule b_schedule a_stream b_stream : List ℕ) (a_ended b_ended : Bool) →
      IsMember hops a →
      IsMember hops b →
      DeliversInTime places a.distance base start frames a_schedule a_stream a_ended →
      DeliversInTime places b.distance base start frames b_schedule b_stream b_ended →
      Agree a_stream a_ended b_stream b_ended

-- frames that describe one stream make all members agree
abbrev pub MembersAgree : Type 0
MembersAgree = (hops base : ℕ) (places : List ℤ) (frames : List (List ℕ)) → TellOneStream hops base places frames → EraAgrees hops base places frames

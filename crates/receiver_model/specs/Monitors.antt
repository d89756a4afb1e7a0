-- Monitors: members of the receiver family that hear every frame of an era, keep each octet not yet
-- read and deliver all that they can (this project's profile). No member that starts at the same
-- offset and hears these frames in time has read an octet that a monitor has not read.
use Rattle.std.specs.Prelude.{◌≡◌, ℕ, ◌+◌, ◌<◌, ◌≤◌, ◌^◌, Bool, true, List, [], ◌∷◌, length, ℤ, pos, ◌≤ℤ◌, Option, Some, None, slice_get, Contains, ◌⊎◌, IsTrue}
use Rattle.wire_base.specs.Ipv4 as ip
use Rattle.wire_base.specs.Tcp as tcp
use Rattle.wire_base.specs.Segments.{Segment, segment_of}
use Rattle.receiver_model.specs.declared.member.Member.{Member}
use Rattle.receiver_model.specs.declared.policy.Policy.{Policy}
use Rattle.receiver_model.specs.Offsets.{Carries, Ends}
use Rattle.receiver_model.specs.Delivery.{Receiver, Reads, Step, Run, DeliversInTime, beginning}
use Rattle.receiver_model.specs.FamilyAgreement.{IsPrefixOf, IsMember, OctetAt, FinAt, TellOneStream}
use Rattle.receiver_model.specs.Streams.{StreamState, fresh, places_from, receiver_of}
use Rattle.receiver_model.specs.Families.{TakesFrame}

-- a host at this distance that hears a frame reads it, and keeps each octet not yet read where none
-- waits, and a FIN if it has none
pub record Keeps (distance base start : ℕ) (frame : List ℕ) (s : Option Segment) (before after : Receiver) : Type 0 where
  -- the frame is not dropped
  pub reads : Reads distance frame s
  -- at each offset from the next one on where no octet waits, the segment's octet is set; where one
  -- waits, either may stay
  pub octets :
      (offset : ℤ) (octet : ℕ) →
      Carries base (start + length before.stream) s offset octet →
      pos (start + length before.stream) ≤ℤ offset →
      before.waiting offset ≡ None →
      after.waiting offset ≡ Some octet
  -- the offset of the segment's FIN is kept if none is
  pub fin : (offset : ℤ) → Ends base (start + length before.stream) s offset → before.fin ≡ None → after.fin ≡ Some offset

-- it does so with each frame of a run
abbrev pub KeepsEach : (distance base start : ℕ) (frames : List (List ℕ)) (before : Receiver) (schedule : List ℕ) (after : Receiver) → Run distance base start frames before schedule after → Type 0
KeepsEach distance base start frames before [] after run = Unit {0}
KeepsEach distance base start frames before (number ∷ schedule) after run =
    Keeps distance base start run.1.frame run.1.segment before run.0 × KeepsEach distance base start frames run.0 schedule after run.2

-- the schedule brings every frame at least once
abbrev pub HearsAll : (frames : List (List ℕ)) (schedule : List ℕ) → Type 0
HearsAll frames schedule = (number : ℕ) → number < length frames → Contains schedule number

-- all that can be delivered is delivered: no octet waits at the next offset, and the stream has
-- ended if the kept offset of a FIN is the next one
pub record HasDeliveredAll (start : ℕ) (r : Receiver) : Type 0 where
  pub octets : r.waiting (pos (start + length r.stream)) ≡ None
  pub end : r.fin ≡ Some (pos (start + length r.stream)) → r.ended ≡ true

-- a monitor that hears every frame at least once, in any order and each in time, keeps what is not
-- yet read, and at the end has delivered all that it can
pub record MonitorsInTime (places : List ℤ) (distance base start : ℕ) (frames : List (List ℕ)) (schedule stream : List ℕ) (ended : Bool) : Type 0 where
  pub in_time : DeliversInTime places distance base start frames schedule stream ended
  pub hears : HearsAll frames schedule
  pub keeps : KeepsEach distance base start frames beginning schedule in_time.delivery.last in_time.delivery.run
  pub gives : HasDeliveredAll start in_time.delivery.last

-- a host at this distance reads a frame, keeps what is not yet read, and then delivers all that it
-- can
pub record TakesAndDelivers (distance base start : ℕ) (frame : List ℕ) (before after : Receiver) : Type 0 where
  pub segment : Option Segment
  pub step : Step base start segment before after
  pub keeps : Keeps distance base start frame segment before after
  pub gives : HasDeliveredAll start after

-- it does so with these frames, one after another
abbrev pub TakesInOrder : (distance base start : ℕ) → List (List ℕ) → (before after : Receiver) → Type 0
TakesInOrder distance base start [] before after = after ≡ before
TakesInOrder distance base start (frame ∷ frames) before after =
    (mid : Receiver) × TakesAndDelivers distance base start frame before mid × TakesInOrder distance base start frames mid after

-- a monitor that takes every frame once, in the order in which they were written, and delivers
-- after each all that it can; nothing is asked of its time
pub record MonitorsInOrder (distance base start : ℕ) (frames : List (List ℕ)) (stream : List ℕ) (ended : Bool) : Type 0 where
  pub last : Receiver
  pub takes : TakesInOrder distance base start frames beginning last
  pub stream_is : last.stream ≡ stream
  pub ended_is : last.ended ≡ ended

-- a stream is a prefix of the monitor's; one that has ended is equal to it, and the monitor's has
-- ended too
pub record Covers (seen : List ℕ) (seen_ended : Bool) (stream : List ℕ) (ended : Bool) : Type 0 where
  pub prefix : IsPrefixOf stream seen
  pub whole : ended ≡ true → stream ≡ seen
  pub end : ended ≡ true → seen_ended ≡ true

-- this holds for whatever a member that starts at the same offset delivers, whichever of the frames
-- reach it in time, how often and in which order
abbrev pub CoversEach : (hops base : ℕ) (places : List ℤ) (frames : List (List ℕ)) (start : ℕ) (seen : List ℕ) (seen_ended : Bool) → Type 0
CoversEach hops base places frames start seen seen_ended =
    (other : Member) (schedule stream : List ℕ) (ended : Bool) →
    IsMember hops other →
    DeliversInTime places other.distance base start frames schedule stream ended →
    Covers seen seen_ended stream ended

-- A monitor that hears the frames in time misses nothing.
abbrev pub MissesNothingInTime : (hops base : ℕ) (places : List ℤ) (frames : List (List ℕ)) → Type 0
MissesNothingInTime hops base places frames =
    (monitor : Member) (start : ℕ) (schedule seen : List ℕ) (ended : Bool) →
    IsMember hops monitor →
    MonitorsInTime places monitor.distance base start frames schedule seen ended →
    CoversEach hops base places frames start seen ended

-- A monitor that takes the frames in order misses nothing. Its time is not limited: it may lack
-- octets that were acknowledged, and the stream may have gone on past them by any number.
abbrev pub MissesNothingInOrder : (hops base : ℕ) (places : List ℤ) (frames : List (List ℕ)) → Type 0
MissesNothingInOrder hops base places frames =
    (monitor : Member) (start : ℕ) (seen : List ℕ) (ended : Bool) →
    start ≤ 2 ^ 31 →
    IsMember hops monitor →
    MonitorsInOrder monitor.distance base start frames seen ended →
    CoversEach hops base places frames start seen ended

-- neither kind of monitor misses anything
pub record EraMissesNothing (hops base : ℕ) (places : List ℤ) (frames : List (List ℕ)) : Type 0 where
  pub in_order : MissesNothingInOrder hops base places frames
  pub in_time : MissesNothingInTime hops base places frames

-- For each frame what was acknowledged before it (`acks`), which never falls. The octets of a frame
-- are at that offset or up to 2^30 past it, and its FIN is at an offset of the stream, at most 2^30
-- past it.
pub record StayNearAcks (acks : List ℕ) (places : List ℤ) (frames : List (List ℕ)) : Type 0 where
  pub one_each : length acks ≡ length frames
  pub go_on : (number later one other : ℕ) → number ≤ later → slice_get acks number ≡ Some one → slice_get acks later ≡ Some other → one ≤ other
  pub octets :
      (offset : ℤ) (octet ack : ℕ) (c : OctetAt places frames offset octet) →
      slice_get acks c.number ≡ Some ack →
      (pos ack ≤ℤ offset) × (offset ≤ℤ pos (ack + 2 ^ 30))
  pub fins :
      (offset : ℤ) (ack : ℕ) (c : FinAt places frames offset) →
      slice_get acks c.number ≡ Some ack →
      (pos 0 ≤ℤ offset) × (offset ≤ℤ pos (ack + 2 ^ 30))

-- Frames that describe one stream leave nothing for a monitor to miss that hears them in time; nor
-- for one that takes them in order, if they stay near what was acknowledged.
pub record MonitorsMissNothing : Type 0 where
  pub in_time : (hops base : ℕ) (places : List ℤ) (frames : List (List ℕ)) → TellOneStream hops base places frames → MissesNothingInTime hops base places frames
  pub in_order :
      (hops base : ℕ) (acks : List ℕ) (places : List ℤ) (frames : List (List ℕ)) →
      TellOneStream hops base places frames →
      StayNearAcks acks places frames →
      MissesNothingInOrder hops base places frames

-- the segment has an octet or a FIN
abbrev pub HasOctetOrFin : Option Segment → Type 0
HasOctetOrFin None = ⊥
HasOctetOrFin (Some s) = (0 < length s.octets) ⊎ IsTrue (tcp.has_fin s.flags)

-- Before each frame that has an octet or a FIN, the next offset of the receiver is less than 2^30
-- below what was acknowledged.
abbrev pub IsNeverFarBehind : (acks : List ℕ) (distance base start : ℕ) (frames : List (List ℕ)) (before after : Receiver) → TakesInOrder distance base start frames before after → Type 0
IsNeverFarBehind acks distance base start [] before after takes = Unit {0}
IsNeverFarBehind [] distance base start (frame ∷ frames) before after takes = Unit {0}
IsNeverFarBehind (ack ∷ acks) distance base start (frame ∷ frames) before after takes =
    (HasOctetOrFin (segment_of frame) → ack < start + length before.stream + 2 ^ 30)
    × IsNeverFarBehind acks distance base start frames takes.0 after takes.2

-- Such a monitor hears every frame in time: it is a member that hears each frame once, in order and
-- in time.
abbrev pub MonitorsAreInTime : Type 0
MonitorsAreInTime =
    (hops base : ℕ) (acks : List ℕ) (places : List ℤ) (frames : List (List ℕ)) (monitor : Member) (start : ℕ) (last : Receiver) →
    TellOneStream hops base places frames →
    StayNearAcks acks places frames →
    start ≤ 2 ^ 31 →
    IsMember hops monitor →
    (takes : TakesInOrder monitor.distance base start frames beginning last) →
    IsNeverFarBehind acks monitor.distance base start frames beginning last takes →
    (d : DeliversInTime places monitor.distance base start frames (places_from 0 frames) last.stream last.ended) × (d.delivery.last ≡ last)

-- a stream takes these frames one after another, each of them a TCP packet
abbrev pub TakesEach : (frames : List (List ℕ)) (before after : StreamState) → Type 0
TakesEach [] before after = after ≡ before
TakesEach (frame ∷ frames) before after = (mid : StreamState) × (ip.protocol frame ≡ 6) × TakesFrame frame before mid × TakesEach frames mid after

-- A stream that has taken every frame of an era in order is a monitor, whatever its policy.
abbrev pub StreamsAreMonitors : Type 0
StreamsAreMonitors =
    (policy : Policy) (distance base start : ℕ) (frames : List (List ℕ)) (stream : StreamState) →
    TakesEach frames (fresh policy base start) stream →
    TakesInOrder distance base start frames beginning (receiver_of stream)

-- How one more segment changes the fields of an era in which an offset is acknowledged.
use Rattle.std.specs.Prelude.{◌≡◌, ℕ, ◌||◌, max, Bool, Option, Some, None}
use Rattle.wire_base.specs.Tcp as tcp
use Rattle.wire_base.specs.Segments.{Written}
use Rattle.era_state.specs.declared.syns.Syns.{Syns}
use Rattle.era_state.specs.declared.warm.Warm.{Warm}
use Rattle.era_state.specs.Offsets.{number_in}
use Rattle.era_state.specs.SegmentMarks.{number_behind, ack_of, edge_place}
use Rattle.era_state.specs.working.FirstSyns.{iss_after}
use Rattle.era_state.specs.working.ScaleChanges.{SynsAfter, shift_of}

-- an outbound segment
pub record WarmAfter (w : Written) (old new : Warm) : Type 0 where
  pub base_is : new.base ≡ old.base
  pub iss_is : new.iss ≡ iss_after old.iss w
  pub out_is : new.out ≡ number_behind w
  pub syns_are : SynsAfter w old.syns new.syns
  pub acked_is : new.acked ≡ max old.acked (number_in (ack_of old.base old.acked w))
  pub edge_is : new.edge ≡ max old.edge (edge_place (ack_of old.base old.acked w) (shift_of old.syns) w)
  pub top_is : new.top ≡ old.top
  pub end_is : new.end ≡ old.end
  pub out_fin_is : new.out_fin ≡ (old.out_fin || tcp.has_fin w.flags)
  pub octets_are : new.octets ≡ old.octets

-- an outbound segment that acknowledges an offset, where none was acknowledged before
pub record WarmOpens (base : ℕ) (old_iss : Option ℕ) (old_syns : Syns) (old_fin : Bool) (place : ℕ) (w : Written) (new : Warm) : Type 0 where
  pub base_is : new.base ≡ base
  pub iss_is : new.iss ≡ iss_after old_iss w
  pub out_is : new.out ≡ number_behind w
  pub syns_are : SynsAfter w old_syns new.syns
  pub acked_is : new.acked ≡ place
  pub edge_is : new.edge ≡ edge_place (Some place) (shift_of old_syns) w
  pub top_is : new.top ≡ 0
  pub end_is : new.end ≡ None
  pub out_fin_is : new.out_fin ≡ (old_fin || tcp.has_fin w.flags)
  pub octets_are : new.octets ≡ 0

-- an inbound SYN
pub record WarmCalled (w : Written) (old new : Warm) : Type 0 where
  pub base_is : new.base ≡ old.base
  pub iss_is : new.iss ≡ old.iss
  pub out_is : new.out ≡ old.out
  pub syns_are : SynsAfter w old.syns new.syns
  pub acked_is : new.acked ≡ old.acked
  pub edge_is : new.edge ≡ old.edge
  pub top_is : new.top ≡ old.top
  pub end_is : new.end ≡ old.end
  pub out_fin_is : new.out_fin ≡ old.out_fin
  pub octets_are : new.octets ≡ old.octets

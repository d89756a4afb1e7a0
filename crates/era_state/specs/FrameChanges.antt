-- How a frame that is forwarded changes the fields of an era in which an offset is acknowledged.
use Rattle.std.specs.Prelude.{◌≡◌, ℕ, ◌+◌}
use Rattle.era_state.specs.declared.offset.Interval.{Interval}
use Rattle.era_state.specs.declared.warm.Warm.{Warm}
use Rattle.era_state.specs.ForwardedOctets.{top_after, end_after}

-- the change by a frame with the octets and the FIN of an interval; `fresh` of these octets are the
-- first at their offsets
pub record WarmWith (i : Interval) (fresh : ℕ) (old new : Warm) : Type 0 where
  pub base_is : new.base ≡ old.base
  pub iss_is : new.iss ≡ old.iss
  pub out_is : new.out ≡ old.out
  pub syns_are : new.syns ≡ old.syns
  pub acked_is : new.acked ≡ old.acked
  pub edge_is : new.edge ≡ old.edge
  pub top_is : new.top ≡ top_after old.top i.lo i.hi
  pub end_is : new.end ≡ end_after old.end i.fin i.hi
  pub out_fin_is : new.out_fin ≡ old.out_fin
  pub octets_are : new.octets ≡ old.octets + fresh

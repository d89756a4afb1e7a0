-- The relation of an era's fields to the segments that were written of it.
use Rattle.std.specs.Prelude.{◌≡◌, ℕ, Bool, true, false, List, Some, None}
use Rattle.wire_base.specs.Segments.{Written}
use Rattle.era_state.specs.declared.called.Called.{Called}
use Rattle.era_state.specs.declared.offered.Offered.{Offered}
use Rattle.era_state.specs.declared.warm.Warm.{Warm}
use Rattle.era_state.specs.Offsets.{whole}
use Rattle.era_state.specs.Quantities.{base_of, Untouched, is_opened, iss, out, out_fin, acked, edge, top, end_of, is_over, octet_count}
use Rattle.era_state.specs.ForwardedOctets.{Bounds}
use Rattle.era_state.specs.WindowScales.{SynsFor}

-- an era that the inside opened, and in which no base is fixed
pub record CalledFor (e : Called) (ws : List Written) : Type 0 where
  pub unbased : base_of ws ≡ None
  pub untouched : (base : ℕ) → Untouched base ws
  pub iss_is : iss ws ≡ Some e.iss
  pub out_is : out ws ≡ Some e.out
  pub syns_are : SynsFor e.syns ws
  pub unfinished : out_fin ws ≡ false

-- an era with a fixed base, in which no offset is acknowledged
pub record OfferedFor (e : Offered) (ws : List Written) : Type 0 where
  pub base_is : base_of ws ≡ Some e.base
  pub untouched : Untouched e.base ws
  pub iss_is : e.iss ≡ iss ws
  pub out_is : e.out ≡ out ws
  pub syns_are : SynsFor e.syns ws
  pub out_fin_is : e.out_fin ≡ out_fin ws

-- an era in which an offset is acknowledged
pub record WarmFor (e : Warm) (ws : List Written) : Type 0 where
  pub base_is : base_of ws ≡ Some e.base
  pub opened : is_opened e.base ws ≡ true
  pub iss_is : e.iss ≡ iss ws
  pub out_is : out ws ≡ Some e.out
  pub syns_are : SynsFor e.syns ws
  pub acked_is : e.acked ≡ acked e.base ws
  pub edge_is : e.edge ≡ edge e.base ws
  pub top_is : e.top ≡ top e.base ws
  pub end_is : whole e.end ≡ end_of e.base ws
  pub out_fin_is : e.out_fin ≡ out_fin ws
  pub octets_are : e.octets ≡ octet_count e.base ws

-- both sides have sent a FIN and the inbound FIN is acknowledged, by the fields
abbrev pub is_over_in : Warm → Bool
is_over_in e = is_over e.acked (whole e.end) e.out_fin

-- the fields on which the interval depends
abbrev pub bounds_in : Warm → Bounds
bounds_in e = record { acked = e.acked; edge = e.edge; top = e.top; end = whole e.end }

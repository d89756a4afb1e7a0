-- An inward segment that adds nothing to the stream.
use Rattle.std.specs.Prelude.{◌≡◌, ℕ, ◌++◌, ◌∷◌, [], true, false, List, ℤ}
use Rattle.wire_base.specs.Tcp as tcp
use Rattle.wire_base.specs.Segments.{Written}
use Rattle.era_state.specs.Quantities.{base_of, is_opened, iss, out, out_fin, acked, edge, top, first, end_of, octet_count, next, out_seen, in_seen, in_scaled, out_scaled, out_scale, shift}

-- it has no SYN, no FIN and no octets
pub record IsSilent (w : Written) : Type 0 where
  pub inward : w.inward ≡ true
  pub no_syn : tcp.has_syn w.flags ≡ false
  pub no_fin : tcp.has_fin w.flags ≡ false
  pub no_octets : w.octets ≡ []

-- the quantities that an inward segment without SYN leaves unchanged
pub record SameNumbers (ws vs : List Written) : Type 0 where
  pub base_is : base_of vs ≡ base_of ws
  pub iss_is : iss vs ≡ iss ws
  pub out_is : out vs ≡ out ws
  pub out_fin_is : out_fin vs ≡ out_fin ws
  pub out_seen_is : out_seen vs ≡ out_seen ws
  pub in_seen_is : in_seen vs ≡ in_seen ws
  pub out_scaled_is : out_scaled vs ≡ out_scaled ws
  pub in_scaled_is : in_scaled vs ≡ in_scaled ws
  pub out_scale_is : out_scale vs ≡ out_scale ws
  pub acked_is : (base : ℕ) → acked base vs ≡ acked base ws
  pub opened_is : (base : ℕ) → is_opened base vs ≡ is_opened base ws
  pub edge_is : (base : ℕ) → edge base vs ≡ edge base ws

-- every quantity is unchanged
pub record Same (ws vs : List Written) : Type 0 where
  pub numbers : SameNumbers ws vs
  pub top_is : (base : ℕ) → top base vs ≡ top base ws
  pub end_is : (base : ℕ) → end_of base vs ≡ end_of base ws
  pub first_is : (base : ℕ) (offset : ℤ) → first base vs offset ≡ first base ws offset
  pub next_is : (base : ℕ) → next base vs ≡ next base ws
  pub octets_are : (base : ℕ) → octet_count base vs ≡ octet_count base ws
  pub shift_is : shift vs ≡ shift ws

-- such a segment changes no quantity
abbrev pub SilenceChangesNothing : Type 0
SilenceChangesNothing = (ws : List Written) (w : Written) → IsSilent w → Same ws (ws ++ w ∷ [])

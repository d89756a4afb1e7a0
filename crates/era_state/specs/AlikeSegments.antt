-- Which fields of an inward segment the quantities depend on.
use Rattle.std.specs.Prelude.{◌≡◌, ◌++◌, ◌∷◌, [], true, List, is_some}
use Rattle.wire_base.specs.Tcp as tcp
use Rattle.wire_base.specs.Segments.{Written}
use Rattle.era_state.specs.declared.era.Era.{Era}
use Rattle.era_state.specs.Eras.{StandsFor}
use Rattle.era_state.specs.SilentSegments.{Same}

-- two inward segments have the same sequence number, octets, SYN and FIN; if they are SYNs, both
-- have a window scale or neither has
pub record IsAlike (w v : Written) : Type 0 where
  pub inward : w.inward ≡ true
  pub inward_too : v.inward ≡ true
  pub sequence_is : v.seq ≡ w.seq
  pub octets_are : v.octets ≡ w.octets
  pub syn_is : tcp.has_syn v.flags ≡ tcp.has_syn w.flags
  pub fin_is : tcp.has_fin v.flags ≡ tcp.has_fin w.flags
  pub scale_is : tcp.has_syn w.flags ≡ true → is_some v.scale ≡ is_some w.scale

-- written after the same segments, they give the same quantities: the acknowledgment, the window,
-- other flags and the shift of an inward SYN are not read
abbrev pub AlikeChangesAlike : Type 0
AlikeChangesAlike = (ws : List Written) (w v : Written) → IsAlike w v → Same (ws ++ w ∷ []) (ws ++ v ∷ [])

-- an era that represents the list with one of them represents the list with the other
abbrev pub AlikeStands : Type 0
AlikeStands = (e : Era) (ws : List Written) (w v : Written) → IsAlike w v → StandsFor e (ws ++ w ∷ []) → StandsFor e (ws ++ v ∷ [])

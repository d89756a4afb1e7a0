-- The state of cleaning a list of options (this project's profile).
use Rattle.std.specs.Prelude.{◌≡◌, ℕ, ◌<◌, ◌==◌, ◌&&◌, not, Bool, false, List, slice_index_or}
use Rattle.std.specs.List.{list_any}
use Rattle.wire_base.specs.Options.{may_be_kept}
use Rattle.tcp_codec.specs.declared.write.Kept.{Kept}

-- an option of this kind and length is kept after options of the kinds `before`: it may be kept,
-- and its kind is not among these
abbrev pub is_kept_after : (syn : Bool) (before : List ℕ) (kind size : ℕ) → Bool
is_kept_after syn before kind size = may_be_kept syn kind size && not (list_any (λ other. other == kind) before)

-- `kept` represents the kinds `before`: its entry of a kind below 9 is true exactly if the kind is
-- one of them
abbrev pub StandsFor : Kept → (before : List ℕ) → Type 0
StandsFor kept before = (kind : ℕ) → kind < 9 → slice_index_or kept.0 kind false ≡ list_any (λ other. other == kind) before

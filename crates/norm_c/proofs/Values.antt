-- The machine values of a `Handle`. Assumes `Logic`.
use Rattle.std.proofs.Common.{◌≡◌, ℕ, List, [], ◌∷◌, ◌++◌, refl, subst}
use mathlib.Core.Bool.{Bool, true, false}
use mir.Val.{Val, vbool, vstruct, of_list}
use seplogic.Ra.Ura.{Ura}
use types.Logic.{Logic, sem}
use types.Kit.{Item, Goal, Seq, Step, step, ‵, ◌$◌, drop, fsplit, fjoin, fpick, fpack, feq_i, feq_l}
use denote.RattleType.{RattleType, Valss}
use denote.Builtin.{RawPtr, bool}
use mir.Raw.{raw as bare}
use base.Fml.{Fml}
use Rattle.std.specs.Box.Ownership.{box_owns}
use Rattle.std.specs.declared.option.Option.{Option}
use Rattle.std.specs.declared.option.Option.TheVariants.{None, Some}
use base.Logic.{never, fst∗}
use denote.Memory.{lone}
use denote.RawPtr.{Ptr, ptr_val, block_ptr, null_ptr, in_a_block}
use Rattle.std.specs.contracts.impls.GlobalAllocator.TheImpl.{ghosts}
use Rattle.norm_gate.specs.contracts.gate.Gate.{the_row as the_gate}
use denote.Steps.{nothing}
use denote.Struct.Struct.{within}
use denote.Struct.Owning.{shape}
use Rattle.loose.proofs.Values.{both}
use Rattle.norm_gate.specs.GateState.{Gated}
use Rattle.norm_c.specs.Held.{heap, held}
use Rattle.norm_c.specs.contracts.handle.Handle as handle

abbrev pub Handle : RattleType
Handle = handle.the_row

abbrev pub word : Bool → Ptr → Val
word y p = both (vbool y) (ptr_val p)

module _ {M : Type 1} {𝓤 : Ura M} {𝓛 : Logic 𝓤} {K : Type 0} {Γ : List (Item 𝓤)} {G : Goal 𝓤 𝓛.H} where
  pub handle_out : K → (d : Handle.Denot) (vs : List Val)
      → (vs ≡ word d.live d.at ∷ [] → Seq K 𝓛 (‵ (held d.live d.at d.value) ∷ Γ) G)
      → Seq K 𝓛 (‵ (Handle.own_val d vs) ∷ Γ) G
  handle_out t d vs k =
      fsplit t $ fpick t (λ vss. fsplit t $ feq_l t (λ ev. fsplit t $ feq_l t (λ eo. fsplit t $ feq_l t (λ ep. drop t $ k
      (subst (λ (ps : List Val). vs ≡ vstruct (of_list (vbool d.live ∷ (ps ++ []))) ∷ []) ep
      (subst (λ (os : List Val). vs ≡ vstruct (of_list (os ++ (vss.1.0 ++ []))) ∷ []) eo ev))))))

  pub handle_in : K → (y : Bool) (p : Ptr) (x : Option Gated)
      → Step K 𝓛 (‵ (Handle.own_val (record { live = y; at = p; value = x }) (word y p ∷ [])) ∷ Γ) G (‵ (held y p x) ∷ Γ) G
  handle_in t y p x = step (λ s.
      nothing t $ feq_i t (List Val) (ptr_val p ∷ []) (ptr_val p ∷ []) refl $ fjoin t $ feq_i t (List Val) (vbool y ∷ []) (vbool y ∷ []) refl $ fjoin t $
      feq_i t (List Val) (word y p ∷ []) (word y p ∷ []) refl $ fjoin t $
      fpack t (Valss (bool ∷ RawPtr ∷ [])) (within (shape handle.the_type) (y, (p, tt)) (word y p ∷ [])) (vbool y ∷ [], (ptr_val p ∷ [], tt)) $ fjoin t $ s)

-- what a handle owns, by whether it has an engine
abbrev pub owned : Ptr → Gated → Fml
owned p v = box_owns (ghosts.dealloc_token heap) the_gate p v

module _ {M : Type 1} {𝓤 : Ura M} {𝓛 : Logic 𝓤} {K : Type 0} {Γ : List (Item 𝓤)} {G : Goal 𝓤 𝓛.H} where
  pub by_live : K → (y : Bool) (p : Ptr) (x : Option Gated)
      → ((b o : ℕ) (v : Gated) → x ≡ Some v → y ≡ true → p ≡ block_ptr b o → Seq K 𝓛 (‵ (owned (block_ptr b o) v) ∷ Γ) G) → (x ≡ None → y ≡ false → Seq K 𝓛 Γ G)
      → Seq K 𝓛 (‵ (held y p x) ∷ Γ) G
  by_live t y p None k n = feq_l t (λ is. n refl is)
  by_live t y p (Some v) k n = fsplit t $ feq_l t (λ is. in_a_block t p (λ q. owned q v) (fst∗ 𝓤 (never 𝓤) (sem 𝓛 (ghosts.dealloc_token heap (bare (lone the_gate.mir)) null_ptr))) (λ b o e. k b o v refl is e))

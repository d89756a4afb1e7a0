-- `take` gives the block back, if there is one.
use Rattle.std.proofs.Common.{◌≡◌, List, [], ◌∷◌, ◌++◌, refl, sym, ap, ◌∙◌, subst, lit<}
use mathlib.Core.Bool.{Bool, true, false}
use mir.Syntax.{impl, tnil, dnil}
use mir.Val.{Val, vptr, vcons, vnil}
use base.Logic.{SProp, ent, emp, id⊢}
use base.Fml.{ftrue}
use prog.Wp.{WpFn}
use types.Kit.{‵, raw, ◌⊛◌, at_ret, ◌$◌, ◌∵◌, !, qed, by, move, keep, split, fsplit, fjoin, suffices, use0, use1}
use types.Run.{stop, fld, lit, of_opd, no_more, and_then, first, branches, exec, returns, enter}
use types.ByLocal.{alloc_all, pass_all, free_all, look_at, get, get_in, sets, sets_last, env}
use types.Part.{agg, sub, whole}
use types.Match.{live}
use contract.Monad.{fact, fact_i}
use contract.Running.{tables}
use denote.RattleType.{RattleType, owns}
use denote.Param.{layout}
use denote.Signature.{types_at, type_at, plain}
use denote.RawPtr.{Ptr, block_ptr, rawptr_Lawful}
use denote.Steps.{nothing}
use denote.Triple.Walked.{Stays, stay_dropped, walk_of}
use Rattle.std.proofs.alloc.Calls.{Al, Goes-blank, handle_tells}
use Rattle.std.proofs.alloc.Shapes.{after}
use Rattle.std.proofs.cell.Inside.{Good}
use Rattle.std.proofs.option.Made.{Some-of, none_of}
use Rattle.std.proofs.raw_atomic.Walks.{proved_at, leaves}
use Rattle.std.proofs.ResultValues.{and_tt}
use Rattle.std.specs.declared.option.Option.TheVariants.{None, Some}
use Rattle.std.specs.contracts.alloc.Global as heap
use Rattle.std.proofs.alloc.Global.TheLaws as heap_laws
use Rattle.std.specs.contracts.impls.GlobalAllocator.TheImpl.{ghosts}
use Rattle.loose.proofs.Values.{both, Loose, loose_good, loose_in}
use Rattle.norm_gate.specs.contracts.gate.Gate.{the_row as R}
use Rattle.norm_c.proofs.Values.{Handle, word, handle_out, by_live}
use Rattle.norm_c.specs.contracts.handle.Handle.take.{ended, clauses}
use Rattle.norm_c.specs.contracts.handle.Handle.take.Key.{name as #self}
use Rattle.norm_c.proofs.handle.Handle.take.Statement.{statement}
use Rattle.norm_c.proofs.handle.Handle.take.Code as code

pub take_spec : {M : Type 1} → statement M
take_spec 𝓤 𝓛 𝓜 𝓡 wired =
    let H = 𝓛.H in let 𝓣 = tables 𝓤 H 𝓜 𝓡 𝓡.env in let c = clauses 𝓛 𝓜.mem 𝓡.returns in let fn = code.function in
    let Z : RattleType = heap.the_row in let LZ = heap_laws.the_row_laws in let L : RattleType = Loose R Z LZ ghosts in
    let al : Al = record { row = Z; laws = LZ; g = ghosts; d = impl [] tnil dnil; drops = impl [] tnil dnil } in
    let hs : Stays ended.signature.params ended.kept = (stay_dropped (plain (λ _. Handle)) ended.kept.0, (stay_dropped (plain (λ _. Z)) ended.kept.1.0, tt)) in
    proved_at 𝓛 ended hs c 𝓜 𝓡 (Goes-blank 𝓛 0 (plain (λ _. Handle)) ended.kept.0 (λ κs x f. tt), (Goes-blank 𝓛 0 (plain (λ _. Z)) ended.kept.1.0 (λ κs x f. tt), tt)) #self fn (code.unfolded 𝓤 H 𝓜 𝓡 wired) (λ z are.
    let d = z.0.3.0 in let a = z.0.3.1.0 in let Post : Val → SProp 𝓤 = (walk_of 𝓛 ended hs c).post z in let Run : List Val → SProp 𝓤 = λ ws. WpFn 𝓤 H 𝓣.C 𝓣.Λ fn ws Post in
    let Out : RattleType = type_at ended.signature.result z.0.0 in
    qed 𝓛 ((‵ ftrue ⊛ ‵ (owns (types_at ended.signature.params z.0.0) z.0.3 z.0.4)) ∷ raw ((c z.0.0 z.0.3).requires z.1) ∷ []) ∵ split ! $ move ! (1 ∷ []) $ fsplit ! $ move ! (1 ∷ []) $ fsplit ! $
    handle_tells al ! a z.0.4.1.0 (λ h eh fits. move ! (2 ∷ []) $ handle_out ! d z.0.4.0 (λ ws. by_live ! d.live d.at d.value
    (λ b o v has is e.
    let w : Val = both (vptr b o) h in let made : Val = live 1 (vcons w vnil) in let v₀ : Val = word true (block_ptr b o) in let r : L.Denot = record { at = block_ptr b o; alloc = a; value = v } in
    let typed = loose_good R Z LZ ghosts b o h fits in let good : Good (layout Out) made = (and_tt _ typed.0, (record { fits = lit< tt }, (typed.1, tt))) in
    let said : z.0.4.0 ≡ v₀ ∷ [] = ws ∙ ap (λ (y : Bool). word y d.at ∷ []) is ∙ ap (λ (p : Ptr). word true p ∷ []) e in
    suffices ! (Run (v₀ ∷ h ∷ [])) (subst (λ (us : List Val). ent 𝓤 (Run (v₀ ∷ h ∷ [])) (Run us)) (sym (λ i. said i ++ (eh i ++ []))) (id⊢ 𝓤 (Run (v₀ ∷ h ∷ [])))) $
    enter ! 𝓣.C 𝓣.Λ fn (v₀ ∷ h ∷ []) Post $ alloc_all ! (λ l. pass_all ! refl ((tt, (tt, (tt, tt))), (fits, tt)) $ let Ev = env fn.locals l in
    sets ! (of_opd ! (get_in ! (fld ! refl (stop !)) (sub ! 0 refl (whole !)))) refl (tt, tt) $
    sets ! (of_opd ! (get_in ! (fld ! refl (stop !)) (sub ! 1 refl (whole !)))) refl (tt, tt) $
    sets ! (of_opd ! (get ! refl)) refl (tt, tt) $
    first ! $ branches ! (get ! refl)
    (λ _. sets ! (of_opd ! (get ! refl)) refl (tt, tt) $
    sets ! (agg ! (and_then ! (get ! refl) (and_then ! (get ! refl) (no_more !)))) refl typed $
    sets_last ! (agg ! (and_then ! (lit ! tt) (and_then ! (get ! refl) (no_more !)))) refl good $
    exec ! 𝓣.C 𝓣.Λ Ev (after 4 fn.body) (at_ret Ev Post) $ sets ! (of_opd ! (get ! refl)) refl good $
    loose_in R Z LZ ghosts ! b o h a v $
    use1 𝓛 (‵ (Out.own_val (Some r) (made ∷ []))) (Some-of 𝓛 L r w) $
    use0 𝓛 (raw (fact 𝓤 (d.value ≡ Some v))) (fact_i 𝓤 (d.value ≡ Some v) (emp 𝓤) has) $
    nothing ! $ nothing ! $ fjoin ! $ nothing ! $ fjoin ! $ nothing ! $
    returns ! (look_at ! 0 refl) $ free_all ! refl $ keep ! (0 ∷ 1 ∷ 3 ∷ 2 ∷ []) $
    by ! (leaves 𝓛 ended hs c z made (Some r) (tt, (tt, tt)) (tt, (tt, tt))))
    (λ wrong. absurd wrong)))
    (λ has is.
    let v₀ : Val = word false d.at in let none : Val = live 0 vnil in let p-ok = (rawptr_Lawful 𝓛).typed d.at _ refl in
    let good : Good (layout Out) none = (tt, (record { fits = lit< tt }, tt)) in
    let said : z.0.4.0 ≡ v₀ ∷ [] = ws ∙ ap (λ (y : Bool). word y d.at ∷ []) is in
    suffices ! (Run (v₀ ∷ h ∷ [])) (subst (λ (us : List Val). ent 𝓤 (Run (v₀ ∷ h ∷ [])) (Run us)) (sym (λ i. said i ++ (eh i ++ []))) (id⊢ 𝓤 (Run (v₀ ∷ h ∷ [])))) $
    enter ! 𝓣.C 𝓣.Λ fn (v₀ ∷ h ∷ []) Post $ alloc_all ! (λ l. pass_all ! refl ((and_tt _ p-ok.0.0, (tt, (p-ok.0.1, tt))), (fits, tt)) $ let Ev = env fn.locals l in
    sets ! (of_opd ! (get_in ! (fld ! refl (stop !)) (sub ! 0 refl (whole !)))) refl (tt, tt) $
    sets ! (of_opd ! (get_in ! (fld ! refl (stop !)) (sub ! 1 refl (whole !)))) refl p-ok.0 $
    sets ! (of_opd ! (get ! refl)) refl (tt, tt) $
    first ! $ branches ! (get ! refl)
    (λ wrong. absurd wrong)
    (λ _. sets_last ! (agg ! (and_then ! (lit ! tt) (no_more !))) refl good $
    exec ! 𝓣.C 𝓣.Λ Ev (after 4 fn.body) (at_ret Ev Post) $ sets ! (of_opd ! (get ! refl)) refl good $
    use0 𝓛 (‵ (Out.own_val None (none ∷ []))) (none_of 𝓛 L) $
    use0 𝓛 (raw (fact 𝓤 (d.value ≡ None))) (fact_i 𝓤 (d.value ≡ None) (emp 𝓤) has) $
    nothing ! $ nothing ! $ fjoin ! $ nothing ! $ fjoin ! $ nothing ! $
    returns ! (look_at ! 0 refl) $ free_all ! refl $ keep ! (0 ∷ 1 ∷ 3 ∷ 2 ∷ []) $
    by ! (leaves 𝓛 ended hs c z none None (tt, (tt, tt)) (tt, (tt, tt)))))))))

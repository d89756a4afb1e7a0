use Rattle.std.proofs.Common.{◌≡◌, ◌+◌, ◌∙◌, ℕ, List, [], ◌∷◌, ◌++◌, length, Some, refl, sym, ap, ap₂, subst, arith, nat_le}
use Rattle.wire_base.specs.Segments.{Written}
use Rattle.tcp_norm.specs.Calls.{datagram, segments, eras, without}
use Rattle.tcp_norm.specs.RuleViews.{view_of}
use Rattle.tcp_norm.specs.working.EraSteps.{began, place_of, one, number_ended, first_empty}
use Rattle.tcp_norm.specs.working.TableChanges.{Holds}
use Rattle.tcp_norm.proofs.CallEffects.{begins_then, begins_with, ended_by_place, begun_place, tables_go_on}
use Rattle.tcp_norm.proofs.EraTable.{opened_kept}
use Rattle.tcp_norm.proofs.state.TcpNorm.admit.Goals as goal

pub returns-clause-answer : goal.returns-clause-answer
returns-clause-answer c settings calls d st =
    let next_is : c.args.self.now.begun + 1 ≡ (view_of settings calls d).next = omega (arith, st.begun_is) in
    (c.place.ensures.places (eras calls) (λ m. segments m calls) st.holds).answer
    ∙ ap₂ (λ m n. place_of (nat_le m (length (eras calls))) (first_empty (eras calls) (λ k. segments k calls)) n) st.opened.flows next_is

pub returns-clause-stands : goal.returns-clause-stands
returns-clause-stands c settings calls d w o st key stood none does =
    let self = c.args.self.now in
    let p = c.place.result in
    let places = c.place.ensures.places (eras calls) (λ m. segments m calls) st.holds in
    let named : (began p).era ≡ Some (self.begun + 1) = ap Some (begun_place _ _ _ p places.answer) in
    let later : ℕ → List Written = λ m. segments m (datagram c.args.now d o ∷ calls) in
    begins_then settings self c.place.new.self calls c.args.now d w o (began p) (number_ended p.evicted) st
    (tables_go_on settings self _ c.place.new.self c.args.now 1 _ c.place.ensures.tables refl (opened_kept settings self _ st.opened refl refl refl refl) refl refl c.requires.ready.later)
    places.given named named (ended_by_place p.evicted) does
    (subst (λ k. Holds c.place.new.self (without (one (number_ended p.evicted)) (eras calls) ++ record { number = self.begun + 1; key = k; touched = c.args.now } ∷ []) later) (sym key)
    (places.holds later (begins_with settings self calls c.args.now d w o (began p) c.args.era.now st named does stood none)))

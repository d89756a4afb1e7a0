use Rattle.std.proofs.Common.{◌∙◌, ℕ, List, [], ◌∷◌, ◌++◌, sym, ap, ap₂, subst, refl}
use Rattle.rule_book.specs.declared.entry.Entry.{Entry}
use Rattle.wire_base.specs.Segments.{Written}
use Rattle.tcp_norm.specs.Calls.{expiry, eras, segments, without}
use Rattle.tcp_norm.specs.working.EraSteps.{first_old}
use Rattle.tcp_norm.specs.IdleEnds.{idled}
use Rattle.tcp_norm.specs.TableAndStore.{StandsFor}
use Rattle.tcp_norm.specs.working.TableChanges.{Holds}
use Rattle.tcp_norm.proofs.CallEffects.{without_none}
use Rattle.tcp_norm.proofs.EraCounts.{idle_zero, idle_one, idle_two, expired, without_two}
use Rattle.tcp_norm.proofs.EraTable.{opened_kept, then_changes}
use Rattle.tcp_norm.proofs.state.TcpNorm.expire.Goals as goal

pub returns-in_default-clause-stands : goal.returns-in_default-clause-stands
returns-in_default-clause-stands c settings calls st =
    let self = c.args.self.now in
    let segs : ℕ → List Written = λ m. segments m calls in
    let first = c.in_default.ensures.ends (eras calls) segs st.holds in
    subst (λ l. StandsFor settings c.end_idle-offered.new.self (expiry c.args.now l ∷ calls)) (sym (idle_zero settings c.args.now self.limits.idle self.latest calls (λ k. (st.opened.limits k).idle) st.timely first.answer))
    (expired settings self _ c.end_idle-offered.new.self calls c.args.now _ [] (eras calls) st c.end_idle-offered.ensures.tables refl (opened_kept settings self _ st.opened refl refl refl refl) refl refl c.requires.later
    (without_none (eras calls)) (subst (λ l. Holds c.end_idle-offered.new.self l segs) (without_none (eras calls)) first.left))

pub returns-in_default-clause-entry : goal.returns-in_default-clause-entry
returns-in_default-clause-entry c settings calls st =
    let segs : ℕ → List Written = λ m. segments m calls in
    let first = c.in_default.ensures.ends (eras calls) segs st.holds in
    c.requires.none ∙ ap (idled segs) (sym (idle_zero settings c.args.now c.args.self.now.limits.idle c.args.self.now.latest calls (λ k. (st.opened.limits k).idle) st.timely first.answer))

pub returns-in_default-offered-clause-stands : goal.returns-in_default-offered-clause-stands
returns-in_default-offered-clause-stands c settings calls st =
    let self = c.args.self.now in
    let segs : ℕ → List Written = λ m. segments m calls in
    let n = c.in-Some.first.era in
    let lives = without (n ∷ []) (eras calls) in
    let first = c.in-Some.ensures.ends (eras calls) segs st.holds in
    let second = c.in_default-offered.ensures.ends lives segs first.left in
    let none = second.answer ∙ ap (λ i. first_old i c.args.now lives) c.end_idle-offered.ensures.tables.idle in
    subst (λ l. StandsFor settings c.end_idle-offered-2.new.self (expiry c.args.now l ∷ calls))
    (sym (idle_one settings c.args.now self.limits.idle self.latest n calls (λ k. (st.opened.limits k).idle) st.timely st.holds.given.apart first.answer none))
    (expired settings self _ c.end_idle-offered-2.new.self calls c.args.now _ (n ∷ []) lives st (then_changes _ _ _ _ _ c.end_idle-offered.ensures.tables c.end_idle-offered-2.ensures.tables)
    c.end_idle-offered.ensures.tables.begun_is (opened_kept settings self _ st.opened refl refl refl refl) refl refl c.requires.later refl
    (subst (λ l. Holds c.end_idle-offered-2.new.self l segs) (without_none lives) second.left))

pub returns-in_default-offered-clause-entry : goal.returns-in_default-offered-clause-entry
returns-in_default-offered-clause-entry c settings calls st =
    let segs : ℕ → List Written = λ m. segments m calls in
    let n = c.in-Some.first.era in
    let lives = without (n ∷ []) (eras calls) in
    let first = c.in-Some.ensures.ends (eras calls) segs st.holds in
    let none = (c.in_default-offered.ensures.ends lives segs first.left).answer ∙ ap (λ i. first_old i c.args.now lives) c.end_idle-offered.ensures.tables.idle in
    c.add_idle.ensures.ended ∙ (ap₂ (λ l e. l ++ e ∷ []) c.requires.none first.told
    ∙ ap (idled segs) (sym (idle_one settings c.args.now c.args.self.now.limits.idle c.args.self.now.latest n calls (λ k. (st.opened.limits k).idle) st.timely st.holds.given.apart first.answer none)))

pub returns-clause-stands : goal.returns-clause-stands
returns-clause-stands c settings calls st =
    let self = c.args.self.now in
    let segs : ℕ → List Written = λ m. segments m calls in
    let n = c.in-Some.first.era in
    let k = c.in-Some-offered.second.era in
    let lives = without (n ∷ []) (eras calls) in
    let first = c.in-Some.ensures.ends (eras calls) segs st.holds in
    let second = c.in-Some-offered.ensures.ends lives segs first.left in
    let some = second.answer ∙ ap (λ i. first_old i c.args.now lives) c.end_idle-offered.ensures.tables.idle in
    subst (λ l. StandsFor settings c.end_idle-offered-2.new.self (expiry c.args.now l ∷ calls))
    (sym (idle_two settings c.args.now self.limits.idle self.latest n k calls (λ k. (st.opened.limits k).idle) st.timely st.holds.given.apart first.answer some))
    (expired settings self _ c.end_idle-offered-2.new.self calls c.args.now _ (n ∷ k ∷ []) (without (k ∷ []) lives) st (then_changes _ _ _ _ _ c.end_idle-offered.ensures.tables c.end_idle-offered-2.ensures.tables)
    c.end_idle-offered.ensures.tables.begun_is (opened_kept settings self _ st.opened refl refl refl refl) refl refl c.requires.later (sym (without_two n k (eras calls))) second.left)

pub returns-clause-entry : goal.returns-clause-entry
returns-clause-entry c settings calls st =
    let segs : ℕ → List Written = λ m. segments m calls in
    let n = c.in-Some.first.era in
    let lives = without (n ∷ []) (eras calls) in
    let first = c.in-Some.ensures.ends (eras calls) segs st.holds in
    let second = c.in-Some-offered.ensures.ends lives segs first.left in
    let some = second.answer ∙ ap (λ i. first_old i c.args.now lives) c.end_idle-offered.ensures.tables.idle in
    c.add_idle-2.ensures.ended ∙ (ap₂ (λ l e. l ++ e ∷ []) (c.add_idle.ensures.ended ∙ ap₂ (λ l e. l ++ e ∷ []) c.requires.none first.told) second.told
    ∙ ap (idled segs) (sym (idle_two settings c.args.now c.args.self.now.limits.idle c.args.self.now.latest n c.in-Some-offered.second.era calls (λ k. (st.opened.limits k).idle) st.timely st.holds.given.apart first.answer some)))

pub returns-clause-rest : goal.returns-clause-rest
returns-clause-rest c = c.add_idle-2.ensures.rest ∙ ap (λ (e : Entry). record e { ended = c.add_idle-2.new.entry.ended }) c.add_idle.ensures.rest

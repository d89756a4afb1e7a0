use Rattle.std.proofs.Common.{◌≡◌, ◌∙◌, ℕ, List, [], ◌∷◌, Option, Some, None, true, false, refl, rules, sym, ap, subst, take}
use Rattle.norm_settings.specs.SettingValues.{AreInRange, PlainSettings}
use Rattle.rule_book.specs.declared.entry.Verdict.TheVariants as verdicts
use Rattle.norm_gate.specs.Fates.{fate_of}
use Rattle.norm_gate.specs.declared.fate.Fate.{Fate}
use Rattle.norm_gate.specs.declared.fate.Fate.TheVariants.{Crosses}
use Rattle.norm_gate.specs.declared.gate.Answer.{Answer}
use Rattle.norm_gate.specs.GateHistory.{Event, event_of, items_in, leaving_by, other}
use Rattle.norm_gate.specs.GateState.{Follows, Gated, Represents, entries_kept, frames_kept, settings_of, shown}
use Rattle.norm_gate.proofs.Steps.{judged_follows, stays_follows}
use Rattle.norm_gate.proofs.gate.Gate.step.Goals as goal

pub invariant_of-self : goal.invariant_of-self
invariant_of-self c = record {
  same = c.judge-answer.ensures.settings ∙ c.self.invariant.same;
  link = c.judge-answer.ensures.link ∙ c.self.invariant.link;
  range = c.self.invariant.range;
  most = c.self.invariant.most;
  empty = λ e. ap (λ (f : Fate). frames_kept f c.judge-answer.new.live.frames []) c.judge-answer.ensures.fate ∙ c.judge-answer.ensures.empty e;
}

pub returns-in-Judged-clause-follows : goal.returns-in-Judged-clause-follows
returns-in-Judged-clause-follows c =
    let answer = c.judge-answer.result in
    let live = c.judge-answer.new.live in
    let after : Gated = record {
      live = live;
      given = c.self.inside.given;
      leaving = leaving_by answer.port (frames_kept answer.fate live.frames (take c.self.inside.size c.self.inside.crossing));
      entries = entries_kept answer.fate live.entry;
    } in
    subst (λ (b : Gated). (history : List Event) → Represents b history
    → Follows b after (event_of b.given (settings_of b) history c.args.arrival.now c.args.frame.now) c.judge-answer.result history) c.self.view_is
    (λ history rep.
    judged_follows c.lawful_is_not_forged.ensures c.lawful_inward_is_known.ensures c.represented_is_normal.ensures _ c.args.arrival.now c.args.frame.now history
    (subst AreInRange (sym c.self.invariant.same) c.self.invariant.range) c.self.invariant.link rep
    after c.judge-answer.result refl c.judge-answer.ensures.settings
    (ap (λ (s : PlainSettings). fate_of c.self.inside.given s c.args.arrival.now c.args.frame.now) c.self.invariant.same ∙ sym c.fate_of-fate.ensures ∙ c.in-Judged.is)
    (c.judge-answer.ensures.gives (items_in history) rep.live) c.judge-answer.ensures.fate c.judge-answer.ensures.records c.judge-answer.ensures.verdict
    c.judge-answer.ensures.frames c.judge-answer.ensures.port
    (ap (λ (f : Fate). leaving_by c.judge-answer.result.port (frames_kept f c.judge-answer.new.live.frames (take c.self.inside.size c.self.inside.crossing))) c.judge-answer.ensures.fate)
    (ap (λ (f : Fate). entries_kept f c.judge-answer.new.live.entry) c.judge-answer.ensures.fate))

pub returns-in-Crosses-clause-follows : goal.returns-in-Crosses-clause-follows
returns-in-Crosses-clause-follows c =
    let answer = c.crossed-answer.result in
    let told : answer ≡ record { fate = Crosses; records = 0; verdict = verdicts.Pass; frames = 1; port = Some (other c.args.arrival.now.port); as_read = false } = c.crossed-answer.ensures in
    let live = c.self.inside.live in
    let after : Gated = record {
      live = live;
      given = c.self.inside.given;
      leaving = leaving_by answer.port (frames_kept answer.fate live.frames (take c.write_crossing-self-inside.result c.write_crossing-self-inside.new.buf));
      entries = entries_kept answer.fate live.entry;
    } in
    subst (λ (b : Gated). (history : List Event) → Represents b history
    → Follows b after (event_of b.given (settings_of b) history c.args.arrival.now c.args.frame.now) answer history) c.self.view_is
    (λ history rep.
    stays_follows c.lawful_is_not_forged.ensures c.lawful_inward_is_known.ensures c.represented_is_normal.ensures _ c.args.arrival.now c.args.frame.now history
    (subst AreInRange (sym c.self.invariant.same) c.self.invariant.range) c.self.invariant.link rep
    Crosses after answer refl refl
    (ap (λ (s : PlainSettings). fate_of c.self.inside.given s c.args.arrival.now c.args.frame.now) c.self.invariant.same ∙ sym c.fate_of-fate.ensures ∙ c.in-Crosses.is)
    refl
    (record {
      fate = ap (λ (a : Answer). a.fate) told;
      records = ap (λ (a : Answer). a.records) told;
      frames = ap (λ (a : Answer). a.frames) told;
      verdict = tt;
      port = (ap (λ (a : Answer). a.port) told, tt);
    })
    (ap (λ (a : Answer). shown a.as_read c.args.frame.now a.port (leaving_by a.port (frames_kept a.fate c.self.inside.live.frames (take c.write_crossing-self-inside.result c.write_crossing-self-inside.new.buf)))) told
    ∙ ap (λ (o : List ℕ). leaving_by (Some (other c.args.arrival.now.port)) (o ∷ [])) c.write_crossing-self-inside.ensures.octets)
    (ap (λ (a : Answer). entries_kept a.fate c.self.inside.live.entry) told))

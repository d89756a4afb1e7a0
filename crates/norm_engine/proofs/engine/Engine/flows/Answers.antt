use Rattle.std.proofs.Common.{◌≤◌, length, sym, ap, subst, ◌∙◌}
use Rattle.std.proofs.Math.Logic.{∥∥₁_elim}
use Rattle.std.specs.Coded.{le_prop}
use Rattle.norm_settings.specs.SettingValues.{plain_settings}
use Rattle.tcp_norm.specs.Calls.{eras}
use Rattle.tcp_norm.specs.TableAndStore as flows
use Rattle.norm_engine.specs.Calls.{flow_calls}
use Rattle.norm_engine.specs.EngineState.{Engaged}
use Rattle.norm_engine.proofs.engine.Engine.flows.Goals as goal

pub returns-clause-number : goal.returns-clause-number
returns-clause-number c = λ history stands.
    let settings = plain_settings c.self.inside.settings in
    let here = subst (λ (e : Engaged). flows.StandsFor e.settings e.norm (flow_calls e.settings e.link history)) (sym c.self.view_is) stands.flows in
    c.flows.ensures.number settings (flow_calls settings c.self.inside.link history) here
    ∙ ap (λ (e : Engaged). length (eras (flow_calls e.settings e.link history))) c.self.view_is

pub returns-clause-bounded : goal.returns-clause-bounded
returns-clause-bounded c =
    subst (λ (e : Engaged). c.flows.result ≤ e.settings.flows) c.self.view_is
    (∥∥₁_elim c.self.invariant.2 le_prop (λ k. c.flows.ensures.bounded (plain_settings c.self.inside.settings) k.calls k.stands))

use Rattle.std.proofs.Common.{◌≤◌, length, sym, ap, subst, ◌∙◌}
use Rattle.std.proofs.Math.Logic.{∥∥₁_elim}
use Rattle.std.specs.Coded.{le_prop}
use Rattle.norm_settings.specs.SettingValues.{plain_settings}
use Rattle.reassembly.specs.Calls.{gathered}
use Rattle.reassembly.specs.AssemblyState as fragments
use Rattle.norm_engine.specs.Fragments.{piece_calls}
use Rattle.norm_engine.specs.EngineState.{Engaged}
use Rattle.norm_engine.proofs.engine.Engine.datagrams.Goals as goal

pub returns-clause-number : goal.returns-clause-number
returns-clause-number c = λ history stands.
    let settings = plain_settings c.self.inside.settings in
    let here = subst (λ (e : Engaged). fragments.StandsFor e.settings e.pieces (piece_calls e.settings e.link history)) (sym c.self.view_is) stands.pieces in
    c.datagrams.ensures.number settings (piece_calls settings c.self.inside.link history) here
    ∙ ap (λ (e : Engaged). length (gathered e.settings.frag_time (piece_calls e.settings e.link history))) c.self.view_is

pub returns-clause-bounded : goal.returns-clause-bounded
returns-clause-bounded c =
    subst (λ (e : Engaged). c.datagrams.result ≤ e.settings.frags) c.self.view_is
    (∥∥₁_elim c.self.invariant.2 le_prop (λ k. c.datagrams.ensures.bounded (plain_settings c.self.inside.settings) k.offers k.holds))

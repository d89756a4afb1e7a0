use Rattle.std.proofs.Common.{◌≡◌, ◌∙◌, true, length, None, sym, ap, ap₂, arith, nat_le}
use Rattle.std.proofs.lemmas.Bool.Decides.{nat_tests}
use Rattle.std.proofs.lemmas.List.{length-map}
use Rattle.tcp_norm.specs.Calls.{segments, eras}
use Rattle.tcp_norm.specs.RuleViews.{view_of}
use Rattle.tcp_norm.specs.TableAndStore.{alive_in}
use Rattle.tcp_norm.specs.working.EraSteps.{place_of}
use Rattle.tcp_norm.proofs.SpareEras.{found, first_none}
use Rattle.tcp_norm.proofs.state.TcpNorm.room.Goals as goal

pub returns-in-None-clause-none : goal.returns-in-None-clause-none
returns-in-None-clause-none c settings calls d st =
    let self = c.args.self.now in
    let long : length (eras calls) ≡ length self.table.entries = sym (ap length st.holds.eras_are) ∙ length-map self.table.entries alive_in in
    let full : nat_le settings.flows (length (eras calls)) ≡ true = grind (arith, nat_tests, long, c.if-len-max.false, c.len.ensures, c.max.ensures, st.opened.flows) in
    let none = found self.store self.table.entries _ self.spare_listed None c.in-None.ensures.first in
    ap₂ (λ b e. place_of b e (view_of settings calls d).next) full (first_none (eras calls) (λ m. segments m calls) _ self.table.entries self.store st.holds none)

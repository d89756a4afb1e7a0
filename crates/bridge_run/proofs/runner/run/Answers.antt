use Rattle.std.proofs.Common.{inl, inr}
use Rattle.norm_settings.specs.AskedCommand.{plain_names}
use Rattle.norm_settings.specs.SettingValues.{plain_settings}
use Rattle.bridge_run.proofs.runner.run.Goals as goal

pub run_capture-requires-clause-together : goal.run_capture-requires-clause-together
run_capture-requires-clause-together g c = rw c.in-Run.is at c.in-Ok.ensures.together

pub returns-in-Run-clause-finished : goal.returns-in-Run-clause-finished
returns-in-Run-clause-finished g c = λ e. inl (record {
  settings = plain_settings c.in-Run.settings;
  accepted = (plain_names c.in-Run._names, rw c.in-Run.is at c.in-Ok.ensures.ok);
  normalized = c.run_capture.ensures.finished e;
})

pub returns-in-Run-clause-stopped : goal.returns-in-Run-clause-stopped
returns-in-Run-clause-stopped g c = inr (inr (inl (
  plain_settings c.in-Run.settings,
  (plain_names c.in-Run._names, rw c.in-Run.is at c.in-Ok.ensures.ok),
  c.run_capture.ensures.stopped,
)))

pub returns-in-Run-clause-faulty : goal.returns-in-Run-clause-faulty
returns-in-Run-clause-faulty g c = λ e. (
  plain_settings c.in-Run.settings,
  (plain_names c.in-Run._names, rw c.in-Run.is at c.in-Ok.ensures.ok),
  c.run_capture.ensures.faulty e,
)

pub returns-in-Run-clause-cut : goal.returns-in-Run-clause-cut
returns-in-Run-clause-cut g c = λ e. (
  plain_settings c.in-Run.settings,
  (plain_names c.in-Run._names, rw c.in-Run.is at c.in-Ok.ensures.ok),
  c.run_capture.ensures.cut e,
)

use Rattle.std.proofs.Common.{◌≡◌, ◌≤◌, ◌-◌, ◌^◌, true, length}
use Rattle.capture_input.specs.ReaderState.{is_open_in}
use Rattle.norm_settings.specs.SettingValues.{plain_settings}
use Rattle.both_sides.specs.RelayState.{records_of}
use Rattle.bridge_run.specs.RunMoments.{moment_of}
use Rattle.bridge_run.proofs.Runs.{Going}
use Rattle.bridge_run.proofs.runner.normalize.Given as goal

abbrev pub invariant-records : goal.invariant-records
invariant-records g l = record {
  may_ask : is_open_in l.input ≡ true;
  room : 262144 ≤ length l.buffer;
  going : Going (plain_settings l.settings) l.head
      (moment_of (g.S.Source.left l.fn.source) (g.S.Source.fault_count l.fn.source) (g.K.Sink.held l.fn.capture) (g.K.Sink.fault_count l.fn.capture) (g.R.Sink.held l.fn.report) (g.R.Sink.fault_count l.fn.report))
      (moment_of (g.S.Source.left l.source) (g.S.Source.fault_count l.source) (g.K.Sink.held l.capture) (g.K.Sink.fault_count l.capture) (g.R.Sink.held l.report) (g.R.Sink.fault_count l.report))
      l.relay l.input l.frames;
}

abbrev pub decreases-records : goal.decreases-records
decreases-records g l = 2 ^ 32 - records_of l.relay

use Rattle.std.proofs.Common.{sym}
use Rattle.norm_settings.specs.SettingValues.{plain_settings}
use Rattle.both_sides.specs.RelayState.{settings_of}
use Rattle.both_sides.specs.RunTraces.{empty_run}
use Rattle.both_sides.proofs.Runs.{no_octets, ready_first}
use Rattle.both_sides.proofs.relay.Relay.open.Goals as goal

pub invariant_of-result : goal.invariant_of-result
invariant_of-result c =
    let opened = c.in_ok-engines.ensures in
    record {
      ready = ready_first c.in_ok-engines.engines (plain_settings c.args.settings) c.args.settings.both c.in_ok-room.room.mtu opened.settings c.requires.range opened.stands (sym c.in_ok-room.ensures);
      run = empty_run c.args.settings.both;
      stands = opened.stands;
      octets = no_octets (settings_of c.in_ok-engines.engines) c.args.settings.both;
    }

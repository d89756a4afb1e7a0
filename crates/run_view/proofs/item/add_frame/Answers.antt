use Rattle.std.proofs.Common.{◌++◌}
use Rattle.pcap_file.specs.RecordReading.{shown}
use Rattle.run_view.proofs.item.add_frame.Goals as goal

pub returns-clause-added : goal.returns-clause-added
returns-clause-added g c all head own older count at gathers =
    record {
      frame = shown c.in-Some.frame;
      stands = rw c.in-Some.is at (c.in_ok-frame.ensures.reads head all (own ++ older) at);
      gathers = c.in_ok-note_frame.ensures own count gathers;
    }

pub returns-clause-ready : goal.returns-clause-ready
returns-clause-ready g c = record { goes_on = rw c.in-Some.is at c.in_ok-frame.ensures.goes_on }

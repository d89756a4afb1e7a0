use Rattle.run_view.proofs.NoStops.{others_show_no_record}
use Rattle.run_view.proofs.laws.others_show_no_record.Goals as goal

pub returns : goal.returns
returns c = others_show_no_record

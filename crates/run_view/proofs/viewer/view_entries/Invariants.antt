use Rattle.std.proofs.Common.{◌≡◌, ◌-◌, ◌^◌, []}
use Rattle.pcap_file.specs.declared.head.Head.{Head}
use Rattle.run_view.specs.working.LinesAhead.{left_in}
use Rattle.run_view.specs.working.ViewerProgress.{Ends, MayTake, ViewerAt, ends_of, lines_in}
use Rattle.run_view.specs.working.LineProgress.{Going}
use Rattle.run_view.proofs.viewer.view_entries.Given as goal

abbrev pub invariant-entries : goal.invariant-entries
invariant-entries g l = record {
  may : MayTake l.viewer;
  asked : l.viewer.asked ≡ l.fn.viewer.asked;
  form : l.viewer.form ≡ l.fn.viewer.form;
  head : l.viewer.files.head ≡ l.fn.viewer.files.head;
  going : (head : Head) (before : Ends)
      → ViewerAt l.fn.viewer head before (ends_of (g.I.Source.left l.fn.input) (g.O.Source.left l.fn.output) (g.E.Events.shown l.fn.out)) []
      → Going l.viewer head before (ends_of (g.I.Source.left l.input) (g.O.Source.left l.output) (g.E.Events.shown l.out))
      (left_in l.fn.viewer.lines (g.R.Source.left l.fn.report)) (left_in l.viewer.lines (g.R.Source.left l.report));
  input_kept : g.I.Source.fault_count l.input ≡ g.I.Source.fault_count l.fn.input;
  output_kept : g.O.Source.fault_count l.output ≡ g.O.Source.fault_count l.fn.output;
  report_kept : g.R.Source.fault_count l.report ≡ g.R.Source.fault_count l.fn.report;
  out_kept : g.E.Events.fault_count l.out ≡ g.E.Events.fault_count l.fn.out;
}

abbrev pub decreases-entries : goal.decreases-entries
decreases-entries g l = 2 ^ 33 - lines_in l.viewer

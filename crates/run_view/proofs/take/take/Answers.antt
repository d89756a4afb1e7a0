use Rattle.std.proofs.Common.{◌≡◌, ◌+◌, Bool, true, inr, sym, subst, if◌then◌else◌}
use Rattle.rule_book.specs.Entries.{plain}
use Rattle.run_view.specs.Items.{line_by}
use Rattle.run_view.specs.working.LinePositions.{waits}
use Rattle.run_view.specs.working.ViewerProgress.{Taken, ends_of}
use Rattle.run_view.proofs.Shown.{some_waits}
use Rattle.run_view.proofs.Stopping.{if_err, on_ok, says_more}
use Rattle.run_view.proofs.take.take.Goals as goal

pub returns-else-viewer-eq0-clause-taken : goal.returns-else-viewer-eq0-clause-taken
returns-else-viewer-eq0-clause-taken g c =
    let flag : waits c.args.viewer.now.owed ≡ true = some_waits c.args.viewer.now.owed c.if-viewer-eq0.false in
    on_ok c.take_second.result c.take_second.ensures.taken
    (λ taken head before shown items so_far fits number.
    let L : Bool → Type 0 =
    λ b. Taken c.take_second.new.viewer head before (ends_of (g.I.Source.left c.args.input.now) (g.O.Source.left c.take_second.new.output) shown)
    items (line_by b (plain c.args.entry.now)) in
    let D : Bool → Type 0 = λ b. c.args.entry.now.number ≡ (if b then c.args.viewer.now.second_count else c.args.viewer.now.files.count) + 1 in
    subst L (sym flag) (taken (g.I.Source.left c.args.input.now) head before shown items so_far fits (subst D flag number)))

pub returns-else-viewer-eq0-clause-stops : goal.returns-else-viewer-eq0-clause-stops
returns-else-viewer-eq0-clause-stops g c =
    if_err c.take_second.result c.take_second.ensures.stops
    (λ stop why head before shown report left going line.
    says_more (λ x. x) (λ x. x) (λ x. x) (λ x. x) (λ rose. inr rose) (λ x. x) stop (why _ head before shown report left going line))

use Rattle.std.proofs.Common.{map}
use Rattle.rule_book.specs.Entries.{plain}
use Rattle.run_audit.proofs.Frames.{all_owners_named}
use Rattle.run_audit.proofs.examine.examine_capture.Goals as goal

pub judge_capture-requires-clause-named : goal.judge_capture-requires-clause-named
judge_capture-requires-clause-named g c = all_owners_named c.in_ok-eras.eras (map plain c.args.entries.now) c.in_ok-eras.ensures.named

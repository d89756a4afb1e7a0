use Rattle.std.proofs.Common.{sym, ◌∙◌}
use Rattle.run_view.specs.working.RecordReading.{plain_original}
use Rattle.run_view.proofs.Records.{accepted_of}
use Rattle.run_view.proofs.item.gather.Goals as goal

pub returns-clause-read : goal.returns-clause-read
returns-clause-read g c all head older at =
    accepted_of c.gather_all.new.frames all _ head older (plain_original c.args.original) c.args.packets c.gather_all.new.gathered
    (λ is. let e = sym c.if-original-gathered.false ∙ is in cc) (c.in_ok-gather_all.ensures.read all head older at)

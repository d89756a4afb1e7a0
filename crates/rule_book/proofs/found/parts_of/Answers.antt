use Rattle.rule_book.proofs.Entries.{parts_at}
use Rattle.rule_book.proofs.found.parts_of.Goals as goal

pub returns : goal.returns
returns c ended fits is =
    parts_at ended fits c.args.word.now c.cut.result.0.now c.cut.result.1.now c.cut-2.result.0.now c.cut-2.result.1.now
    is c.cut.ensures.front c.cut.ensures.behind c.cut-2.ensures.front c.cut-2.ensures.behind

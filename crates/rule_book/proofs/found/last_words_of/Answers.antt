use Rattle.rule_book.proofs.Entries.{last_words_at}
use Rattle.rule_book.proofs.found.last_words_of.Goals as goal

pub returns : goal.returns
returns c last fits is =
    last_words_at last fits c.args.line.now c.cut.result.0.now c.cut-2.result.0.now c.cut-2.result.1.now c.cut-3.result.0.now c.cut-3.result.1.now
    is c.cut.ensures.front c.cut-2.ensures.front c.cut-2.ensures.behind c.cut-3.ensures.front c.cut-3.ensures.behind

use Rattle.rule_book.proofs.Entries.{front_is, words_at}
use Rattle.rule_book.proofs.found.words_of.Goals as goal

pub returns : goal.returns
returns c entry fits is =
    words_at entry fits c.args.line.now c.without_feed-line.result.now c.cut.result.0.now c.cut.result.1.now c.cut-2.result.0.now c.cut-2.result.1.now c.cut-3.result.0.now c.cut-3.result.1.now c.cut-4.result.0.now c.cut-4.result.1.now
    is (front_is entry fits c.args.line.now _ is c.without_feed-line.ensures) c.cut.ensures.front c.cut.ensures.behind c.cut-2.ensures.front c.cut-2.ensures.behind c.cut-3.ensures.front c.cut-3.ensures.behind c.cut-4.ensures.front c.cut-4.ensures.behind

use Rattle.std.proofs.Common.{◌∙◌, option_map}
use Rattle.pcap_file.specs.RecordReading.{shown}
use Rattle.rule_book.specs.Entries.{plain}
use Rattle.both_sides.proofs.TwoEngines.{judged}
use Rattle.both_sides.proofs.two_engines.judge_both.Goals as goal

pub returns-clause-judged : goal.returns-clause-judged
returns-clause-judged c = λ trace mirror stands.
    judged c.items_are_counted.ensures c.args.both.now c.front-own.new.self c.answer_next-first.new.both c.answer_next-second.new.both trace mirror (shown c.args.input.now)
    (plain c.front-own.result) (option_map plain c.answer_next-first.result) (option_map plain c.answer_next-second.result) c.answer_next-first.new.out c.answer_next-second.new.out
    c.front-own.ensures.settings c.front-own.ensures.link (c.answer_next-first.ensures.settings ∙ c.front-own.ensures.settings) (c.answer_next-first.ensures.link ∙ c.front-own.ensures.link)
    (c.front-own.ensures.entry trace mirror stands) (c.front-own.ensures.pending trace mirror stands) (c.front-own.ensures.stands trace mirror stands)
    c.answer_next-first.ensures.answered c.answer_next-second.ensures.answered

use Rattle.std.proofs.Common.{◌+◌, min, length, take, drop, ap, ◌∙◌, arith}
use Rattle.rule_book.proofs.Lines.{lines_front}
use Rattle.rule_book.proofs.Entries.{is_full}
use Rattle.rule_book.proofs.report.next_line.Goals as goal

pub returns : goal.returns
returns c =
    let text = c.args.text.now in
    let some = is_full (length text) c.is_empty.result c.is_empty.ensures c.if-is_empty.false in
    let end = c.min-end.ensures ∙ ap (λ place. min (place + 1) (length text)) c.place_of.ensures.place in
    (lines_front text c.split_at.result.0.now c.split_at.result.1.now some (c.split_at.ensures.front ∙ ap (λ k. take k text) end) (c.split_at.ensures.back ∙ ap (λ k. drop k text) end), omega arith)

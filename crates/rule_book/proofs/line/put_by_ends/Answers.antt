use Rattle.std.proofs.Common.{refl, length, drop, ◌-◌, arith, length-drop, take_all}
use Rattle.rule_book.proofs.Lines.{puts_ends}
use Rattle.rule_book.proofs.line.put_by_ends.Goals as goal

pub returns : goal.returns
returns c =
    let word = c.args.word.now in
    let rest = length word - c.args.part in
    puts_ends _ _ _ word _ _ c.args.at c.args.part rest _ _ (omega arith) c.requires.part c.requires.whole refl refl
    (take_all _ (drop rest word) (omega (arith, length-drop rest word))) c.put.ensures c.put-2.ensures

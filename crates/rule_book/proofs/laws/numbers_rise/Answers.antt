use Rattle.std.proofs.Common.{◌++◌, [], ◌∷◌, map, refl}
use Rattle.rule_book.proofs.Numbers.{rising}
use Rattle.rule_book.proofs.laws.numbers_rise.Goals as goal
use Rattle.rule_book.specs.declared.rule.Rule.TheVariants.{TCold, TState, TSyn, TRst, TFull, TRoom}
use Rattle.rule_book.specs.Rules.{cut_rows, datagram_rows, fix_rows, fragment_rows, header_rows, link_rows, protocol_rows, rule_number, segment_rows, step_rows}

pub returns-clause-drops : goal.returns-clause-drops
returns-clause-drops c =
    let before = link_rows ++ header_rows ++ protocol_rows ++ fragment_rows ++ datagram_rows ++ segment_rows ++ TCold ∷ TState ∷ TSyn ∷ TRst ∷ [] in
    record {
      before = before;
      behind = [];
      whole = refl;
      rises = rising (map rule_number (before ++ TFull ∷ TRoom ∷ [])) refl;
    }

pub returns-clause-named : goal.returns-clause-named
returns-clause-named c = rising (map rule_number (fix_rows ++ step_rows ++ cut_rows)) refl

use Rattle.std.proofs.Common.{◌∙◌, ap}
use Rattle.retain_store.specs.Maps.{chain_of}
use Rattle.reassembly.specs.RuleRows.{clashes}
use Rattle.reassembly.proofs.Pieces.{clash_is}
use Rattle.reassembly.proofs.odds.clashes.Goals as goal

pub returns : goal.returns
returns c ps keeps =
    clash_is (chain_of c.args.store.now c.args.chain.0) ps c.from.result c.args.piece.now.bytes.now c.agrees.result keeps c.agrees.ensures
    ∙ ap (λ o. clashes ps o c.args.piece.now.bytes.now) c.from.ensures

use Rattle.std.proofs.Common.{◌≡◌, ℕ, List, [], length, drop, sym, ap, ◌∙◌, arith}
use Rattle.std.proofs.lemmas.List.{length-drop}
use Rattle.emit_mtu.specs.Segments.{segments}
use Rattle.live_norm.proofs.Pieces.{at_drop}
use Rattle.live_norm.proofs.cut.write_segment.Goals as goal

pub unreachable-requires : goal.unreachable-requires
unreachable-requires c =
    let none = ap length (sym (c.skip.ensures ∙ ap (drop c.args.index) c.new-cutter.ensures) ∙ c.in-None.ensures.last) in
    let sized = length-drop c.args.index (segments c.args.link c.args.mtu c.args.frame.now) in
    absurd (omega (arith, none, sized, c.requires.index))

pub returns-clause-octets : goal.returns-clause-octets
returns-clause-octets c =
    at_drop (segments c.args.link c.args.mtu c.args.frame.now) c.args.index _ _ (sym (c.skip.ensures ∙ ap (drop c.args.index) c.new-cutter.ensures) ∙ c.in-Some.ensures.next)
